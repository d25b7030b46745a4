use Rattle.std.proofs.Common.{rules, ◌≡◌, ◌∷◌, ◌++◌, [], ap, sym, ◌∙◌, subst, refl, Some, None}
use Rattle.atomic_table.specs.Table.{rest}
use Rattle.sb_desk.specs.declared.view.View.{View}
use Rattle.sb_desk.specs.declared.view.Stage.TheVariants.{Out}
use Rattle.sb_desk.specs.Groups.{IsTaken, posts_in, IsArranged}
use Rattle.sb_desk.specs.Posts.{post_entries}
use Rattle.sb_desk.specs.Rule.{ticket_of, log_of, posts_of}
use Rattle.sb_desk.specs.Steps.{carried_posts}
use Rattle.sb_desk.proofs.Turning.{collects, gives_back}
use Rattle.sb_desk.proofs.turns.give_rest.Goals as goal

pub fetch_add-requires : goal.fetch_add-requires
fetch_add-requires g c =
    let now = c.exchange-old.ensures.3 in
    let same : c.exchange-old.new.seat.me.0 ≡ c.args.place.now.me.0 = ap (λ m. m.0) now in
    let carried : c.exchange-old.new.seat.me.1 ≡ (0, Some c.args.held) ∷ [] = ap (λ m. m.1) now ∙ ap (λ cs. (0, Some c.args.held) ∷ rest cs) c.requires.out.1 in
    let p = c.requires.post.1 in (
      search rules,
      search rules,
      collects (λ x. g.V.Served.stands x.value) (λ x. g.V.Served.origin x.value) posts_in IsArranged _ _ _ _ _ _ c.args.held p c.requires.post.0
          (subst (λ (v : View). v.stage ≡ Out (ticket_of v.stage) (log_of v.stage) (posts_of v.stage)) (sym same) c.requires.out.0)
          carried
          (ap (λ v. v.post) same ∙ c.requires.post.2)
          (subst (λ (v : View). IsTaken v.seat (posts_of v.stage) p (posts_in c.args.held)) (sym same) c.requires.post.3),
    )

pub load-requires : goal.load-requires
load-requires g c =
    let now = c.exchange-old.ensures.3 in
    let old = c.args.place.now.me.0 in
    let items = posts_in c.args.held in
    let same : c.exchange-old.new.seat.me.0 ≡ old = ap (λ m. m.0) now in
    let carried : c.exchange-old.new.seat.me.1 ≡ (0, Some c.args.held) ∷ [] = ap (λ m. m.1) now ∙ ap (λ cs. (0, Some c.args.held) ∷ rest cs) c.requires.out.1 in
    let step = c.fetch_add.ensures.2 in
    let own = step.1 ++ post_entries step.0 in
    let view : c.fetch_add.new.seat.me.0 ≡ record old { seen = old.seen ++ own; post = None; stage = Out (ticket_of old.stage) (log_of old.stage) items } =
    ap (λ m. m.0) step.6 ∙ (ap (λ (v : View). record v { seen = v.seen ++ own; post = None; stage = Out (ticket_of v.stage) (log_of v.stage) (carried_posts posts_in c.exchange-old.new.seat.me.1) }) same
    ∙ ap (λ cs. record old { seen = old.seen ++ own; post = None; stage = Out (ticket_of old.stage) (log_of old.stage) (carried_posts posts_in cs) }) carried) in (
      search rules,
      search rules,
      gives_back (λ x. g.V.Served.stands x.value) (λ x. g.V.Served.origin x.value) posts_in IsArranged _ _ _ _ _ _ c.args.held (search rules)
          (subst (λ (v : View). v.stage ≡ Out (ticket_of v.stage) (log_of v.stage) (posts_of v.stage)) (sym view) refl)
          (ap (λ m. m.1) step.6 ∙ carried)
          (subst (λ (v : View). g.V.Served.stands c.args.held.value v.start (log_of v.stage)) (sym view) c.requires.value.0)
          (c.requires.value.1 ∙ ap (λ v. v.origin) (sym view))
          (ap (λ v. posts_of v.stage) (sym view))
          (subst (λ (v : View). IsArranged v.passes c.args.held) (sym view) c.requires.value.2),
    )
