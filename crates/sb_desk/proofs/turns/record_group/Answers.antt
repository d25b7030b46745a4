use Rattle.std.proofs.Common.{rules, ◌≡◌, ◌∷◌, ◌++◌, [], ap, sym, ◌∙◌, subst, Some}
use Rattle.atomic_table.specs.Table.{rest}
use Rattle.sb_desk.specs.declared.view.View.{View}
use Rattle.sb_desk.specs.declared.view.Stage.TheVariants.{Out}
use Rattle.sb_desk.specs.Groups.{AreCarriedOut, posts_in, IsArranged}
use Rattle.sb_desk.specs.Lists.{HaveSeatsBelow}
use Rattle.sb_desk.specs.Rule.{ticket_of, log_of, posts_of}
use Rattle.sb_desk.proofs.Turning.{records}
use Rattle.sb_desk.proofs.turns.record_group.Goals as goal

pub fetch_add-requires : goal.fetch_add-requires
fetch_add-requires g c =
    let now = c.exchange-old.ensures.3 in
    let same : c.exchange-old.new.seat.me.0 ≡ c.args.place.now.me.0 = ap (λ m. m.0) now in
    let carried : c.exchange-old.new.seat.me.1 ≡ (0, Some c.args.held) ∷ [] = ap (λ m. m.1) now ∙ ap (λ cs. (0, Some c.args.held) ∷ rest cs) c.requires.out.1 in
    let made = c.requires.group.0 in (
      search rules,
      search rules,
      records (λ x. g.V.Served.stands x.value) (λ x. g.V.Served.origin x.value) posts_in IsArranged _ _ _ _ _ _ _ c.args.held made
          (subst (λ (v : View). v.stage ≡ Out (ticket_of v.stage) (log_of v.stage) (posts_of v.stage)) (sym same) c.requires.out.0)
          carried
          c.requires.group.1
          (subst (λ (v : View). AreCarriedOut (posts_of v.stage) (posts_in c.args.held) made) (sym same) c.requires.group.2)
          (subst (λ (v : View). HaveSeatsBelow v.passes made) (sym same) c.requires.group.3)
          (subst (λ (v : View). g.V.Served.stands c.args.held.value v.start (log_of v.stage ++ made)) (sym same) c.requires.group.4),
    )

pub exchange-requires : goal.exchange-requires
exchange-requires g c =
    let now = c.exchange-old.ensures.3 in
    let carried : c.exchange-old.new.seat.me.1 ≡ (0, Some c.args.held) ∷ [] = ap (λ m. m.1) now ∙ ap (λ cs. (0, Some c.args.held) ∷ rest cs) c.requires.out.1 in
    let after : c.fetch_add.new.seat.me.1 ≡ (0, Some c.args.held) ∷ [] = ap (λ m. m.1) c.fetch_add.ensures.2.1 ∙ carried in
    (search rules, (Some c.args.held, after ∙ ap (λ cs. (0, Some c.args.held) ∷ rest cs) (sym after)))
