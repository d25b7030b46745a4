use Rattle.std.proofs.Common.{rules, ◌≡◌, List, [], ◌∷◌, refl, sym, subst, Some, Option}
use Rattle.atomic_table.specs.Table.{opening}
use Rattle.sb_desk.specs.declared.view.Held.{Held}
use Rattle.sb_desk.specs.Groups.{posts_in, IsArranged}
use Rattle.sb_desk.specs.Rule.{opening_view, Kept}
use Rattle.sb_desk.proofs.Kept.{kept_none}
use Rattle.sb_desk.proofs.Seating.{opens}
use Rattle.sb_desk.proofs.opening.open_table.Goals as goal

pub new-requires : goal.new-requires
new-requires g c =
    let S = g.V.Served in
    let is : c.of.result.value ≡ c.args.value = c.of.ensures in
    let held : Held g.row.V.Denot = record { value = c.args.value; posts = c.args.posts; answered = 0 } in
    let slots : c.in-Ok.slots.items ≡ Some held ∷ [] = search rules in
    let Opens : g.row.V.Denot × List (Option (Held g.row.V.Denot)) → Type 0 = λ z. Kept (λ x. S.stands x.value) (λ x. S.origin x.value) posts_in IsArranged (S.state z.0) (S.origin z.0) c.args.passes
    (opening (0 ∷ 0 ∷ 0 ∷ []) z.1 (opening_view (S.state z.0) (S.origin z.0) c.args.passes)) in
    subst Opens (λ i. (sym is i, sym slots i))
    (opens (λ x. S.stands x.value) (λ x. S.origin x.value) posts_in IsArranged (S.state c.args.value) (S.origin c.args.value) c.args.passes held c.requires.few.0 c.requires.few.1 c.requires.stands refl c.requires.posts.0 (kept_none c.args.passes c.args.posts.items _ c.requires.posts.0 c.requires.posts.1))

pub only_one-requires : goal.only_one-requires
only_one-requires g c =
    let held : Held g.row.V.Denot = record { value = c.args.value; posts = c.args.posts; answered = 0 } in
    let slots : c.in-Ok.slots.items ≡ Some held ∷ [] = search rules in
    (held, search rules)
