use Rattle.std.proofs.Common.{rules, ◌≡◌, sym, ◌∙◌, subst, Some}
use mathlib.Core.Option.{some-injective}
use Rattle.sb_desk.specs.Groups.{posts_in, IsArranged}
use Rattle.sb_desk.proofs.Seating.{closed}
use Rattle.sb_desk.proofs.closing.finish.Goals as goal

pub unwrap-value-requires : goal.unwrap-value-requires
unwrap-value-requires g c =
    let k = closed (λ x. g.V.Served.stands x.value) (λ x. g.V.Served.origin x.value) posts_in IsArranged _ _ _ _ _ _ _ c.close_with-closed.ensures.values.2 c.requires.whole.0 c.requires.whole.1 c.requires.whole.2 in
    let same : c.take-slot.result ≡ Some k.0 = some-injective _ _ (sym c.take-slot.ensures.value ∙ k.1) in
    search rules

pub returns : goal.returns
returns g c =
    let k = closed (λ x. g.V.Served.stands x.value) (λ x. g.V.Served.origin x.value) posts_in IsArranged _ _ _ _ _ _ _ c.close_with-closed.ensures.values.2 c.requires.whole.0 c.requires.whole.1 c.requires.whole.2 in
    let same : c.take-slot.result ≡ Some k.0 = some-injective _ _ (sym c.take-slot.ensures.value ∙ k.1) in
    let x : k.0.value ≡ c.unwrap-value.result.value = search rules in
    let log = k.2 in
    (log.0, subst (λ y. g.V.Served.stands y (g.V.Served.state c.args.table.shared.key.value.value) log.0) x log.1, subst (λ y. g.V.Served.origin y ≡ g.V.Served.origin c.args.table.shared.key.value.value) x log.2, log.3, log.4, log.5)
