use Rattle.std.proofs.Common.{arith, not, bytes_eq, ap, length, refl}
use Rattle.std.proofs.lemmas.List.Filters.{length-filter_both}
use Rattle.sb_machine.specs.declared.rule.Rule.{Rule}
use Rattle.sb_machine.specs.declared.state.Listed.{Listed}
use Rattle.sb_entities.proofs.Roomy.{roomy_lower}
use Rattle.sb_entities.proofs.listing.Listing.drop_rule.Goals as goal

pub invariant_of-self : goal.invariant_of-self
invariant_of-self c =
    let same = ap (λ (about : Listed). length about.rules) c.drop_rule.ensures in
    let few = length-filter_both (λ (x : Rule). bytes_eq x.name c.as_str.result.now) (λ x. not (bytes_eq x.name c.as_str.result.now)) (λ x. refl) c.self.inside.about.rules in
    roomy_lower (length c.drop_rule.new.about.rules) (length c.self.inside.about.rules) c.self.inside.lists.items (omega (arith, same, few)) c.self.invariant
