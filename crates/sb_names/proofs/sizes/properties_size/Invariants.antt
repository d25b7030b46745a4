use Rattle.std.proofs.Common.{◌≡◌, ◌+◌, drop}
use Rattle.std.specs.List.{sum_by}
use Rattle.sb_model.specs.Effects.{property_size}
use Rattle.sb_names.proofs.sizes.properties_size.Given as goal

abbrev pub invariant-props : goal.invariant-props
invariant-props l = l.size + sum_by property_size (drop l.property-index l.props) ≡ sum_by property_size l.props
