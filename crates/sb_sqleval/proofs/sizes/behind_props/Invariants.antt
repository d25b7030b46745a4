use Rattle.std.proofs.Common.{◌≡◌, ◌+◌, take}
use Rattle.std.specs.List.{sum_by}
use Rattle.sb_model.specs.Effects.{property_size}
use Rattle.sb_sqleval.proofs.sizes.behind_props.Given as goal

abbrev pub invariant-loop-property : goal.invariant-loop-property
invariant-loop-property l = l.left + sum_by property_size (take l.property-index l.props) ≡ l.room
