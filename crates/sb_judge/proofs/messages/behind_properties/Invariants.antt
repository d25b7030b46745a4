use Rattle.std.proofs.Common.{◌≡◌, drop, sum_by}
use Rattle.sb_model.specs.Effects.{property_size, max_property_bytes}
use Rattle.sb_judge.specs.Messages.{less, others}
use Rattle.sb_judge.proofs.messages.behind_properties.Given as goal

abbrev pub invariant-loop-property : goal.invariant-loop-property
invariant-loop-property l = less l.left (sum_by property_size (others (drop l.property-index l.props))) ≡ less max_property_bytes (sum_by property_size (others l.props))
