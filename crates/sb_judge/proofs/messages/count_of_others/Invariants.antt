use Rattle.std.proofs.Common.{◌≡◌, ◌+◌, ◌≤◌, drop, length}
use Rattle.sb_judge.specs.Messages.{others}
use Rattle.sb_judge.proofs.messages.count_of_others.Given as goal

abbrev pub invariant-loop-property : goal.invariant-loop-property
invariant-loop-property l = (l.count + length (others (drop l.property-index l.props)) ≡ length (others l.props)) × (l.count ≤ l.property-index)
