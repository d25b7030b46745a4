use Rattle.std.proofs.Common.{◌≡◌, drop, nat_le}
use Rattle.std.specs.List.{sum_by}
use Rattle.sb_machine.specs.Queueing.{max_operations}
use Rattle.sb_machine.specs.Together.{step_weight}
use Rattle.sb_names.proofs.steps.are_few.Given as goal

-- what is left has room for the rest where all have
abbrev pub invariant-steps : goal.invariant-steps
invariant-steps l = nat_le (sum_by step_weight (drop l.step-index l.steps)) l.left ≡ nat_le (sum_by step_weight l.steps) max_operations
