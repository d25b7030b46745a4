use Rattle.std.proofs.Common.{◌≡◌, ◌+◌, drop}
use Rattle.std.specs.List.{sum_by}
use Rattle.sb_machine.specs.Together.{step_bytes}
use Rattle.sb_names.proofs.steps.steps_size.Given as goal

abbrev pub invariant-steps : goal.invariant-steps
invariant-steps l = l.size + sum_by step_bytes (drop l.step-index l.steps) ≡ sum_by step_bytes l.steps
