use Rattle.std.proofs.Common.{◌≡◌, drop}
use Rattle.sb_machine.specs.Fields.{bad_in_steps}
use Rattle.sb_names.proofs.fields.bad_in_steps.Given as goal

-- no operation so far is at fault
abbrev pub invariant-loop-step : goal.invariant-loop-step
invariant-loop-step l = bad_in_steps (drop l.step-index l.steps) ≡ bad_in_steps l.steps
