use Rattle.std.proofs.Common.{◌≡◌, ◌++◌, drop}
use Rattle.sb_machine.specs.Together.{step_replies}
use Rattle.sb_engine.proofs.acts.together.replies_to.Given as goal

abbrev pub invariant-loop-step : goal.invariant-loop-step
invariant-loop-step l = l.replies ++ step_replies (drop l.step-index l.steps) l.left.items ≡ step_replies l.steps l.fn.receipts.items
