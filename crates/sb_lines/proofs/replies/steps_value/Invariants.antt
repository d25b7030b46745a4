use Rattle.std.proofs.Common.{◌≡◌, map, take}
use Rattle.serde_json.specs.View.{view}
use Rattle.sb_lines.specs.Replies.{step_data}
use Rattle.sb_lines.proofs.replies.steps_value.Given as goal

abbrev pub invariant-loop-step : goal.invariant-loop-step
invariant-loop-step l = map view l.items.items ≡ map step_data (take l.step-index l.steps)
