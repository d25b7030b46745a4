use Rattle.std.proofs.Common.{◌≡◌, drop, length}
use Rattle.serde_json.specs.View.{items_view}
use Rattle.sb_lines.specs.Lines.{steps_of}
use Rattle.sb_lines.specs.Messages.{before_those}
use Rattle.sb_lines.proofs.steps.steps_of.Given as goal

-- those so far, and behind them those that are left, at their places, are all
abbrev pub invariant-loop-value : goal.invariant-loop-value
invariant-loop-value l = before_those l.list.items (steps_of (length l.list.items) (items_view (drop l.value-index l.values))) ≡ steps_of 0 (items_view l.values)
