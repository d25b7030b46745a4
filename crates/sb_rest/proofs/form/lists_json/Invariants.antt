use Rattle.std.proofs.Common.{◌≡◌, length}
use Rattle.sb_rest.specs.Forms.{lists_json}
use Rattle.sb_rest.proofs.form.lists_json.Given as goal

-- none so far
abbrev pub invariant-loop-range : goal.invariant-loop-range
invariant-loop-range l = lists_json l.rest ≡ lists_json l.list

abbrev pub decreases-loop-range : goal.decreases-loop-range
decreases-loop-range l = length l.rest
