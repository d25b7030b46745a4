use Rattle.std.proofs.Common.{◌≡◌, drop}
use Rattle.sb_machine.specs.Same.{same_list, same_step}
use Rattle.sb_repeats.proofs.same_step.are_same_in.Given as goal

-- those so far are the same
abbrev pub invariant-loop-place : goal.invariant-loop-place
invariant-loop-place l = same_list same_step (drop l.place l.a) (drop l.place l.b) ≡ same_list same_step l.a l.b
