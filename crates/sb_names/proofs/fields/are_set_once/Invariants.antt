use Rattle.std.proofs.Common.{◌≡◌, length}
use Rattle.sb_machine.specs.Fields.{are_set_once}
use Rattle.sb_names.proofs.fields.are_set_once.Given as goal

-- no session so far is set again
abbrev pub invariant-steps : goal.invariant-steps
invariant-steps l = are_set_once l.left ≡ are_set_once l.fn.steps

abbrev pub decreases-steps : goal.decreases-steps
decreases-steps l = length l.left
