use Rattle.std.proofs.Common.{◌≡◌, drop}
use Rattle.sb_machine.specs.Fields.{bad_in_texts}
use Rattle.sb_names.proofs.fields.bad_in_texts.Given as goal

-- no text so far is at fault
abbrev pub invariant-loop-own : goal.invariant-loop-own
invariant-loop-own l = bad_in_texts (drop l.own-index l.sys) ≡ bad_in_texts l.sys
