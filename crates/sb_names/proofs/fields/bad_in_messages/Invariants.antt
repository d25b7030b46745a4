use Rattle.std.proofs.Common.{◌≡◌, drop}
use Rattle.sb_machine.specs.Fields.{bad_in_messages}
use Rattle.sb_names.proofs.fields.bad_in_messages.Given as goal

-- no message so far is at fault
abbrev pub invariant-loop-message : goal.invariant-loop-message
invariant-loop-message l = bad_in_messages l.is_via (drop l.message-index l.messages) ≡ bad_in_messages l.is_via l.messages
