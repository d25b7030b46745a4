use Rattle.std.proofs.Common.{◌≡◌, drop}
use Rattle.sb_machine.specs.Messages as messages
use Rattle.sb_names.proofs.sizes.large_one.Given as goal

abbrev pub invariant-loop-message : goal.invariant-loop-message
invariant-loop-message l = messages.large_one (drop l.message-index l.sent) ≡ messages.large_one l.sent
