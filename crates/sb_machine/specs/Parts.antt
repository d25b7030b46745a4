-- What is refused of operations that act together: the refusal of one of them, with its place.
use Rattle.std.specs.Prelude.{ℕ, Option, Some, None}
use Rattle.sb_machine.specs.declared.reply.PartRefusal.{PartRefusal}
use Rattle.sb_machine.specs.declared.reply.PartRefusal.TheVariants as why
use Rattle.sb_machine.specs.declared.reply.Refusal.{Refusal}
use Rattle.sb_machine.specs.declared.reply.Refusal.TheVariants.{BadCall, EntityNotFound, BadName, WrongKind, TooLarge, SessionRequired, SessionNotAllowed, SessionLost, LockLost, TxnPending, TxnScope, TxnFull, InPart}

-- The refusal of the operation at this place. Those that no test of an operation of its own gives are of the whole call, and stay as they are.
abbrev pub at_part : ℕ → Refusal → Refusal
at_part i (BadCall key) = InPart i (why.BadCall key)
at_part i EntityNotFound = InPart i why.EntityNotFound
at_part i BadName = InPart i why.BadName
at_part i WrongKind = InPart i why.WrongKind
at_part i (TooLarge size) = InPart i (why.TooLarge size)
at_part i SessionRequired = InPart i why.SessionRequired
at_part i SessionNotAllowed = InPart i why.SessionNotAllowed
at_part i SessionLost = InPart i why.SessionLost
at_part i LockLost = InPart i why.LockLost
at_part i (TxnPending txn) = InPart i (why.TxnPending txn)
at_part i TxnScope = InPart i why.TxnScope
at_part i TxnFull = InPart i why.TxnFull
at_part i r = r

-- the refusal of the operation at this place, if there is one, else of the whole
abbrev pub at_part_or_whole : Option ℕ → Refusal → Refusal
at_part_or_whole None r = r
at_part_or_whole (Some i) r = at_part i r
