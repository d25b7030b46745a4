-- A refusal as JSON: its name, and its fields under their names, keys in byte order.
use Rattle.std.specs.Prelude.{ℕ, List, codes}
use Rattle.serde_json.specs.Data.{Data, number, unsigned, string, object, Members, no_members, member, put}
use Rattle.sb_machine.specs.declared.reply.PartRefusal.{PartRefusal}
use Rattle.sb_machine.specs.declared.reply.PartRefusal.TheVariants as why
use Rattle.sb_machine.specs.declared.reply.Refusal.{Refusal}
use Rattle.sb_machine.specs.declared.reply.Refusal.TheVariants.{BadCall, EntityNotFound, EntityExists, BadName, BadDescription, BadFilter, WrongKind, TooLarge, QuotaExceeded, SessionRequired, SessionNotAllowed, SessionHeld, SessionLost, LockLost, NotDeferred, NotScheduled, TxnNotFound, TxnPending, TxnScope, TxnFull, StaleNumber, NumberReused, ClientsFull, ClientNotFound, TxnsFull, Exhausted, InPart, DiskFault, Stopped, OutOfMemory}

-- the name, and these members behind it
abbrev pub refused_before : List ℕ → Members → Members
refused_before name rest = member (codes "refused") (string name) rest

-- a refusal's name alone
abbrev pub refused : List ℕ → Members
refused name = refused_before name no_members

-- a refusal without fields
abbrev pub plain : List ℕ → Data
plain name = object (refused name)

-- a number before other members
abbrev pub with_number : List ℕ → ℕ → Members → Members
with_number key n rest = member key (number (unsigned n)) rest

-- a text before other members
abbrev pub with_string : List ℕ → List ℕ → Members → Members
with_string key text rest = member key (string text) rest

-- ---- the refusals that one of the operations that act together has, too

-- the members of each
abbrev pub part_members : PartRefusal → Members
part_members (why.BadCall key) = with_string (codes "key") key (refused (codes "BadCall"))
part_members why.EntityNotFound = refused (codes "EntityNotFound")
part_members why.BadName = refused (codes "BadName")
part_members why.WrongKind = refused (codes "WrongKind")
part_members (why.TooLarge size) = refused_before (codes "TooLarge") (with_number (codes "size") size no_members)
part_members why.SessionRequired = refused (codes "SessionRequired")
part_members why.SessionNotAllowed = refused (codes "SessionNotAllowed")
part_members why.SessionLost = refused (codes "SessionLost")
part_members why.LockLost = refused (codes "LockLost")
part_members (why.TxnPending txn) = refused_before (codes "TxnPending") (with_number (codes "txn") txn no_members)
part_members why.TxnScope = refused (codes "TxnScope")
part_members why.TxnFull = refused (codes "TxnFull")

-- of a call
abbrev pub of_call : PartRefusal → Data
of_call reason = object (part_members reason)

-- of the operation at this place, from 0: one member more
abbrev pub of_part : ℕ → PartRefusal → Data
of_part part reason = object (put (codes "part") (number (unsigned part)) (part_members reason))

-- ---- all

-- each refusal, with its fields
abbrev pub refusal_data : Refusal → Data
refusal_data (BadCall key) = of_call (why.BadCall key)
refusal_data EntityNotFound = of_call why.EntityNotFound
refusal_data EntityExists = plain (codes "EntityExists")
refusal_data BadName = of_call why.BadName
refusal_data (BadDescription field) = object (with_string (codes "field") field (refused (codes "BadDescription")))
refusal_data (BadFilter place) = object (with_number (codes "at") place (refused (codes "BadFilter")))
refusal_data WrongKind = of_call why.WrongKind
refusal_data (TooLarge size) = of_call (why.TooLarge size)
refusal_data (QuotaExceeded copies adds) = object (with_number (codes "adds") adds (with_number (codes "copies") copies (refused (codes "QuotaExceeded"))))
refusal_data SessionRequired = of_call why.SessionRequired
refusal_data SessionNotAllowed = of_call why.SessionNotAllowed
refusal_data (SessionHeld until) = object (refused_before (codes "SessionHeld") (with_number (codes "until") until no_members))
refusal_data SessionLost = of_call why.SessionLost
refusal_data LockLost = of_call why.LockLost
refusal_data NotDeferred = plain (codes "NotDeferred")
refusal_data NotScheduled = plain (codes "NotScheduled")
refusal_data TxnNotFound = plain (codes "TxnNotFound")
refusal_data (TxnPending txn) = of_call (why.TxnPending txn)
refusal_data TxnScope = of_call why.TxnScope
refusal_data TxnFull = of_call why.TxnFull
refusal_data (StaleNumber kept) = object (with_number (codes "kept") kept (refused (codes "StaleNumber")))
refusal_data NumberReused = plain (codes "NumberReused")
refusal_data ClientsFull = plain (codes "ClientsFull")
refusal_data ClientNotFound = plain (codes "ClientNotFound")
refusal_data TxnsFull = plain (codes "TxnsFull")
refusal_data Exhausted = plain (codes "Exhausted")
refusal_data (InPart part reason) = of_part part reason
refusal_data DiskFault = plain (codes "DiskFault")
refusal_data (Stopped faults) = object (with_number (codes "faults") faults (refused (codes "Stopped")))
refusal_data OutOfMemory = plain (codes "OutOfMemory")
