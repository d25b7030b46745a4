-- Messages as rows in an index by the lock under which they are held.
use Rattle.std.specs.Prelude.{ℕ, false, List, Option, Some, None}
use Rattle.sb_index.specs.declared.row.Row.{Row}
use Rattle.sb_machine.specs.declared.state.Standing.{Standing}
use Rattle.sb_machine.specs.declared.state.Standing.TheVariants.{Held}
use Rattle.sb_machine.specs.declared.state.StoredCopy.{StoredCopy}
use Rattle.sb_copies.specs.Grouped.{HoldsGroups, rows_taken}

-- the lock under which a message that stands so is held
abbrev pub lock_of : Standing → Option ℕ
lock_of (Held lock hold deferred) = Some lock
lock_of _ = None

-- the lock under which a message is held
abbrev pub held_lock : StoredCopy → Option ℕ
held_lock c = lock_of c.standing

-- how many slots for held messages one takes that stands so
abbrev pub locks_taken : Standing → ℕ
locks_taken standing = rows_taken (lock_of standing)

-- under each lock stand the rows of the messages that are held under it, in their order
abbrev pub HoldsLocks : List Row → List StoredCopy → Type 0
HoldsLocks rows copies = HoldsGroups held_lock (λ c. false) rows copies
