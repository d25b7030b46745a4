-- Messages as rows in an index by the session's lock under which they are held.
use Rattle.std.specs.Prelude.{ℕ, nat_le, false, if◌then◌else◌, List, [], Option, Some, None}
use Rattle.std.specs.Option.{option_map_or}
use Rattle.sb_index.specs.declared.row.Row.{Row}
use Rattle.sb_machine.specs.declared.state.Hold.{Hold}
use Rattle.sb_machine.specs.declared.state.Hold.TheVariants.{Until, Session as UnderSession}
use Rattle.sb_machine.specs.declared.state.Session.{Session}
use Rattle.sb_machine.specs.declared.state.Standing.{Standing}
use Rattle.sb_machine.specs.declared.state.Standing.TheVariants.{Held}
use Rattle.sb_machine.specs.declared.state.StoredCopy.{StoredCopy}
use Rattle.sb_copies.specs.Grouped.{HoldsGroups, numbers_under}

-- the session's lock as long as which a hold lasts
abbrev pub hold_session : Hold → Option ℕ
hold_session (Until u) = None
hold_session (UnderSession l) = Some l

-- the session's lock under which a message that stands so is held
abbrev pub session_lock_of : Standing → Option ℕ
session_lock_of (Held lock hold deferred) = hold_session hold
session_lock_of _ = None

-- the session's lock under which a message is held
abbrev pub under_lock : StoredCopy → Option ℕ
under_lock c = session_lock_of c.standing

-- under each session's lock stand the rows of the messages that are held under it, in their order
abbrev pub HoldsUnder : List Row → List StoredCopy → Type 0
HoldsUnder rows copies = HoldsGroups under_lock (λ c. false) rows copies

-- ---- locks that have ended

-- the lock of a session's holder, where it has ended
abbrev pub ended_lock : ℕ → Session → Option ℕ
ended_lock t x = elim x.holder [ Some h ↦ if nat_le h.until t then Some h.lock else None | None ↦ None ]

-- the numbers of the messages under a session's lock, where that has ended
abbrev pub numbers_ended : ℕ → List Row → Session → List ℕ
numbers_ended t rows x = option_map_or (λ l. numbers_under l rows) (ended_lock t x) []
