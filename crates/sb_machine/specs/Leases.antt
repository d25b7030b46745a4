-- Locks: who holds a message or a session, and which lock lives.
use Rattle.std.specs.Prelude.{ℕ, ◌==◌, ◌&&◌, ◌||◌, nat_lt, nat_le, Bool, true, false, List, bytes_eq, find, if◌then◌else◌, Option, Some, None}
use Rattle.std.specs.List.{list_any}
use Rattle.std.specs.Fmt.{decimal}
use Rattle.sb_machine.specs.Messages.{has_text_of}
use Rattle.sb_machine.specs.declared.call.Token.{Token}
use Rattle.sb_machine.specs.declared.call.Which.{Which}
use Rattle.sb_machine.specs.declared.call.Which.TheVariants.{Number, Id}
use Rattle.sb_model.specs.declared.message.SystemName.TheVariants.{MessageId}
use Rattle.sb_machine.specs.declared.state.Hold.{Hold}
use Rattle.sb_machine.specs.declared.state.Hold.TheVariants.{Until, Session as UnderSession}
use Rattle.sb_machine.specs.declared.state.Leaf.{Leaf}
use Rattle.sb_machine.specs.declared.state.Session.{Session}
use Rattle.sb_machine.specs.declared.state.Space.{Space}
use Rattle.sb_machine.specs.declared.state.Standing.{Standing}
use Rattle.sb_machine.specs.declared.state.Standing.TheVariants.{Ready, Deferred, Held, Scheduled}
use Rattle.sb_machine.specs.declared.state.StoredCopy.{StoredCopy}

-- whether a message stands ready to be received
abbrev pub is_ready : Standing → Bool
is_ready Ready = true
is_ready Deferred = false
is_ready (Held lock hold deferred) = false
is_ready (Scheduled at) = false

-- whether a message waits for its moment
abbrev pub is_scheduled : Standing → Bool
is_scheduled Ready = false
is_scheduled Deferred = false
is_scheduled (Held lock hold deferred) = false
is_scheduled (Scheduled at) = true

-- under a lock that was put on it while it was deferred
abbrev pub was_deferred : Standing → Bool
was_deferred Ready = false
was_deferred Deferred = false
was_deferred (Held lock hold deferred) = deferred
was_deferred (Scheduled at) = false

-- ---- sessions

-- the session's lock has this number, and lives
abbrev pub is_living_holder : ℕ → ℕ → Session → Bool
is_living_holder t lock x = elim x.holder [ Some h ↦ (h.lock == lock) && nat_lt t h.until | None ↦ false ]

-- it has this number, and has ended
abbrev pub is_ended_holder : ℕ → ℕ → Session → Bool
is_ended_holder t lock x = elim x.holder [ Some h ↦ (h.lock == lock) && nat_le h.until t | None ↦ false ]

-- the session of a part whose living holder a token is
abbrev pub held_session : Space → ℕ → Token → Leaf → Option Session
held_session s t token leaf = if token.salt == s.salt then find (is_living_holder t token.lock) leaf.sessions else None

-- ---- copies

-- the hold lives at a moment, beside these sessions
abbrev pub lasts : ℕ → List Session → Hold → Bool
lasts t sessions (Until u) = nat_lt t u
lasts t sessions (UnderSession l) = list_any (is_living_holder t l) sessions

-- the hold has ended
abbrev pub is_over : ℕ → List Session → Hold → Bool
is_over t sessions (Until u) = nat_le u t
is_over t sessions (UnderSession l) = list_any (is_ended_holder t l) sessions

-- under the lock of this number, which lives
abbrev pub is_living : ℕ → List Session → ℕ → Standing → Bool
is_living t sessions l (Held lock hold deferred) = (lock == l) && lasts t sessions hold
is_living t sessions l Ready = false
is_living t sessions l Deferred = false
is_living t sessions l (Scheduled at) = false

-- under a lock that has ended
abbrev pub has_ended : ℕ → List Session → Standing → Bool
has_ended t sessions (Held lock hold deferred) = is_over t sessions hold
has_ended t sessions Ready = false
has_ended t sessions Deferred = false
has_ended t sessions (Scheduled at) = false

-- scheduled for a moment that has come
abbrev pub has_come : ℕ → Standing → Bool
has_come t (Scheduled at) = nat_le at t
has_come t Ready = false
has_come t Deferred = false
has_come t (Held lock hold deferred) = false

-- held as long as the session's lock of this number
abbrev pub is_under_session : ℕ → Standing → Bool
is_under_session l (Held lock (UnderSession holder) deferred) = holder == l
is_under_session l (Held lock (Until u) deferred) = false
is_under_session l Ready = false
is_under_session l Deferred = false
is_under_session l (Scheduled at) = false

-- named by its number, or by a text that is its MessageId or prints its number
abbrev pub is_named : Which → StoredCopy → Bool
is_named (Number n) c = c.number == n
is_named (Id id) c = has_text_of MessageId id c.message || bytes_eq (decimal c.number) id

-- The copy of a part that is so named and has the token's living lock.
abbrev pub leased : Space → ℕ → Token → Which → Leaf → Option StoredCopy
leased s t token which leaf =
    if token.salt == s.salt
    then find (λ c. is_living t leaf.sessions token.lock c.standing && is_named which c) leaf.copies
    else None

-- ---- whether a lock lives, whatever it holds

-- whether a lock lives in one part at t, on a message or of a session's holder
abbrev pub lives_in_leaf : ℕ → ℕ → Leaf → Bool
lives_in_leaf t lock leaf = list_any (λ c. is_living t leaf.sessions lock c.standing) leaf.copies || list_any (is_living_holder t lock) leaf.sessions

-- whether a lock lives anywhere at t
abbrev pub lives : ℕ → ℕ → Space → Bool
lives t lock s = list_any (λ e. lives_in_leaf t lock e.main || lives_in_leaf t lock e.dead || lives_in_leaf t lock e.transfer) s.entities
