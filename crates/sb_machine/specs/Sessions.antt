-- Accepting a session, and what its holder does with it.
use Rattle.std.specs.Prelude.{ℕ, ◌==◌, nat_lt, nat_le, Bool, false, List, [], ◌∷◌, length, filter, if◌then◌else◌, Option, Some, None}
use Rattle.std.specs.List.{flat_map}
use Rattle.sb_machine.specs.Delivery.{in_part, released}
use Rattle.sb_machine.specs.Leases.{is_ready, is_under_session, held_session}
use Rattle.sb_machine.specs.Leaves.{session_in}
use Rattle.sb_machine.specs.Messages.{text_of}
use Rattle.sb_machine.specs.Names.{is_same_option}
use Rattle.sb_machine.specs.Namespace.{leaf_of, listed}
use Rattle.sb_machine.specs.Receiving.{lock_end, next_token}
use Rattle.sb_machine.specs.Rows.{Row, refuses, answers, asks, at_entity, at_receivable}
use Rattle.sb_machine.specs.declared.call.Part.{Part}
use Rattle.sb_machine.specs.declared.call.Path.{Path}
use Rattle.sb_machine.specs.declared.call.Token.{Token}
use Rattle.sb_machine.specs.declared.change.Change.{Change}
use Rattle.sb_machine.specs.declared.change.LeafChange.TheVariants.{Opens, Closes, Prolongs, Writes}
use Rattle.sb_model.specs.declared.message.SystemName.TheVariants.{SessionId}
use Rattle.sb_machine.specs.declared.reply.Refusal.TheVariants.{SessionNotAllowed, SessionHeld, SessionLost, TooLarge}
use Rattle.sb_machine.specs.declared.reply.Reply.TheVariants.{Done, Empty, Session as Accepted, Renewed, State as Remembers}
use Rattle.sb_machine.specs.declared.state.Entity.{Entity}
use Rattle.sb_machine.specs.declared.state.Holder.{Holder}
use Rattle.sb_machine.specs.declared.state.Leaf.{Leaf}
use Rattle.sb_machine.specs.declared.state.Session.{Session}
use Rattle.sb_machine.specs.declared.state.Space.{Space}
use Rattle.sb_machine.specs.declared.state.StoredCopy.{StoredCopy}
use Rattle.sb_machine.specs.Claims.{has_sessions}

-- ---- accepting

-- the holder of the session of this id, if it has one
abbrev pub holder_in : List ℕ → Leaf → Option Holder
holder_in id leaf = elim (session_in id leaf) [ Some x ↦ x.holder | None ↦ None ]

-- the moment up to which somebody else holds a session
abbrev pub held_until : ℕ → Option Holder → Option ℕ
held_until t None = None
held_until t (Some h) = if nat_lt t h.until then Some h.until else None

-- hands out a session under a new lock
abbrev pub accepted : Space → ℕ → Entity → Part → List ℕ → Row
accepted s t e part id = answers (Accepted id (next_token s) (lock_end e t)) (in_part part e (Opens id (lock_end e t)) ∷ [])

-- the session that was asked for by its id, unless somebody holds it
abbrev pub accepted_named : Space → ℕ → Entity → Part → List ℕ → Option ℕ → Row
accepted_named s t e part id (Some until) = refuses (SessionHeld until)
accepted_named s t e part id None = accepted s t e part id

-- the session of a copy that may be received, where nobody holds it
abbrev pub free_session : Leaf → StoredCopy → Option (List ℕ)
free_session leaf c = if is_ready c.standing then elim (text_of SessionId c.message) [ Some id ↦ elim (holder_in id leaf) [ Some h ↦ None | None ↦ Some id ] | None ↦ None ] else None

-- the one that has the copy of least number
abbrev pub next_session : Leaf → List StoredCopy → Option (List ℕ)
next_session leaf [] = None
next_session leaf (c ∷ cs) = elim (free_session leaf c) [ Some id ↦ Some id | None ↦ next_session leaf cs ]

-- the next session that was found; where there is none, the part is empty
abbrev pub accepted_next : Space → ℕ → Entity → Part → Option (List ℕ) → Row
accepted_next s t e part None = answers Empty []
accepted_next s t e part (Some id) = accepted s t e part id

-- a session by its id, or the next one that may be had
abbrev pub accepting : Space → ℕ → Entity → Part → Option (List ℕ) → Row
accepting s t e part (Some id) = accepted_named s t e part id (held_until t (holder_in id (leaf_of part e)))
accepting s t e part None = accepted_next s t e part (next_session (leaf_of part e) (leaf_of part e).copies)

-- accepting a session
abbrev pub accept_row : Space → ℕ → Path → Option (List ℕ) → Row
accept_row s t from id = at_receivable s from (λ e. asks (has_sessions e from.part) SessionNotAllowed (accepting s t e from.part id))

-- ---- by the holder

-- what is done by the holder of a session with it
abbrev pub held_or : Option Session → (Session → Row) → Row
held_or None next = refuses SessionLost
held_or (Some x) next = next x

-- goes on with the session that this token holds, else refuses
abbrev pub by_holder : Space → ℕ → Path → Token → (Entity → Session → Row) → Row
by_holder s t from token next = at_entity s from (λ e. asks (has_sessions e from.part) SessionNotAllowed (held_or (held_session s t token (leaf_of from.part e)) (next e)))

-- whether the holder's lock ends at just this moment
abbrev pub lives_until : ℕ → Session → Bool
lives_until end x = elim x.holder [ Some h ↦ h.until == end | None ↦ false ]

-- renewing the lock of a session
abbrev pub session_renew_row : Space → ℕ → Path → Token → Row
session_renew_row s t from token = by_holder s t from token (λ e x.
    answers (Renewed (lock_end e t)) (if lives_until (lock_end e t) x then [] else in_part from.part e (Prolongs token.lock (lock_end e t)) ∷ []))

-- its copies are released without a raise
abbrev pub closed : Space → ℕ → Entity → Part → ℕ → List Change
closed s t e part lock = in_part part e (Closes lock) ∷ flat_map (λ c. released (listed s) t e part c false false) (filter (λ c. is_under_session lock c.standing) (leaf_of part e).copies)

-- closing a session
abbrev pub session_close_row : Space → ℕ → Path → Token → Row
session_close_row s t from token = by_holder s t from token (λ e x. answers Done (closed s t e from.part token.lock))

-- reading what a session remembers
abbrev pub session_state_row : Space → ℕ → Path → Token → Row
session_state_row s t from token = by_holder s t from token (λ e x. answers (Remembers x.state) [])

-- ---- what a session remembers

abbrev pub max_state : ℕ
max_state = 262144

-- the bytes of a session's state; none where there is no state
abbrev pub size_of : Option (List ℕ) → ℕ
size_of None = 0
size_of (Some bytes) = length bytes

-- writing what a session remembers
abbrev pub session_set_row : Space → ℕ → Path → Token → Option (List ℕ) → Row
session_set_row s t from token state = by_holder s t from token (λ e x. asks (nat_le (size_of state) max_state) (TooLarge (size_of state))
    (answers Done (if is_same_option x.state state then [] else in_part from.part e (Writes token.lock state) ∷ [])))
