-- Heads of sessions in a part: of each session that nobody holds the first message that may be received.
use Rattle.std.specs.Prelude.{◌≡◌, ℕ, ◌==◌, ◌&&◌, ◌||◌, Bool, true, List, find, if◌then◌else◌, Option, Some, None, is_none}
use Rattle.std.specs.Option.{option_and_then, option_map, option_map_or}
use Rattle.sb_machine.specs.Leases.{is_ready}
use Rattle.sb_machine.specs.Leaves.{has_id, has_number, is_held_under}
use Rattle.sb_machine.specs.Messages.{has_text_of, text_of}
use Rattle.sb_machine.specs.declared.state.Session.{Session}
use Rattle.sb_machine.specs.declared.state.StoredCopy.{StoredCopy}
use Rattle.sb_model.specs.declared.message.SystemName.TheVariants.{SessionId}
use Rattle.sb_copies.specs.Heads.{except, is_among, is_of_session, is_usual}

-- whether nobody holds the session of this id
abbrev pub is_free : List ℕ → List Session → Bool
is_free id sessions = option_map_or (λ x. is_none x.holder) (find (has_id id) sessions) true

-- whether a message may be received, and is of the session of this id
abbrev pub is_ready_of : List ℕ → StoredCopy → Bool
is_ready_of id c = is_ready c.standing && has_text_of SessionId id c.message

-- the number of the first message of the session of this id that may be received
abbrev pub first_of : List ℕ → List StoredCopy → Option ℕ
first_of id copies = option_map (λ c. c.number) (find (is_ready_of id) copies)

-- that number, where nobody holds the session
abbrev pub head_of : List ℕ → List StoredCopy → List Session → Option ℕ
head_of id copies sessions = if is_free id sessions then first_of id copies else None

-- the id of the session that a message is of
abbrev pub session_of : StoredCopy → Option (List ℕ)
session_of c = text_of SessionId c.message

-- that of the message of this number
abbrev pub session_at : ℕ → List StoredCopy → Option (List ℕ)
session_at n copies = option_and_then session_of (find (has_number n) copies)

-- the id of the session that is held under this lock
abbrev pub held_id : ℕ → List Session → Option (List ℕ)
held_id lock sessions = option_map (λ x. x.id) (find (is_held_under lock) sessions)

-- the head of the session that the message of this number is of
abbrev pub head_at : ℕ → List StoredCopy → List Session → Option ℕ
head_at n copies sessions = option_and_then (λ id. head_of id copies sessions) (session_at n copies)

-- these are the numbers of the heads
pub record HoldsHeads (heads : List ℕ) (copies : List StoredCopy) (sessions : List Session) : Type 0 where
  pub told : (id : List ℕ) (n : ℕ) → head_of id copies sessions ≡ Some n → is_among n heads ≡ true
  pub only : (n : ℕ) → is_among n heads ≡ true → head_at n copies sessions ≡ Some n

-- ---- changes

-- numbers without this one, if there is one
abbrev pub left_of : Option ℕ → List ℕ → List ℕ
left_of None heads = heads
left_of (Some n) heads = except n heads

-- numbers and this one, if there is one and a message has it that is of a session
abbrev pub IsTold : Option ℕ → List StoredCopy → List ℕ → List ℕ → Type 0
IsTold None copies heads new = new ≡ heads
IsTold (Some k) copies heads new = (n : ℕ) → is_among n new ≡ ((n == k && (is_usual k && is_of_session k copies)) || is_among n heads)
