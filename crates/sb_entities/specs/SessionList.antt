-- The ids of a part's sessions, in order, and what is shown of the session of one.
use Rattle.std.specs.Prelude.{◌≡◌, ℕ, Bool, false, List, filter, length, map, take, is_some, if◌then◌else◌, Option, Some, None}
use Rattle.std.specs.List.{fold}
use Rattle.std.specs.Option.{option_map}
use Rattle.sb_machine.specs.Each.{Pairs}
use Rattle.sb_machine.specs.Keyed.{with_sorted}
use Rattle.sb_machine.specs.Leaves.{session_in}
use Rattle.sb_machine.specs.Looks.{is_behind, is_only_sign, is_ready_of, only_signs}
use Rattle.sb_machine.specs.Messages.{text_of}
use Rattle.sb_machine.specs.Names.{is_before}
use Rattle.sb_machine.specs.Sessions.{size_of}
use Rattle.sb_machine.specs.declared.look.SessionShown.{SessionShown}
use Rattle.sb_machine.specs.declared.state.Leaf.{Leaf}
use Rattle.sb_machine.specs.declared.state.Session.{Session}
use Rattle.sb_machine.specs.declared.state.StoredCopy.{StoredCopy}
use Rattle.sb_model.specs.declared.message.SystemName.TheVariants.{SessionId}

-- whether a part remembers the session of this id: it has a holder or a state
abbrev pub is_remembered : List ℕ → Leaf → Bool
is_remembered id leaf = is_some (session_in id leaf)

-- all messages that are each the only sign of a session are among these, in their order
abbrev pub HasSigns : Leaf → List StoredCopy → Type 0
HasSigns leaf copies = filter (is_only_sign leaf) copies ≡ only_signs leaf

-- ---- what is shown

-- up to when it is held, where it is
abbrev pub until_of : Option Session → Option ℕ
until_of None = None
until_of (Some x) = option_map (λ h. h.until) x.holder

-- the bytes of its state
abbrev pub bytes_of : Option Session → ℕ
bytes_of None = 0
bytes_of (Some x) = size_of x.state

-- the session of this id
abbrev pub shown_of : Leaf → List ℕ → SessionShown
shown_of leaf id = record {
  id = id;
  until = until_of (session_in id leaf);
  state_bytes = bytes_of (session_in id leaf);
  ready = length (filter (is_ready_of id) leaf.copies);
}

-- ---- in order

-- none stands behind a later one
abbrev pub AreById : List (List ℕ) → Type 0
AreById ids = Pairs (λ a b. is_before b a ≡ false) ids

-- one more, in order
abbrev pub with_id : List (List ℕ) → List ℕ → List (List ℕ)
with_id ids id = with_sorted (λ y. is_before y id) id ids

-- the first so many of these and this one, where it is behind that one
abbrev pub behind_with : Option (List ℕ) → ℕ → List (List ℕ) → List ℕ → List (List ℕ)
behind_with after count ids id = if is_behind after id then take count (with_id ids id) else ids

-- the same of the session of a message, if it is of one
abbrev pub sign_with : Option (List ℕ) → ℕ → List (List ℕ) → StoredCopy → List (List ℕ)
sign_with after count ids c = elim (text_of SessionId c.message) [ Some id ↦ behind_with after count ids id | None ↦ ids ]

-- the first ids of remembered sessions behind that one
abbrev pub first_remembered : Option (List ℕ) → ℕ → List Session → List (List ℕ)
first_remembered after count sessions = take count (filter (is_behind after) (map (λ x. x.id) sessions))

-- the first ids of all sessions behind that one
abbrev pub first_ids : Option (List ℕ) → ℕ → Leaf → List (List ℕ)
first_ids after count leaf = fold (sign_with after count) (first_remembered after count leaf.sessions) (only_signs leaf)
