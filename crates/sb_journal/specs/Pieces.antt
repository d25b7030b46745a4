-- What is seen of a disk's bytes where a piece of them is in memory.
use Rattle.std.specs.Prelude.{◌≡◌, ◌⊎◌, ◌≤◌, ◌+◌, ◌-◌, ℕ, List, [], ◌++◌, length, take, drop}
use Rattle.sb_journal.specs.declared.piece.Piece.{Piece}
use Rattle.sb_journal.specs.Text.{max_payload}

-- The bytes begin with this part, which is all of them or has as many as the longest record with its gate.
pub record BeginsWith (part bytes : List ℕ) : Type 0 where
  pub tail : List ℕ
  pub is : bytes ≡ part ++ tail
  pub enough : (max_payload + 13 ≤ length part) ⊎ (tail ≡ [])

-- A piece of these bytes, up to their end or as long as the longest record with its gate.
pub record IsPiece (p : Piece) (bytes : List ℕ) : Type 0 where
  pub total_is : p.total ≡ length bytes
  pub is : p.bytes.items ≡ take (length p.bytes.items) (drop p.from bytes)
  pub long : (max_payload + 13 ≤ length p.bytes.items) ⊎ (p.from + length p.bytes.items ≡ length bytes)

-- this place is in it, or is its end
pub record HasPlace (p : Piece) (place : ℕ) : Type 0 where
  pub least : p.from ≤ place
  pub greatest : place ≤ p.from + length p.bytes.items

-- what is seen from this place on
abbrev pub seen_from : ℕ → Piece → List ℕ
seen_from place p = drop (place - p.from) p.bytes.items
