-- How far reading has come: what was taken of a source since its start, and what of it is pending.
use Rattle.std.specs.Prelude.{◌≡◌, ◌≢◌, ◌⊎◌, ℕ, ◌+◌, ◌-◌, ◌*◌, List, [], ◌∷◌, ◌++◌, length, take, drop, Bool, true, false, IsTrue, Option, Some, None}
use Rattle.sb_input.specs.declared.partial_line.PartialLine.{PartialLine}
use Rattle.sb_input.specs.declared.reader.Reader.{Reader}
use Rattle.sb_input.specs.declared.reader.ReadEnd.{ReadEnd}
use Rattle.sb_input.specs.Limits.{max_input}
use Rattle.sb_input.specs.Lines.{NoFeed}
use Rattle.sb_input.specs.PartialLines.{StandsFor}
use Rattle.sb_input.specs.Taking.{Took, HasEnded, IsAhead}

-- read, and not yet part of a line
abbrev pub pending_of : Reader → List ℕ
pending_of r = take (r.end - r.at) (drop r.at r.piece.items)

-- what falls with each byte that is read or looked at
abbrev pub work_of : Reader → ℕ
work_of r = 2 * (max_input - r.taken) + (r.end - r.at)

-- these bytes were taken since the start
pub record IsAt (start : Option (List ℕ)) (input : List ℕ) (left : Option (List ℕ)) (r : Reader) : Type 0 where
  pub took : Took start left input
  pub ended : IsTrue r.ended → HasEnded start left
  pub taken : r.taken ≡ length input

-- A part of a line out of the pending bytes: up to a line feed, or all of them.
abbrev pub TakesPart : Bool → (line pending after : List ℕ) → PartialLine → Type 0
TakesPart true line pending after front = (part : List ℕ) × (pending ≡ part ++ 10 ∷ after) × NoFeed part × StandsFor front (line ++ part)
TakesPart false line pending after front = NoFeed pending × (after ≡ []) × StandsFor front (line ++ pending)

-- a line, up to its line feed; or the last one, where the source has ended
abbrev pub IsNext : (all line after : List ℕ) → Bool → Type 0
IsNext all line after ended = (all ≡ line ++ 10 ∷ after) ⊎ ((all ≡ line) × (line ≢ []) × (after ≡ []) × (ended ≡ true))

-- a line was read: what was taken for it, which line it is, and what is pending behind it
pub record ReadsLine (start : Option (List ℕ)) (input pending : List ℕ) (left : Option (List ℕ)) (r : Reader) (front : PartialLine) : Type 0 where
  pub more : List ℕ
  pub at : IsAt start (input ++ more) left r
  pub line : List ℕ
  pub stands : StandsFor front line
  pub no_feed : NoFeed line
  pub next : IsNext (pending ++ more) line (pending_of r) r.ended

-- no line was left: all was taken, and nothing is pending
pub record ReadsNone (start : Option (List ℕ)) (input pending : List ℕ) (left : Option (List ℕ)) (r : Reader) : Type 0 where
  pub at : IsAt start input left r
  pub none : pending ≡ []
  pub ended : HasEnded start left

-- a line or none was read, from where reading had come
abbrev pub Reads : Option PartialLine → Option (List ℕ) → (input pending : List ℕ) → Option (List ℕ) → Reader → Type 0
Reads (Some front) start input pending left r = ReadsLine start input pending left r front
Reads None start input pending left r = ReadsNone start input pending left r

-- no line was read: so much more was taken, and of what is behind the lines before this much is read ahead
pub record ReadsNoLine (end : ReadEnd) (start : Option (List ℕ)) (input pending : List ℕ) (left : Option (List ℕ)) : Type 0 where
  pub more : List ℕ
  pub took : Took start left (input ++ more)
  pub is_ahead : IsAhead end (pending ++ more)
