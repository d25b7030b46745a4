-- What was taken of an input: the lines that were read, and what was read ahead of them.
use Rattle.std.specs.Prelude.{◌≡◌, ◌≤◌, ◌+◌, ℕ, List, [], ◌++◌, length, Option, Some, None}
use Rattle.sb_input.specs.Limits.{max_input, max_piece}
use Rattle.sb_input.specs.Lines.{NoFeed, lines_of}
use Rattle.sb_input.specs.declared.reader.ReadEnd.{ReadEnd}
use Rattle.sb_input.specs.declared.reader.ReadEnd.TheVariants.{Fault, OutOfMemory as NoMemory, TooMuch}

-- these bytes were read, where the source tells
abbrev pub Took : Option (List ℕ) → Option (List ℕ) → List ℕ → Type 0
Took None after more = Unit {0}
Took (Some before) after more = (rest : List ℕ) × (before ≡ more ++ rest) × (after ≡ Some rest)

-- nothing is left, where the source tells
abbrev pub HasEnded : Option (List ℕ) → Option (List ℕ) → Type 0
HasEnded None after = Unit {0}
HasEnded (Some before) after = after ≡ Some []

-- as many bytes were taken as end a run, or more
abbrev pub IsLong : Option (List ℕ) → Option (List ℕ) → Type 0
IsLong left left_after = (input : List ℕ) × Took left left_after input × (max_input ≤ length input)

-- with one more piece behind so many bytes they were
abbrev pub IsLongPiece : Option (List ℕ) → Option (List ℕ) → ℕ → Type 0
IsLongPiece left left_after taken = (piece : List ℕ) × Took left left_after piece × (max_input ≤ taken + length piece)

-- one line at most, and behind its line feed one piece at most
pub record IsLineAhead (ahead : List ℕ) : Type 0 where
  pub line : List ℕ
  pub rest : List ℕ
  pub split : ahead ≡ line ++ rest
  pub no_feed : NoFeed line
  pub fits : length rest ≤ 1 + max_piece

-- how far was read behind the last whole line, where no line came: where the source failed, less than a line
abbrev pub IsAhead : ReadEnd → List ℕ → Type 0
IsAhead Fault ahead = NoFeed ahead
IsAhead NoMemory ahead = IsLineAhead ahead
IsAhead TooMuch ahead = Unit {0}

-- these are the first lines of what a source has left, where it tells
abbrev pub AreFirst : Option (List ℕ) → List (List ℕ) → Type 0
AreFirst None lines = Unit {0}
AreFirst (Some left) lines = (more : List (List ℕ)) × (lines_of left ≡ lines ++ more)
