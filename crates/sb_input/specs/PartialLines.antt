-- What is kept of a line that is being read.
use Rattle.std.specs.Prelude.{◌≡◌, ◌≢◌, ◌<◌, ◌≤◌, ℕ, List, [], length, Option, Some, None}
use Rattle.sb_input.specs.Limits.{max_line}
use Rattle.sb_input.specs.Lines.{is_blank}
use Rattle.sb_input.specs.declared.partial_line.PartialLine.{PartialLine}
use Rattle.sb_input.specs.declared.partial_line.PartialLine.TheVariants.{Short, Long}

-- these bytes of a line were read: they are kept, or there are too many and it is kept whether they are blank
abbrev pub StandsFor : PartialLine → List ℕ → Type 0
StandsFor (Short kept) line = (line ≡ kept.items) × (length line ≤ max_line)
StandsFor (Long blank) line = (max_line < length line) × (is_blank line ≡ blank)

-- the last line, or nothing where there is none of it
abbrev pub IsLastOf : List ℕ → Option PartialLine → Type 0
IsLastOf line (Some partial) = (line ≢ []) × StandsFor partial line
IsLastOf line None = line ≡ []
