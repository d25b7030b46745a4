-- What was taken of an input: the lines that were answered, and what was read ahead of them.
use Rattle.std.specs.Prelude.{◌≡◌, ◌≤◌, ℕ, List, ◌++◌, length}
use Rattle.sb_input.specs.Limits.{max_piece}
use Rattle.sb_input.specs.Lines.{NoFeed}
use Rattle.sb_input.specs.Taking.{Took, IsLineAhead}
use Rattle.sb_app.specs.Lines.{script_lines}
use Rattle.sb_app.specs.Outside.{Input}
use Rattle.sb_app.specs.declared.script_line.ScriptLine.{ScriptLine}
use Rattle.sb_input.specs.declared.reader.ReadEnd.{ReadEnd}
use Rattle.sb_input.specs.declared.reader.ReadEnd.TheVariants.{Fault, OutOfMemory as NoMemory, TooMuch}
use Rattle.sb_app.specs.declared.ending.RunEnd.{RunEnd}
use Rattle.sb_app.specs.declared.ending.RunEnd.TheVariants.{ReadFault, WriteFault, DiskFault, OutOfMemory, LongInput, TimeJump}

-- the end of a run whose reading ended
abbrev pub end_of_reading : ReadEnd → RunEnd
end_of_reading Fault = ReadFault
end_of_reading NoMemory = OutOfMemory
end_of_reading TooMuch = LongInput

-- How far was read ahead of the lines that were answered. Where the input failed, each line that came whole was answered; where the
-- output or a disk failed, what was read behind the last line is a piece at most; where time would jump, the line that would make it is part
-- of it.
abbrev pub IsAhead : RunEnd → List ℕ → Type 0
IsAhead ReadFault ahead = NoFeed ahead
IsAhead WriteFault ahead = length ahead ≤ max_piece
IsAhead DiskFault ahead = length ahead ≤ max_piece
IsAhead OutOfMemory ahead = IsLineAhead ahead
IsAhead LongInput ahead = Unit {0}
IsAhead TimeJump ahead = IsLineAhead ahead

-- what was taken are these lines, and what was read ahead of them
pub record IsTaken (was now : Input) (lines : List ScriptLine) (end : RunEnd) : Type 0 where
  pub answered : List ℕ
  pub ahead : List ℕ
  pub took : Took was.left now.left (answered ++ ahead)
  pub says : script_lines answered ≡ lines
  pub is_ahead : IsAhead end ahead
