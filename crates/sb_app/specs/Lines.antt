-- What the lines of a text say.
use Rattle.std.specs.Prelude.{ℕ, List, [], length, map, nat_lt, if◌then◌else◌, codes, None, Result, Ok, Err}
use Rattle.std.specs.Str.{is_utf8}
use Rattle.sb_machine.specs.Ordered.{IsActInOrder}
use Rattle.sb_app.specs.declared.script_line.ScriptLine.{ScriptLine}
use Rattle.sb_app.specs.declared.script_line.ScriptLine.TheVariants.{Blank, Malformed, Request}
use Rattle.sb_lines.specs.Lines.{line_of}
use Rattle.sb_lines.specs.declared.fault.KeyFault.{KeyFault}
use Rattle.sb_lines.specs.declared.form.Form.{Form}
use Rattle.sb_lines.specs.declared.form.Form.TheVariants.{Plain}
use Rattle.sb_lines.specs.declared.line.Line.{Line}
use Rattle.sb_input.specs.Limits.{max_line}
use Rattle.sb_input.specs.Lines.{lines_of, is_blank}

-- a call, in the form that its reply has, or the key at fault
abbrev pub script_line_of : Result Line KeyFault → ScriptLine
script_line_of (Ok line) = Request line.timed line.form
script_line_of (Err fault) = Malformed fault.part fault.key

-- What a line asks for: blank first, then the length, then whether it is text, then what the text says.
abbrev pub script_line : List ℕ → ScriptLine
script_line line = if is_blank line then Blank else (if nat_lt max_line (length line) then Malformed None (codes "line") else (if is_utf8 line then script_line_of (line_of line) else Malformed None []))

-- the lists of its call, if it has one, stand in order
abbrev pub IsLineInOrder : ScriptLine → Type 0
IsLineInOrder Blank = Unit {0}
IsLineInOrder (Malformed part key) = Unit {0}
IsLineInOrder (Request a form) = IsActInOrder a.call.act

-- the form in which its reply shows copies
abbrev pub form_of : ScriptLine → Form
form_of Blank = Plain
form_of (Malformed part key) = Plain
form_of (Request a form) = form

-- what the lines of an input ask for
abbrev pub script_lines : List ℕ → List ScriptLine
script_lines input = map script_line (lines_of input)
