-- Which bodies are of script lines, and what they ask for.
use Rattle.std.specs.Prelude.{◌≡◌, ◌⊎◌, ℕ, List, [], ◌∷◌, ◌++◌, length, map, codes, Bool, not, nat_le, ◌&&◌, None, Result, Ok, Err, if◌then◌else◌}
use Rattle.std.specs.List.{flat_map, list_any}
use Rattle.std.specs.Str.{is_utf8}
use Rattle.sb_machine.specs.Ordered.{IsActInOrder}
use Rattle.sb_desk.specs.Lists.{Each}
use Rattle.sb_http.specs.Fields.{Field}
use Rattle.sb_input.specs.Lines.{lines_of, is_blank, NoFeed}
use Rattle.sb_lines.specs.Faults.{bad_key, refusal_of}
use Rattle.sb_lines.specs.Lines.{line_of}
use Rattle.sb_lines.specs.declared.fault.KeyFault.{KeyFault}
use Rattle.sb_lines.specs.declared.line.Line.{Line as ScriptLine}
use Rattle.sb_rest.specs.Batches.{has_media_type}
use Rattle.sb_server.specs.declared.body.LineAsk.{LineAsk}
use Rattle.sb_server.specs.declared.body.LineAsk.TheVariants.{Call, NoCall}

-- ---- the media type

-- the media type of JSON values on a line each
abbrev pub lines_type : List ℕ
lines_type = codes "application/x-ndjson"

-- whether the body of a request with these fields is of lines, one or more
abbrev pub has_lines : List Field → Bool
has_lines fields = has_media_type lines_type fields

-- ---- one line

-- the call of a script line and the form of its reply, or the key at fault
abbrev pub line_in : List ℕ → Result ScriptLine KeyFault
line_in line = if is_utf8 line then line_of line else Err (bad_key None [])

-- ---- several lines

-- a line that is no call is answered by the refusal of its key
abbrev pub asked_by : Result ScriptLine KeyFault → LineAsk
asked_by (Ok line) = Call line
asked_by (Err fault) = NoCall (Err (refusal_of fault))

-- as many lines may be in one body
abbrev pub max_lines : ℕ
max_lines = 100

-- one line or more, up to that number, none of white space alone
abbrev pub are_lines : List (List ℕ) → Bool
are_lines lines = nat_le 1 (length lines) && (nat_le (length lines) max_lines && not (list_any is_blank lines))

-- each of these lines; else they are as one that is no call, whose key is that of no JSON object
abbrev pub asked_by_each : List (List ℕ) → List LineAsk
asked_by_each lines = if are_lines lines then map (λ line. asked_by (line_in line)) lines else asked_by (Err (bad_key None [])) ∷ []

-- what the lines of a body ask for; each ends at a line feed, which the last may lack
abbrev pub lines_in : List ℕ → List LineAsk
lines_in body = asked_by_each (lines_of body)

-- the lists of its call are in order
abbrev pub IsLineInOrder : LineAsk → Type 0
IsLineInOrder (Call line) = IsActInOrder line.timed.call.act
IsLineInOrder (NoCall answer) = Unit {0}

-- ---- lines one after another

-- the next line of a text, up to its line feed or the end, and what is behind it
abbrev pub IsNextLine : List ℕ → List ℕ → List ℕ → Type 0
IsNextLine text line behind = lines_of text ≡ line ∷ lines_of behind

-- ---- laws

-- each line with a line feed behind it
abbrev pub with_feeds : List (List ℕ) → List ℕ
with_feeds lines = flat_map (λ line. line ++ 10 ∷ []) lines

-- so the lines of a body are that body, or that with a line feed behind its last line, which had none
abbrev pub LinesJoin : Type 0
LinesJoin = (body : List ℕ) → (with_feeds (lines_of body) ≡ body) ⊎ (with_feeds (lines_of body) ≡ body ++ 10 ∷ [])

-- none of them has a line feed
abbrev pub LinesHaveNoFeed : Type 0
LinesHaveNoFeed = (body : List ℕ) → Each NoFeed (lines_of body)
