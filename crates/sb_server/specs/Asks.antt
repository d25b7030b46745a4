-- What a request asks for, and whether its connection ends with the response.
use Rattle.std.specs.Prelude.{◌≡◌, ℕ, ◌*◌, ◌-◌, ◌^◌, min, nat_lt, List, length, take, drop, codes, Bool, true, false, not, ◌&&◌, ◌||◌, ◌==◌, is_none, None, Result, Ok, Err}
use Rattle.std.specs.List.{list_all, list_any, position_or_len}
use Rattle.form_urlencoded.specs.Form.{split}
use Rattle.sb_machine.specs.Ordered.{IsActInOrder}
use Rattle.sb_machine.specs.declared.call.Act.{Act}
use Rattle.sb_machine.specs.declared.call.Act.TheVariants.{Receive, Accept}
use Rattle.sb_machine.specs.declared.call.Call.{Call}
use Rattle.sb_machine.specs.declared.reply.Answered.{Answered}
use Rattle.sb_machine.specs.declared.reply.Refusal.{Refusal}
use Rattle.sb_desk.specs.Lists.{Each}
use Rattle.sb_http.specs.Fields.{Field, same_word}
use Rattle.sb_http.specs.Messages.{RequestMessage}
use Rattle.sb_lines.specs.Faults.{Answers, answer_of_fault}
use Rattle.sb_lines.specs.declared.fault.KeyFault.{KeyFault}
use Rattle.sb_lines.specs.declared.fault.LineFault.{LineFault}
use Rattle.sb_lines.specs.declared.line.Line.{Line as ScriptLine}
use Rattle.sb_rest.specs.Batches.{is_blank}
use Rattle.sb_rest.specs.declared.access.Access.{Access}
use Rattle.sb_rest.specs.Calls.{call_of}
use Rattle.sb_rest.specs.Forms.{wants_json}
use Rattle.sb_rest.specs.Responses.{host_in}
use Rattle.sb_rest.specs.declared.call.RestFault.{RestFault}
use Rattle.sb_rest.specs.declared.call.RestFault.TheVariants.{Foreign, NoKey, NoRoute, BadMethod, Bad, Script, Page, OutOfMemory}
use Rattle.sb_rest.specs.declared.call.Wanted.{Wanted}
use Rattle.sb_server.specs.declared.ask.Ask.{Ask}
use Rattle.sb_server.specs.declared.ask.Asker.{Asker}
use Rattle.sb_server.specs.declared.ask.Ask.TheVariants.{Once, Patient, Line, BadLine, Lines, Fault}
use Rattle.sb_server.specs.declared.ask.Waiter.TheVariants.{ByRest, ByLine}
use Rattle.sb_server.specs.Bodies.{has_lines, line_in, lines_in, IsLineInOrder}

-- ---- the head

abbrev pub close : List ℕ
close = codes "close"

-- without the blanks before it
abbrev pub unindented : List ℕ → List ℕ
unindented word = drop (position_or_len (λ b. not (is_blank b)) word) word

-- close, and blanks behind it alone
abbrev pub begins_close : List ℕ → Bool
begins_close word = same_word close (take (length close) word) && list_all is_blank (drop (length close) word)

-- a word that asks for the connection's end
abbrev pub is_close_word : List ℕ → Bool
is_close_word word = begins_close (unindented word)

-- one of the words between commas is close (RFC 9110, 5.6.1)
unfoldable pub lists_close : List ℕ → Bool
lists_close list = list_any is_close_word (split 44 list)

-- a header field that asks for the connection's end
abbrev pub is_close : Field → Bool
is_close f = same_word (codes "connection") f.0 && lists_close f.1

-- the connection ends for the request's sake: it is of HTTP/1.0, or a Connection line lists close
abbrev pub asks_close : RequestMessage → Bool
asks_close m = (m.head.minor == 0) || list_any is_close m.head.fields

-- ---- what it asks for

-- whether an operation may wait: a receive, or the accept of the next session; that of a named one is answered at once
abbrev pub may_wait : Act → Bool
may_wait (Receive from mode session) = true
may_wait (Accept from None) = true
may_wait _ = false

-- Such a call by REST waits where there is nothing yet. One with a number is made once: that there was nothing is an
-- answer, too, and is kept under its number.
abbrev pub waits : Call → Bool
waits call = may_wait call.act && is_none call.by

-- A line waits which asks for it, a receive or the accept of a session; one with a number is made once, too.
abbrev pub line_waits : ScriptLine → Bool
line_waits line = nat_lt 0 line.wait_s && is_none line.timed.call.by

-- so many s in ms, which stand still at 2^64 - 1
abbrev pub ms_in : ℕ → ℕ
ms_in s = min (s * 1000) (2 ^ 64 - 1)

-- this call is said
abbrev pub Reads : Result ScriptLine KeyFault → ScriptLine → Type 0
Reads said line = (said ≡ Ok line) × IsActInOrder line.timed.call.act

-- a script line is no call, and is answered by why; want of memory may come with each
abbrev pub IsNoLine : Result ScriptLine KeyFault → Result Answered Refusal → Type 0
IsNoLine said answer = (fault : LineFault) × Answers (Err fault) said × (answer ≡ Err (answer_of_fault fault))

-- what a body asks for as one line, which waits so many ms at most, or is called once
abbrev pub IsLineAsk : List ℕ → Ask → Type 0
IsLineAsk body (Line line) = Reads (line_in body) line × (line_waits line ≡ false)
IsLineAsk body (Patient (ByLine line) limit) = Reads (line_in body) line × (line_waits line ≡ true) × (limit ≡ ms_in line.wait_s)
IsLineAsk body (BadLine answer) = IsNoLine (line_in body) answer
IsLineAsk body _ = ⊥

-- why a request is no call; want of memory may come with each
abbrev pub IsFault : Access → RestFault → RequestMessage → Type 0
IsFault access Foreign m = call_of access m ≡ Err Foreign
IsFault access NoKey m = call_of access m ≡ Err NoKey
IsFault access NoRoute m = call_of access m ≡ Err NoRoute
IsFault access (BadMethod r) m = call_of access m ≡ Err (BadMethod r)
IsFault access (Bad part key) m = call_of access m ≡ Err (Bad part key)
IsFault access Script m = ⊥
IsFault access Page m = call_of access m ≡ Err Page
IsFault access OutOfMemory m = Unit {0}

-- a call, what its response has of who asks, and whether it waits
pub record IsCall (access : Access) (m : RequestMessage) (w : Wanted) (asker : Asker) (is_patient : Bool) : Type 0 where
  pub call : call_of access m ≡ Ok w
  pub in_order : IsActInOrder w.call.act
  pub host_is : asker.host ≡ host_in m.head.fields
  pub json_is : asker.json ≡ wants_json m.head.fields
  pub waits_is : waits w.call ≡ is_patient

-- a body of script lines, which may be several, or one line alone
abbrev pub IsScript : Access → RequestMessage → Bool → Type 0
IsScript access m are_several = (call_of access m ≡ Err Script) × (has_lines m.head.fields ≡ are_several)

-- the request asks for this, of a server that answers these
abbrev pub AsksFor : Access → RequestMessage → Ask → Type 0
AsksFor access m (Once w asker) = IsCall access m w asker false
AsksFor access m (Patient (ByRest w asker) limit) = IsCall access m w asker true × (limit ≡ ms_in w.timeout)
AsksFor access m (Patient (ByLine line) limit) = IsScript access m false × IsLineAsk m.body (Patient (ByLine line) limit)
AsksFor access m (Line line) = IsScript access m false × IsLineAsk m.body (Line line)
AsksFor access m (BadLine answer) = IsScript access m false × IsLineAsk m.body (BadLine answer)
AsksFor access m (Lines lines) = IsScript access m true × (lines ≡ lines_in m.body) × Each IsLineInOrder lines
AsksFor access m (Fault fault) = IsFault access fault m
