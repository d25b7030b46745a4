-- The responses to requests, and the entries of their calls. `IsReading` holds of what a clock may read.
use Rattle.std.specs.Prelude.{◌≡◌, ◌⊎◌, ℕ, List, [], ◌∷◌, ◌++◌, map, codes, Bool, true, false, ◌||◌, Option, Result, Ok, if◌then◌else◌}
use Rattle.std.specs.List.{flat_map, list_any}
use Rattle.sb_machine.specs.History.{stops}
use Rattle.sb_machine.specs.Ordered.{IsActInOrder}
use Rattle.sb_machine.specs.declared.call.Call.{Call}
use Rattle.sb_machine.specs.declared.history.Entry.{Entry}
use Rattle.sb_machine.specs.declared.reply.Answered.{Answered}
use Rattle.sb_machine.specs.declared.reply.Answered.TheVariants.{New}
use Rattle.sb_machine.specs.declared.reply.Refusal.{Refusal}
use Rattle.sb_machine.specs.declared.reply.Reply.TheVariants.{Empty}
use Rattle.sb_desk.specs.Entries.{made_by}
use Rattle.sb_desk.specs.Lists.{Each}
use Rattle.sb_http.specs.Messages.{RequestMessage}
use Rattle.sb_http.specs.declared.response.Status.TheVariants.{Ok as HttpOk}
use Rattle.sb_http.specs.Responses.{ResponseMessage, response_bytes}
use Rattle.sb_lines.specs.Replies.{answer_line}
use Rattle.sb_lines.specs.declared.form.Form.{Form}
use Rattle.sb_lines.specs.declared.form.Form.TheVariants.{Plain}
use Rattle.sb_numbers.specs.declared.numbers.Numbers.{Numbers}
use Rattle.sb_rest.specs.declared.access.Access.{Access}
use Rattle.sb_rest.specs.Callers.{is_foreign}
use Rattle.sb_rest.specs.Calls.{may_call}
use Rattle.sb_rest.specs.Responses.{fault_response, line_response}
use Rattle.sb_rest.specs.Sights.{Gives}
use Rattle.sb_rest.specs.declared.call.RestFault.{RestFault}
use Rattle.sb_rest.specs.declared.call.Wanted.{Wanted}
use Rattle.sb_server.specs.declared.ask.Ask.{Ask}
use Rattle.sb_server.specs.declared.ask.Asker.{Asker}
use Rattle.sb_server.specs.declared.ask.Ask.TheVariants.{Once, Patient, Line, BadLine, Lines, Fault}
use Rattle.sb_server.specs.declared.ask.Waiter.{Waiter}
use Rattle.sb_server.specs.declared.ask.Waiter.TheVariants.{ByRest, ByLine}
use Rattle.sb_server.specs.declared.caller.Caller.{Caller}
use Rattle.sb_server.specs.declared.caller.Caller.TheVariants.{ByRest as RestCaller, ByLine as LineCaller}
use Rattle.sb_server.specs.declared.body.LineAsk.{LineAsk}
use Rattle.sb_server.specs.declared.body.LineAsk.TheVariants.{Call as LineCall, NoCall}
use Rattle.sb_server.specs.declared.telling.Turn.{Turn}
use Rattle.sb_server.specs.declared.telling.Turn.TheVariants.{Goes, Closes, Stops}
use Rattle.sb_server.specs.Asks.{AsksFor, asks_close}
use Rattle.sb_server.specs.Bodies.{lines_type, IsLineInOrder}
use Rattle.sb_server.specs.Waiting.{Waits, FoundNothing}

-- ---- one response

-- what comes after it: a namespace that acts no more is told before a connection that ends
abbrev pub turn_of : Bool → Bool → Turn
turn_of closes stops = if stops then Stops else (if closes then Closes else Goes)

-- these are the entries of one call, made at a reading of the clock
abbrev pub IsOne : (ℕ → Type 0) → ℕ → Call → List Entry → Result Answered Refusal → Type 0
IsOne IsReading seat call made answer = (tick : Option ℕ) × (reading : ℕ) × IsReading reading × (made ≡ made_by seat tick reading call answer)

-- the same response, which also ends the connection where its request asks for that
abbrev pub closed : Bool → ResponseMessage → ResponseMessage
closed closes said = record said { ends = said.ends || closes }

-- the bytes of the response to a call; which numbers of the server it shows, where it is asked for them, nothing promises
abbrev pub AnswersCall : Wanted → Result Answered Refusal → Asker → Bool → List ℕ → Type 0
AnswersCall w answer asker closes out =
    (numbers : Numbers) × (said : ResponseMessage) × Gives w.sight w.call.act answer asker.host asker.json numbers said × (out ≡ response_bytes (closed closes said))

-- the bytes of the response to a script line: the line of its reply in the form that it asks for, which ends the
-- connection too where the namespace acts no more
abbrev pub line_bytes : Form → Result Answered Refusal → Bool → List ℕ
line_bytes form answer closes = response_bytes (closed (closes || stops answer) (line_response (answer_line form answer)))

-- ---- what waits

-- the call that it makes, once or more
abbrev pub waiter_call : Waiter → Call
waiter_call (ByRest w asker) = w.call
waiter_call (ByLine line) = line.timed.call

-- a call of the same kind that is made once
abbrev pub once : Waiter → Ask
once (ByRest w asker) = Once w asker
once (ByLine line) = Line line

-- what waits, where this call is put back to what asks for it
abbrev pub waiter_of : Caller → Call → Waiter
waiter_of (RestCaller timeout sight asker) call = ByRest (record { call = call; timeout = timeout; sight = sight }) asker
waiter_of (LineCaller reading form wait_s) call = ByLine (record { timed = record { reading = reading; call = call }; form = form; wait_s = wait_s })

-- the bytes of the response, by the answer of the last call
abbrev pub AnswersWaiter : Waiter → Result Answered Refusal → Bool → List ℕ → Type 0
AnswersWaiter (ByRest w asker) answer closes out = AnswersCall w answer asker closes out
AnswersWaiter (ByLine line) answer closes out = out ≡ line_bytes line.form answer closes

-- ---- the response to several lines

-- a line, the entries of its call, and its answer
pub record LineCalled : Type 0 where
  pub line : LineAsk
  pub made : List Entry
  pub answer : Result Answered Refusal

-- each is called as a line alone is; one that is no call makes no entry, and is answered by why
abbrev pub IsLineCalled : (ℕ → Type 0) → ℕ → LineAsk → List Entry → Result Answered Refusal → Type 0
IsLineCalled IsReading seat (LineCall line) made answer = IsOne IsReading seat line.timed.call made answer
IsLineCalled IsReading seat (NoCall refused) made answer = (made ≡ []) × (answer ≡ refused)

-- of these lines those before the rest were called, in their order, and these are the entries of their calls
pub record AreCalled (IsReading : ℕ → Type 0) (seat : ℕ) (lines rest : List LineAsk) (made : List Entry) (cs : List LineCalled) : Type 0 where
  pub lines_are : lines ≡ map (λ c. c.line) cs ++ rest
  pub made_is : made ≡ flat_map (λ c. c.made) cs
  pub each : Each (λ c. IsLineCalled IsReading seat c.line c.made c.answer) cs

-- the form of the reply to a line
abbrev pub form_of : LineAsk → Form
form_of (LineCall line) = line.form
form_of (NoCall answer) = Plain

-- the lines of the replies, in the order of the lines
abbrev pub replies_to : List LineCalled → List ℕ
replies_to cs = flat_map (λ c. answer_line (form_of c.line) c.answer) cs

-- whether the namespace acts no more
abbrev pub any_stops : List LineCalled → Bool
any_stops cs = list_any (λ c. stops c.answer) cs

-- the response with these lines
abbrev pub lines_response : List ℕ → ResponseMessage
lines_response text = record { status = HttpOk; fields = (codes "Content-Type", lines_type) ∷ []; body = text; ends = false }

-- the bytes of the response with these lines, which ends the connection too where the namespace acts no more
abbrev pub lines_bytes : List ℕ → Bool → Bool → List ℕ
lines_bytes text stopped closes = response_bytes (closed (closes || stopped) (lines_response text))

-- ---- any request

-- the response to a request that is no call
abbrev pub fault_bytes : RestFault → Bool → List ℕ
fault_bytes fault closes = response_bytes (closed closes (fault_response fault))

-- the lists of what it asks for are in order
abbrev pub IsInOrder : Ask → Type 0
IsInOrder (Once w asker) = IsActInOrder w.call.act
IsInOrder (Patient waiter limit) = IsActInOrder (waiter_call waiter).act
IsInOrder (Line line) = IsActInOrder line.timed.call.act
IsInOrder (BadLine answer) = Unit {0}
IsInOrder (Lines lines) = Each IsLineInOrder lines
IsInOrder (Fault fault) = Unit {0}

-- this is the response, these are the entries of its calls, and so it goes on
abbrev pub RespondsTo : (ℕ → Type 0) → ℕ → Ask → Bool → List Entry → List ℕ → Turn → Type 0
RespondsTo IsReading seat (Once w asker) closes made out turn =
    (answer : Result Answered Refusal) × IsOne IsReading seat w.call made answer × AnswersCall w answer asker closes out × (turn ≡ turn_of closes (stops answer))
RespondsTo IsReading seat (Patient waiter limit) closes made out turn =
    (answer : Result Answered Refusal) × Waits IsReading seat (waiter_call waiter) limit made answer × AnswersWaiter waiter answer closes out × (turn ≡ turn_of closes (stops answer))
RespondsTo IsReading seat (Line line) closes made out turn =
    (answer : Result Answered Refusal) × IsOne IsReading seat line.timed.call made answer × (out ≡ line_bytes line.form answer closes) × (turn ≡ turn_of closes (stops answer))
RespondsTo IsReading seat (BadLine answer) closes made out turn = (made ≡ []) × (out ≡ line_bytes Plain answer closes) × (turn ≡ turn_of closes (stops answer))
RespondsTo IsReading seat (Lines lines) closes made out turn =
    (cs : List LineCalled) × AreCalled IsReading seat lines [] made cs × (out ≡ lines_bytes (replies_to cs) (any_stops cs) closes) × (turn ≡ turn_of closes (any_stops cs))
RespondsTo IsReading seat (Fault fault) closes made out turn = (made ≡ []) × (out ≡ fault_bytes fault closes) × (turn ≡ turn_of closes false)

-- ---- the responses of a connection

-- a response that ends the connection ends the list
pub record IsLast (turn : Turn) (ms : List RequestMessage) (made : List Entry) (out : List ℕ) (after : Turn) : Type 0 where
  pub ends : turn ≡ Goes → ⊥
  pub no_requests : ms ≡ []
  pub no_entries : made ≡ []
  pub no_bytes : out ≡ []
  pub after_is : after ≡ turn

-- one request with its response
pub record Responded (IsReading : ℕ → Type 0) (access : Access) (seat : ℕ) (m : RequestMessage) (mine : List Entry) (first : List ℕ) (turn : Turn) : Type 0 where
  pub ask : Ask
  pub asks : AsksFor access m ask
  pub responds : RespondsTo IsReading seat ask (asks_close m) mine first turn

-- What waits and is given up, with its response, which tells that nothing was found and ends the connection: its calls,
-- one or more, each found nothing before its end.
pub record GivenUp (IsReading : ℕ → Type 0) (access : Access) (seat : ℕ) (m : RequestMessage) (mine : List Entry) (said : List ℕ) : Type 0 where
  pub waiter : Waiter
  pub limit : ℕ
  pub asks : AsksFor access m (Patient waiter limit)
  pub found : FoundNothing IsReading seat (waiter_call waiter) limit mine
  pub says : AnswersWaiter waiter (Ok (New Empty)) true said

-- the response to each request in order, and the entries of their calls
abbrev pub Responds : (ℕ → Type 0) → Access → ℕ → List RequestMessage → List Entry → List ℕ → Turn → Type 0
Responds IsReading access seat [] made out after = (made ≡ []) × (out ≡ []) × (after ≡ Goes)
Responds IsReading access seat (m ∷ ms) made out after =
    (mine : List Entry) × (rest : List Entry) × (first : List ℕ) × (others : List ℕ) × (turn : Turn)
    × (made ≡ mine ++ rest) × (out ≡ first ++ others) × Responded IsReading access seat m mine first turn
    × (((turn ≡ Goes) × Responds IsReading access seat ms rest others after) ⊎ IsLast turn ms rest others after)

-- a request that is foreign, or has to show the key and doesn't
abbrev pub IsUnwelcome : Access → RequestMessage → Type 0
IsUnwelcome access m = (is_foreign access m.head.fields ≡ true) ⊎ (may_call access m ≡ false)

-- is answered, and makes no call
abbrev pub MakesNone : (ℕ → Type 0) → Type 0
MakesNone IsReading =
    (access : Access) (seat : ℕ) (m : RequestMessage) (mine : List Entry) (first : List ℕ) (turn : Turn) → IsUnwelcome access m → Responded IsReading access seat m mine first turn → mine ≡ []

-- nor does it wait and is given up
abbrev pub GivesUpNone : (ℕ → Type 0) → Type 0
GivesUpNone IsReading = (access : Access) (seat : ℕ) (m : RequestMessage) (mine : List Entry) (said : List ℕ) → IsUnwelcome access m → GivenUp IsReading access seat m mine said → mine ≡ []
