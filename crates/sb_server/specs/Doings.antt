-- What a connection does now, as far as it has come, and what comes next.
-- `IsReading` holds of what the worker's clock may read.
use Rattle.std.specs.Prelude.{◌≡◌, ℕ, ◌+◌, ◌≤◌, ◌<◌, List, [], ◌∷◌, ◌++◌, take, Bool, true, false, Option, Some, None, Result, Ok, Err, Vec}
use Rattle.std.specs.declared.alloc.AllocError.{AllocError}
use Rattle.std.specs.Global.{Global}
use Rattle.sb_machine.specs.History.{stops}
use Rattle.sb_machine.specs.Ordered.{IsActInOrder}
use Rattle.sb_machine.specs.declared.history.Entry.{Entry}
use Rattle.sb_machine.specs.declared.reply.Answered.{Answered}
use Rattle.sb_machine.specs.declared.reply.Refusal.{Refusal}
use Rattle.sb_machine.specs.declared.call.Call.{Call}
use Rattle.sb_desk.specs.Desks.{Asking, Sitting}
use Rattle.sb_desk.specs.Lists.{Each}
use Rattle.sb_outside.specs.Causes.{Rose}
use Rattle.sb_outside.specs.Streams.{Gains, GainsPart}
use Rattle.sb_http.specs.Messages.{RequestMessage}
use Rattle.sb_lines.specs.declared.form.Form.{Form}
use Rattle.sb_rest.specs.declared.access.Access.{Access}
use Rattle.sb_server.specs.declared.telling.Turn.{Turn}
use Rattle.sb_server.specs.declared.telling.Turn.TheVariants.{Goes}
use Rattle.sb_server.specs.declared.telling.Said.{Said}
use Rattle.sb_server.specs.declared.telling.Said.TheVariants.{Call as OfCall, Line as OfLine, Lines as OfLines, Fault as OfFault}
use Rattle.sb_server.specs.declared.telling.Telling.{Telling}
use Rattle.sb_server.specs.declared.answer.Asked.{Asked}
use Rattle.sb_server.specs.declared.answer.Asked.TheVariants.{Posts as AsPosted, Begins as AsBegun}
use Rattle.sb_server.specs.declared.ask.Ask.{Ask}
use Rattle.sb_server.specs.declared.body.LineAsk.{LineAsk}
use Rattle.sb_server.specs.declared.ask.Ask.TheVariants.{Patient, Lines}
use Rattle.sb_server.specs.declared.ask.Waiter.{Waiter}
use Rattle.sb_server.specs.declared.ask.Waiter.TheVariants.{ByRest, ByLine}
use Rattle.sb_server.specs.declared.doing.Begun.{Begun}
use Rattle.sb_server.specs.declared.doing.Begun.TheVariants.{Done, Waits, Calls as WillCall, Says as WasCalled}
use Rattle.sb_server.specs.declared.doing.Doing.{Doing}
use Rattle.sb_server.specs.declared.doing.Doing.TheVariants.{Reads, Asks, Calls, Says as WillSay, Tells, Writes}
use Rattle.sb_server.specs.declared.doing.Went.{Went}
use Rattle.sb_server.specs.declared.doing.Went.TheVariants.{On, NothingYet, Blocked, Over}
use Rattle.sb_server.specs.declared.doing.Outgoing.{Outgoing}
use Rattle.sb_server.specs.declared.patience.Patience.{Patience}
use Rattle.sb_server.specs.declared.pending.Pending.{Pending}
use Rattle.sb_server.specs.declared.pending.Pending.TheVariants.{Once, Waits as ForWaiter, Line as ForLine}
use Rattle.sb_server.specs.declared.script.Script.{Script}
use Rattle.sb_server.specs.declared.seat.Seat.{Seat}
use Rattle.sb_server.specs.declared.seat.Seat.TheVariants.{Free, Posts}
use Rattle.sb_server.specs.declared.ending.Ending.{Ending}
use Rattle.sb_server.specs.declared.ending.Ending.TheVariants.{WriteFault, OutOfMemory, Gone}
use Rattle.sb_server.specs.Asks.{AsksFor, asks_close}
use Rattle.sb_server.specs.Reads.{Takes}
use Rattle.sb_server.specs.Bodies.{IsLineInOrder}
use Rattle.sb_server.specs.Responds.{LineCalled, AreCalled, AnswersCall, RespondsTo, any_stops, fault_bytes, form_of, line_bytes, lines_bytes, replies_to, turn_of, waiter_call, waiter_of}
use Rattle.sb_server.specs.Talks.{Start, Here, Talks, ReadsOut, Ends, TurnsTo, ending_of}
use Rattle.sb_server.specs.Waiting.{GoesBy, GoesByCall, Waiting, is_empty}

-- ---- what is to be told of a request

-- this is its response
abbrev pub Says : Said → Bool → List ℕ → Type 0
Says (OfCall wanted asker answer) closes out = AnswersCall wanted answer asker closes out
Says (OfLine form answer) closes out = out ≡ line_bytes form answer closes
Says (OfLines text stopped) closes out = out ≡ lines_bytes text.items stopped closes
Says (OfFault fault) closes out = out ≡ fault_bytes fault closes

-- whether the namespace acts no more
abbrev pub stops_by : Said → Bool
stops_by (OfCall wanted asker answer) = stops answer
stops_by (OfLine form answer) = stops answer
stops_by (OfLines text stopped) = stopped
stops_by (OfFault fault) = false

-- what is to be told where this came of it
abbrev pub telling_of : Said → Bool → Telling
telling_of said closes = record { said = said; closes = closes; after = ending_of (turn_of closes (stops_by said)) }

-- what came of what waits, where its last call was answered so
abbrev pub said_of : Waiter → Result Answered Refusal → Said
said_of (ByRest wanted asker) answer = OfCall wanted asker answer
said_of (ByLine line) answer = OfLine line.form answer

-- what is to be told of what waits where its caller has gone
abbrev pub farewell : Patience → Telling
farewell p = record { said = said_of p.waiter p.answer; closes = true; after = Some Gone }

-- ---- what waits: a receive, an accept, or a line

-- behind `pass` its calls were made, the last of which found nothing before its end
pub record IsPatient (IsReading : ℕ → Type 0) (pass : Sitting) (p : Patience) (new : Sitting) : Type 0 where
  pub waiting : Waiting IsReading pass (waiter_call p.waiter) p.limit_ms p.first_ms p.asked_ms p.answer new
  pub empty : is_empty p.answer ≡ true
  pub early : p.asked_ms < p.first_ms + p.limit_ms

-- it goes on where its last call found nothing before its end, else its answer is told
abbrev pub IsSettled : Patience → Begun → Type 0
IsSettled p (Done told) = (told ≡ telling_of (said_of p.waiter p.answer) p.closes) × (is_empty p.answer ≡ true → p.first_ms + p.limit_ms ≤ p.asked_ms)
IsSettled p (WillCall script) = ⊥
IsSettled p (WasCalled script form answer) = ⊥
IsSettled p (Waits q) = (q ≡ p) × (is_empty p.answer ≡ true) × (p.asked_ms < p.first_ms + p.limit_ms)

-- the pass went on by the entries of a request's calls, whose response this is to be
abbrev pub Answers : (ℕ → Type 0) → Sitting → Ask → Bool → Sitting → Telling → Type 0
Answers IsReading pass ask closes new told = (made : List Entry) × (turn : Turn) × GoesBy pass made new × (told.after ≡ ending_of turn)
    × ((out : List ℕ) → Says told.said told.closes out → RespondsTo IsReading pass.seat ask closes made out turn)

-- ---- several lines

-- behind `pass` these lines were called, those that are left weren't, and the replies to these stand
pub record HasCalled (IsReading : ℕ → Type 0) (pass : Sitting) (lines : List LineAsk) (script : Script) (cs said : List LineCalled) (new : Sitting) : Type 0 where
  pub made : List Entry
  pub goes : GoesBy pass made new
  pub called : AreCalled IsReading pass.seat lines script.left.items made cs
  pub text_is : script.text.items ≡ replies_to said
  pub stopped_is : script.stopped ≡ any_stops said

-- none of the lines of a request was called yet
abbrev pub IsFresh : Ask → Bool → Script → Type 0
IsFresh ask closes script = (lines : List LineAsk) × (ask ≡ Lines lines) × (script.left.items ≡ lines) × (script.text.items ≡ []) × (script.stopped ≡ false) × (script.closes ≡ closes)

-- what came of a request's calls
abbrev pub Begins : (ℕ → Type 0) → Sitting → Ask → Bool → Sitting → Begun → Type 0
Begins IsReading pass ask closes new (Done told) = Answers IsReading pass ask closes new told
Begins IsReading pass ask closes new (WillCall script) = IsFresh ask closes script × (new ≡ pass)
Begins IsReading pass ask closes new (WasCalled script form answer) = ⊥
Begins IsReading pass ask closes new (Waits p) = (ask ≡ Patient p.waiter p.limit_ms) × (p.closes ≡ closes) × IsPatient IsReading pass p new

-- ---- a call that is posted

-- what comes of one that is posted for this, where it is answered so
abbrev pub IsAnswered : Pending → Call → Result Answered Refusal → Begun → Type 0
IsAnswered (Once caller closes) call answer begun = begun ≡ Done (telling_of (said_of (waiter_of caller call) answer) closes)
IsAnswered (ForWaiter caller limit closes first asked again) call answer begun =
    IsSettled (record { waiter = waiter_of caller call; limit_ms = limit; closes = closes; first_ms = first; asked_ms = asked; answer = answer }) begun
IsAnswered (ForLine script form) call answer begun = begun ≡ WasCalled script form answer

-- it is of a request's calls: however it is answered, this comes of them then
abbrev pub BeginsBy : (ℕ → Type 0) → Sitting → Ask → Bool → Asking → Pending → Type 0
BeginsBy IsReading pass ask closes a pending =
    (answer : Result Answered Refusal) (new : Sitting) (begun : Begun) → GoesByCall a.pass a.reading a.call answer new → IsAnswered pending a.call answer begun → Begins IsReading pass ask closes new begun

-- what comes of a request's calls, or of the first of them once it is answered
abbrev pub BeginsAs : (ℕ → Type 0) → Sitting → Ask → Bool → Asked → Type 0
BeginsAs IsReading pass ask closes (AsBegun new begun) = Begins IsReading pass ask closes new begun
BeginsAs IsReading pass ask closes (AsPosted sent) = BeginsBy IsReading pass ask closes sent.posted sent.pending

-- the pass behind it, or that with which the call is posted
abbrev pub pass_in : Asked → Sitting
pass_in (AsBegun new begun) = new
pass_in (AsPosted sent) = sent.posted.pass

-- All requests but the last were answered; the last waits, and nothing was written for it.
pub record IsAsking (IsReading : ℕ → Type 0) (s : Start) (h : Here) (p : Patience) : Type 0 where
  pub old : Here
  pub m : RequestMessage
  pub talks : Talks IsReading s old Goes
  pub takes : Takes old.stand (m ∷ []) h.stand
  pub reads : old.reads ≤ h.reads
  pub writes : old.writes ≤ h.writes
  pub written : h.written ≡ old.written
  pub asks : AsksFor s.access m (Patient p.waiter p.limit_ms)
  pub closes_is : p.closes ≡ asks_close m
  pub patient : IsPatient IsReading old.pass p h.pass

-- All requests but the last were answered; the last is of several lines, of which these were called, the replies to these stand, and nothing was written.
pub record IsCalling (IsReading : ℕ → Type 0) (s : Start) (h : Here) (script : Script) (cs said : List LineCalled) : Type 0 where
  pub old : Here
  pub m : RequestMessage
  pub lines : List LineAsk
  pub talks : Talks IsReading s old Goes
  pub takes : Takes old.stand (m ∷ []) h.stand
  pub reads : old.reads ≤ h.reads
  pub writes : old.writes ≤ h.writes
  pub written : h.written ≡ old.written
  pub asks : AsksFor s.access m (Lines lines)
  pub closes_is : script.closes ≡ asks_close m
  pub called : HasCalled IsReading old.pass lines script cs said h.pass

-- each that was called has its reply
abbrev pub IsCallingOn : (ℕ → Type 0) → Start → Here → Script → Type 0
IsCallingOn IsReading s h script = (cs : List LineCalled) × IsCalling IsReading s h script cs cs

-- the last that was called was answered so, and has no reply yet
abbrev pub IsSaying : (ℕ → Type 0) → Start → Here → Script → Form → Result Answered Refusal → Type 0
IsSaying IsReading s h script form answer =
    (said : List LineCalled) × (last : LineCalled) × IsCalling IsReading s h script (said ++ last ∷ []) said × (form ≡ form_of last.line) × (answer ≡ last.answer)

-- ---- a response that is due

-- Its calls were made, and nothing was written for it. Once its response is written, whatever that is, or once a write
-- has failed, the connection is one that goes on, or has ended, so.
pub record IsDue (IsReading : ℕ → Type 0) (s : Start) (h : Here) (told : Telling) : Type 0 where
  pub whole : (out : List ℕ) (w : Option (List ℕ)) (k : ℕ) → Says told.said told.closes out → h.writes ≤ k → Gains h.written w out → TurnsTo IsReading s (record h { written = w; writes = k }) told.after
  pub part : (out : List ℕ) (w : Option (List ℕ)) (k : ℕ) → Says told.said told.closes out → Rose h.writes k → GainsPart h.written w out → Ends IsReading s (record h { written = w; writes = k }) WriteFault

-- Some of its bytes were written behind what was given before. Once all are, or once a write has failed, the
-- connection is one that goes on, or has ended, so.
pub record Owes (IsReading : ℕ → Type 0) (s : Start) (h : Here) (out : Outgoing) : Type 0 where
  pub before : Option (List ℕ)
  pub wrote : Gains before h.written (take out.at out.bytes.items)
  pub whole : (w : Option (List ℕ)) (k : ℕ) → h.writes ≤ k → Gains before w out.bytes.items → TurnsTo IsReading s (record h { written = w; writes = k }) out.after
  pub part : (w : Option (List ℕ)) (k : ℕ) → Rose h.writes k → GainsPart before w out.bytes.items → Ends IsReading s (record h { written = w; writes = k }) WriteFault

-- ---- what it does

-- as far as it has come
abbrev pub IsDoing : (ℕ → Type 0) → Start → Here → Doing → Type 0
IsDoing IsReading s h Reads = Talks IsReading s h Goes
IsDoing IsReading s h (Asks p) = IsAsking IsReading s h p
IsDoing IsReading s h (Calls script) = IsCallingOn IsReading s h script
IsDoing IsReading s h (WillSay script form answer) = IsSaying IsReading s h script form answer
IsDoing IsReading s h (Tells told) = IsDue IsReading s h told
IsDoing IsReading s h (Writes out) = Owes IsReading s h out

-- it goes on with this, waits for more of a request, waits with this, or ends
abbrev pub IsNext : (ℕ → Type 0) → Start → Here → Went → Doing → Type 0
IsNext IsReading s h On doing = IsDoing IsReading s h doing
IsNext IsReading s h NothingYet doing = ReadsOut IsReading s h × (doing ≡ Reads)
IsNext IsReading s h Blocked doing = IsDoing IsReading s h doing
IsNext IsReading s h (Over ending) doing = Ends IsReading s h ending

-- behind a request's calls
abbrev pub went_by : Begun → Went
went_by (Done told) = On
went_by (Waits p) = Blocked
went_by (WillCall script) = On
went_by (WasCalled script form answer) = On

-- what it does then
abbrev pub doing_by : Begun → Doing
doing_by (Done told) = Tells told
doing_by (Waits p) = Asks p
doing_by (WillCall script) = Calls script
doing_by (WasCalled script form answer) = WillSay script form answer

-- its call is posted: however that is answered, it goes on with what comes of it
abbrev pub IsPosted : (ℕ → Type 0) → Start → Here → Asking → Pending → Type 0
IsPosted IsReading s h a pending = (answer : Result Answered Refusal) (new : Sitting) (begun : Begun) → GoesByCall a.pass a.reading a.call answer new → IsAnswered pending a.call answer begun
    → IsNext IsReading s (record h { pass = new }) (went_by begun) (doing_by begun)

-- one step, however a connection of this server began
abbrev pub Steps : (ℕ → Type 0) → Access → Here → Doing → Here → Went → Doing → Type 0
Steps IsReading access old doing new went doing_now = (s : Start) → s.access ≡ access → IsDoing IsReading s old doing → IsNext IsReading s new went doing_now

-- ---- with a pass, or with a call that is posted

-- it has posted nothing
abbrev pub IsFree : Seat → Type 0
IsFree seat = (pass : Sitting) × (seat ≡ Free pass)

-- its pass, or that with which it has posted
abbrev pub sitting_of : Seat → Sitting
sitting_of (Free pass) = pass
sitting_of (Posts sent) = sent.posted.pass

-- as far as it has come
abbrev pub IsDoingAt : (ℕ → Type 0) → Start → Here → Seat → Doing → Type 0
IsDoingAt IsReading s h (Free pass) doing = IsDoing IsReading s h doing
IsDoingAt IsReading s h (Posts sent) doing = IsPosted IsReading s h sent.posted sent.pending

-- what comes next
abbrev pub IsNextAt : (ℕ → Type 0) → Start → Here → Seat → Went → Doing → Type 0
IsNextAt IsReading s h (Free pass) went doing = IsNext IsReading s h went doing
IsNextAt IsReading s h (Posts sent) went doing = IsPosted IsReading s h sent.posted sent.pending

-- one step that may post a call
abbrev pub StepsTo : (ℕ → Type 0) → Access → Here → Doing → Here → Seat → Went → Doing → Type 0
StepsTo IsReading access old doing new seat went doing_now = (s : Start) → s.access ≡ access → IsDoing IsReading s old doing → IsNextAt IsReading s new seat went doing_now

-- it goes on with this, or has ended
abbrev pub GoesTo : (ℕ → Type 0) → Start → Here → Option Ending → Doing → Type 0
GoesTo IsReading s h None doing = IsDoing IsReading s h doing
GoesTo IsReading s h (Some ending) doing = Ends IsReading s h ending

-- it goes on with this, or with what comes of a call that is posted, or has ended
abbrev pub GoesToAt : (ℕ → Type 0) → Start → Here → Seat → Option Ending → Doing → Type 0
GoesToAt IsReading s h seat None doing = IsDoingAt IsReading s h seat doing
GoesToAt IsReading s h seat (Some ending) doing = Ends IsReading s h ending

-- ---- the calls of what waits, and of lines, are in order

-- that of what a connection does
abbrev pub IsDoingInOrder : Doing → Type 0
IsDoingInOrder Reads = Unit {0}
IsDoingInOrder (Asks p) = IsActInOrder (waiter_call p.waiter).act
IsDoingInOrder (Calls script) = Each IsLineInOrder script.left.items
IsDoingInOrder (WillSay script form answer) = Each IsLineInOrder script.left.items
IsDoingInOrder (Tells told) = Unit {0}
IsDoingInOrder (Writes out) = Unit {0}

-- that of what came of a request's calls
abbrev pub IsBegunInOrder : Begun → Type 0
IsBegunInOrder (Done told) = Unit {0}
IsBegunInOrder (Waits p) = IsActInOrder (waiter_call p.waiter).act
IsBegunInOrder (WillCall script) = Each IsLineInOrder script.left.items
IsBegunInOrder (WasCalled script form answer) = Each IsLineInOrder script.left.items

-- that of a call that is posted for this
abbrev pub IsPendingInOrder : Pending → Call → Type 0
IsPendingInOrder (Once caller closes) call = Unit {0}
IsPendingInOrder (ForWaiter caller limit closes first asked again) call = IsActInOrder call.act
IsPendingInOrder (ForLine script form) call = Each IsLineInOrder script.left.items

-- that of what came of a request
abbrev pub IsAskedInOrder : Asked → Type 0
IsAskedInOrder (AsBegun pass begun) = IsBegunInOrder begun
IsAskedInOrder (AsPosted sent) = IsPendingInOrder sent.pending sent.posted.call

-- that of what a connection does, or of the call that it has posted
abbrev pub IsInOrderAt : Seat → Doing → Type 0
IsInOrderAt (Free pass) doing = IsDoingInOrder doing
IsInOrderAt (Posts sent) doing = IsPendingInOrder sent.pending sent.posted.call

-- whether a call waits
abbrev pub asks : Doing → Bool
asks Reads = false
asks (Asks p) = true
asks (Calls script) = false
asks (WillSay script form answer) = false
asks (Tells told) = false
asks (Writes out) = false

-- ---- how it goes on

-- a refusal is written, if there was memory for it
abbrev pub refused_by : Result (Vec ℕ Global) AllocError → Went
refused_by (Ok v) = On
refused_by (Err e) = Over OutOfMemory

-- what it does then
abbrev pub refusing : Result (Vec ℕ Global) AllocError → Ending → Doing → Doing
refusing (Ok v) ending old = Writes (record { bytes = v; at = 0; after = Some ending })
refusing (Err e) ending old = old

-- a response is written, if there was memory for it
abbrev pub told_by : Option Outgoing → Went
told_by None = Blocked
told_by (Some out) = On

-- what it does then
abbrev pub telling : Option Outgoing → Telling → Doing
telling None told = Tells told
telling (Some out) told = Writes out

-- the reply to a line stands, if there was memory for it
abbrev pub said_by : Bool → Went
said_by false = Blocked
said_by true = On

-- what it does then
abbrev pub saying : Bool → Script → Form → Result Answered Refusal → Doing
saying false script form answer = WillSay script form answer
saying true script form answer = Calls script

-- behind a response
abbrev pub behind : Option Ending → Went
behind None = On
behind (Some ending) = Over ending
