-- A connection as far as it has come, and how it ends. `IsReading` holds of what the worker's clock may read.
use Rattle.std.specs.Prelude.{◌≡◌, ◌⊎◌, ℕ, ◌^◌, ◌≤◌, ◌<◌, List, [], ◌∷◌, ◌++◌, length, true, Option, Some, None}
use Rattle.sb_machine.specs.declared.history.Entry.{Entry}
use Rattle.sb_desk.specs.Desks.{Sitting}
use Rattle.sb_outside.specs.Causes.{Rose}
use Rattle.sb_outside.specs.Streams.{Gains, GainsPart}
use Rattle.sb_outside.specs.declared.conn.Conn.{Ghosts as Conn}
use Rattle.sb_http.specs.declared.fault.HttpFault.{HttpFault}
use Rattle.sb_http.specs.declared.fault.HttpFault.TheVariants.{BadHead as HeadBad, HeadTooLarge as HeadLarge, BodyTooLarge as BodyLarge}
use Rattle.sb_http.specs.declared.response.Status.{Status}
use Rattle.sb_http.specs.declared.response.Status.TheVariants.{BadRequest, PayloadTooLarge, HeaderFieldsTooLarge}
use Rattle.sb_http.specs.Causes.{Refuses}
use Rattle.sb_http.specs.Messages.{RequestMessage}
use Rattle.sb_http.specs.Responses.{ResponseMessage, response_bytes}
use Rattle.sb_http.specs.Stages.{whole, held}
use Rattle.sb_http.specs.Streams.{Requests}
use Rattle.sb_rest.specs.declared.access.Access.{Access}
use Rattle.sb_server.specs.declared.inbox.Inbox.{Inbox}
use Rattle.sb_server.specs.declared.limits.Limits.{Limits}
use Rattle.sb_server.specs.declared.telling.Turn.{Turn}
use Rattle.sb_server.specs.declared.telling.Turn.TheVariants.{Goes, Closes, Stops}
use Rattle.sb_server.specs.declared.ending.Ending.{Ending}
use Rattle.sb_server.specs.declared.ending.Ending.TheVariants.{Closed, BadHead, HeadTooLarge, BodyTooLarge, Truncated, LongConnection, ReadFault, Gone, WriteFault, Slow, Stopped, OutOfMemory}
use Rattle.sb_server.specs.Reads.{Stand, HasRead, IsDone, NeedsMore, stand_of}
use Rattle.sb_server.specs.Responds.{GivenUp, Responds}
use Rattle.sb_server.specs.Times.{Passed, with_bytes}
use Rattle.sb_server.specs.Waiting.{GoesBy}

-- How a connection began: whom the server answers, its limits of time, the pass, what it has left and what it was given, where it tells,
-- and its counts of faults.
pub record Start : Type 0 where
  pub access : Access
  pub limits : Limits
  pub pass : Sitting
  pub there : Option (List ℕ)
  pub given : Option (List ℕ)
  pub reads : ℕ
  pub writes : ℕ

-- where it stands
pub record Here : Type 0 where
  pub pass : Sitting
  pub stand : Stand
  pub written : Option (List ℕ)
  pub reads : ℕ
  pub writes : ℕ

-- how a connection began, by its ghost values
abbrev pub start_of : {X : Type 0} → Conn X → Access → Limits → Sitting → X → Start
start_of conn access limits pass c = record { access = access; limits = limits; pass = pass; there = conn.left c; given = conn.given c; reads = conn.reads c; writes = conn.writes c }

-- where one stands that was read so far
abbrev pub here_at : {X : Type 0} → Conn X → Sitting → Stand → X → Here
here_at conn pass stand c = record { pass = pass; stand = stand; written = conn.given c; reads = conn.reads c; writes = conn.writes c }

-- where one stands with what came of it and wasn't fed yet
abbrev pub here_with : {X : Type 0} → Conn X → Sitting → Inbox → X → Here
here_with conn pass inbox c = here_at conn pass (stand_of inbox (conn.left c)) c

-- A connection as far as it has come: the requests taken of the bytes that were fed, the entries of their calls, all
-- their responses, which were written, and how it goes on.
pub record Talks (IsReading : ℕ → Type 0) (s : Start) (h : Here) (turn : Turn) : Type 0 where
  pub fed : List ℕ
  pub ms : List RequestMessage
  pub made : List Entry
  pub out : List ℕ
  pub requests : Requests fed ms h.stand.left
  pub read : HasRead s.there fed h.stand.there
  pub count : h.stand.fed ≡ length fed
  pub goes : GoesBy s.pass made h.pass
  pub responds : Responds IsReading s.access s.pass.seat ms made out turn
  pub wrote : Gains s.given h.written out
  pub reads : s.reads ≤ h.reads
  pub writes : s.writes ≤ h.writes

-- ---- what is refused

-- the status of the response to a faulty request
abbrev pub refusal_status : HttpFault → Status
refusal_status HeadBad = BadRequest
refusal_status HeadLarge = HeaderFieldsTooLarge
refusal_status BodyLarge = PayloadTooLarge

-- the response, which ends the connection
abbrev pub refusal_said : HttpFault → ResponseMessage
refusal_said fault = record { status = refusal_status fault; fields = []; body = []; ends = true }

-- the response to a faulty request
abbrev pub refusal_bytes : HttpFault → List ℕ
refusal_bytes fault = response_bytes (refusal_said fault)

-- how a connection ends behind it
abbrev pub refusal_ending : HttpFault → Ending
refusal_ending HeadBad = BadHead
refusal_ending HeadLarge = HeadTooLarge
refusal_ending BodyLarge = BodyTooLarge

-- all responses were written, and behind them that of a refusal, which has its cause
pub record IsRefused (IsReading : ℕ → Type 0) (s : Start) (h : Here) (fault : HttpFault) : Type 0 where
  pub before : Option (List ℕ)
  pub talks : Talks IsReading s (record h { written = before }) Goes
  pub wrote : Gains before h.written (refusal_bytes fault)
  pub cause : Refuses fault h.stand.left

-- ---- what is cut off

-- what was to be written: the responses, or these and that of a refusal, which has its cause
abbrev pub IsAll : Here → Turn → List ℕ → List ℕ → Type 0
IsAll h turn out all = (all ≡ out) ⊎ ((fault : HttpFault) × (turn ≡ Goes) × Refuses fault h.stand.left × (all ≡ out ++ refusal_bytes fault))

-- a front of it was written
pub record Parts (IsReading : ℕ → Type 0) (s : Start) (h : Here) : Type 0 where
  pub fed : List ℕ
  pub ms : List RequestMessage
  pub made : List Entry
  pub out : List ℕ
  pub turn : Turn
  pub all : List ℕ
  pub requests : Requests fed ms h.stand.left
  pub read : HasRead s.there fed h.stand.there
  pub goes : GoesBy s.pass made h.pass
  pub responds : Responds IsReading s.access s.pass.seat ms made out turn
  pub all_is : IsAll h turn out all
  pub wrote : GainsPart s.given h.written all

-- ---- who has gone

-- These were due, where the other side has ended, or a read has failed, while a call waited: the responses to all
-- requests but the last, and that of the last, which is given up; all that was read was fed.
pub record Leaves (IsReading : ℕ → Type 0) (s : Start) (h : Here) (all : List ℕ) : Type 0 where
  pub fed : List ℕ
  pub ms : List RequestMessage
  pub m : RequestMessage
  pub made : List Entry
  pub mine : List Entry
  pub out : List ℕ
  pub said : List ℕ
  pub requests : Requests fed (ms ++ m ∷ []) h.stand.left
  pub read : HasRead s.there fed h.stand.there
  pub goes : GoesBy s.pass (made ++ mine) h.pass
  pub responds : Responds IsReading s.access s.pass.seat ms made out Goes
  pub given_up : GivenUp IsReading s.access s.pass.seat m mine said
  pub all_is : all ≡ out ++ said
  pub cause : IsDone s.there h.stand.there ⊎ Rose s.reads h.reads
  pub all_fed : h.stand.unfed ≡ []

-- all of it was written
abbrev pub HasGone : (ℕ → Type 0) → Start → Here → Type 0
HasGone IsReading s h = (all : List ℕ) × Leaves IsReading s h all × Gains s.given h.written all

-- a front of it was
abbrev pub LeavesPart : (ℕ → Type 0) → Start → Here → Type 0
LeavesPart IsReading s h = (all : List ℕ) × Leaves IsReading s h all × GainsPart s.given h.written all

-- ---- how it ends

-- where reading ended, all that was read was fed, and each request that had come whole was taken
abbrev pub ReadsOut : (ℕ → Type 0) → Start → Here → Type 0
ReadsOut IsReading s h = Talks IsReading s h Goes × NeedsMore h.stand

-- the limit of the next request has passed: none has begun, or one has and isn't whole
abbrev pub IsUnasked : (ℕ → Type 0) → Start → Here → Type 0
IsUnasked IsReading s h =
    ((h.stand.left ≡ whole []) × Passed IsReading s.limits.idle_ms) ⊎ ((0 < held h.stand.left) × Passed IsReading (with_bytes s.limits.request_ms (held h.stand.left)))

-- The other side was too slow: no request is whole and the limit has passed, or a front of what was to be written was
-- written, and the limit of a response has passed.
abbrev pub IsSlow : (ℕ → Type 0) → Start → Here → Type 0
IsSlow IsReading s h = (ReadsOut IsReading s h × IsUnasked IsReading s h) ⊎ ((Parts IsReading s h ⊎ LeavesPart IsReading s h) × Passed IsReading s.limits.request_ms)

-- each ending by its cause; want of memory comes only where each request that was taken is answered
abbrev pub Ends : (ℕ → Type 0) → Start → Here → Ending → Type 0
Ends IsReading s h Closed = Talks IsReading s h Closes ⊎ (ReadsOut IsReading s h × IsDone s.there h.stand.there × (h.stand.left ≡ whole []))
Ends IsReading s h Stopped = Talks IsReading s h Stops
Ends IsReading s h Truncated = ReadsOut IsReading s h × IsDone s.there h.stand.there × (0 < held h.stand.left)
Ends IsReading s h LongConnection = ReadsOut IsReading s h × (2 ^ 32 ≤ h.stand.fed)
Ends IsReading s h ReadFault = ReadsOut IsReading s h × Rose s.reads h.reads
Ends IsReading s h BadHead = IsRefused IsReading s h HeadBad
Ends IsReading s h HeadTooLarge = IsRefused IsReading s h HeadLarge
Ends IsReading s h BodyTooLarge = IsRefused IsReading s h BodyLarge
Ends IsReading s h Gone = HasGone IsReading s h
Ends IsReading s h WriteFault = (Parts IsReading s h ⊎ LeavesPart IsReading s h) × Rose s.writes h.writes
Ends IsReading s h Slow = IsSlow IsReading s h
Ends IsReading s h OutOfMemory = Talks IsReading s h Goes

-- it goes on, or ends
abbrev pub TurnsTo : (ℕ → Type 0) → Start → Here → Option Ending → Type 0
TurnsTo IsReading s h None = Talks IsReading s h Goes
TurnsTo IsReading s h (Some ending) = Ends IsReading s h ending

-- how it goes on after a response
abbrev pub ending_of : Turn → Option Ending
ending_of Goes = None
ending_of Closes = Some Closed
ending_of Stops = Some Stopped
