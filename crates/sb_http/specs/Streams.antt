-- The requests of a stream, and how taking them goes on.
use Rattle.std.specs.Prelude.{◌≡◌, ℕ, ◌<◌, List, [], ◌∷◌, ◌++◌, Result, Ok, Err, Option, Some, None}
use Rattle.sb_http.specs.declared.fault.HttpFault.{HttpFault}
use Rattle.sb_http.specs.Messages.{RequestMessage, ReadsMessage}
use Rattle.sb_http.specs.Stages.{at_head, Left, whole, held, Reads, Continues}
use Rattle.sb_http.specs.Causes.{HasNone, Waits, Refuses}

-- The stream is these requests in order, and what is left behind them. Nothing is said of how it came.
abbrev pub Requests : List ℕ → List RequestMessage → Left → Type 0
Requests stream [] left = Continues (whole stream) left
Requests stream (m ∷ ms) left = (rest : List ℕ) × ReadsMessage stream m rest × Requests rest ms left

-- A request was taken whole, and what follows it is left; or none is there yet; or what is left is
-- refused.
abbrev pub Answers : Left → Result (Option RequestMessage) HttpFault → Left → Type 0
Answers old (Ok (Some m)) new = Reads old m new.bytes × (new.stage ≡ at_head)
Answers old (Ok None) new = Continues old new × Waits new × HasNone old
Answers old (Err fault) new = Continues old new × Refuses fault new

-- the requests that one answer takes
abbrev pub taken : Result (Option RequestMessage) HttpFault → List RequestMessage
taken (Ok (Some m)) = m ∷ []
taken (Ok None) = []
taken (Err fault) = []

-- the fault of an answer
abbrev pub fault_of : Result (Option RequestMessage) HttpFault → Option HttpFault
fault_of (Ok o) = None
fault_of (Err fault) = Some fault

-- what is fed stands behind what is left, of whatever stream that is the rest
abbrev pub FeedGoesOn : Left → List ℕ → Left → Type 0
FeedGoesOn old piece new = (stream : List ℕ) (ms : List RequestMessage) → Requests stream ms old → Requests (stream ++ piece) ms new

-- what is taken is the next request, of whatever stream the old is the rest
abbrev pub AnswerGoesOn : Left → Result (Option RequestMessage) HttpFault → Left → Type 0
AnswerGoesOn old result new = (stream : List ℕ) (ms : List RequestMessage) → Requests stream ms old → Requests stream (ms ++ taken result) new

-- less is left behind a request
abbrev pub Shortens : Left → Result (Option RequestMessage) HttpFault → Left → Type 0
Shortens old (Ok (Some m)) new = held new < held old
Shortens old (Ok None) new = Unit {0}
Shortens old (Err fault) new = Unit {0}

-- what an `Incoming` stands for: what is left of the stream, and the fault that was met there
pub record Pending : Type 0 where
  pub left : Left
  pub fault : Option HttpFault

-- what was refused stays refused by that fault; else it is an answer, and a fault is kept
abbrev pub AnswersAt : Option HttpFault → Left → Result (Option RequestMessage) HttpFault → Pending → Type 0
AnswersAt (Some fault) old result new = (result ≡ Err fault) × (new.fault ≡ Some fault) × (new.left ≡ old) × Refuses fault new.left
AnswersAt None old result new = Answers old result new.left × (new.fault ≡ fault_of result) × AnswerGoesOn old result new.left × Shortens old result new.left

-- what the next request is answered by
abbrev pub NextAnswers : Pending → Result (Option RequestMessage) HttpFault → Pending → Type 0
NextAnswers old result new = AnswersAt old.fault old.left result new

-- a whole request stands here, or a fault was met
abbrev pub IsReadyAt : Option HttpFault → Left → Type 0
IsReadyAt (Some fault) left = Unit {0}
IsReadyAt None left = (m : RequestMessage) × (rest : List ℕ) × Reads left m rest

-- a whole request stands in what is left of the stream, or a fault was met
abbrev pub IsReady : Pending → Type 0
IsReady pending = IsReadyAt pending.fault pending.left

-- Of one stream there are no other requests: where none more is whole behind either, they are the same.
abbrev pub AreTheRequests : Type 0
AreTheRequests = (stream : List ℕ) (ms ns : List RequestMessage) (a b : Left) → Requests stream ms a → Requests stream ns b → HasNone a → HasNone b → ms ≡ ns

-- Bytes begin with at most one request, however they go on.
abbrev pub BeginsWithOne : Type 0
BeginsWithOne = (bytes more : List ℕ) (m k : RequestMessage) (rest behind : List ℕ) → ReadsMessage bytes m rest → ReadsMessage (bytes ++ more) k behind → (m ≡ k) × (rest ++ more ≡ behind)
