-- What the fields of `Buffer` stand for, and what its steps answer. No other crate needs these words.
use Rattle.std.specs.Prelude.{◌≡◌, ℕ, ◌≤◌, ◌<◌, List, Bool, true, false, length, drop, slice_range, Result, Ok, Err, Option, Some, None}
use Rattle.httparse.specs.Spans.{IsRequestWithin}
use Rattle.sb_http.specs.declared.fault.HttpFault.{HttpFault}
use Rattle.sb_http.specs.declared.places.Next.{Next}
use Rattle.sb_http.specs.declared.places.Next.TheVariants.{Head as NextHead, Body as NextBody, Line as NextLine, Data as NextData, Trailers as NextTrailers}
use Rattle.sb_http.specs.declared.places.Shape.{Shape}
use Rattle.sb_http.specs.declared.places.Step.{Step}
use Rattle.sb_http.specs.declared.places.Step.TheVariants.{Goes, Waits as StepWaits, Whole}
use Rattle.sb_http.specs.declared.buffer.Buffer.{Buffer}
use Rattle.sb_http.specs.Messages.{RequestMessage}
use Rattle.sb_http.specs.Stages.{Left, whole, at_head, at_body, at_line, at_data, at_trailers, held, Reads, Continues}
use Rattle.sb_http.specs.Bodies.{max_buffer}
use Rattle.sb_http.specs.Causes.{HasNone, Waits, Refuses}
use Rattle.sb_http.specs.Found.{head_at}

-- what is left, by what comes next
abbrev pub left_by : Next → Buffer → Left
left_by NextHead i = whole (drop i.start i.bytes.items)
left_by NextBody i = record { stage = at_body (slice_range i.bytes.items i.start i.body) i.to_come; bytes = drop i.raw i.bytes.items }
left_by NextLine i = record { stage = at_line (slice_range i.bytes.items i.start i.body) (slice_range i.bytes.items i.body i.done); bytes = drop i.raw i.bytes.items }
left_by NextData i = record { stage = at_data (slice_range i.bytes.items i.start i.body) (slice_range i.bytes.items i.body i.done) i.to_come; bytes = drop i.raw i.bytes.items }
left_by NextTrailers i = record { stage = at_trailers (slice_range i.bytes.items i.start i.body) (slice_range i.bytes.items i.body i.done); bytes = drop i.raw i.bytes.items }

-- what is left of the stream
abbrev pub left_of : Buffer → Left
left_of i = left_by i.next i

-- the request that lies so in the buffer
abbrev pub message_at : Buffer → Shape → RequestMessage
message_at i s = record { head = head_at (slice_range i.bytes.items s.start s.body) i.spans s.head; body = slice_range i.bytes.items s.body s.end }

-- the request lies in the buffer, and what follows it
pub record IsShape (i : Buffer) (s : Shape) : Type 0 where
  pub head : IsRequestWithin (slice_range i.bytes.items s.start s.body) i.spans s.head
  pub begins : s.start ≤ s.body
  pub has_body : s.body ≤ s.end
  pub ends : s.end ≤ s.rest
  pub within : s.rest ≤ length i.bytes.items

-- what one step answers
abbrev pub StepAnswers : Left → Result Step HttpFault → Buffer → Type 0
StepAnswers old (Ok Goes) new = Continues old (left_of new) × (length (left_of new).bytes < length old.bytes)
StepAnswers old (Ok StepWaits) new = (left_of new ≡ old) × Waits old
StepAnswers old (Ok (Whole s)) new = (left_of new ≡ old) × IsShape new s × Reads old (message_at new s) (drop s.rest new.bytes.items)
StepAnswers old (Err fault) new = (left_of new ≡ old) × Refuses fault old

-- what reading on as far as it goes answers
abbrev pub SettleAnswers : Left → Result (Option Shape) HttpFault → Buffer → Type 0
SettleAnswers old (Ok None) new = Continues old (left_of new) × Waits (left_of new)
SettleAnswers old (Ok (Some s)) new = Continues old (left_of new) × IsShape new s × Reads old (message_at new s) (drop s.rest new.bytes.items)
SettleAnswers old (Err fault) new = Continues old (left_of new) × Refuses fault (left_of new)

-- the same, where a whole request was taken
abbrev pub TakeAnswers : Left → Result (Option Shape) HttpFault → Buffer → Type 0
TakeAnswers old (Ok None) new = Continues old (left_of new) × Waits (left_of new) × HasNone old
TakeAnswers old (Ok (Some s)) new = IsShape new s × Reads old (message_at new s) (left_of new).bytes × ((left_of new).stage ≡ at_head)
TakeAnswers old (Err fault) new = Continues old (left_of new) × Refuses fault (left_of new)

-- the answer, of a request that lies in the buffer
abbrev pub shown : Buffer → Result (Option Shape) HttpFault → Result (Option RequestMessage) HttpFault
shown i (Ok None) = Ok None
shown i (Ok (Some s)) = Ok (Some (message_at i s))
shown i (Err fault) = Err fault

-- the same, where it is only said whether a whole request stands there; where none does, there is room
abbrev pub ReadsOn : Left → Result Bool HttpFault → Left → Type 0
ReadsOn old (Ok true) new = Continues old new × ((m : RequestMessage) × (rest : List ℕ) × Reads new m rest)
ReadsOn old (Ok false) new = Continues old new × (held new < max_buffer)
ReadsOn old (Err fault) new = Continues old new × Refuses fault new
