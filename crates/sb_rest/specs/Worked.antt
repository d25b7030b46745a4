-- Requests that were worked out by hand, and what they ask for.
use Rattle.std.specs.Prelude.{ℕ, Vec, List, [], ◌∷◌, ◌++◌, codes, false, Some, None, Result, Ok}
use Rattle.std.specs.declared.alloc.Global.{Global}
use Rattle.sb_machine.specs.declared.call.Act.{Act}
use Rattle.sb_machine.specs.declared.call.Act.TheVariants.{Cancel, Receive, ReceiveDeferred, Send, Settle, Together}
use Rattle.sb_machine.specs.declared.call.How.{How}
use Rattle.sb_machine.specs.declared.call.Mode.{Mode}
use Rattle.sb_machine.specs.declared.call.Mode.TheVariants.{Lock}
use Rattle.sb_machine.specs.declared.call.Part.TheVariants.{Main}
use Rattle.sb_machine.specs.declared.call.Path.{Path}
use Rattle.sb_machine.specs.declared.call.Step.TheVariants as step
use Rattle.sb_machine.specs.declared.call.Token.{Token}
use Rattle.sb_machine.specs.declared.call.Which.TheVariants.{Id}
use Rattle.sb_machine.specs.declared.reply.CopyShown.{CopyShown}
use Rattle.sb_machine.specs.declared.reply.Showing.TheVariants.{Locked}
use Rattle.sb_model.specs.declared.message.Message.{Message}
use Rattle.sb_model.specs.declared.message.SystemName.TheVariants.{SessionId}
use Rattle.sb_numbers.specs.declared.numbers.Bucket.{Bucket}
use Rattle.sb_numbers.specs.declared.numbers.Counted.{Counted}
use Rattle.sb_numbers.specs.declared.numbers.JournalSizes.{JournalSizes}
use Rattle.sb_numbers.specs.declared.numbers.Numbers.{Numbers}
use Rattle.sb_routes.specs.declared.routes.Address.TheVariants.{Entity}
use Rattle.sb_routes.specs.declared.routes.Route.{Route}
use Rattle.sb_http.specs.declared.response.Status.{Status}
use Rattle.sb_http.specs.Fields.{Field}
use Rattle.sb_http.specs.Messages.{RequestMessage}
use Rattle.sb_http.specs.Responses.{ResponseMessage}
use Rattle.sb_lines.specs.declared.fault.KeyFault.{KeyFault}
use Rattle.sb_rest.specs.declared.access.Access.{Access}
use Rattle.sb_rest.specs.declared.asked.Scope.TheVariants as scope
use Rattle.sb_rest.specs.declared.call.RestFault.{RestFault}
use Rattle.sb_rest.specs.declared.call.Wanted.{Wanted}
use Rattle.sb_rest.specs.declared.draft.Broker.{Broker}
use Rattle.sb_rest.specs.Calls.{in_time, on_route, put}

-- this request of HTTP/1.1 to the host h
abbrev pub request : List ℕ → List ℕ → List Field → List ℕ → RequestMessage
request method target fields body = record { head = record { method = method; target = target; minor = 1; fields = (codes "Host", codes "h") ∷ fields }; body = body }

-- the queue q
abbrev pub q : Path
q = record { name = codes "q"; subscription = None; part = Main }

-- a body and no more
abbrev pub text_alone : List ℕ → Message
text_alone body = record { body = body; sys = []; props = []; ttl = None; schedule = None }

-- one that waits for the fifth second of 1970
abbrev pub waiting : Message
waiting = record { body = codes "hi"; sys = []; props = []; ttl = None; schedule = Some 5000 }

-- a time to live of so many s and no more
abbrev pub living : ℕ → Broker
living ttl = record { texts = []; ttl = Some ttl; schedule = None }

-- "für" and U+1F600 in UTF-8
abbrev pub with_umlaut : List ℕ
with_umlaut = 102 ∷ 195 ∷ 188 ∷ 114 ∷ []

abbrev pub smile : List ℕ
smile = 240 ∷ 159 ∷ 152 ∷ 128 ∷ []

-- these messages to q
abbrev pub sends : List Message → Result Wanted RestFault
sends messages = Ok (in_time None (Send q messages None) 60)

-- a receive that waits so long
abbrev pub takes : ℕ → Result Wanted RestFault
takes timeout = Ok (in_time None (Receive q Lock None) timeout)

-- the same as call 7 of c
abbrev pub takes_as : ℕ → Result Wanted RestFault
takes_as timeout = Ok (in_time (Some (record { client = codes "c"; number = 7 })) (Receive q Lock None) timeout)

-- ---- a message by its number

-- a receive of this deferred message
abbrev pub takes_deferred : ℕ → Mode → ℕ → Result Wanted RestFault
takes_deferred number mode timeout = Ok (in_time None (ReceiveDeferred q number mode None) timeout)

-- this scheduled message is taken back
abbrev pub cancels : ℕ → Result Wanted RestFault
cancels number = Ok (in_time None (Cancel q number) 60)

-- ---- a message under a lock

-- the first lock of the namespace whose salt is a1b2c3d4e5f60718
abbrev pub first_token : Token
first_token = record { salt = 11651590505119483672; lock = 1 }

-- a PUT on the first message of q, with a query
abbrev pub puts : List ℕ → List Field → Result Wanted KeyFault
puts query fields = put (Entity Main) scope.Whole (codes "/q/messages/1/a1b2c3d4-e5f6-0718-0000-000000000001") query fields

-- this becomes of it
abbrev pub settles : How → Result Wanted KeyFault
settles how = Ok (in_time None (Settle q (Id (codes "1")) first_token None how None) 60)

-- why it is a dead letter, by BrokerProperties
abbrev pub why : List ℕ → List Field
why text = (codes "BrokerProperties", text) ∷ []

-- ---- a session

-- a message of the session "a b"
abbrev pub of_session : Message
of_session = record { body = codes "hi"; sys = record { name = SessionId; text = codes "a b" } ∷ []; props = []; ttl = None; schedule = None }

-- a path at the session s of q, which first_token holds
abbrev pub held : List ℕ → List ℕ
held rest = codes "/q/sessions/s/a1b2c3d4-e5f6-0718-0000-000000000001" ++ rest

-- a request on this route, without fields
abbrev pub on : Route → List ℕ → List ℕ → List ℕ → Result Wanted RestFault
on r method target body = on_route (Some r) (request method target [] body)

-- this call, which may wait 60 s
abbrev pub makes : Act → Result Wanted RestFault
makes act = Ok (in_time None act 60)

-- ---- operations that act together

-- a body by which two sends of no messages act together on q
abbrev pub sends_nothing : List ℕ
sends_nothing = codes "{\"do\":\"together\",\"entity\":\"Q\",\"operations\":[{\"do\":\"send\",\"to\":\"q\",\"messages\":[]},{\"do\":\"send\",\"to\":\"q\",\"messages\":[]}]}"

-- they do
abbrev pub acts_together : Act
acts_together = Together q (step.Send q [] ∷ step.Send q [] ∷ [])

-- the same without the messages of the second
abbrev pub sends_half : List ℕ
sends_half = codes "{\"do\":\"together\",\"entity\":\"Q\",\"operations\":[{\"do\":\"send\",\"to\":\"q\",\"messages\":[]},{\"do\":\"send\",\"to\":\"q\"}]}"

-- a call is refused with this status and this body
abbrev pub refused_by : Status → List ℕ → ResponseMessage
refused_by s body = record { status = s; fields = (codes "Content-Type", codes "application/json") ∷ []; body = body; ends = false }

-- ---- who may call

-- all, but for web pages
abbrev pub unlocked : Access
unlocked = record { hosts = []; key = None }

-- who names this host
abbrev pub hosted : Access
hosted = record { hosts = codes "bus" ∷ []; key = None }

-- who shows this key
abbrev pub keyed : Access
keyed = record { hosts = []; key = Some (codes "a-key-of-20-letters.") }

-- so the key is shown
abbrev pub showing : List ℕ → Field
showing value = (codes "Authorization", value)

-- ---- a response

-- the first message of q, received a second after 1970 began
abbrev pub first_copy : CopyShown
first_copy = record { number = 1; enqueued_seq = 1; enqueued = 1000; delivery = 1; message = text_alone (codes "hi"); showing = Locked first_token 61000 }

-- ---- a server

-- a journal with the record of one send
abbrev pub one_record : JournalSizes
one_record = record { records = 1; bytes = 43; syncs = 2 }

-- almost 13 s after its begin, with these calls
abbrev pub young : Vec Counted Global → Vec Bucket Global → Numbers
young calls spent = record {
  uptime_ms = 12999;
  threads = 1;
  workers = 16;
  connections = 1;
  waiting = 0;
  journal = one_record;
  calls = calls;
  spent = spent;
  spent_micros = 240;
  called = 1;
}
