-- What answers a call over HTTP.
use Rattle.std.specs.Prelude.{◌≡◌, ℕ, Bool, true, false, not, ◌&&◌, if◌then◌else◌, List, [], ◌∷◌, ◌++◌, codes, is_some, Option, Some, None, find, Result, Ok, Err}
use Rattle.std.specs.Fmt.{decimal}
use Rattle.serde_json.specs.Written.{compact_text}
use Rattle.sb_machine.specs.declared.call.Act.{Act}
use Rattle.sb_machine.specs.declared.call.Act.TheVariants.{Send, Cancel, Receive, ReceiveDeferred, Settle, Renew, Accept, SessionRenew, SessionClose, SessionSet, SessionState, Together}
use Rattle.sb_machine.specs.declared.call.Mode.{Mode}
use Rattle.sb_machine.specs.declared.call.Mode.TheVariants.{Lock, Delete}
use Rattle.sb_machine.specs.declared.call.Path.{Path}
use Rattle.sb_machine.specs.declared.call.Token.{Token}
use Rattle.sb_machine.specs.declared.reply.Answered.{Answered}
use Rattle.sb_machine.specs.declared.reply.Answered.TheVariants.{New, Kept}
use Rattle.sb_machine.specs.declared.reply.CopyShown.{CopyShown}
use Rattle.sb_machine.specs.declared.reply.PartRefusal.{PartRefusal}
use Rattle.sb_machine.specs.declared.reply.PartRefusal.TheVariants as why
use Rattle.sb_machine.specs.declared.reply.Receipt.{Receipt}
use Rattle.sb_machine.specs.declared.reply.Receipt.TheVariants.{Number, Duplicate}
use Rattle.sb_machine.specs.declared.reply.Refusal.{Refusal}
use Rattle.sb_machine.specs.declared.reply.Refusal.TheVariants as refusal
use Rattle.sb_machine.specs.declared.reply.Reply.{Reply}
use Rattle.sb_machine.specs.declared.reply.Reply.TheVariants.{Done, Sent, Message, Empty, Expired, Renewed, Session, State, Together as Told}
use Rattle.sb_machine.specs.Parts.{at_part_or_whole}
use Rattle.sb_model.specs.declared.message.Message as message
use Rattle.sb_http.specs.declared.response.Status.{Status}
use Rattle.sb_http.specs.declared.response.Status.TheVariants as status
use Rattle.sb_http.specs.Fields.{Field, same_word}
use Rattle.sb_http.specs.Responses.{ResponseMessage}
use Rattle.sb_lines.specs.declared.form.Form.TheVariants.{Plain}
use Rattle.sb_lines.specs.Refusals.{plain, refusal_data}
use Rattle.sb_lines.specs.Replies.{reply_text}
use Rattle.sb_lines.specs.Shown.{message_text}
use Rattle.sb_routes.specs.declared.routes.Route.{Route}
use Rattle.sb_rest.specs.declared.call.RestFault.{RestFault}
use Rattle.sb_rest.specs.declared.call.RestFault.TheVariants.{Foreign, NoKey, NoRoute, BadMethod, Bad, Script, Page, OutOfMemory}
use Rattle.sb_rest.specs.Calls.{methods_of}
use Rattle.sb_rest.specs.Forms.{json_fields, unasked, fits_head}
use Rattle.sb_rest.specs.Moments.{IsTime, IsUntil}
use Rattle.sb_rest.specs.Pages.{page_response}
use Rattle.sb_rest.specs.Sessions.{accepted_fields}
use Rattle.sb_rest.specs.Shown.{message_fields, place_of, place_text}

-- a status alone
abbrev pub bare : Status → ResponseMessage
bare s = record { status = s; fields = []; body = []; ends = false }

-- ---- refusals

-- of one of the operations that act together: that of the call which asks for it alone
abbrev pub part_status : PartRefusal → Status
part_status (why.BadCall key) = status.BadRequest
part_status why.BadName = status.BadRequest
part_status why.WrongKind = status.BadRequest
part_status why.SessionRequired = status.BadRequest
part_status why.SessionNotAllowed = status.BadRequest
part_status why.TxnScope = status.BadRequest
part_status why.EntityNotFound = status.Gone
part_status (why.TooLarge size) = status.Forbidden
part_status why.TxnFull = status.Forbidden
part_status why.LockLost = status.NotFound
part_status why.SessionLost = status.NotFound
part_status (why.TxnPending txn) = status.Conflict

-- those that no call of a route is answered are an error of the server's own
abbrev pub refusal_status : Refusal → Status
refusal_status (refusal.BadCall key) = status.BadRequest
refusal_status refusal.BadName = status.BadRequest
refusal_status refusal.WrongKind = status.BadRequest
refusal_status refusal.SessionRequired = status.BadRequest
refusal_status refusal.SessionNotAllowed = status.BadRequest
refusal_status refusal.TxnScope = status.BadRequest
refusal_status refusal.EntityNotFound = status.Gone
refusal_status (refusal.TooLarge size) = status.Forbidden
refusal_status (refusal.QuotaExceeded copies adds) = status.Forbidden
refusal_status refusal.TxnFull = status.Forbidden
refusal_status refusal.LockLost = status.NotFound
refusal_status refusal.SessionLost = status.NotFound
refusal_status refusal.NotDeferred = status.NotFound
refusal_status refusal.NotScheduled = status.NotFound
refusal_status refusal.ClientNotFound = status.NotFound
refusal_status (refusal.SessionHeld until) = status.Conflict
refusal_status (refusal.TxnPending txn) = status.Conflict
refusal_status (refusal.StaleNumber kept) = status.Conflict
refusal_status refusal.NumberReused = status.Conflict
refusal_status refusal.ClientsFull = status.Conflict
refusal_status refusal.TxnsFull = status.Conflict
refusal_status (refusal.InPart part reason) = part_status reason
refusal_status refusal.OutOfMemory = status.ServiceUnavailable
refusal_status _ = status.InternalServerError

-- the line of a script without its line feed; of a stopped node the name alone
abbrev pub refusal_text : Refusal → List ℕ
refusal_text (refusal.Stopped faults) = compact_text (plain (codes "Stopped"))
refusal_text r = compact_text (refusal_data r)

-- the connection ends once the disk has failed
abbrev pub refusal_ends : Refusal → Bool
refusal_ends refusal.DiskFault = true
refusal_ends (refusal.Stopped faults) = true
refusal_ends _ = false

-- the response to a refused call
abbrev pub refusal_response : Refusal → ResponseMessage
refusal_response r = record { status = refusal_status r; fields = (codes "Content-Type", codes "application/json") ∷ []; body = refusal_text r; ends = refusal_ends r }

-- somebody holds the session: with the text of the moment from which on it may be asked for again (RFC 9110, 10.2.3)
abbrev pub held_response : ℕ → List ℕ → ResponseMessage
held_response until moment = record { status = status.Conflict; fields = (codes "Content-Type", codes "application/json") ∷ (codes "Retry-After", moment) ∷ []; body = refusal_text (refusal.SessionHeld until); ends = false }

-- this is that response
pub record GivesHeld (until : ℕ) (r : ResponseMessage) : Type 0 where
  pub moment : List ℕ
  pub lives : IsTime until moment
  pub whole : r ≡ held_response until moment

-- this is the response to a call that was refused
abbrev pub GivesRefusal : Refusal → ResponseMessage → Type 0
GivesRefusal (refusal.SessionHeld until) r = GivesHeld until r
GivesRefusal refused r = r ≡ refusal_response refused

-- words behind each other, as lists of header fields have them (RFC 9110, 5.6.1)
abbrev pub and_later : List (List ℕ) → List ℕ
and_later [] = []
and_later (word ∷ words) = codes ", " ++ word ++ and_later words

-- words with commas between them
abbrev pub listed : List (List ℕ) → List ℕ
listed [] = []
listed (word ∷ words) = word ++ and_later words

-- another method than a route's, with those that it has (RFC 9110, 15.5.6)
abbrev pub method_response : Route → ResponseMessage
method_response r = record { status = status.MethodNotAllowed; fields = (codes "Allow", listed (methods_of r)) ∷ []; body = []; ends = false }

-- no key was shown, with how to show it (RFC 9110, 11.6.1; RFC 6750, 3)
abbrev pub key_response : ResponseMessage
key_response = record { status = status.Unauthorized; fields = (codes "WWW-Authenticate", codes "Bearer") ∷ []; body = []; ends = false }

-- where a request is no call; a script line is answered by its reply, and the page is there without one
abbrev pub fault_response : RestFault → ResponseMessage
fault_response Foreign = bare status.Forbidden
fault_response NoKey = key_response
fault_response NoRoute = bare status.NotFound
fault_response (BadMethod r) = method_response r
fault_response (Bad part key) = refusal_response (at_part_or_whole part (refusal.BadCall key))
fault_response Script = bare status.InternalServerError
fault_response Page = page_response
fault_response OutOfMemory = refusal_response refusal.OutOfMemory

-- ---- replies; one that no call of a route is answered is an error of the server's own

-- BrokerProperties with a sequence number alone
abbrev pub number_text : ℕ → List ℕ
number_text n = codes "{\"SequenceNumber\":" ++ decimal n ++ codes "}"

-- the header field of a message's number; a duplicate has none
abbrev pub receipt_fields : Receipt → List Field
receipt_fields (Number n) = (codes "BrokerProperties", number_text n) ∷ []
receipt_fields Duplicate = []

-- the same of the first of several
abbrev pub first_fields : List Receipt → List Field
first_fields [] = []
first_fields (receipt ∷ receipts) = receipt_fields receipt

-- this is one message, with a moment for which it waits
abbrev pub is_one_scheduled : List message.Message → Bool
is_one_scheduled [] = false
is_one_scheduled (m ∷ []) = is_some m.schedule
is_one_scheduled (m ∷ n ∷ ms) = false

-- of one scheduled message its number is told, by which it is cancelled
abbrev pub sent_fields : Bool → List Receipt → List Field
sent_fields is_scheduled receipts = if is_scheduled then first_fields receipts else []

-- the response to a send
abbrev pub sent_response : List message.Message → Reply → ResponseMessage
sent_response messages (Sent receipts) = record { status = status.Created; fields = sent_fields (is_one_scheduled messages) receipts; body = []; ends = false }
sent_response messages _ = bare status.InternalServerError

-- the status of a settlement, of a cancel, and of what is done with a session that is held
abbrev pub settled_status : Reply → Status
settled_status Done = status.Ok
settled_status _ = status.InternalServerError

-- the status of a renewal, of a message's lock or a session's
abbrev pub renewed_status : Reply → Status
renewed_status (Renewed until) = status.Ok
renewed_status _ = status.InternalServerError

-- the status of a receive that gave a message
abbrev pub taken_status : Mode → Status
taken_status Lock = status.Created
taken_status Delete = status.Ok

-- a message whose texts and properties are fields, with the texts of its moments and of the place where it was received
abbrev pub plain_message : List ℕ → Mode → List ℕ → List ℕ → List ℕ → CopyShown → ResponseMessage
plain_message place mode host enqueued until c = record { status = taken_status mode; fields = message_fields host enqueued until place c; body = c.message.body; ends = false }

-- a message that is all in the body, asked for or not
abbrev pub json_message : Bool → List ℕ → Mode → List ℕ → List ℕ → List ℕ → CopyShown → ResponseMessage
json_message json place mode host enqueued until c = record { status = taken_status mode; fields = json_fields host enqueued until place c ++ unasked json; body = message_text c; ends = false }

-- JSON where that is asked for, or where the head would be too large without it
abbrev pub message_response : Bool → List ℕ → Mode → List ℕ → List ℕ → List ℕ → CopyShown → ResponseMessage
message_response json place mode host enqueued until c =
    if not json && fits_head (message_fields host enqueued until place c) then plain_message place mode host enqueued until c else json_message json place mode host enqueued until c

-- this is the response with a message that was received there, under the token of its session, if under one
pub record GivesMessage (from : Path) (session : Option Token) (mode : Mode) (host : List ℕ) (json : Bool) (c : CopyShown) (r : ResponseMessage) : Type 0 where
  pub enqueued : List ℕ
  pub until : List ℕ
  pub entered : IsTime c.enqueued enqueued
  pub locked : IsUntil c.showing until
  pub whole : r ≡ message_response json (place_of from session c.message) mode host enqueued until c

-- this is the response to a receive that was accepted
abbrev pub GivesTaken : Path → Option Token → Mode → List ℕ → Bool → Reply → ResponseMessage → Type 0
GivesTaken from session mode host json (Message c) r = GivesMessage from session mode host json c r
GivesTaken from session mode host json Empty r = r ≡ bare status.NoContent
GivesTaken from session mode host json (Expired n) r = r ≡ bare status.NoContent
GivesTaken from session mode host json _ r = r ≡ bare status.InternalServerError

-- a session that was accepted, with the text of the moment up to which its lock lives
abbrev pub accepted_response : Path → List ℕ → List ℕ → Token → List ℕ → ResponseMessage
accepted_response from host id token until = record { status = status.Created; fields = accepted_fields host (place_text from (Some token) id) id until; body = []; ends = false }

-- this is that response
pub record GivesSession (from : Path) (host id : List ℕ) (token : Token) (moment : ℕ) (r : ResponseMessage) : Type 0 where
  pub until : List ℕ
  pub lives : IsTime moment until
  pub whole : r ≡ accepted_response from host id token until

-- this is the response where a session was asked for
abbrev pub GivesAccepted : Path → List ℕ → Reply → ResponseMessage → Type 0
GivesAccepted from host (Session id token moment) r = GivesSession from host id token moment r
GivesAccepted from host Empty r = r ≡ bare status.NoContent
GivesAccepted from host _ r = r ≡ bare status.InternalServerError

-- these bytes as they are (RFC 2046, 4.5.1)
abbrev pub bytes_response : List ℕ → ResponseMessage
bytes_response bytes = record { status = status.Ok; fields = (codes "Content-Type", codes "application/octet-stream") ∷ []; body = bytes; ends = false }

-- what a session remembers
abbrev pub state_response : Reply → ResponseMessage
state_response (State None) = bare status.NoContent
state_response (State (Some bytes)) = bytes_response bytes
state_response _ = bare status.InternalServerError

-- a reply as the line of a script has it
abbrev pub told_response : Reply → ResponseMessage
told_response reply = record { status = status.Ok; fields = (codes "Content-Type", codes "application/json") ∷ []; body = reply_text Plain reply; ends = false }

-- what became of operations that acted together
abbrev pub together_response : Reply → ResponseMessage
together_response (Told replies) = told_response (Told replies)
together_response _ = bare status.InternalServerError

-- this is the response to a call that was accepted
abbrev pub GivesReply : Act → List ℕ → Bool → Reply → ResponseMessage → Type 0
GivesReply (Send to messages txn) host json reply r = r ≡ sent_response messages reply
GivesReply (Cancel from number) host json reply r = r ≡ bare (settled_status reply)
GivesReply (Receive from mode session) host json reply r = GivesTaken from session mode host json reply r
GivesReply (ReceiveDeferred from number mode session) host json reply r = GivesTaken from session mode host json reply r
GivesReply (Settle from which token session how txn) host json reply r = r ≡ bare (settled_status reply)
GivesReply (Renew from which token) host json reply r = r ≡ bare (renewed_status reply)
GivesReply (Accept from id) host json reply r = GivesAccepted from host reply r
GivesReply (SessionRenew from session) host json reply r = r ≡ bare (renewed_status reply)
GivesReply (SessionClose from session) host json reply r = r ≡ bare (settled_status reply)
GivesReply (SessionSet from session state) host json reply r = r ≡ bare (settled_status reply)
GivesReply (SessionState from session) host json reply r = r ≡ state_response reply
GivesReply (Together entity steps) host json reply r = r ≡ together_response reply
GivesReply _ host json reply r = r ≡ bare status.InternalServerError

-- ---- answers

-- the response that was due the first time, and that it is that
abbrev pub as_kept : ResponseMessage → ResponseMessage
as_kept r = record r { fields = r.fields ++ (codes "Repeat-Kept", codes "true") ∷ [] }

-- in the form that the request which repeats it asks for
abbrev pub GivesKept : Act → List ℕ → Bool → Reply → ResponseMessage → Type 0
GivesKept act host json reply r = (first : ResponseMessage) × GivesReply act host json reply first × (r ≡ as_kept first)

-- this is the response to a call that is answered so, as its act says; host is that of the request, and json whether it asks for messages as JSON
abbrev pub GivesAnswer : Act → Result Answered Refusal → List ℕ → Bool → ResponseMessage → Type 0
GivesAnswer act (Err refused) host json r = GivesRefusal refused r
GivesAnswer act (Ok (Kept reply)) host json r = GivesKept act host json reply r
GivesAnswer act (Ok (New reply)) host json r = GivesReply act host json reply r

-- the host of a request, as it was sent
abbrev pub host_from : Option Field → List ℕ
host_from None = codes "localhost"
host_from (Some f) = f.1

-- the host in a request's header fields; where there is none, localhost
abbrev pub host_in : List Field → List ℕ
host_in fields = host_from (find (λ f. same_word (codes "host") f.0) fields)

-- the line of a reply as the response to a script line
abbrev pub line_response : List ℕ → ResponseMessage
line_response line = record { status = status.Ok; fields = []; body = line; ends = false }
