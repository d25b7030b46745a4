-- What an operator sees at a path of its own: whether the namespace acts, how many messages stand how, and what the server does, as the line of the
-- reply has it or for who gathers such numbers (Prometheus, Exposition formats, "Text-based format").
use Rattle.std.specs.Prelude.{◌≡◌, ℕ, ◌-◌, ◌/◌, ◌%◌, nat_lt, Bool, true, false, List, [], ◌∷◌, ◌++◌, codes, length, take, Option, Some, None, Result, Ok, Err, if◌then◌else◌}
use Rattle.std.specs.Fmt.{decimal}
use Rattle.std.specs.List.{flat_map}
use Rattle.serde_json.specs.Written.{compact_text}
use Rattle.sb_machine.specs.declared.call.Act.{Act}
use Rattle.sb_machine.specs.declared.call.Path.{Path}
use Rattle.sb_machine.specs.declared.look.EntityShown.{EntityShown}
use Rattle.sb_machine.specs.declared.look.PartShown.{PartShown}
use Rattle.sb_machine.specs.declared.look.View.TheVariants.{Entities}
use Rattle.sb_machine.specs.declared.reply.Answered.{Answered}
use Rattle.sb_machine.specs.declared.reply.Answered.TheVariants.{New}
use Rattle.sb_machine.specs.declared.reply.Refusal.{Refusal}
use Rattle.sb_machine.specs.declared.reply.Reply.TheVariants.{Seen}
use Rattle.sb_http.specs.declared.response.Status.TheVariants as status
use Rattle.sb_http.specs.Responses.{ResponseMessage}
use Rattle.sb_lines.specs.Replies.{answer_data}
use Rattle.sb_lines.specs.declared.form.Form.TheVariants.{Plain}
use Rattle.sb_numbers.specs.declared.numbers.Numbers.{Numbers}
use Rattle.sb_rest.specs.declared.asked.Sight.{Sight}
use Rattle.sb_rest.specs.declared.asked.Sight.TheVariants as sight
use Rattle.sb_rest.specs.Expositions.{about, label, value_text}
use Rattle.sb_rest.specs.Responses.{GivesAnswer, GivesRefusal, bare, refusal_text, refusal_ends}
use Rattle.sb_rest.specs.ServerNumbers.{server_text, numbers_text}
use Rattle.sb_rest.specs.Shown.{address_text}

-- what is asked for, of this media type
abbrev pub text_response : List ℕ → List ℕ → ResponseMessage
text_response media body = record { status = status.Ok; fields = (codes "Content-Type", media) ∷ []; body = body; ends = false }

-- the media type of JSON (RFC 8259, 11)
abbrev pub json_type : List ℕ
json_type = codes "application/json"

-- ---- whether the namespace acts

-- why it doesn't
abbrev pub unhealthy_response : Refusal → ResponseMessage
unhealthy_response refused = record { status = status.ServiceUnavailable; fields = (codes "Content-Type", json_type) ∷ []; body = refusal_text refused; ends = refusal_ends refused }

-- it does where it answers
abbrev pub health_response : Result Answered Refusal → ResponseMessage
health_response (Ok answered) = text_response json_type (codes "{\"ok\":\"health\"}")
health_response (Err refused) = unhealthy_response refused

-- ---- the line of the reply

-- without its line feed
abbrev pub line_text : Result Answered Refusal → List ℕ
line_text answer = compact_text (answer_data Plain answer)

-- this is the response where the list itself is asked for
abbrev pub GivesLine : Result Answered Refusal → ResponseMessage → Type 0
GivesLine (Err refused) r = GivesRefusal refused r
GivesLine (Ok answered) r = r ≡ text_response json_type (line_text (Ok answered))

-- ---- the same with the numbers of the server

-- without its last byte
abbrev pub without_last : List ℕ → List ℕ
without_last text = take (length text - 1) text

-- one key more, `server`, behind those of the reply's object
unfoldable pub status_text : Result Answered Refusal → Numbers → List ℕ
status_text answer numbers = without_last (line_text answer) ++ codes ",\"server\":" ++ server_text numbers ++ codes "}"

-- this is the response where the list is asked for with them
abbrev pub GivesStatus : Result Answered Refusal → Numbers → ResponseMessage → Type 0
GivesStatus (Err refused) numbers r = GivesRefusal refused r
GivesStatus (Ok answered) numbers r = r ≡ text_response json_type (status_text (Ok answered) numbers)

-- ---- metrics

abbrev pub metrics_type : List ℕ
metrics_type = codes "text/plain; version=0.0.4; charset=utf-8"

-- a metric of an entity, by its address: a name has small letters, digits and `._-` alone, so it needs no escapes in quotes
unfoldable pub of_entity : List ℕ → Path → List ℕ
of_entity name path = name ++ codes "{entity=\"" ++ address_text path ++ codes "\""

-- how many messages of a part stand so
unfoldable pub messages_line : Path → List ℕ → List ℕ → ℕ → List ℕ
messages_line path part state n = of_entity (codes "zolmutarn_messages") path ++ label (codes "part") part ++ label (codes "state") state ++ value_text (decimal n)

-- how many messages of a part stand how
unfoldable pub part_lines : Path → List ℕ → PartShown → List ℕ
part_lines path part shown =
    messages_line path part (codes "ready") shown.ready
    ++ messages_line path part (codes "held") shown.held
    ++ messages_line path part (codes "deferred") shown.deferred
    ++ messages_line path part (codes "scheduled") shown.scheduled

-- the same of an entity
unfoldable pub messages_lines : EntityShown → List ℕ
messages_lines e = part_lines e.path (codes "main") e.main ++ part_lines e.path (codes "dead") e.dead ++ part_lines e.path (codes "transfer") e.transfer

-- a moment in ms since 1970, in seconds with three decimals
unfoldable pub seconds_text : ℕ → List ℕ
seconds_text ms = decimal (ms / 1000) ++ codes "." ++ decimal (ms / 100 % 10) ++ decimal (ms / 10 % 10) ++ decimal (ms % 10)

-- when the oldest message that may be received was enqueued, if there is one
unfoldable pub oldest_line : Path → List ℕ → Option ℕ → List ℕ
oldest_line path part None = []
oldest_line path part (Some ms) = of_entity (codes "zolmutarn_oldest_seconds") path ++ label (codes "part") part ++ value_text (seconds_text ms)

-- the same of an entity
unfoldable pub oldest_lines : EntityShown → List ℕ
oldest_lines e = oldest_line e.path (codes "main") e.main.oldest ++ oldest_line e.path (codes "dead") e.dead.oldest ++ oldest_line e.path (codes "transfer") e.transfer.oldest

-- how many sessions
unfoldable pub sessions_line : Path → List ℕ → ℕ → List ℕ
sessions_line path state n = of_entity (codes "zolmutarn_sessions") path ++ label (codes "state") state ++ value_text (decimal n)

-- those of an entity that are held, and all that are known, if there is one
unfoldable pub sessions_lines : EntityShown → List ℕ
sessions_lines e = if nat_lt 0 e.sessions then sessions_line e.path (codes "held") e.held_sessions ++ sessions_line e.path (codes "known") e.sessions else []

-- what each metric is
unfoldable pub messages_about : List ℕ
messages_about = about (codes "zolmutarn_messages") (codes "gauge") (codes "Messages of a part of an entity, by state.")

unfoldable pub oldest_about : List ℕ
oldest_about =
    about (codes "zolmutarn_oldest_seconds") (codes "gauge")
    (codes "EnqueuedTime of the oldest message that may be received, in seconds since 1970: time() - it is its age.")

unfoldable pub sessions_about : List ℕ
sessions_about = about (codes "zolmutarn_sessions") (codes "gauge") (codes "Sessions of an entity that are held, and all that are known.")

-- the lines of a metric stand together, in order of the entities: of messages
unfoldable pub messages_text : List EntityShown → List ℕ
messages_text rows = messages_about ++ flat_map messages_lines rows

-- of the oldest
unfoldable pub oldest_text : List EntityShown → List ℕ
oldest_text rows = oldest_about ++ flat_map oldest_lines rows

-- of sessions
unfoldable pub sessions_text : List EntityShown → List ℕ
sessions_text rows = sessions_about ++ flat_map sessions_lines rows

-- all metrics, those of the server behind those of the entities
unfoldable pub metrics_text : List EntityShown → Numbers → List ℕ
metrics_text rows numbers = messages_text rows ++ oldest_text rows ++ sessions_text rows ++ numbers_text numbers

-- this is the response where they are asked for; another reply is an error of the server's own
abbrev pub GivesMetrics : Result Answered Refusal → Numbers → ResponseMessage → Type 0
GivesMetrics (Err refused) numbers r = GivesRefusal refused r
GivesMetrics (Ok (New (Seen (Entities rows)))) numbers r = r ≡ text_response metrics_type (metrics_text rows numbers)
GivesMetrics (Ok _) numbers r = r ≡ bare status.InternalServerError

-- ---- answers

-- this is the response to a call that is answered so, where this is asked for; host is that of the request, json whether it asks for messages as JSON,
-- and the numbers are the server's
abbrev pub Gives : Sight → Act → Result Answered Refusal → List ℕ → Bool → Numbers → ResponseMessage → Type 0
Gives sight.Reply act answer host json numbers r = GivesAnswer act answer host json r
Gives sight.Health act answer host json numbers r = r ≡ health_response answer
Gives sight.Line act answer host json numbers r = GivesLine answer r
Gives sight.Status act answer host json numbers r = GivesStatus answer numbers r
Gives sight.Metrics act answer host json numbers r = GivesMetrics answer numbers r

-- whether it has some of these numbers
abbrev pub shows_numbers : Sight → Bool
shows_numbers sight.Reply = false
shows_numbers sight.Health = false
shows_numbers sight.Line = false
shows_numbers sight.Status = true
shows_numbers sight.Metrics = true
