-- BrokerProperties: what an object says of a message beside its body and its user properties.
use Rattle.std.specs.Prelude.{ℕ, ◌*◌, List, [], codes, Option, Some, None, option_map, option_and_then, Result, Ok}
use Rattle.httpdate.specs.Date.{parse_secs}
use Rattle.serde_json.specs.Data.{Data}
use Rattle.serde_json.specs.Find.{as_str, as_object}
use Rattle.serde_json.specs.Read.{read}
use Rattle.sb_lines.specs.declared.fault.KeyFault.{KeyFault}
use Rattle.sb_lines.specs.declared.texts.Nulls.TheVariants.{Absent}
use Rattle.sb_lines.specs.Faults.{or_key, then_by}
use Rattle.sb_lines.specs.Messages.{member_at, broker_texts}
use Rattle.sb_rest.specs.declared.draft.Broker.{Broker}
use Rattle.sb_rest.specs.Lifetimes.{lifetime_in}
use Rattle.sb_routes.specs.Paths.{as_text}

-- where nothing is said
abbrev pub no_broker : Broker
no_broker = record { texts = []; ttl = None; schedule = None }

-- a date of HTTP (RFC 9110, 5.6.7), in ms since 1970
abbrev pub moment_of : List ℕ → Option ℕ
moment_of text = option_map (λ secs. secs * 1000) (parse_secs text)

-- the moment that stands here; left out is none
abbrev pub schedule_from : List ℕ → Option Data → Result (Option ℕ) KeyFault
schedule_from key None = Ok None
schedule_from key (Some d) = then_by (or_key key (option_and_then moment_of (as_str d))) (λ ms. Ok (Some ms))

-- the date at a key; a null counts as absent
abbrev pub schedule_at : List ℕ → Data → Result (Option ℕ) KeyFault
schedule_at key d = schedule_from key (member_at Absent key d)

-- the texts, then the time to live, then the schedule; other keys say nothing
unfoldable pub broker_of : Data → Result Broker KeyFault
broker_of d =
    then_by (broker_texts Absent d) (λ texts.
    then_by (lifetime_in d) (λ ttl.
    then_by (schedule_at (codes "ScheduledEnqueueTimeUtc") d) (λ schedule.
    Ok (record { texts = texts; ttl = ttl; schedule = schedule }))))

-- this, if it is an object
abbrev pub object_itself : Data → Option Data
object_itself d = option_and_then (λ _. Some d) (as_object d)

-- the object that bytes spell
abbrev pub object_in : List ℕ → Option Data
object_in bytes = option_and_then object_itself (option_and_then read (as_text bytes))

-- those that the value of a header spells
abbrev pub broker_in : List ℕ → Result Broker KeyFault
broker_in bytes = then_by (or_key (codes "BrokerProperties") (object_in bytes)) broker_of
