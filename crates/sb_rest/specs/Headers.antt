-- What the headers of a send say of its message.
use Rattle.std.specs.Prelude.{ℕ, Bool, List, [], ◌∷◌, codes, Option, Some, None, Result, Ok, Err, if◌then◌else◌}
use Rattle.std.specs.List.{list_any}
use Rattle.std.specs.Str.{str_to_ascii_lowercase}
use Rattle.sb_http.specs.Fields.{Field, same_word}
use Rattle.sb_lines.specs.declared.fault.KeyFault.{KeyFault}
use Rattle.sb_lines.specs.Faults.{bad_key, or_key, then_by}
use Rattle.sb_lines.specs.Messages.{with_text}
use Rattle.sb_model.specs.Effects.{with_user}
use Rattle.sb_model.specs.declared.message.Message.{Message}
use Rattle.sb_model.specs.declared.message.SystemName.TheVariants.{ContentType}
use Rattle.sb_rest.specs.declared.draft.Draft.{Draft}
use Rattle.sb_rest.specs.Brokers.{no_broker, broker_in}
use Rattle.sb_rest.specs.Reserved.{is_reserved}
use Rattle.sb_rest.specs.Values.{header_value}
use Rattle.sb_routes.specs.Paths.{as_text}

-- ---- one line

-- one of these has this name
abbrev pub stands_in : List Field → List ℕ → Bool
stands_in fields word = list_any (λ f. same_word word f.0) fields

-- the name of the header field of BrokerProperties
abbrev pub broker_name : List ℕ
broker_name = codes "brokerproperties"

-- the name of the header field of the body's type
abbrev pub type_name : List ℕ
type_name = codes "content-type"

-- a user property; its folded name is at fault where the value is no text
abbrev pub with_property : List ℕ → Option (List ℕ) → Draft → Result Draft KeyFault
with_property name None d = Err (bad_key None (str_to_ascii_lowercase name))
with_property name (Some v) d = Ok (record d { props = with_user (str_to_ascii_lowercase name) (Some (header_value v)) d.props })

-- a user property by the name of its header field, if that is one
abbrev pub on_name : Option (List ℕ) → List ℕ → Draft → Result Draft KeyFault
on_name None value d = Ok d
on_name (Some name) value d = with_property name (as_text value) d

-- a draft with the body's type
abbrev pub with_type : List ℕ → Draft → Result Draft KeyFault
with_type value d = then_by (or_key type_name (as_text value)) (λ text. Ok (record d { content_type = text }))

-- a draft with BrokerProperties
abbrev pub with_broker : List ℕ → Draft → Result Draft KeyFault
with_broker value d = then_by (broker_in value) (λ broker. Ok (record d { broker = broker }))

-- what a line says, before those that come later: of BrokerProperties and Content-Type the last alone is read
unfoldable pub heard : Field → List Field → Draft → Result Draft KeyFault
heard f later d =
    if same_word broker_name f.0 then (if stands_in later broker_name then Ok d else with_broker f.1 d)
    else (if same_word type_name f.0 then (if stands_in later type_name then Ok d else with_type f.1 d)
    else (if is_reserved f.0 then Ok d else on_name (as_text f.0) f.1 d))

-- ---- all lines

-- each line in turn, or the first key at fault
unfoldable pub heard_all : List Field → Draft → Result Draft KeyFault
heard_all [] d = Ok d
heard_all (f ∷ later) d = then_by (heard f later d) (heard_all later)

-- where nothing is said
abbrev pub no_draft : Draft
no_draft = record { broker = no_broker; content_type = []; props = [] }

-- a message with this body, of which this is said; an empty ContentType counts as absent
abbrev pub message_from : List ℕ → Draft → Message
message_from body d =
    record { body = body; sys = with_text ContentType d.content_type d.broker.texts; props = d.props; ttl = d.broker.ttl; schedule = d.broker.schedule }

-- the one message of a request with these headers
abbrev pub message_in : List Field → List ℕ → Result (List Message) KeyFault
message_in fields body = then_by (heard_all fields no_draft) (λ d. Ok (message_from body d ∷ []))
