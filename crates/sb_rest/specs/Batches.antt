-- Several messages in one send: a JSON array of objects.
use Rattle.std.specs.Prelude.{ℕ, Bool, false, ◌&&◌, ◌||◌, ◌==◌, List, [], ◌∷◌, fold, length, take, drop, codes, Option, Some, None, option_and_then, Result, Ok, if◌then◌else◌}
use Rattle.std.specs.List.{list_all}
use Rattle.std.specs.Str.{str_to_ascii_lowercase}
use Rattle.form_urlencoded.specs.Form.{split_once}
use Rattle.serde_json.specs.Data.{Data, Items, no_items, item, Members, no_members, member}
use Rattle.serde_json.specs.Find.{get, as_str, as_array, as_object}
use Rattle.serde_json.specs.Read.{read}
use Rattle.sb_http.specs.Fields.{Field, same_word}
use Rattle.sb_lines.specs.declared.fault.KeyFault.{KeyFault}
use Rattle.sb_lines.specs.Faults.{or_key, then_by}
use Rattle.sb_lines.specs.Messages.{unless_null, value_in, before_those}
use Rattle.sb_model.specs.Effects.{with_user}
use Rattle.sb_model.specs.declared.message.Message.{Message}
use Rattle.sb_model.specs.declared.message.Property.{Property}
use Rattle.sb_rest.specs.declared.draft.Broker.{Broker}
use Rattle.sb_rest.specs.Brokers.{no_broker, broker_of, object_itself}
use Rattle.sb_rest.specs.Headers.{type_name, message_from}
use Rattle.sb_routes.specs.Paths.{as_text}

-- ---- the media type

-- a space or a tab
abbrev pub is_blank : ℕ → Bool
is_blank b = b == 32 || b == 9

-- this type in any case, and no more than blanks behind it
abbrev pub is_media_word : List ℕ → List ℕ → Bool
is_media_word media v = same_word media (take (length media) v) && list_all is_blank (drop (length media) v)

-- parameters may stand behind a semicolon (RFC 9110, 8.3.1)
unfoldable pub is_media_type : List ℕ → List ℕ → Bool
is_media_type media v = is_media_word media (split_once 59 v).0

-- whether the type is this one, by this field or by those before
abbrev pub or_type : List ℕ → Bool → Field → Bool
or_type media so_far f = if same_word type_name f.0 then is_media_type media f.1 else so_far

-- of several Content-Type lines the last counts
abbrev pub has_media_type_from : List ℕ → Bool → List Field → Bool
has_media_type_from media so_far fields = fold (or_type media) so_far fields

-- whether the body of a request with these fields is of this type
abbrev pub has_media_type : List ℕ → List Field → Bool
has_media_type media fields = has_media_type_from media false fields

-- the type of a batch
abbrev pub batch_type : List ℕ
batch_type = codes "application/vnd.microsoft.servicebus.json"

-- whether this is the type of a batch
abbrev pub is_batch_type : List ℕ → Bool
is_batch_type v = is_media_type batch_type v

-- whether a request is a batch
abbrev pub is_batch : List Field → Bool
is_batch fields = has_media_type batch_type fields

-- ---- one message

-- the body that stands here; left out is empty
abbrev pub body_from : Option Data → Result (List ℕ) KeyFault
body_from None = Ok []
body_from (Some d) = or_key (codes "Body") (as_str d)

-- the BrokerProperties that stand here; left out say nothing
abbrev pub broker_from : Option Data → Result Broker KeyFault
broker_from None = Ok no_broker
broker_from (Some d) = then_by (or_key (codes "BrokerProperties") (object_itself d)) broker_of

-- a null is left out; else the name is at fault, as it is written, where its value is
abbrev pub property_from : List ℕ → Option Data → List Property → Result (List Property) KeyFault
property_from name None props = Ok props
property_from name (Some d) props = then_by (or_key name (value_in d)) (λ value. Ok (with_user (str_to_ascii_lowercase name) (Some value) props))

-- one after the other, in byte order of the names as they are written: of two that fold alike the last stands
abbrev pub with_members : Members → List Property → Result (List Property) KeyFault
with_members no_members props = Ok props
with_members (member name d ms) props = then_by (property_from name (unless_null d) props) (with_members ms)

-- the user properties that stand here; left out are none
abbrev pub properties_from : Option Data → Result (List Property) KeyFault
properties_from None = Ok []
properties_from (Some d) = then_by (or_key (codes "UserProperties") (as_object d)) (λ ms. with_members ms [])

-- an object; its other keys say nothing
unfoldable pub message_of : Data → Result Message KeyFault
message_of d =
    then_by (or_key (codes "Body") (as_object d)) (λ _.
    then_by (body_from (get (codes "Body") d)) (λ body.
    then_by (broker_from (get (codes "BrokerProperties") d)) (λ broker.
    then_by (properties_from (get (codes "UserProperties") d)) (λ props.
    Ok (message_from body (record { broker = broker; content_type = []; props = props }))))))

-- ---- the array

-- each in turn, or the first key at fault
abbrev pub messages_of : Items → Result (List Message) KeyFault
messages_of no_items = Ok []
messages_of (item d ds) = then_by (message_of d) (λ m. before_those (m ∷ []) (messages_of ds))

-- the array that bytes spell
abbrev pub array_in : List ℕ → Option Items
array_in bytes = option_and_then as_array (option_and_then read (as_text bytes))

-- the messages of a batch, or the key at fault
abbrev pub messages_in : List ℕ → Result (List Message) KeyFault
messages_in body = then_by (or_key (codes "Body") (array_in body)) messages_of
