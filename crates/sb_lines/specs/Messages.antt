-- Messages, and what a correlation filter asks for.
use Rattle.std.specs.Prelude.{ℕ, List, [], ◌∷◌, ◌++◌, length, Bool, ◌||◌, nat_le, codes, bytes_eq, if◌then◌else◌, Option, Some, None, option_map, option_and_then, Result, Ok, Err}
use Rattle.std.specs.Result.{result_ok}
use Rattle.std.specs.Str.{str_to_ascii_lowercase}
use Rattle.serde_json.specs.Data.{Data, null, boolean, number, string, array, object, Items, no_items, item, Members, no_members, member}
use Rattle.serde_json.specs.Find.{get, as_str, as_i64, as_array, as_object}
use Rattle.sb_model.specs.Effects.{with_user}
use Rattle.sb_model.specs.SystemNames.{system_name}
use Rattle.sb_model.specs.declared.message.Message.{Message}
use Rattle.sb_model.specs.declared.message.Property.{Property}
use Rattle.sb_model.specs.declared.message.PropertyValue.{PropertyValue}
use Rattle.sb_model.specs.declared.message.PropertyValue.TheVariants.{Int, Text, Bool as Truth}
use Rattle.sb_model.specs.declared.message.SystemName.{SystemName}
use Rattle.sb_model.specs.declared.message.SystemName.TheVariants.{MessageId, Label, CorrelationId, SessionId, To, ReplyTo, ReplyToSessionId, ContentType}
use Rattle.sb_model.specs.declared.message.SystemText.{SystemText}
use Rattle.sb_amqp.specs.Found.{message_in}
use Rattle.sb_machine.specs.Fields.{is_between, max_ttl}
use Rattle.sb_machine.specs.declared.rule.Conditions.{Conditions}
use Rattle.sb_lines.specs.declared.fault.KeyFault.{KeyFault}
use Rattle.sb_lines.specs.declared.texts.Nulls.{Nulls}
use Rattle.sb_lines.specs.declared.texts.Nulls.TheVariants.{Wrong, Absent}
use Rattle.sb_lines.specs.declared.table.Either.{Either}
use Rattle.sb_lines.specs.Faults.{bad_key, or_key, then_by}
use Rattle.sb_lines.specs.Fields.{whole_in, hex_at}
use Rattle.sb_lines.specs.Tables.{Field, at_key, text, digits, whole, ◌and◌, optional, at_most_one, either, made, object_of}

-- ---- a member that may be null

-- what isn't null
abbrev pub unless_null : Data → Option Data
unless_null null = None
unless_null (boolean b) = Some (boolean b)
unless_null (number n) = Some (number n)
unless_null (string s) = Some (string s)
unless_null (array ds) = Some (array ds)
unless_null (object ms) = Some (object ms)

-- the member of this name; a null is a value of another kind, or counts as absent
abbrev pub member_at : Nulls → List ℕ → Data → Option Data
member_at Wrong key d = get key d
member_at Absent key d = option_and_then unless_null (get key d)

-- ---- system texts

-- behind those that are there; an empty text counts as absent
abbrev pub with_text : SystemName → List ℕ → List SystemText → List SystemText
with_text name [] sys = sys
with_text name (b ∷ bs) sys = sys ++ record { name = name; text = b ∷ bs } ∷ []

-- the texts with the one that stands here, if any
abbrev pub text_from : SystemName → Option Data → List SystemText → Result (List SystemText) KeyFault
text_from name None sys = Ok sys
text_from name (Some d) sys = then_by (or_key (system_name name) (as_str d)) (λ text. Ok (with_text name text sys))

-- the texts with the one of this name, where it stands in the object
abbrev pub text_with : Nulls → SystemName → Data → List SystemText → Result (List SystemText) KeyFault
text_with nulls name d sys = text_from name (member_at nulls (system_name name) d) sys

-- the seven beside ContentType, in the order of their codes
abbrev pub broker_texts : Nulls → Data → Result (List SystemText) KeyFault
broker_texts nulls d =
    then_by (text_with nulls MessageId d []) (λ sys1.
    then_by (text_with nulls Label d sys1) (λ sys2.
    then_by (text_with nulls CorrelationId d sys2) (λ sys3.
    then_by (text_with nulls SessionId d sys3) (λ sys4.
    then_by (text_with nulls To d sys4) (λ sys5.
    then_by (text_with nulls ReplyTo d sys5) (λ sys6.
    text_with nulls ReplyToSessionId d sys6))))))

-- the seven, and then ContentType
abbrev pub all_texts : Data → Result (List SystemText) KeyFault
all_texts d = then_by (broker_texts Wrong d) (λ sys. text_with Wrong ContentType d sys)

-- a system name as the service writes it
abbrev pub is_system_key : List ℕ → Bool
is_system_key k =
    bytes_eq k (codes "MessageId") || bytes_eq k (codes "Label") || bytes_eq k (codes "CorrelationId") || bytes_eq k (codes "SessionId")
    || bytes_eq k (codes "To") || bytes_eq k (codes "ReplyTo") || bytes_eq k (codes "ReplyToSessionId") || bytes_eq k (codes "ContentType")

-- the keys of an object that is all system texts
abbrev pub eight_texts : Field (List SystemText)
eight_texts = record { knows = is_system_key; reads = all_texts }

-- an object of such texts; none where the key isn't there
abbrev pub texts_from : List ℕ → Option Data → Result (List SystemText) KeyFault
texts_from key None = Ok []
texts_from key (Some d) = then_by (or_key key (as_object d)) (λ _. object_of eight_texts d)

-- the system texts at a key
abbrev pub system_texts : List ℕ → Field (List SystemText)
system_texts key = record { knows = λ k. bytes_eq k key; reads = λ d. texts_from key (get key d) }

-- ---- user properties

-- a text, a whole number of 64 bits or a truth value
abbrev pub value_in : Data → Option PropertyValue
value_in (string text) = Some (Text text)
value_in (number n) = option_map (λ z. Int z) (as_i64 n)
value_in (boolean b) = Some (Truth b)
value_in null = None
value_in (array ds) = None
value_in (object ms) = None

-- the name is at fault, as it is written, where it or its value is
abbrev pub property_from : List ℕ → Data → Result PropertyValue KeyFault
property_from name d = if is_between 1 128 (length name) then or_key name (value_in d) else Err (bad_key None name)

-- One after the other, in byte order of the names as they are written: of two that fold alike the last stands.
abbrev pub with_members : Members → List Property → Result (List Property) KeyFault
with_members no_members props = Ok props
with_members (member name d ms) props = then_by (property_from name d) (λ value. with_members ms (with_user (str_to_ascii_lowercase name) (Some value) props))

-- an object of properties; none where the key isn't there
abbrev pub properties_from : List ℕ → Option Data → Result (List Property) KeyFault
properties_from key None = Ok []
properties_from key (Some d) = then_by (or_key key (as_object d)) (λ ms. with_members ms [])

-- the user properties at a key
abbrev pub user_properties : List ℕ → Field (List Property)
user_properties key = record { knows = λ k. bytes_eq k key; reads = λ d. properties_from key (get key d) }

-- ---- time to live, in s

-- above its limit it counts as none
abbrev pub capped : ℕ → Option ℕ
capped n = if nat_le n max_ttl then Some n else None

-- a time to live of a second or more, cut to the longest
abbrev pub if_positive : ℕ → Option (Option ℕ)
if_positive n = if nat_le 1 n then Some (capped n) else None

-- the time to live that stands here; left out is none
abbrev pub lifetime_from : List ℕ → Option Data → Result (Option ℕ) KeyFault
lifetime_from key None = Ok None
lifetime_from key (Some d) = or_key key (option_and_then if_positive (whole_in d))

-- the same at a key
abbrev pub lifetime_at : Nulls → List ℕ → Data → Result (Option ℕ) KeyFault
lifetime_at nulls key d = lifetime_from key (member_at nulls key d)

-- a time to live, as a field
abbrev pub lifetime : List ℕ → Field (Option ℕ)
lifetime key = record { knows = λ k. bytes_eq k key; reads = lifetime_at Wrong key }

-- ---- bytes

-- bytes, given in either way or not at all
abbrev pub bytes_or_none : Option (Either (List ℕ) (List ℕ)) → Option (List ℕ)
bytes_or_none said = option_map either said

-- as text, its UTF-8 bytes, or as digits
unfoldable pub bytes : List ℕ → List ℕ → Field (Option (List ℕ))
bytes key hex_key = made bytes_or_none (at_most_one key (text key) hex_key (digits hex_key))

-- bytes, none of them where they are left out
abbrev pub or_empty : Option (List ℕ) → List ℕ
or_empty None = []
or_empty (Some b) = b

-- ---- the whole

unfoldable pub message_fields : Field Message
message_fields =
    made (λ x. record { body = or_empty x.0; sys = x.1.0; props = x.1.1.0; ttl = x.1.1.1.0; schedule = x.1.1.1.1 })
    (bytes (codes "body") (codes "body_hex") and system_texts (codes "sys") and user_properties (codes "props") and lifetime (codes "ttl")
    and optional (codes "schedule") (whole (codes "schedule")))

-- ---- a message in the bytes of AMQP

abbrev pub amqp_key : List ℕ
amqp_key = codes "amqp_hex"

-- the message that the bytes spell
abbrev pub amqp_at : List ℕ → Data → Option Message
amqp_at key d = option_and_then message_in (hex_at key d)

-- a message by its bytes in AMQP
unfoldable pub amqp_field : Field Message
amqp_field = at_key amqp_key amqp_at

-- it stands alone: whatever is wrong with it or beside it, its own key is at fault
abbrev pub sent_from : Option Data → Data → Result Message KeyFault
sent_from None d = message_fields.reads d
sent_from (Some bytes) d = or_key amqp_key (result_ok (object_of amqp_field d))

-- a message in its fields, or in such bytes
unfoldable pub sent_fields : Field Message
sent_fields = record { knows = λ k. bytes_eq k amqp_key || message_fields.knows k; reads = λ d. sent_from (get amqp_key d) d }

-- ---- lists of messages

-- one message of a send
abbrev pub message_of : Data → Result Message KeyFault
message_of d = then_by (or_key (codes "messages") (as_object d)) (λ _. object_of sent_fields d)

-- what was read before the rest, unless that has a fault
abbrev pub before_those : {T : Type 0} → List T → Result (List T) KeyFault → Result (List T) KeyFault
before_those first (Err fault) = Err fault
before_those first (Ok rest) = Ok (first ++ rest)

-- each in turn, or the first key at fault
abbrev pub messages_of : Items → Result (List Message) KeyFault
messages_of no_items = Ok []
messages_of (item d ds) = then_by (message_of d) (λ m. before_those (m ∷ []) (messages_of ds))

-- the messages of a send
unfoldable pub messages : List ℕ → Field (List Message)
messages key = record { knows = λ k. bytes_eq k key; reads = λ d. then_by (or_key key (option_and_then as_array (get key d))) messages_of }

-- the conditions of a correlation filter
unfoldable pub condition_fields : Field Conditions
condition_fields = made (λ x. record { sys = x.0; props = x.1 }) (system_texts (codes "sys") and user_properties (codes "props"))

-- the conditions that stand here; left out is a fault
abbrev pub conditions_from : List ℕ → Option Data → Result Conditions KeyFault
conditions_from key None = Err (bad_key None key)
conditions_from key (Some d) = then_by (or_key key (as_object d)) (λ _. object_of condition_fields d)

-- what a correlation filter asks for
unfoldable pub conditions : List ℕ → Field Conditions
conditions key = record { knows = λ k. bytes_eq k key; reads = λ d. conditions_from key (get key d) }
