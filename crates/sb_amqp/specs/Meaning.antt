-- The message that sections say.
use Rattle.std.specs.Prelude.{◌≡◌, ℕ, pos, ◌+◌, ◌-◌, ◌/◌, ◌%◌, ◌^◌, ◌==◌, ◌&&◌, ◌||◌, ℤ, List, [], ◌∷◌, ◌++◌, length, Bool, true, false, Option, Some, None, option_map, option_and_then, Result, Ok, Err, nat_lt, bytes_eq, decimal, slice_index, suc, if◌then◌else◌}
use Rattle.std.specs.Int.{w8, w16, w32, w64, from_be_bytes, cast_signed}
use Rattle.std.specs.Str.{is_utf8, str_to_ascii_lowercase}
use Rattle.uuid.specs.Text.{hyphenated_text, lower}
use Rattle.sb_model.specs.Effects.{with_user, with_text_more}
use Rattle.sb_model.specs.declared.message.Message.{Message}
use Rattle.sb_model.specs.declared.message.PropertyValue.{PropertyValue}
use Rattle.sb_model.specs.declared.message.PropertyValue.TheVariants.{Int, Text, Bool as Truth}
use Rattle.sb_model.specs.declared.message.SystemName.{SystemName}
use Rattle.sb_model.specs.declared.message.SystemName.TheVariants.{MessageId, Label, CorrelationId, SessionId, To, ReplyTo, ReplyToSessionId, ContentType}
use Rattle.sb_model.specs.declared.message.SystemText.{SystemText}
use Rattle.sb_amqp.specs.declared.values.Kind.{Kind}
use Rattle.sb_amqp.specs.declared.values.Kind.TheVariants as kind
use Rattle.sb_amqp.specs.declared.unread.Unread.{Unread}
use Rattle.sb_amqp.specs.declared.unread.Unread.TheVariants.{At, Memory}
use Rattle.sb_amqp.specs.Fields.{header_code, annotations_code, properties_code, application_code, data_code, sequence_code, value_code, field_name, schedule_key}
use Rattle.sb_amqp.specs.Sections.{Section, all_spelled, is_list, is_map}
use Rattle.sb_amqp.specs.Values.{joined, kind_of, content_of}

-- ---- numbers and texts

-- a number of no, 1, 2, 4 or 8 bytes
unfoldable pub unsigned_in : List ℕ → ℕ
unsigned_in content =
    if length content == 8 then from_be_bytes w64 content
    else if length content == 4 then from_be_bytes w32 content
    else if length content == 2 then from_be_bytes w16 content
    else if length content == 1 then slice_index content 0
    else 0

-- in two's complement
unfoldable pub signed_in : List ℕ → ℤ
signed_in content =
    if length content == 8 then cast_signed w64 (from_be_bytes w64 content)
    else if length content == 4 then cast_signed w32 (from_be_bytes w32 content)
    else if length content == 2 then cast_signed w16 (from_be_bytes w16 content)
    else if length content == 1 then cast_signed w8 (slice_index content 0)
    else pos 0

-- bytes, if they are UTF-8
abbrev pub if_utf8 : List ℕ → Option (List ℕ)
if_utf8 bytes = if is_utf8 bytes then Some bytes else None

-- a string or symbol
abbrev pub plain_text : Kind → List ℕ → Option (List ℕ)
plain_text kind.String content = if_utf8 content
plain_text kind.Symbol content = if_utf8 content
plain_text _ content = None

-- ---- the header's third field: milliseconds, in s rounded up, 1 at least

-- milliseconds as seconds, rounded up, and one at least
abbrev pub seconds : ℕ → ℕ
seconds ms = (ms - 1) / 1000 + 1

-- a time to live, where it can be used; null leaves what was there
abbrev pub ttl_from : Kind → List ℕ → Option ℕ → Option (Option ℕ)
ttl_from kind.Null content ttl = Some ttl
ttl_from kind.Uint content ttl = Some (Some (seconds (unsigned_in content)))
ttl_from _ content ttl = None

-- what an item of the header adds: the third is the time to live, the others say nothing that is kept
abbrev pub header_item : ℕ → List ℕ → Message → Option Message
header_item index value m = if index == 2 then option_map (λ ttl. record m { ttl = ttl }) (ttl_from (kind_of value) (content_of value) m.ttl) else Some m

-- ---- the annotation that schedules

-- whether a key is that of the moment from which on a message may be received
abbrev pub is_schedule_key : Kind → List ℕ → Bool
is_schedule_key kind.String content = bytes_eq content schedule_key
is_schedule_key kind.Symbol content = bytes_eq content schedule_key
is_schedule_key _ content = false

-- milliseconds since 1970, not before
abbrev pub moment_in : ℕ → Option ℕ
moment_in n = if nat_lt n (2 ^ 63) then Some n else None

-- that moment, where it can be used
abbrev pub moment_from : Kind → List ℕ → Option ℕ
moment_from kind.Timestamp content = moment_in (unsigned_in content)
moment_from _ content = None

-- a value stands behind its key, at an odd place
abbrev pub annotation_item : ℕ → List ℕ → List ℕ → Message → Option Message
annotation_item index key value m =
    if (index % 2 == 1) && is_schedule_key (kind_of key) (content_of key) then option_map (λ moment. record m { schedule = Some moment }) (moment_from (kind_of value) (content_of value)) else Some m

-- ---- the texts among the properties

-- hyphenated, in small letters
abbrev pub uuid_text : List ℕ → Option (List ℕ)
uuid_text content = if length content == 16 then Some (hyphenated_text lower content) else None

-- a string, a number or a UUID
abbrev pub id_text : Kind → List ℕ → Option (List ℕ)
id_text kind.String content = if_utf8 content
id_text kind.Ulong content = Some (decimal (unsigned_in content))
id_text kind.Uuid content = uuid_text content
id_text _ content = None

-- the ids, which may also be given as a number or a UUID
abbrev pub is_id : SystemName → Bool
is_id MessageId = true
is_id CorrelationId = true
is_id Label = false
is_id SessionId = false
is_id To = false
is_id ReplyTo = false
is_id ReplyToSessionId = false
is_id ContentType = false

-- null is as an empty text
abbrev pub is_null : Kind → Bool
is_null kind.Null = true
is_null _ = false

-- a system text from a value; null is an empty one
abbrev pub text_from : SystemName → Kind → List ℕ → Option (List ℕ)
text_from name k content = if is_null k then Some [] else if is_id name then id_text k content else plain_text k content

-- an empty text counts as absent
abbrev pub with_text : SystemName → List ℕ → List SystemText → List SystemText
with_text name [] sys = sys
with_text name (b ∷ bs) sys = with_text_more (record { name = name; text = b ∷ bs }) sys

-- what an item of the properties adds, where it is one that is kept
abbrev pub named_item : Option SystemName → List ℕ → Message → Option Message
named_item None value m = Some m
named_item (Some name) value m = option_map (λ text. record m { sys = with_text name text m.sys }) (text_from name (kind_of value) (content_of value))

-- ---- application properties

-- a whole number as a value, if it is below 2^63
abbrev pub if_i64 : ℕ → Option PropertyValue
if_i64 n = if nat_lt n (2 ^ 63) then Some (Int (pos n)) else None

-- one byte as a value: 0 is false, 1 is true
abbrev pub if_truth : ℕ → Option PropertyValue
if_truth n = if n == 0 then Some (Truth false) else if n == 1 then Some (Truth true) else None

-- a text as a value
abbrev pub text_property : Option (List ℕ) → Option PropertyValue
text_property text = option_map (λ t. Text t) text

-- the value of a user property, of each type that one may have
abbrev pub property_from : Kind → List ℕ → Option PropertyValue
property_from kind.True content = Some (Truth true)
property_from kind.False content = Some (Truth false)
property_from kind.Boolean content = if_truth (unsigned_in content)
property_from kind.Ubyte content = if_i64 (unsigned_in content)
property_from kind.Ushort content = if_i64 (unsigned_in content)
property_from kind.Uint content = if_i64 (unsigned_in content)
property_from kind.Ulong content = if_i64 (unsigned_in content)
property_from kind.Byte content = Some (Int (signed_in content))
property_from kind.Short content = Some (Int (signed_in content))
property_from kind.Int content = Some (Int (signed_in content))
property_from kind.Long content = Some (Int (signed_in content))
property_from kind.String content = text_property (if_utf8 content)
property_from kind.Symbol content = text_property (if_utf8 content)
property_from _ content = None

-- names are folded to small letters; of two alike the last stands
abbrev pub with_property : List ℕ → PropertyValue → Message → Message
with_property name value m = record m { props = with_user (str_to_ascii_lowercase name) (Some value) m.props }

-- a message with one user property more
abbrev pub entry_named : List ℕ → List ℕ → Message → Option Message
entry_named name value m = option_map (λ v. with_property name v m) (property_from (kind_of value) (content_of value))

-- null is left out
abbrev pub entry_of : List ℕ → List ℕ → Message → Option Message
entry_of key value m = if is_null (kind_of value) then Some m else option_and_then (λ name. entry_named name value m) (plain_text (kind_of key) (content_of key))

-- the key of a user property, which has to be a text
abbrev pub key_of : List ℕ → Message → Option Message
key_of key m = option_map (λ _. m) (plain_text (kind_of key) (content_of key))

-- what an item of the user properties adds: keys and values stand in turn
abbrev pub application_item : ℕ → List ℕ → List ℕ → Message → Option Message
application_item index key value m = if index % 2 == 0 then key_of value m else entry_of key value m

-- ---- items

-- What an item of such a section adds, by its place and the item before it; none where it can't be used.
unfoldable pub with_item : ℕ → ℕ → List ℕ → List ℕ → Message → Option Message
with_item code index before value m =
    if code == header_code then header_item index value m
    else if code == annotations_code then annotation_item index before value m
    else if code == properties_code then named_item (field_name (index + 1)) value m
    else application_item index before value m

-- What was answered, or how many bytes are left where a value that can't be used begins.
abbrev pub or_left : {A : Type 0} → ℕ → Option A → Result A ℕ
or_left left None = Err left
or_left left (Some a) = Ok a

-- goes on, unless something couldn't be used
abbrev pub and_then : {A B : Type 0} → Result A ℕ → (A → Result B ℕ) → Result B ℕ
and_then (Ok a) f = f a
and_then (Err left) f = Err left

-- the items from this place on, the last of them so many bytes before the end
abbrev pub items_say : ℕ → ℕ → List ℕ → Message → List (List ℕ) → ℕ → Result Message ℕ
items_say code index before m [] behind = Ok m
items_say code index before m (v ∷ vs) behind =
    and_then (or_left (length (joined (v ∷ vs)) + behind) (with_item code index before v m)) (λ next. items_say code (suc index) v next vs behind)

-- ---- sections

-- a message with these bytes behind its body's others
abbrev pub with_body : List ℕ → Message → Message
with_body bytes m = record m { body = m.body ++ bytes }

-- a string, where the body is a value
abbrev pub value_text : ℕ → List ℕ → Option (List ℕ)
value_text code content = if code == value_code then if_utf8 content else None

-- binary; as a value also a string
abbrev pub body_from : ℕ → Kind → List ℕ → Option (List ℕ)
body_from code kind.Binary content = Some content
body_from code kind.String content = value_text code content
body_from code _ content = None

-- what a section of the body adds, or how many bytes are left where it can't be used
abbrev pub body_says : ℕ → List ℕ → Message → ℕ → Result Message ℕ
body_says code value m left = or_left left (option_map (λ bytes. with_body bytes m) (body_from code (kind_of value) (content_of value)))

-- what the items of a section add, where its value is of the right type
abbrev pub items_if : Bool → ℕ → Message → List ℕ → List (List ℕ) → ℕ → Result Message ℕ
items_if true code m value items behind = items_say code 0 [] m items behind
items_if false code m value items behind = Err (length value + behind)

-- what each section adds; sequences can't be used
abbrev pub section_says : ℕ → List ℕ → List (List ℕ) → Message → ℕ → Result Message ℕ
section_says code value items m behind =
    if code == header_code || code == properties_code then items_if (is_list (kind_of value)) code m value items behind
    else if code == annotations_code || code == application_code then items_if (is_map (kind_of value)) code m value items behind
    else if code == data_code || code == value_code then body_says code value m (length value + behind)
    else if code == sequence_code then Err (length value + behind)
    else Ok m

-- each in turn; delivery annotations and the footer say nothing that is kept
abbrev pub sections_say : Message → List Section → Result Message ℕ
sections_say m [] = Ok m
sections_say m (s ∷ ss) = and_then (section_says s.code s.value s.items m (length (all_spelled ss))) (λ next. sections_say next ss)

-- a message that nothing was said of
abbrev pub no_message : Message
no_message = record { body = []; sys = []; props = []; ttl = None; schedule = None }

-- what a reader of sections returned: this, but where memory was wanting
abbrev pub Says : Result Message Unread → Result Message ℕ → Type 0
Says (Ok m) said = said ≡ Ok m
Says (Err (At left)) said = said ≡ Err left
Says (Err Memory) said = Unit {0}
