-- A copy of a message as a reply shows it.
use Rattle.std.specs.Prelude.{ℕ, List, [], ◌∷◌, if◌then◌else◌, codes, Option, Some, None}
use Rattle.std.specs.Str.{is_utf8}
use Rattle.hex.specs.Hex.{encode_lower}
use Rattle.serde_json.specs.Data.{Data, number, unsigned, boolean, string, object, Members, no_members, member, put}
use Rattle.serde_json.specs.Find.{of_integer}
use Rattle.serde_json.specs.Written.{compact_text}
use Rattle.sb_amqp.specs.Written.{written}
use Rattle.sb_model.specs.SystemNames.{system_name}
use Rattle.sb_model.specs.declared.message.Property.{Property}
use Rattle.sb_model.specs.declared.message.PropertyValue.{PropertyValue}
use Rattle.sb_model.specs.declared.message.PropertyValue.TheVariants.{Int, Text, Bool}
use Rattle.sb_model.specs.declared.message.SystemText.{SystemText}
use Rattle.sb_machine.specs.declared.reply.CopyShown.{CopyShown}
use Rattle.sb_machine.specs.declared.reply.CopyState.{CopyState}
use Rattle.sb_machine.specs.declared.reply.CopyState.TheVariants.{Ready, Deferred, Held, Scheduled}
use Rattle.sb_machine.specs.declared.reply.Showing.{Showing}
use Rattle.sb_machine.specs.declared.reply.Showing.TheVariants.{Removed, Locked, Browsed}
use Rattle.sb_lines.specs.declared.form.Form.{Form}
use Rattle.sb_lines.specs.declared.form.Form.TheVariants.{Plain, Amqp}
use Rattle.sb_lines.specs.Tokens.{token_text}

-- ---- names and values

-- a property's value: a whole number, a text or a truth value
abbrev pub property_data : PropertyValue → Data
property_data (Int z) = number (of_integer z)
property_data (Text text) = string text
property_data (Bool b) = boolean b

-- Each put in under its name: keys stand in byte order, and of equal ones the last stands.
abbrev pub with_properties : Members → List Property → Members
with_properties ms [] = ms
with_properties ms (p ∷ ps) = with_properties (put p.name (property_data p.value) ms) ps

-- members with the system texts of a message
abbrev pub with_texts : Members → List SystemText → Members
with_texts ms [] = ms
with_texts ms (t ∷ ts) = with_texts (put (system_name t.name) (string t.text) ms) ts

-- ---- bytes

-- under the one key as text where they are UTF-8, else under the other as hexadecimal digits
abbrev pub with_bytes : List ℕ → List ℕ → List ℕ → Members → Members
with_bytes key hex_key bytes ms = if is_utf8 bytes then put key (string bytes) ms else put hex_key (string (encode_lower bytes)) ms

-- ---- the copy

-- what each copy has
abbrev pub common_members : CopyShown → Members
common_members c =
    member (codes "delivery") (number (unsigned c.delivery))
    (member (codes "enqueued") (number (unsigned c.enqueued))
    (member (codes "enqueued_seq") (number (unsigned c.enqueued_seq))
    (member (codes "props") (object (with_properties no_members c.message.props))
    (member (codes "seq") (number (unsigned c.number))
    (member (codes "sys") (object (with_texts no_members c.message.sys)) no_members)))))

-- the time to live, in seconds, where there is one
abbrev pub with_ttl : Option ℕ → Members → Members
with_ttl None ms = ms
with_ttl (Some ttl) ms = put (codes "ttl") (number (unsigned ttl)) ms

-- how a message that is looked at stands
abbrev pub state_name : CopyState → List ℕ
state_name Ready = codes "ready"
state_name Deferred = codes "deferred"
state_name Held = codes "held"
state_name (Scheduled moment) = codes "scheduled"

-- the moment at which a scheduled copy enters
abbrev pub with_schedule : CopyState → Members → Members
with_schedule Ready ms = ms
with_schedule Deferred ms = ms
with_schedule Held ms = ms
with_schedule (Scheduled moment) ms = put (codes "schedule") (number (unsigned moment)) ms

-- the lock under which it was handed out, or the state in which it was looked at
abbrev pub with_showing : Showing → Members → Members
with_showing Removed ms = ms
with_showing (Locked token until) ms = put (codes "until") (number (unsigned until)) (put (codes "token") (string (token_text token)) ms)
with_showing (Browsed state) ms = put (codes "state") (string (state_name state)) (with_schedule state ms)

-- the message, its lock or state, and its numbers
abbrev pub plain_data : CopyShown → Data
plain_data c = object (with_bytes (codes "body") (codes "body_hex") c.message.body (with_showing c.showing (with_ttl c.message.ttl (common_members c))))

-- that object as text, without a line feed
unfoldable pub message_text : CopyShown → List ℕ
message_text c = compact_text (plain_data c)

-- ---- the same in AMQP

-- the moment at which a scheduled copy enters
abbrev pub schedule_in : Showing → Option ℕ
schedule_in Removed = None
schedule_in (Locked token until) = None
schedule_in (Browsed Ready) = None
schedule_in (Browsed Deferred) = None
schedule_in (Browsed Held) = None
schedule_in (Browsed (Scheduled moment)) = Some moment

-- the message in the bytes of AMQP, a scheduled one with its moment
abbrev pub amqp_bytes : CopyShown → List ℕ
amqp_bytes c = written (record c.message { schedule = schedule_in c.showing })

-- what each copy has beside its message
abbrev pub copy_members : CopyShown → Members
copy_members c =
    member (codes "delivery") (number (unsigned c.delivery))
    (member (codes "enqueued") (number (unsigned c.enqueued))
    (member (codes "enqueued_seq") (number (unsigned c.enqueued_seq))
    (member (codes "seq") (number (unsigned c.number)) no_members)))

-- the same with the message in AMQP
abbrev pub amqp_data : CopyShown → Data
amqp_data c = object (put (codes "amqp_hex") (string (encode_lower (amqp_bytes c))) (with_showing c.showing (copy_members c)))

-- in the form that was asked for
abbrev pub shown_data : Form → CopyShown → Data
shown_data Plain c = plain_data c
shown_data Amqp c = amqp_data c
