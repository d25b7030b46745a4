-- A message in a response: its headers, in their order.
use Rattle.std.specs.Prelude.{ℕ, Bool, true, false, not, ◌&&◌, ◌||◌, nat_le, ◌==◌, List, [], ◌∷◌, ◌++◌, codes, Option, Some, None, if◌then◌else◌}
use Rattle.std.specs.List.{list_all, flat_map}
use Rattle.std.specs.Fmt.{decimal, signed_decimal}
use Rattle.json.specs.Print.{quoted}
use Rattle.httparse.specs.Grammar.{is_token}
use Rattle.percent_encoding.specs.declared.ascii_set.TheConstants.{NON_ALPHANUMERIC}
use Rattle.percent_encoding.specs.Percent.{percent_encode}
use Rattle.serde_json.specs.Data.{number, unsigned, string, object, Members, no_members, put}
use Rattle.serde_json.specs.Written.{compact_text}
use Rattle.sb_model.specs.SystemNames.{system_name, system_code}
use Rattle.sb_model.specs.declared.message.Message.{Message}
use Rattle.sb_model.specs.declared.message.Property.{Property}
use Rattle.sb_model.specs.declared.message.PropertyValue.{PropertyValue}
use Rattle.sb_model.specs.declared.message.PropertyValue.TheVariants.{Int, Text, Bool as Truth}
use Rattle.sb_model.specs.declared.message.SystemName.TheVariants.{SessionId}
use Rattle.sb_model.specs.declared.message.SystemText.{SystemText}
use Rattle.sb_machine.specs.Messages.{text_of}
use Rattle.sb_machine.specs.declared.reply.CopyShown.{CopyShown}
use Rattle.sb_machine.specs.declared.reply.Showing.{Showing}
use Rattle.sb_machine.specs.declared.reply.Showing.TheVariants.{Removed, Locked, Browsed}
use Rattle.sb_machine.specs.declared.call.Part.{Part}
use Rattle.sb_machine.specs.declared.call.Part.TheVariants.{Main, Dead, Transfer}
use Rattle.sb_machine.specs.declared.call.Path.{Path}
use Rattle.sb_machine.specs.declared.call.Token.{Token}
use Rattle.sb_http.specs.Fields.{Field}
use Rattle.sb_lines.specs.Tokens.{token_text}
use Rattle.sb_rest.specs.Escapes.{ascii_json}
use Rattle.sb_rest.specs.Reserved.{is_hidden}
use Rattle.sb_rest.specs.Values.{or_that}

-- ---- texts that may stand in a header as they are

-- no control but a tab
abbrev pub is_printable : List ℕ → Bool
is_printable text = list_all (λ b. (nat_le 32 b && not (b == 127)) || (b == 9)) text

-- ---- BrokerProperties

-- ContentType has a header of its own
abbrev pub is_shown : SystemText → Bool
is_shown t = not (system_code t.name == 8)

-- members with a system text, if it is one that is shown
abbrev pub with_shown : SystemText → Members → Members
with_shown t ms = if is_shown t then put (system_name t.name) (string t.text) ms else ms

-- members with the system texts that are shown
abbrev pub with_texts : List SystemText → Members → Members
with_texts [] ms = ms
with_texts (t ∷ ts) ms = with_texts ts (with_shown t ms)

-- members with the time to live, if there is one
abbrev pub with_ttl : Option ℕ → Members → Members
with_ttl None ms = ms
with_ttl (Some ttl) ms = put (codes "TimeToLive") (number (unsigned ttl)) ms

-- members with the lock under which the message was received, if it was
abbrev pub with_lock : List ℕ → Showing → Members → Members
with_lock until (Locked token moment) ms = put (codes "LockToken") (string (token_text token)) (put (codes "LockedUntilUtc") (string until) ms)
with_lock until Removed ms = ms
with_lock until (Browsed state) ms = ms

-- these texts, numbers, moments and the token; keys stand in byte order, in whichever order they are put
abbrev pub broker_members : List SystemText → List ℕ → List ℕ → CopyShown → Members
broker_members texts enqueued until c =
    with_lock until c.showing (with_ttl c.message.ttl
    (put (codes "SequenceNumber") (number (unsigned c.number))
    (put (codes "EnqueuedTimeUtc") (string enqueued)
    (put (codes "EnqueuedSequenceNumber") (number (unsigned c.enqueued_seq))
    (put (codes "DeliveryCount") (number (unsigned c.delivery)) (with_texts texts no_members))))))

-- the value of BrokerProperties, in ASCII alone
unfoldable pub broker_text : List SystemText → List ℕ → List ℕ → CopyShown → List ℕ
broker_text texts enqueued until c = ascii_json (compact_text (object (broker_members texts enqueued until c)))

-- ---- Location

-- the address of an entity
abbrev pub base_text : Path → Option (List ℕ) → List ℕ
base_text path None = path.name
base_text path (Some name) = path.name ++ codes "/subscriptions/" ++ name

-- how each part is named in an address
abbrev pub part_text : Part → List ℕ
part_text Main = []
part_text Dead = codes "/$deadletterqueue"
part_text Transfer = codes "/$transfer/$deadletterqueue"

-- an address as it is written
abbrev pub address_text : Path → List ℕ
address_text path = base_text path path.subscription ++ part_text path.part

-- what tells a session of this id, and the token of its holder: all but letters and digits is escaped in the id (RFC 3986, 2.1)
abbrev pub session_part : Option Token → List ℕ → List ℕ
session_part None id = []
session_part (Some token) id = codes "/sessions/" ++ percent_encode NON_ALPHANUMERIC id ++ codes "/" ++ token_text token

-- where messages are received: an address, or a session there
abbrev pub place_text : Path → Option Token → List ℕ → List ℕ
place_text from session id = address_text from ++ session_part session id

-- the id of the session that a message is of; of none it is empty
abbrev pub session_of : Message → List ℕ
session_of m = or_that [] (text_of SessionId m)

-- where a message was received, under the token of its session, if under one
abbrev pub place_of : Path → Option Token → Message → List ℕ
place_of from session m = place_text from session (session_of m)

-- the URL of a place
abbrev pub url_text : List ℕ → List ℕ → List ℕ
url_text host place = codes "http://" ++ host ++ codes "/" ++ place

-- where a message under a lock is renewed and settled
unfoldable pub location_text : List ℕ → List ℕ → ℕ → Token → List ℕ
location_text host place n token = codes "http://" ++ host ++ codes "/" ++ place ++ codes "/messages/" ++ decimal n ++ codes "/" ++ token_text token

-- under a lock alone
abbrev pub location_under : Showing → List ℕ → List ℕ → ℕ → List Field
location_under (Locked token until) host place n = (codes "Location", location_text host place n token) ∷ []
location_under Removed host place n = []
location_under (Browsed state) host place n = []

-- ---- Content-Type

-- the text that is shown as the body's type
unfoldable pub is_type : SystemText → Bool
is_type t = system_code t.name == 8 && is_printable t.text

-- the header field of the body's type, if this is it
abbrev pub type_fields : SystemText → List Field
type_fields t = if is_type t then (codes "Content-Type", t.text) ∷ [] else []

-- ---- user properties

-- a text as a JSON string, a number or a truth value as it is
abbrev pub value_text : PropertyValue → List ℕ
value_text (Int z) = signed_decimal z
value_text (Text text) = ascii_json (quoted text)
value_text (Truth true) = codes "true"
value_text (Truth false) = codes "false"

-- its name is one that a header may have, and says nothing else there
unfoldable pub stands : Property → Bool
stands p = is_token p.name && not (is_hidden p.name)

-- the header field of a user property, if it can stand there
abbrev pub property_fields : Property → List Field
property_fields p = if stands p then (p.name, value_text p.value) ∷ [] else []

-- ---- all headers

-- with the texts of the message's moments and of the place where it was received
abbrev pub message_fields : List ℕ → List ℕ → List ℕ → List ℕ → CopyShown → List Field
message_fields host enqueued until place c =
    (codes "BrokerProperties", broker_text c.message.sys enqueued until c) ∷ (location_under c.showing host place c.number ++ flat_map type_fields c.message.sys ++ flat_map property_fields c.message.props)
