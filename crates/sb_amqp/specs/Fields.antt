-- Which field of a message's properties each system text is (OASIS AMQP 1.0, part 3, section 3.2.4).
use Rattle.std.specs.Prelude.{ℕ, ◌==◌, List, codes, Option, find, Bool, true, false}
use Rattle.sb_model.specs.SystemNames.{system_names}
use Rattle.sb_model.specs.declared.message.SystemName.{SystemName}
use Rattle.sb_model.specs.declared.message.SystemName.TheVariants.{MessageId, Label, CorrelationId, SessionId, To, ReplyTo, ReplyToSessionId, ContentType}

-- the descriptors of the sections
abbrev pub header_code : ℕ
header_code = 112

abbrev pub annotations_code : ℕ
annotations_code = 114

abbrev pub properties_code : ℕ
properties_code = 115

abbrev pub application_code : ℕ
application_code = 116

abbrev pub data_code : ℕ
data_code = 117

abbrev pub sequence_code : ℕ
sequence_code = 118

abbrev pub value_code : ℕ
value_code = 119

abbrev pub footer_code : ℕ
footer_code = 120

-- message-id, subject, correlation-id, group-id, to, reply-to, reply-to-group-id, content-type; counted from 1
abbrev pub field_number : SystemName → ℕ
field_number MessageId = 1
field_number Label = 4
field_number CorrelationId = 6
field_number SessionId = 11
field_number To = 3
field_number ReplyTo = 5
field_number ReplyToSessionId = 13
field_number ContentType = 7

-- the system text that a field is, if it is one
unfoldable pub field_name : ℕ → Option SystemName
field_name number = find (λ name. field_number name == number) system_names

-- content-type alone is a symbol, the others are strings
abbrev pub is_symbol : SystemName → Bool
is_symbol ContentType = true
is_symbol MessageId = false
is_symbol Label = false
is_symbol CorrelationId = false
is_symbol SessionId = false
is_symbol To = false
is_symbol ReplyTo = false
is_symbol ReplyToSessionId = false

-- the annotation that has the moment from which a message may be received (Microsoft Learn, "AMQP 1.0 in Azure Service Bus and Event Hubs protocol guide")
abbrev pub schedule_key : List ℕ
schedule_key = codes "x-opt-scheduled-enqueue-time"
