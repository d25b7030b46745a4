-- The names of the eight texts of a message that the service itself knows.
use Rattle.std.specs.Prelude.{ℕ, List, [], ◌∷◌, codes, Option, find}
use Rattle.std.specs.Str.{str_eq_ignore_ascii_case}
use Rattle.sb_model.specs.declared.message.SystemName.{SystemName}
use Rattle.sb_model.specs.declared.message.SystemName.TheVariants.{MessageId, Label, CorrelationId, SessionId, To, ReplyTo, ReplyToSessionId, ContentType}

-- all of them, in the order of their codes
abbrev pub system_names : List SystemName
system_names = MessageId ∷ Label ∷ CorrelationId ∷ SessionId ∷ To ∷ ReplyTo ∷ ReplyToSessionId ∷ ContentType ∷ []

-- how each is written
abbrev pub system_name : SystemName → List ℕ
system_name MessageId = codes "MessageId"
system_name Label = codes "Label"
system_name CorrelationId = codes "CorrelationId"
system_name SessionId = codes "SessionId"
system_name To = codes "To"
system_name ReplyTo = codes "ReplyTo"
system_name ReplyToSessionId = codes "ReplyToSessionId"
system_name ContentType = codes "ContentType"

-- its place among them, from 1: a message's texts stand in this order
abbrev pub system_code : SystemName → ℕ
system_code MessageId = 1
system_code Label = 2
system_code CorrelationId = 3
system_code SessionId = 4
system_code To = 5
system_code ReplyTo = 6
system_code ReplyToSessionId = 7
system_code ContentType = 8

-- the one that this names, in any ASCII case
abbrev pub system_named : List ℕ → Option SystemName
system_named text = find (λ n. str_eq_ignore_ascii_case text (system_name n)) system_names
