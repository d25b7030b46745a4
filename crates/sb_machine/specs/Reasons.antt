-- Why messages are dead-lettered by themselves, as their properties say it.
use Rattle.std.specs.Prelude.{ℕ, List, codes, Option, Some, None}
use Rattle.sb_model.specs.declared.message.Message.{Message}
use Rattle.sb_model.specs.declared.message.PropertyValue.TheVariants.{Text}
use Rattle.sb_model.specs.Effects.{with_user}
use Rattle.sb_machine.specs.declared.reason.DeadReason.{DeadReason}
use Rattle.sb_machine.specs.declared.reason.DeadReason.TheVariants.{Expired, TooOften, TooManyHops, NoSession, RuleFailed, NoDestination}

-- the reason that a dead letter carries
abbrev pub reason_text : DeadReason → List ℕ
reason_text Expired = codes "TTLExpiredException"
reason_text TooOften = codes "MaxDeliveryCountExceeded"
reason_text TooManyHops = codes "MaxTransferHopCountExceeded"
reason_text NoSession = codes "Session ID is null."
reason_text RuleFailed = codes "FilterEvaluationFailed"
reason_text NoDestination = codes "TransferDestinationMissing"

-- the description that a dead letter carries
abbrev pub description_text : DeadReason → List ℕ
description_text Expired = codes "The message expired before it was received."
description_text TooOften = codes "The message was delivered too often."
description_text TooManyHops = codes "The message was forwarded more than 4 times."
description_text NoSession = codes "The entity takes only messages with a session id."
description_text RuleFailed = codes "A rule could not be evaluated."
description_text NoDestination = codes "The destination does not exist."

-- a message with a text as user property, where one is given
abbrev pub marked : List ℕ → Option (List ℕ) → Message → Message
marked name None m = m
marked name (Some text) m = record m { props = with_user name (Some (Text text)) m.props }

-- a message with this reason and this description, either of which may be left out
abbrev pub with_reason : Option (List ℕ) → Option (List ℕ) → Message → Message
with_reason reason description m = marked (codes "deadlettererrordescription") description (marked (codes "deadletterreason") reason m)

-- a message with the broker's own reason
abbrev pub for_reason : DeadReason → Message → Message
for_reason reason m = with_reason (Some (reason_text reason)) (Some (description_text reason)) m
