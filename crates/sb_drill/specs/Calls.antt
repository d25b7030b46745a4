-- The calls of a drill: five that set it up, and then one for each word of its seed.
use Rattle.std.specs.Prelude.{ℕ, ◌+◌, ◌-◌, ◌*◌, ◌%◌, ◌==◌, nat_lt, [], ◌∷◌, codes, pos, true, if◌then◌else◌, Option, Some, None}
use Rattle.std.specs.Fmt.{decimal}
use Rattle.sb_model.specs.declared.message.Message.{Message}
use Rattle.sb_model.specs.declared.message.Property.{Property}
use Rattle.sb_model.specs.declared.message.PropertyValue.TheVariants.{Int}
use Rattle.sb_model.specs.declared.message.SystemName.{SystemName}
use Rattle.sb_model.specs.declared.message.SystemName.TheVariants.{MessageId, SessionId}
use Rattle.sb_model.specs.declared.message.SystemText.{SystemText}
use Rattle.sb_machine.specs.Namespace.{default_description, entity_path, part_path, subscription_path}
use Rattle.sb_machine.specs.declared.call.Act.{Act}
use Rattle.sb_machine.specs.declared.call.Act.TheVariants.{CreateQueue, CreateTopic, CreateSubscription, CreateRule, Send, Receive, Settle, Accept, Peek}
use Rattle.sb_machine.specs.declared.call.FilterText.TheVariants.{Sql}
use Rattle.sb_machine.specs.declared.call.How.TheVariants.{Complete}
use Rattle.sb_machine.specs.declared.call.Mode.TheVariants.{Lock, Delete}
use Rattle.sb_machine.specs.declared.call.Part.TheVariants.{Dead}
use Rattle.sb_machine.specs.declared.call.TimedCall.{TimedCall}
use Rattle.sb_machine.specs.declared.call.Token.{Token}
use Rattle.sb_machine.specs.declared.call.Which.TheVariants.{Number}
use Rattle.sb_drill.specs.Draws.{choice_of, value_of, word_at}
use Rattle.sb_drill.specs.declared.choice.Choice.{Choice}
use Rattle.sb_drill.specs.declared.choice.Choice.TheVariants.{SendPlain, SendTopic, SendSession, LockPlain, TakeTopic, CompletePlain, AcceptSession, LockSession, TakeDead}
use Rattle.sb_drill.specs.declared.memory.Memory.{Memory}
use Rattle.sb_drill.specs.declared.memory.Received.{Received}

-- ---- the setup

-- the queue `d0`
abbrev pub create_plain : Act
create_plain = CreateQueue (codes "d0") (record default_description { window = Some 20; max_delivery = 3; dead_on_expiry = true })

-- the queue of sessions `d1`
abbrev pub create_session : Act
create_session = CreateQueue (codes "d1") (record default_description { requires_session = true })

-- the topic `dt`
abbrev pub create_topic : Act
create_topic = CreateTopic (codes "dt") default_description

-- its subscription `s0`
abbrev pub create_subscription : Act
create_subscription = CreateSubscription (codes "dt") (codes "s0") default_description

-- the rule `r1` of that
abbrev pub create_rule : Act
create_rule = CreateRule (codes "dt") (codes "s0") (codes "r1") (Sql (codes "n % 3 = 0")) (Some (codes "SET k = n + 1"))

-- the first five calls, from 0
abbrev pub setup_act : ℕ → Act
setup_act n = if n == 0 then create_plain
    else (if n == 1 then create_session
    else (if n == 2 then create_topic
    else (if n == 3 then create_subscription else create_rule)))

-- ---- messages

-- a system text that is a number
abbrev pub number_text : SystemName → ℕ → SystemText
number_text name value = record { name = name; text = decimal value }

-- the property `n`
abbrev pub number_property : ℕ → Property
number_property value = record { name = codes "n"; value = Int (pos value) }

-- to `d0`: the id and the property are the value, and the time to live is one second more
abbrev pub plain_message : (call value : ℕ) → Message
plain_message call value = record {
  body = decimal call;
  sys = number_text MessageId value ∷ [];
  props = number_property value ∷ [];
  ttl = Some (value + 1);
  schedule = None;
}

-- to `dt`
abbrev pub topic_message : (call value : ℕ) → Message
topic_message call value = record { body = decimal call; sys = []; props = number_property value ∷ []; ttl = None; schedule = None }

-- to `d1`, in one of four sessions
abbrev pub session_message : (call value : ℕ) → Message
session_message call value = record { body = decimal call; sys = number_text SessionId (value % 4) ∷ []; props = []; ttl = None; schedule = None }

-- ---- what words ask for

-- a receive from the subscription with deletion
abbrev pub take_topic : Act
take_topic = Receive (subscription_path (codes "dt") (codes "s0")) Delete None

-- the next session of `d1`
abbrev pub accept : Act
accept = Accept (entity_path (codes "d1")) None

-- the completion of what was received, or a look at the first message where nothing was
abbrev pub complete : Option Received → Act
complete None = Peek (entity_path (codes "d0")) 1 1
complete (Some r) = Settle (entity_path (codes "d0")) (Number r.number) r.token None Complete None

-- a receive in the session that was accepted, or a look at the first message where none was
abbrev pub lock_session : Option Token → Act
lock_session None = Peek (entity_path (codes "d1")) 1 1
lock_session (Some token) = Receive (entity_path (codes "d1")) Lock (Some token)

-- what a word asks for by its choice and its value, as the call of this number behind the setup
abbrev pub drawn_act : Choice → (call value : ℕ) → Memory → Act
drawn_act SendPlain call value m = Send (entity_path (codes "d0")) (plain_message call value ∷ []) None
drawn_act SendTopic call value m = Send (entity_path (codes "dt")) (topic_message call value ∷ []) None
drawn_act SendSession call value m = Send (entity_path (codes "d1")) (session_message call value ∷ []) None
drawn_act LockPlain call value m = Receive (entity_path (codes "d0")) Lock None
drawn_act TakeTopic call value m = take_topic
drawn_act CompletePlain call value m = complete m.received
drawn_act AcceptSession call value m = accept
drawn_act LockSession call value m = lock_session m.session
drawn_act TakeDead call value m = Receive (part_path Dead (codes "d0")) Delete None

-- ---- the calls

-- what the call of this number asks for: the setup, and then what each word does
unfoldable pub act_at : (seed n : ℕ) → Memory → Act
act_at seed n m = if nat_lt n 5 then setup_act n else drawn_act (choice_of (word_at seed (n - 5))) (n - 4) (value_of (word_at seed (n - 5))) m

-- The call of this number, from 0, by what is remembered of the answers before. The setup is made at 0, and then a call each half second.
abbrev pub call_at : (seed n : ℕ) → Memory → TimedCall
call_at seed n m = record { reading = 500 * (n - 4); call = record { by = None; act = act_at seed n m } }
