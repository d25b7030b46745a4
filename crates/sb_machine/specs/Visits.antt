-- Where a message gets a sequence number: in the queues and subqueues that it comes to, in order (its visits).
-- Numbers themselves play no part in it.
use Rattle.std.specs.Prelude.{ℕ, zero, suc, ◌-◌, List, [], ◌∷◌, Bool, false, not, ◌&&◌, ◌==◌, if◌then◌else◌, find, min, bytes_eq, Option, Some, None, is_none}
use Rattle.std.specs.List.{filter, flat_map, list_any, insert, prefix_len, fold}
use Rattle.sb_machine.specs.Names.{is_before}
use Rattle.sb_machine.specs.declared.call.Part.{Part}
use Rattle.sb_machine.specs.declared.call.Part.TheVariants.{Main, Dead, Transfer}
use Rattle.sb_model.specs.declared.message.Message.{Message}
use Rattle.sb_model.specs.declared.message.SystemName.TheVariants.{SessionId}
use Rattle.sb_model.specs.SystemNames.{system_code}
use Rattle.sb_machine.specs.declared.state.Listed.{Listed}
use Rattle.sb_machine.specs.declared.state.EntityKind.TheVariants.{Queue, Topic, Subscription}
use Rattle.sb_machine.specs.declared.change.Cause.{Cause}
use Rattle.sb_machine.specs.declared.change.Cause.TheVariants.{Fanned, Forwarded, DeadLettered}
use Rattle.sb_machine.specs.declared.reason.DeadReason.{DeadReason}
use Rattle.sb_machine.specs.declared.reason.DeadReason.TheVariants.{TooManyHops, NoSession, RuleFailed, NoDestination}
use Rattle.sb_machine.specs.declared.rule.Outcome.{Outcome}
use Rattle.sb_machine.specs.declared.rule.Outcome.TheVariants.{Copies, Dead as DeadCopy, Dropped}
use Rattle.sb_machine.specs.Selection.{selected}
use Rattle.sb_machine.specs.Reasons.{for_reason}

-- What becomes of a message where it gets a number: it stays, forwarded so often, or the number ends.
pub data Lot : Type 0 where
  stays : ℕ → Message → Lot
  ends : Cause → Lot

-- a message comes to a part of an entity, where it stays or ends
pub record Visit : Type 0 where
  pub entity : ℕ
  pub part : Part
  pub lot : Lot

-- a visit of a message to a part, where it stays or ends
abbrev pub visit : Listed → Part → Lot → Visit
visit e part lot = record { entity = e.number; part = part; lot = lot }

-- ---- entities

-- the queue or topic of a name
abbrev pub is_named : List ℕ → Listed → Bool
is_named name e = is_none e.path.subscription && bytes_eq e.path.name name

-- the entity that a forward names, if there is one
abbrev pub destination : List Listed → List ℕ → Option Listed
destination es name = find (is_named name) es

-- a subscription of the topic of a name
abbrev pub is_under : List ℕ → Listed → Bool
is_under topic e = elim e.path.subscription [ Some name ↦ bytes_eq e.path.name topic | None ↦ false ]

-- the name of a subscription; a queue and a topic have none here
abbrev pub own_name : Listed → List ℕ
own_name e = elim e.path.subscription [ Some name ↦ name | None ↦ [] ]

-- behind those whose names come before its own
abbrev pub with_next : List Listed → Listed → List Listed
with_next es e = insert es (prefix_len (λ q. is_before (own_name q) (own_name e)) es) e

-- a topic's subscriptions, in order of name
abbrev pub subscriptions_of : List Listed → List ℕ → List Listed
subscriptions_of es topic = fold with_next [] (filter (is_under topic) es)

-- ---- messages

-- the time to live is cut to that of the entity
abbrev pub shorter : Option ℕ → Option ℕ → Option ℕ
shorter None limit = limit
shorter (Some seconds) None = Some seconds
shorter (Some seconds) (Some limit) = Some (min seconds limit)

-- a message with its time to live cut to the entity's
abbrev pub cut_to : Listed → Message → Message
cut_to e m = record m { ttl = shorter m.ttl e.description.ttl }

-- whether a message has a session id
abbrev pub has_session : Message → Bool
has_session m = list_any (λ s. system_code s.name == system_code SessionId) m.sys

-- ---- one entity; `onward` is what a transfer from it leads to

abbrev pub Onward : Type 0
Onward = Listed → Message → List ℕ → List Visit

-- a message whose number has ended goes to where the entity's dead letters are forwarded, or to its Dead part
abbrev pub buried : Onward → ℕ → Listed → Message → List Visit
buried onward hops e m = elim e.description.forward_dead_to [ Some to ↦ onward e m to | None ↦ visit e Dead (stays hops m) ∷ [] ]

-- the visits of a message that is dead-lettered on arrival
abbrev pub dead_lettered : Onward → ℕ → Listed → DeadReason → Message → List Visit
dead_lettered onward hops e reason m = visit e Main (ends DeadLettered) ∷ buried onward hops e (for_reason reason m)

-- the visits of a message that an entity takes: it stays, or is forwarded
abbrev pub settled_in : Onward → ℕ → Listed → Message → List Visit
settled_in onward hops e m = elim e.description.forward_to [ Some to ↦ visit e Main (ends Forwarded) ∷ onward e m to | None ↦ visit e Main (stays hops m) ∷ [] ]

-- in a queue or a subscription
abbrev pub arrived : Onward → ℕ → Listed → Message → List Visit
arrived onward hops e m =
    if e.description.requires_session && not (has_session m) then dead_lettered onward hops e NoSession m
    else settled_in onward hops e m

-- the visits of a message that comes to a queue or a subscription
abbrev pub came_to : Onward → ℕ → Listed → Message → List Visit
came_to onward hops e m = arrived onward hops e (cut_to e m)

-- the visits of what a subscription makes of a message
abbrev pub chosen : Onward → ℕ → Listed → Message → Outcome → List Visit
chosen onward hops e m (Copies messages) = flat_map (came_to onward hops e) messages
chosen onward hops e m DeadCopy = dead_lettered onward hops e RuleFailed (cut_to e m)
chosen onward hops e m Dropped = []

-- in a subscription, of what its topic takes
abbrev pub offered : Onward → ℕ → Message → Listed → List Visit
offered onward hops m e = chosen onward hops e m (selected e.description.dead_on_fault e.rules m)

-- in a topic
abbrev pub fanned : Onward → ℕ → List Listed → Listed → Message → List Visit
fanned onward hops es e m = visit e Main (ends Fanned) ∷ flat_map (offered onward hops m) (subscriptions_of es e.path.name)

-- the visits of a message that comes to an entity of each kind
abbrev pub entered_by : Onward → ℕ → List Listed → Listed → Message → List Visit
entered_by onward hops es e m = elim e.kind [ Topic ↦ fanned onward hops es e (cut_to e m) | Queue ↦ came_to onward hops e m | Subscription ↦ came_to onward hops e m ]

-- ---- from entity to entity, by how often the message may be forwarded still

-- a message is forwarded at most so often
abbrev pub max_hops : ℕ
max_hops = 4

-- the visit of a message that can't be forwarded: it stays in the transfer part, with the reason
abbrev pub failed : ℕ → Listed → DeadReason → Message → List Visit
failed hops e reason m = visit e Transfer (stays hops (for_reason reason m)) ∷ []

-- the visits of a message that is forwarded, with so many forwards left to it
abbrev pub transferred : ℕ → List Listed → Onward
transferred zero es e m to = failed max_hops e TooManyHops m
transferred (suc left) es e m to = elim (destination es to) [ Some d ↦ entered_by (transferred left es) (max_hops - left) es d m | None ↦ failed (max_hops - suc left) e NoDestination m ]

-- a message that comes to an entity after so many hops, at most 4
abbrev pub visits : List Listed → ℕ → Listed → Message → List Visit
visits es hops e m = entered_by (transferred (max_hops - hops) es) hops es e m

-- one whose number has ended, for a reason
abbrev pub burial : List Listed → ℕ → Listed → Message → List Visit
burial es hops e m = buried (transferred (max_hops - hops) es) hops e m

-- one that is handed on from an entity
abbrev pub passage : List Listed → ℕ → Listed → Message → List ℕ → List Visit
passage es hops e m to = transferred (max_hops - hops) es e m to
