-- What an operator looks at as JSON, keys in byte order: entities, how one is described, sessions, transactions, clients.
use Rattle.std.specs.Prelude.{ℕ, List, [], ◌∷◌, ◌++◌, Bool, codes, map, Option, Some, None}
use Rattle.serde_json.specs.Data.{Data, null, number, unsigned, boolean, string, array, object, Members, no_members, member, put}
use Rattle.serde_json.specs.View.{items_of}
use Rattle.sb_machine.specs.declared.call.Description.{Description}
use Rattle.sb_machine.specs.declared.call.FilterText.{FilterText}
use Rattle.sb_machine.specs.declared.call.FilterText.TheVariants.{Sql, Correlation}
use Rattle.sb_machine.specs.declared.call.Path.{Path}
use Rattle.sb_machine.specs.declared.look.ClientShown.{ClientShown}
use Rattle.sb_machine.specs.declared.look.Described.{Described}
use Rattle.sb_machine.specs.declared.look.EntityShown.{EntityShown}
use Rattle.sb_machine.specs.declared.look.PartShown.{PartShown}
use Rattle.sb_machine.specs.declared.look.RuleShown.{RuleShown}
use Rattle.sb_machine.specs.declared.look.SessionShown.{SessionShown}
use Rattle.sb_machine.specs.declared.look.TransactionShown.{TransactionShown}
use Rattle.sb_machine.specs.declared.rule.Conditions.{Conditions}
use Rattle.sb_machine.specs.declared.state.EntityKind.{EntityKind}
use Rattle.sb_machine.specs.declared.state.EntityKind.TheVariants.{Queue, Topic, Subscription}
use Rattle.sb_lines.specs.Refusals.{with_number, with_string}
use Rattle.sb_lines.specs.Shown.{with_properties, with_texts}

-- ---- members

-- a number, or null where there is none
abbrev pub number_or_null : Option ℕ → Data
number_or_null None = null
number_or_null (Some n) = number (unsigned n)

-- a truth value before other members
abbrev pub with_truth : List ℕ → Bool → Members → Members
with_truth key b rest = member key (boolean b) rest

-- members with a number, where there is one
abbrev pub number_if : List ℕ → Option ℕ → Members → Members
number_if key None ms = ms
number_if key (Some n) ms = put key (number (unsigned n)) ms

-- members with a text, where there is one
abbrev pub string_if : List ℕ → Option (List ℕ) → Members → Members
string_if key None ms = ms
string_if key (Some text) ms = put key (string text) ms

-- ---- addresses

-- the name of a queue or topic, or a subscription's behind that of its topic
abbrev pub text_under : List ℕ → Option (List ℕ) → List ℕ
text_under name None = name
text_under name (Some subscription) = name ++ (codes "/subscriptions/" ++ subscription)

-- the address of an entity, whatever part of it is meant
abbrev pub entity_text : Path → List ℕ
entity_text path = text_under path.name path.subscription

-- the same, or null for an entity that isn't there
abbrev pub entity_or_null : Option Path → Data
entity_or_null None = null
entity_or_null (Some path) = string (entity_text path)

-- ---- entities

-- how each kind is named
abbrev pub kind_name : EntityKind → List ℕ
kind_name Queue = codes "queue"
kind_name Topic = codes "topic"
kind_name Subscription = codes "subscription"

-- how many messages of a part stand how, and since when the first of those that may be received has been there
abbrev pub part_data : PartShown → Data
part_data p =
    object (with_number (codes "deferred") p.deferred (with_number (codes "held") p.held (member (codes "oldest") (number_or_null p.oldest)
    (with_number (codes "ready") p.ready (with_number (codes "scheduled") p.scheduled no_members)))))

-- the three parts of an entity
abbrev pub part_members : EntityShown → Members
part_members e = member (codes "dead") (part_data e.dead) (member (codes "main") (part_data e.main) (member (codes "transfer") (part_data e.transfer) no_members))

-- an entity in a list
abbrev pub entity_data : EntityShown → Data
entity_data e =
    object (put (codes "address") (string (entity_text e.path)) (put (codes "kind") (string (kind_name e.kind))
    (put (codes "held_sessions") (number (unsigned e.held_sessions)) (put (codes "sessions") (number (unsigned e.sessions)) (part_members e)))))

-- entities in their order
abbrev pub entities_data : List EntityShown → Data
entities_data es = array (items_of (map entity_data es))

-- ---- the description of an entity

-- what queues and subscriptions always have
abbrev pub lease_members : Description → Members
lease_members d = with_number (codes "lock") d.lock (with_number (codes "max_delivery") d.max_delivery (with_truth (codes "requires_session") d.requires_session no_members))

-- members with the names of those to which messages and dead letters go on, where they do
abbrev pub with_forwards : Description → Members → Members
with_forwards d ms = string_if (codes "forward_dead_to") d.forward_dead_to (string_if (codes "forward_to") d.forward_to ms)

-- how a queue is described
abbrev pub queue_members : Description → Members
queue_members d =
    number_if (codes "window") d.window (number_if (codes "ttl") d.ttl (with_forwards d (with_truth (codes "dead_on_expiry") d.dead_on_expiry (lease_members d))))

-- how a topic is described
abbrev pub topic_members : Description → Members
topic_members d = number_if (codes "window") d.window (number_if (codes "ttl") d.ttl no_members)

-- how a subscription is described
abbrev pub subscription_members : Description → Members
subscription_members d =
    number_if (codes "ttl") d.ttl (with_forwards d (with_truth (codes "dead_on_expiry") d.dead_on_expiry (with_truth (codes "dead_on_fault") d.dead_on_fault (lease_members d))))

-- the fields that a line may give to make an entity of this kind
abbrev pub description_data : EntityKind → Description → Data
description_data Queue d = object (queue_members d)
description_data Topic d = object (topic_members d)
description_data Subscription d = object (subscription_members d)

-- whether the queue or topic is there that a field names
abbrev pub forward_data : List ℕ → Bool → Data
forward_data field there = object (with_string (codes "field") field (with_truth (codes "there") there no_members))

-- the same, where the field names one
abbrev pub forward_if : List ℕ → Option (List ℕ) → Bool → List Data
forward_if field None there = []
forward_if field (Some name) there = forward_data field there ∷ []

-- both fields that may name one
abbrev pub forwards_data : Described → Data
forwards_data d = array (items_of (forward_if (codes "forward_dead_to") d.description.forward_dead_to d.forward_dead_there ++ forward_if (codes "forward_to") d.description.forward_to d.forward_there))

-- ---- the rules of a subscription

-- what a correlation filter asks for, as a line gives it
abbrev pub conditions_data : Conditions → Data
conditions_data c = object (member (codes "props") (object (with_properties no_members c.props)) (member (codes "sys") (object (with_texts no_members c.sys)) no_members))

-- members with a filter, under the key at which a line gives it
abbrev pub with_filter : FilterText → Members → Members
with_filter (Sql text) ms = put (codes "filter") (string text) ms
with_filter (Correlation c) ms = put (codes "correlation") (conditions_data c) ms

-- a rule: what a line gives to make it, but for its subscription
abbrev pub rule_data : RuleShown → Data
rule_data r = object (string_if (codes "action") r.action (with_filter r.filter (with_string (codes "name") r.name no_members)))

-- rules in their order
abbrev pub rules_data : List RuleShown → Data
rules_data rs = array (items_of (map rule_data rs))

-- ---- sessions, transactions, clients

-- a session in a list
abbrev pub session_data : SessionShown → Data
session_data x =
    object (with_string (codes "id") x.id (with_number (codes "ready") x.ready (with_number (codes "state_bytes") x.state_bytes (member (codes "until") (number_or_null x.until) no_members))))

-- sessions in their order
abbrev pub sessions_data : List SessionShown → Data
sessions_data xs = array (items_of (map session_data xs))

-- an open transaction in a list
abbrev pub transaction_data : TransactionShown → Data
transaction_data x =
    object (with_number (codes "deadline") x.deadline (member (codes "entity") (entity_or_null x.entity) (with_number (codes "operations") x.operations (with_number (codes "txn") x.number no_members))))

-- transactions in their order
abbrev pub transactions_data : List TransactionShown → Data
transactions_data xs = array (items_of (map transaction_data xs))

-- a client in a list
abbrev pub client_data : ClientShown → Data
client_data x = object (with_string (codes "client") x.client (with_number (codes "number") x.number no_members))

-- clients in their order
abbrev pub clients_data : List ClientShown → Data
clients_data xs = array (items_of (map client_data xs))
