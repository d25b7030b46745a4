-- What an operator looks at: which entities there are and how many messages stand how in them, how one is described, its sessions, and the
-- open transactions. Nothing changes.
use Rattle.std.specs.Prelude.{ℕ, ◌+◌, ◌==◌, ◌&&◌, ◌||◌, Bool, true, false, List, [], ◌∷◌, length, map, filter, find, take, bytes_eq, is_some, is_none, if◌then◌else◌, Option, Some, None}
use Rattle.std.specs.List.{fold}
use Rattle.std.specs.Option.{option_map}
use Rattle.sb_machine.specs.Claims.{has_sessions}
use Rattle.sb_machine.specs.Keyed.{with_sorted}
use Rattle.sb_machine.specs.Leases.{is_ready, is_scheduled}
use Rattle.sb_machine.specs.Leaves.{is_deferred, session_in}
use Rattle.sb_machine.specs.Messages.{has_text_of, text_of}
use Rattle.sb_machine.specs.Names.{is_before}
use Rattle.sb_machine.specs.Namespace.{entity_of, listed}
use Rattle.sb_machine.specs.Rows.{Row, answers, asks, at_entity}
use Rattle.sb_machine.specs.Sessions.{size_of}
use Rattle.sb_machine.specs.Visits.{destination}
use Rattle.sb_machine.specs.declared.call.FilterText.{FilterText}
use Rattle.sb_machine.specs.declared.call.FilterText.TheVariants as asked
use Rattle.sb_machine.specs.declared.call.Part.TheVariants.{Main}
use Rattle.sb_machine.specs.declared.call.Path.{Path}
use Rattle.sb_machine.specs.declared.look.Described.{Described}
use Rattle.sb_machine.specs.declared.look.EntityShown.{EntityShown}
use Rattle.sb_machine.specs.declared.look.Look.{Look}
use Rattle.sb_machine.specs.declared.look.Look.TheVariants as look
use Rattle.sb_machine.specs.declared.look.PartShown.{PartShown}
use Rattle.sb_machine.specs.declared.look.RuleShown.{RuleShown}
use Rattle.sb_machine.specs.declared.look.SessionShown.{SessionShown}
use Rattle.sb_machine.specs.declared.look.TransactionShown.{TransactionShown}
use Rattle.sb_machine.specs.declared.look.View.TheVariants as seen
use Rattle.sb_machine.specs.declared.reply.Refusal.TheVariants.{SessionNotAllowed}
use Rattle.sb_machine.specs.declared.reply.Reply.TheVariants.{Seen}
use Rattle.sb_machine.specs.declared.rule.Rule.{Rule}
use Rattle.sb_machine.specs.declared.rule.RuleFilter.{RuleFilter}
use Rattle.sb_machine.specs.declared.rule.RuleFilter.TheVariants as kept
use Rattle.sb_machine.specs.declared.state.Entity.{Entity}
use Rattle.sb_machine.specs.declared.state.Leaf.{Leaf}
use Rattle.sb_machine.specs.declared.state.Session.{Session}
use Rattle.sb_machine.specs.declared.state.Space.{Space}
use Rattle.sb_machine.specs.declared.state.Standing.{Standing}
use Rattle.sb_machine.specs.declared.state.Standing.TheVariants.{Ready, Deferred, Held, Scheduled}
use Rattle.sb_machine.specs.declared.state.StoredCopy.{StoredCopy}
use Rattle.sb_machine.specs.declared.state.Transaction.{Transaction}
use Rattle.sb_model.specs.declared.message.SystemName.TheVariants.{SessionId}

-- ---- a part

-- whether a message is under a lock
abbrev pub is_held : Standing → Bool
is_held Ready = false
is_held Deferred = false
is_held (Held lock hold deferred) = true
is_held (Scheduled at) = false

-- how many messages stand so
abbrev pub count_of : (Standing → Bool) → List StoredCopy → ℕ
count_of stands copies = length (filter (λ c. stands c.standing) copies)

-- When the first message that may be received was enqueued. A message gets its number as it is enqueued, so no other that may be received
-- was enqueued before it.
abbrev pub oldest_in : List StoredCopy → Option ℕ
oldest_in copies = option_map (λ c. c.enqueued) (find (λ c. is_ready c.standing) copies)

-- how many messages of a part stand how
abbrev pub part_shown : List StoredCopy → PartShown
part_shown copies = record {
  ready = count_of is_ready copies;
  held = count_of is_held copies;
  deferred = count_of is_deferred copies;
  scheduled = count_of is_scheduled copies;
  oldest = oldest_in copies;
}

-- ---- sessions

-- whether a message may be received, and is of the session of this id
abbrev pub is_ready_of : List ℕ → StoredCopy → Bool
is_ready_of id c = is_ready c.standing && has_text_of SessionId id c.message

-- whether a message is the first of the session of this id that may be received
abbrev pub is_first_of : List ℕ → List StoredCopy → StoredCopy → Bool
is_first_of id copies c = elim (find (is_ready_of id) copies) [ Some x ↦ x.number == c.number | None ↦ false ]

-- whether a message is the first of its session that may be received, and the session has neither a holder nor a state
abbrev pub is_only_sign : Leaf → StoredCopy → Bool
is_only_sign leaf c = elim (text_of SessionId c.message) [ Some id ↦ is_none (session_in id leaf) && is_first_of id leaf.copies c | None ↦ false ]

-- such messages, one for each session that is known by its messages alone
abbrev pub only_signs : Leaf → List StoredCopy
only_signs leaf = filter (is_only_sign leaf) leaf.copies

-- a session that is known by a message alone
abbrev pub session_of : StoredCopy → Session
session_of c = record { id = elim (text_of SessionId c.message) [ Some id ↦ id | None ↦ [] ]; state = None; holder = None }

-- sessions and one more, in order of their ids
abbrev pub with_session : List Session → Session → List Session
with_session sessions x = with_sorted (λ y. is_before y.id x.id) x sessions

-- the sessions of a part, in order of their ids: those with a holder, with a state, or with a message that may be received
abbrev pub sessions_of : Leaf → List Session
sessions_of leaf = fold with_session leaf.sessions (map session_of (only_signs leaf))

-- a session as it is shown
abbrev pub session_shown : Leaf → Session → SessionShown
session_shown leaf x = record {
  id = x.id;
  until = option_map (λ h. h.until) x.holder;
  state_bytes = size_of x.state;
  ready = length (filter (is_ready_of x.id) leaf.copies);
}

-- whether a text comes behind this one
abbrev pub is_behind : Option (List ℕ) → List ℕ → Bool
is_behind None id = true
is_behind (Some after) id = is_before after id

-- the first sessions of a part behind an id
abbrev pub sessions_shown : Option (List ℕ) → ℕ → Leaf → List SessionShown
sessions_shown after count leaf = map (session_shown leaf) (take count (filter (λ x. is_behind after x.id) (sessions_of leaf)))

-- looking at the sessions of an entity
abbrev pub sessions_row : Space → Path → Option (List ℕ) → ℕ → Row
sessions_row s path after count = at_entity s path (λ e. asks (has_sessions e Main) SessionNotAllowed (answers (Seen (seen.Sessions (sessions_shown after count e.main))) []))

-- ---- entities in order of their addresses

-- an entity comes before its subscriptions
abbrev pub is_option_before : Option (List ℕ) → Option (List ℕ) → Bool
is_option_before None None = false
is_option_before None (Some b) = true
is_option_before (Some a) None = false
is_option_before (Some a) (Some b) = is_before a b

-- the order of addresses: by the entity's name, then by the subscription's
abbrev pub is_path_before : Path → Path → Bool
is_path_before a b = is_before a.name b.name || (bytes_eq a.name b.name && is_option_before a.subscription b.subscription)

-- whether a text begins so
abbrev pub begins_with : Option (List ℕ) → List ℕ → Bool
begins_with None name = true
begins_with (Some front) name = bytes_eq (take (length front) name) front

-- whether an address comes behind this one
abbrev pub is_path_behind : Option Path → Path → Bool
is_path_behind None path = true
is_path_behind (Some after) path = is_path_before after path

-- whether an entity is among those that are asked for
abbrev pub is_asked : Option (List ℕ) → Option Path → Entity → Bool
is_asked prefix after e = begins_with prefix e.about.path.name && is_path_behind after e.about.path

-- entities and one more, in order of their addresses
abbrev pub with_entity : List Entity → Entity → List Entity
with_entity es e = with_sorted (λ x. is_path_before x.about.path e.about.path) e es

-- the first entities of those that are asked for, in order of their addresses
abbrev pub entities_asked : Space → Option (List ℕ) → Option Path → ℕ → List Entity
entities_asked s prefix after count = take count (fold with_entity [] (filter (is_asked prefix after) s.entities))

-- this, where an entity has sessions
abbrev pub of_sessions : Entity → ℕ → ℕ
of_sessions e n = if has_sessions e Main then n else 0

-- an entity in a list
abbrev pub entity_shown : Entity → EntityShown
entity_shown e = record {
  kind = e.about.kind;
  path = e.about.path;
  main = part_shown e.main.copies;
  dead = part_shown e.dead.copies;
  transfer = part_shown e.transfer.copies;
  sessions = of_sessions e (length e.main.sessions + length (only_signs e.main));
  held_sessions = of_sessions e (length (filter (λ x. is_some x.holder) e.main.sessions));
}

-- looking at entities
abbrev pub entities_row : Space → Option (List ℕ) → Option Path → ℕ → Row
entities_row s prefix after count = answers (Seen (seen.Entities (map entity_shown (entities_asked s prefix after count)))) []

-- ---- one entity

-- a filter as it was asked for
abbrev pub filter_shown : RuleFilter → FilterText
filter_shown (kept.Sql text) = asked.Sql text
filter_shown (kept.Correlation conditions) = asked.Correlation conditions

-- a rule as it was asked for
abbrev pub rule_shown : Rule → RuleShown
rule_shown r = record { name = r.name; filter = filter_shown r.filter; action = r.action }

-- whether the queue or topic of this name is there
abbrev pub is_there : Space → Option (List ℕ) → Bool
is_there s None = false
is_there s (Some name) = is_some (destination (listed s) name)

-- how an entity is described
abbrev pub described : Space → Entity → Described
described s e = record {
  kind = e.about.kind;
  description = e.about.description;
  forward_there = is_there s e.about.description.forward_to;
  forward_dead_there = is_there s e.about.description.forward_dead_to;
  rules = map rule_shown e.about.rules;
}

-- looking at one entity
abbrev pub entity_row : Space → Path → Row
entity_row s path = at_entity s path (λ e. answers (Seen (seen.Entity (described s e))) [])

-- ---- transactions

-- an open transaction, with the address of its entity
abbrev pub transaction_shown : Space → Transaction → TransactionShown
transaction_shown s x = record {
  number = x.number;
  entity = option_map (λ e. e.about.path) (entity_of x.entity s);
  deadline = x.deadline;
  operations = length x.operations;
}

-- looking at the open transactions
abbrev pub transactions_row : Space → Row
transactions_row s = answers (Seen (seen.Transactions (map (transaction_shown s) s.transactions))) []

-- ---- all looks

-- What each look comes to. Clients are no part of a namespace: they are shown where they are remembered (Repeats).
abbrev pub look_row : Space → Look → Row
look_row s (look.Entities prefix after count) = entities_row s prefix after count
look_row s (look.Entity path) = entity_row s path
look_row s (look.Sessions path after count) = sessions_row s path after count
look_row s look.Transactions = transactions_row s
look_row s (look.Clients after count) = answers (Seen (seen.Clients [])) []
