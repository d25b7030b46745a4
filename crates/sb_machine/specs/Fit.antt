-- Messages, entities, sessions and rules as a state may hold them.
use Rattle.std.specs.Prelude.{◌≡◌, ◌≢◌, ℕ, ◌+◌, ◌*◌, ◌≤◌, ◌<◌, nat_lt, ◌&&◌, ◌||◌, not, Bool, List, [], length, filter, bytes_eq, codes, true, false, is_some, is_none, Option, Some, None}
use Rattle.std.specs.List.{list_any}
use Rattle.sb_machine.specs.Changes.{max_number, is_earlier}
use Rattle.sb_machine.specs.Delivery.{max_count}
use Rattle.sb_machine.specs.Descriptions.{bad_in_description, has_rules}
use Rattle.sb_model.specs.Effects.{value_size, max_property_bytes, max_user_properties, property_bytes}
use Rattle.sb_machine.specs.Fields.{max_ttl, bad_in_texts, is_between_or_none, is_id, is_number}
use Rattle.sb_machine.specs.Keyed.{AreRising}
use Rattle.sb_machine.specs.Leaves.{is_held_under}
use Rattle.sb_machine.specs.Messages.{max_body, text_of}
use Rattle.sb_machine.specs.Names.{is_address, is_rule_name, is_main, is_before}
use Rattle.sb_machine.specs.Namespace.{entity_path, entity_at}
use Rattle.sb_machine.specs.Sessions.{max_state, size_of}
use Rattle.sb_model.specs.SystemNames.{system_code}
use Rattle.sb_model.specs.Texts.{filter_in, action_in}
use Rattle.sb_machine.specs.Visits.{max_hops}
use Rattle.sb_machine.specs.declared.call.Path.{Path}
use Rattle.sb_model.specs.declared.message.Message.{Message}
use Rattle.sb_model.specs.declared.message.Property.{Property}
use Rattle.sb_model.specs.declared.message.SystemName.TheVariants.{SessionId}
use Rattle.sb_machine.specs.declared.rule.Rule.{Rule}
use Rattle.sb_machine.specs.declared.rule.RuleFilter.{RuleFilter}
use Rattle.sb_machine.specs.declared.rule.RuleFilter.TheVariants.{Sql, Correlation}
use Rattle.sb_machine.specs.declared.state.AcceptedId.{AcceptedId}
use Rattle.sb_machine.specs.declared.state.Entity.{Entity}
use Rattle.sb_machine.specs.declared.state.EntityKind.{EntityKind}
use Rattle.sb_machine.specs.declared.state.EntityKind.TheVariants.{Queue, Topic, Subscription}
use Rattle.sb_machine.specs.declared.state.Hold.TheVariants.{Until, Session as UnderSession}
use Rattle.sb_machine.specs.declared.state.Leaf.{Leaf}
use Rattle.sb_machine.specs.declared.state.Listed.{Listed}
use Rattle.sb_machine.specs.declared.state.Session.{Session}
use Rattle.sb_machine.specs.declared.state.Space.{Space}
use Rattle.sb_machine.specs.declared.state.Standing.{Standing}
use Rattle.sb_machine.specs.declared.state.Standing.TheVariants.{Ready, Deferred, Held, Scheduled}
use Rattle.sb_machine.specs.declared.state.StoredCopy.{StoredCopy}
use Rattle.sb_machine.specs.Each.{Each, Pairs, IsSorted, IfSome, is_text_of, is_read, is_topic_at}

-- ---- messages that are kept

-- what the service itself sets
abbrev pub is_set_aside : Property → Bool
is_set_aside p = bytes_eq p.name (codes "rulename") || bytes_eq p.name (codes "deadletterreason") || bytes_eq p.name (codes "deadlettererrordescription")

-- a message without the properties that the broker writes
abbrev pub without_own : Message → Message
without_own m = record m { props = filter (λ p. not (is_set_aside p)) m.props }

-- what holds of a message that is kept: its lists in order, its sizes within the limits
pub record IsMessage (m : Message) : Type 0 where
  pub sys : IsSorted (λ a b. nat_lt (system_code a.name) (system_code b.name)) m.sys
  pub texts : Each (λ s. 0 < length s.text) m.sys
  pub props : IsSorted (λ a b. is_before a.name b.name) m.props
  pub own : Each (λ p. is_set_aside p ≡ true → value_size p.value ≤ max_property_bytes) m.props
  pub fields : bad_in_texts m.sys ≡ None
  pub many : length (without_own m).props ≤ max_user_properties
  pub size : property_bytes (without_own m) ≤ max_property_bytes
  pub body : length m.body ≤ max_body
  pub ttl : is_between_or_none 1 max_ttl m.ttl ≡ true

-- ---- copies

-- a lock lives no longer than a lock may; a session's names the holder of the copy's session
abbrev pub IsHold : ℕ → List Session → StoredCopy → Standing → Type 0
IsHold now sessions c (Held lock (Until u) deferred) = u ≤ now + 300000
IsHold now sessions c (Held lock (UnderSession l) deferred) = list_any (λ x. is_held_under l x && is_text_of x.id (text_of SessionId c.message)) sessions ≡ true
IsHold now sessions c Ready = Unit {0}
IsHold now sessions c Deferred = Unit {0}
IsHold now sessions c (Scheduled at) = Unit {0}

-- what holds of a message that stands in a part
pub record IsCopy (now : ℕ) (sessions : List Session) (c : StoredCopy) : Type 0 where
  pub enqueued : c.enqueued ≤ now
  pub seq : is_number c.enqueued_seq ≡ true
  pub count : c.count ≤ max_count
  pub hops : c.hops ≤ max_hops
  pub held : IsHold now sessions c c.standing
  pub message : IsMessage c.message
  pub no_schedule : c.message.schedule ≡ None

-- what holds of a session
pub record IsSession (now : ℕ) (x : Session) : Type 0 where
  pub state : size_of x.state ≤ max_state
  pub until : IfSome x.holder (λ h. h.until ≤ now + 300000)

-- numbers from 1 to the last, rising
pub record IsLeaf (now : ℕ) (leaf : Leaf) : Type 0 where
  pub last : leaf.last ≤ max_number
  pub numbers : AreRising (λ c. c.number) 0 leaf.last leaf.copies
  pub copies : Each (IsCopy now leaf.sessions) leaf.copies
  pub order : IsSorted (λ a b. is_before a.id b.id) leaf.sessions
  pub short_ids : Each (λ x. is_id x.id ≡ true) leaf.sessions
  pub sessions : Each (IsSession now) leaf.sessions

-- ---- entities

-- a filter that can be read, or that asks for something
abbrev pub IsFilter : RuleFilter → Type 0
IsFilter (Sql text) = is_read (filter_in text) ≡ true
IsFilter (Correlation c) = (length c.sys + length c.props ≢ 0) × IsMessage (record { body = []; sys = c.sys; props = c.props; ttl = None; schedule = None })

-- what holds of a rule: its name, its filter and its action are sound
pub record IsRule (r : Rule) : Type 0 where
  pub name : is_rule_name r.name ≡ true
  pub asked : IsFilter r.filter
  pub action : IfSome r.action (λ text. is_read (action_in text) ≡ true)

-- whether an address suits the kind: subscriptions alone have one of two names
abbrev pub is_kind : EntityKind → Path → Bool
is_kind Queue path = is_none path.subscription
is_kind Topic path = is_none path.subscription
is_kind Subscription path = is_some path.subscription

-- what holds of an entity's address, description and rules
pub record IsListed (about : Listed) : Type 0 where
  pub address : is_address about.path ≡ true
  pub whole : is_main about.path.part ≡ true
  pub kind : is_kind about.kind about.path ≡ true
  pub described : bad_in_description about.kind about.description ≡ None
  pub order : IsSorted (λ a b. is_before a.name b.name) about.rules
  pub rules : Each IsRule about.rules
  pub none : has_rules about.kind ≡ false → about.rules ≡ []

-- ids stand where there is a window, and no two lie further apart than it
abbrev pub AreIds : ℕ → Option ℕ → List AcceptedId → Type 0
AreIds now None ids = ids ≡ []
AreIds now (Some window) ids =
    IsSorted (λ a b. is_earlier b.moment b.id a) ids × Each (λ a. a.moment ≤ now) ids × Pairs (λ a b. b.moment < a.moment + 1000 * window) ids

-- what holds of an entity
pub record IsEntity (now : ℕ) (e : Entity) : Type 0 where
  pub about : IsListed e.about
  pub ids : AreIds now e.about.description.window e.ids
  pub short_ids : Each (λ a. is_id a.id ≡ true) e.ids
  pub main : IsLeaf now e.main
  pub dead : IsLeaf now e.dead
  pub transfer : IsLeaf now e.transfer

-- a subscription's topic is there
abbrev pub HasTopic : Space → Entity → Type 0
HasTopic s e = is_some e.about.path.subscription ≡ true → is_topic_at (entity_at (entity_path e.about.path.name) s) ≡ true
