-- Making, removing and counting entities and rules.
use Rattle.std.specs.Prelude.{ℕ, ◌+◌, ◌&&◌, Bool, length, List, [], ◌∷◌, map, filter, find, bytes_eq, codes, if◌then◌else◌, Option, Some, None, Result, Ok, Err}
use Rattle.std.specs.List.{sum_by}
use Rattle.std.specs.Option.{option_map}
use Rattle.sb_machine.specs.Descriptions.{bad_in_description}
use Rattle.sb_model.specs.Effects.{property_size, text_size, max_property_bytes}
use Rattle.sb_machine.specs.Messages.{above}
use Rattle.sb_machine.specs.Names.{is_name, is_short_name, is_rule_name}
use Rattle.sb_machine.specs.Namespace.{entity_at, entity_path, subscription_path}
use Rattle.sb_machine.specs.Rows.{Row, refuses, answers, refused_by, asks, found_or, absent_or, at_entity, is_topic}
use Rattle.sb_model.specs.Texts.{filter_in, action_in}
use Rattle.sb_machine.specs.Visits.{is_under}
use Rattle.sb_machine.specs.declared.call.Description.{Description}
use Rattle.sb_machine.specs.declared.call.FilterText.{FilterText}
use Rattle.sb_machine.specs.declared.call.FilterText.TheVariants.{Sql, Correlation}
use Rattle.sb_machine.specs.declared.call.Path.{Path}
use Rattle.sb_machine.specs.declared.change.Change.TheVariants.{Makes, Removes, AddsRule, DropsRule}
use Rattle.sb_machine.specs.declared.reply.Refusal.{Refusal}
use Rattle.sb_machine.specs.declared.reply.Refusal.TheVariants.{EntityNotFound, EntityExists, BadName, BadDescription, BadFilter, WrongKind, TooLarge}
use Rattle.sb_machine.specs.declared.reply.Reply.TheVariants.{Done, Counts}
use Rattle.sb_machine.specs.declared.rule.Rule.{Rule}
use Rattle.sb_machine.specs.declared.rule.RuleFilter.{RuleFilter}
use Rattle.sb_machine.specs.declared.rule.RuleFilter.TheVariants as kept
use Rattle.sb_machine.specs.declared.state.Entity.{Entity}
use Rattle.sb_machine.specs.declared.state.EntityKind.{EntityKind}
use Rattle.sb_machine.specs.declared.state.EntityKind.TheVariants.{Subscription}
use Rattle.sb_machine.specs.declared.state.Space.{Space}

-- ---- entities

-- the refusal of a description for its first field that the kind can't have
abbrev pub bad_description : EntityKind → Description → Option Refusal
bad_description kind d = option_map (λ field. BadDescription field) (bad_in_description kind d)

-- the rule of a new subscription, which takes all messages
abbrev pub default_rule : Rule
default_rule = record { name = codes "$default"; filter = kept.Sql (codes "1=1"); action = None }

-- a queue or a topic
abbrev pub create_row : Space → EntityKind → List ℕ → Description → Row
create_row s kind name d =
    asks (is_name name) BadName (absent_or (entity_at (entity_path name) s) EntityExists
    (refused_by (bad_description kind d) (answers Done (Makes kind (entity_path name) d [] ∷ []))))

-- making a subscription of a topic; it begins with the rule that takes everything
abbrev pub create_subscription_row : Space → List ℕ → List ℕ → Description → Row
create_subscription_row s topic name d =
    asks (is_name topic && is_short_name name) BadName (found_or (entity_at (entity_path topic) s) EntityNotFound (λ e.
    absent_or (entity_at (subscription_path topic name) s) EntityExists
    (refused_by (bad_description Subscription d) (asks (is_topic e.about.kind) WrongKind
    (answers Done (Makes Subscription (subscription_path topic name) d (default_rule ∷ []) ∷ []))))))

-- the entities that go with one: a topic's subscriptions
abbrev pub going_with : Space → Entity → List Entity
going_with s e = if is_topic e.about.kind then filter (λ x. is_under e.about.path.name x.about) s.entities else []

-- removing an entity, and what goes with it
abbrev pub delete_row : Space → Path → Row
delete_row s path = at_entity s path (λ e. answers Done (Removes e.about.number ∷ map (λ x. Removes x.about.number) (going_with s e)))

-- how many messages stand in the main part, the dead-letter part and the transfer part
abbrev pub counts_row : Space → Path → Row
counts_row s path = at_entity s path (λ e. answers (Counts (length e.main.copies) (length e.dead.copies) (length e.transfer.copies)) [])

-- ---- rules

-- the rule of this name, if the entity has it
abbrev pub rule_in : List ℕ → Entity → Option Rule
rule_in name e = find (λ r. bytes_eq r.name name) e.about.rules

-- as it is kept, where it can be read; else the place from which on it can't be
abbrev pub read_as : {X Y : Type 0} → Y → Result X ℕ → Result Y ℕ
read_as y (Ok x) = Ok y
read_as y (Err at) = Err at

-- a correlation filter has a condition at least
abbrev pub filter_of : FilterText → Result RuleFilter ℕ
filter_of (Sql text) = read_as (kept.Sql text) (filter_in text)
filter_of (Correlation c) = elim c.sys [ x ∷ xs ↦ Ok (kept.Correlation c) | [] ↦ elim c.props [ p ∷ ps ↦ Ok (kept.Correlation c) | [] ↦ Err 0 ] ]

-- the action as it is kept, or the place of the fault in its text
abbrev pub action_of : Option (List ℕ) → Result (Option (List ℕ)) ℕ
action_of None = Ok None
action_of (Some text) = read_as (Some text) (action_in text)

-- the bytes of a correlation filter's conditions
abbrev pub conditions_size : FilterText → ℕ
conditions_size (Sql text) = 0
conditions_size (Correlation c) = sum_by property_size c.props + sum_by text_size c.sys

-- the refusal of a filter whose conditions are too large, which tells their size
abbrev pub large_filter : FilterText → Option Refusal
large_filter f = option_map (λ size. TooLarge size) (above max_property_bytes (conditions_size f))

-- what is done with what was read
abbrev pub read_or : {X : Type 0} → Result X ℕ → (X → Row) → Row
read_or (Ok x) next = next x
read_or (Err at) next = refuses (BadFilter at)

-- whether a topic, a subscription and a rule may be named so
abbrev pub are_rule_names : List ℕ → List ℕ → List ℕ → Bool
are_rule_names topic subscription name = is_name topic && is_short_name subscription && is_rule_name name

-- adding a rule to a subscription
abbrev pub create_rule_row : Space → List ℕ → List ℕ → List ℕ → FilterText → Option (List ℕ) → Row
create_rule_row s topic subscription name asked action =
    asks (are_rule_names topic subscription name) BadName (found_or (entity_at (subscription_path topic subscription) s) EntityNotFound (λ e.
    absent_or (rule_in name e) EntityExists (read_or (filter_of asked) (λ f. read_or (action_of action) (λ a.
    refused_by (large_filter asked) (answers Done (AddsRule e.about.number (record { name = name; filter = f; action = a }) ∷ [])))))))

-- dropping a rule of a subscription
abbrev pub delete_rule_row : Space → List ℕ → List ℕ → List ℕ → Row
delete_rule_row s topic subscription name =
    asks (are_rule_names topic subscription name) BadName (found_or (entity_at (subscription_path topic subscription) s) EntityNotFound (λ e.
    found_or (rule_in name e) EntityNotFound (λ r. answers Done (DropsRule e.about.number name ∷ []))))
