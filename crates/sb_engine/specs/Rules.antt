-- Adding a rule and taking one away, by what is listed of the subscription.
use Rattle.std.specs.Prelude.{ℕ, List, [], ◌∷◌, bytes_eq, find, Option}
use Rattle.sb_machine.specs.Administration.{filter_of, action_of, large_filter, read_or}
use Rattle.sb_machine.specs.Rows.{Row, answers, refused_by, found_or, absent_or}
use Rattle.sb_machine.specs.declared.call.FilterText.{FilterText}
use Rattle.sb_machine.specs.declared.change.Change.TheVariants.{AddsRule, DropsRule}
use Rattle.sb_machine.specs.declared.reply.Refusal.TheVariants.{EntityExists, EntityNotFound}
use Rattle.sb_machine.specs.declared.reply.Reply.TheVariants.{Done}
use Rattle.sb_machine.specs.declared.rule.Rule.{Rule}
use Rattle.sb_machine.specs.declared.state.Listed.{Listed}

-- the rule of this name, if there is one
abbrev pub rule_of : List ℕ → List Rule → Option Rule
rule_of name rules = find (λ r. bytes_eq r.name name) rules

-- adding a rule to a subscription that has none of its name: its texts are read, its size is judged
abbrev pub read_in : ℕ → List ℕ → FilterText → Option (List ℕ) → Row
read_in entity name asked action = read_or (filter_of asked) (λ f. read_or (action_of action) (λ a.
    refused_by (large_filter asked) (answers Done (AddsRule entity (record { name = name; filter = f; action = a }) ∷ []))))

-- adding a rule to a subscription
abbrev pub created_in : Listed → List ℕ → FilterText → Option (List ℕ) → Row
created_in about name asked action = absent_or (rule_of name about.rules) EntityExists (read_in about.number name asked action)

-- dropping a rule of a subscription
abbrev pub deleted_in : Listed → List ℕ → Row
deleted_in about name = found_or (rule_of name about.rules) EntityNotFound (λ r. answers Done (DropsRule about.number name ∷ []))
