-- What a subscription takes of a message that comes to its topic: by its rules once, several times, changed, or not at all.
use Rattle.std.specs.Prelude.{ℕ, List, [], ◌∷◌, ◌++◌, Bool, true, false, not, ◌&&◌, ◌==◌, if◌then◌else◌, map, find, bytes_eq, codes, Option, Some, None, is_none, is_some, Result, Ok, Err}
use Rattle.std.specs.List.{filter, list_all, list_any}
use Rattle.std.specs.Ordering.{int_eq}
use Rattle.sb_model.specs.declared.message.Message.{Message}
use Rattle.sb_model.specs.declared.message.Property.{Property}
use Rattle.sb_model.specs.declared.message.PropertyValue.{PropertyValue}
use Rattle.sb_model.specs.declared.message.PropertyValue.TheVariants.{Int, Text, Bool as Truth}
use Rattle.sb_model.specs.declared.message.SystemText.{SystemText}
use Rattle.sb_model.specs.declared.evaluation.EvalFault.{EvalFault}
use Rattle.sb_model.specs.Expressions.{Term, Change}
use Rattle.sb_model.specs.Texts.{filter_in, action_in}
use Rattle.sb_model.specs.SystemNames.{system_code}
use Rattle.sb_model.specs.Meaning.{truth_on, is_true}
use Rattle.sb_model.specs.Effects.{after_action, with_user}
use Rattle.sb_machine.specs.declared.rule.Rule.{Rule}
use Rattle.sb_machine.specs.declared.rule.RuleFilter.{RuleFilter}
use Rattle.sb_machine.specs.declared.rule.RuleFilter.TheVariants.{Sql, Correlation}
use Rattle.sb_machine.specs.declared.rule.Outcome.{Outcome}
use Rattle.sb_machine.specs.declared.rule.Outcome.TheVariants.{Copies, Dead, Dropped}

-- ---- correlation filters

-- equal values of one kind, texts byte for byte
abbrev pub same_value : PropertyValue → PropertyValue → Bool
same_value (Int a) (Int b) = int_eq a b
same_value (Text a) (Text b) = bytes_eq a b
same_value (Truth true) (Truth b) = b
same_value (Truth false) (Truth b) = not b
same_value _ _ = false

-- whether there is a system text, and it is this one
abbrev pub is_text : List ℕ → Option SystemText → Bool
is_text text None = false
is_text text (Some s) = bytes_eq s.text text

-- whether a message meets a condition on a system property
abbrev pub has_text : Message → SystemText → Bool
has_text m c = is_text c.text (find (λ s. system_code s.name == system_code c.name) m.sys)

-- whether there is a user property, and it has this value
abbrev pub is_value : PropertyValue → Option Property → Bool
is_value value None = false
is_value value (Some p) = same_value p.value value

-- whether a message meets a condition on a user property
abbrev pub has_property : Message → Property → Bool
has_property m c = is_value c.value (find (λ p. bytes_eq p.name c.name) m.props)

-- ---- one rule

-- whether an evaluation came to an end without a fault
abbrev pub is_ok : {A : Type 0} → Result A EvalFault → Bool
is_ok (Ok x) = true
is_ok (Err fault) = false

-- what is done with what a text is read as; a rule's text can be read
abbrev pub on_read : {X A : Type 0} → A → (X → A) → Result X ℕ → A
on_read other f (Ok x) = f x
on_read other f (Err at) = other

-- whether a filter is true of a message; one that is unknown or has a fault isn't
abbrev pub is_true_on : Message → Term → Bool
is_true_on m t = elim (truth_on m t) [ Ok x ↦ is_true x | Err fault ↦ false ]

-- a filter that fails isn't true
abbrev pub matches : Message → RuleFilter → Bool
matches m (Sql text) = on_read false (is_true_on m) (filter_in text)
matches m (Correlation conditions) = list_all (has_text m) conditions.sys && list_all (has_property m) conditions.props

-- whether the evaluation of a filter has a fault on a message
abbrev pub filter_fails : Message → RuleFilter → Bool
filter_fails m (Sql text) = on_read false (λ t. not (is_ok (truth_on m t))) (filter_in text)
filter_fails m (Correlation conditions) = false

-- whether the evaluation of an action has a fault on a message
abbrev pub action_fails : Message → Option (List ℕ) → Bool
action_fails m None = false
action_fails m (Some text) = on_read false (λ steps. not (is_ok (after_action m steps))) (action_in text)

-- its filter, or its action where the filter is true
abbrev pub fails : Message → Rule → Bool
fails m r = if filter_fails m r.filter then true else (matches m r.filter && action_fails m r.action)

-- whether a rule without an action takes a message
abbrev pub takes_plainly : Message → Rule → Bool
takes_plainly m r = is_none r.action && matches m r.filter

-- whether a rule with an action takes a message
abbrev pub takes_changed : Message → Rule → Bool
takes_changed m r = is_some r.action && matches m r.filter

-- the message after a rule's action, as it was where that fails
abbrev pub after_steps : Message → List Change → Message
after_steps m steps = elim (after_action m steps) [ Ok changed ↦ changed | Err fault ↦ m ]

-- a message after an action
abbrev pub acted_on : Message → Option (List ℕ) → Message
acted_on m None = m
acted_on m (Some text) = on_read m (after_steps m) (action_in text)

-- a message that carries the name of the rule which took it
abbrev pub tagged : List ℕ → Message → Message
tagged name m = record m { props = with_user (codes "rulename") (Some (Text name)) m.props }

-- the message that a rule with an action makes of one that it takes
abbrev pub changed_by : Message → Rule → Message
changed_by m r = tagged r.name (acted_on m r.action)

-- ---- all rules, in order of name

-- one for all rules without action
abbrev pub plain_copies : Message → List Rule → List Message
plain_copies m rules = if list_any (takes_plainly m) rules then m ∷ [] else []

-- one for each rule with an action
abbrev pub changed_copies : Message → List Rule → List Message
changed_copies m rules = map (changed_by m) (filter (takes_changed m) rules)

-- any rule that fails decides
abbrev pub selected : Bool → List Rule → Message → Outcome
selected dead_on_fault rules m =
    if list_any (fails m) rules then (if dead_on_fault then Dead else Dropped)
    else Copies (plain_copies m rules ++ changed_copies m rules)
