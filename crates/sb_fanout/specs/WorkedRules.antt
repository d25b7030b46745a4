-- Rules worked through: what a subscription takes.
use Rattle.std.specs.Prelude.{ℕ, List, [], ◌∷◌, codes, Bool, true, None, Some, pos}
use Rattle.sb_machine.specs.Selection.{selected}
use Rattle.sb_model.specs.WorkedFilters.{with_props}
use Rattle.sb_model.specs.declared.message.Message.{Message}
use Rattle.sb_model.specs.declared.message.Property.{Property}
use Rattle.sb_model.specs.declared.message.PropertyValue.TheVariants.{Int, Text}
use Rattle.sb_model.specs.declared.message.SystemName.TheVariants.{Label, MessageId}
use Rattle.sb_machine.specs.declared.rule.Outcome.{Outcome}
use Rattle.sb_machine.specs.declared.rule.Rule.{Rule}
use Rattle.sb_machine.specs.declared.rule.RuleFilter.TheVariants.{Sql, Correlation}

-- a message without properties
abbrev pub plain : Message
plain = with_props []

-- a property that is a number
abbrev pub int : List ℕ → ℕ → Property
int name n = record { name = name; value = Int (pos n) }

-- a rule of this name, with a filter alone, and with an action on each message
abbrev pub selecting : List ℕ → List ℕ → Rule
selecting name filter = record { name = name; filter = Sql filter; action = None }

-- a rule that takes everything, with an action
abbrev pub acting : List ℕ → List ℕ → Rule
acting name action = record { name = name; filter = Sql (codes "1=1"); action = Some action }

-- three rules without an action, and two with one
abbrev pub five_rules : List Rule
five_rules = selecting (codes "a") (codes "1=1") ∷ selecting (codes "b") (codes "1=1") ∷ selecting (codes "c") (codes "1=1") ∷ acting (codes "d") (codes "SET x = 1") ∷ acting (codes "e") (codes "SET x = 2") ∷ []

-- the message that one of those with an action makes
abbrev pub by_rule : List ℕ → ℕ → Message
by_rule name n = with_props (record { name = codes "rulename"; value = Text name } ∷ int (codes "x") n ∷ [])

-- the least number by -1, which is beyond 64 bits
abbrev pub failing : List ℕ
failing = codes "(0 - 9223372036854775807 - 1) / (0 - 1) = 1"

-- by one rule
abbrev pub taken_by : Bool → List ℕ → Outcome
taken_by dead_on_fault filter = selected dead_on_fault (selecting (codes "r") filter ∷ []) plain

-- a false rule with an action that fails, and a true one with such an action
abbrev pub not_acting : Rule
not_acting = record { name = codes "r"; filter = Sql (codes "1=2"); action = Some (codes "SET x = 1/0") }

-- ---- correlation

abbrev pub asking : Rule
asking = record { name = codes "r"; filter = Correlation (record { sys = record { name = Label; text = codes "l" } ∷ []; props = int (codes "n") 1 ∷ [] }); action = None }

-- a message with this label, whose property n is this number
abbrev pub answering : List ℕ → ℕ → Message
answering label n = record { body = []; sys = record { name = MessageId; text = codes "m" } ∷ record { name = Label; text = label } ∷ []; props = int (codes "a") 5 ∷ int (codes "n") n ∷ []; ttl = None; schedule = None }

-- the same with n as a text
abbrev pub by_text : Message
by_text = record (answering (codes "l") 1) { props = record { name = codes "n"; value = Text (codes "1") } ∷ [] }

-- what a subscription with this rule alone takes of a message
abbrev pub asked : Message → Outcome
asked m = selected true (asking ∷ []) m
