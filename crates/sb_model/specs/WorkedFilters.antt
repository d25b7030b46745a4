-- Filters worked through: what they come to on a message.
use Rattle.std.specs.Prelude.{ℕ, List, [], ◌∷◌, codes, None, Result, pos, true}
use Rattle.sb_model.specs.declared.message.Message.{Message}
use Rattle.sb_model.specs.declared.message.Property.{Property}
use Rattle.sb_model.specs.declared.message.PropertyValue.TheVariants.{Int, Text}
use Rattle.sb_model.specs.declared.truth.Truth.{Truth as ThreeValued}
use Rattle.sb_model.specs.declared.expression.PropertyName.TheVariants.{User}
use Rattle.sb_model.specs.declared.expression.BinaryOperator.TheVariants.{Equal, NotEqual, Subtract, Divide}
use Rattle.sb_model.specs.declared.evaluation.EvalFault.{EvalFault}
use Rattle.sb_model.specs.Expressions.{Term, constant, property, binary, within, first, later}
use Rattle.sb_model.specs.Meaning.{truth_on}

-- a message with these properties alone
abbrev pub with_props : List Property → Message
with_props props = record { body = []; sys = []; props = props; ttl = None; schedule = None }

-- what a filter comes to on a message without properties
abbrev pub on_plain : Term → Result ThreeValued EvalFault
on_plain t = truth_on (with_props []) t

-- a constant
abbrev pub number : ℕ → Term
number n = constant (Int (pos n))

-- a user property
abbrev pub user : List ℕ → Term
user name = property (User name)

-- two expressions with `=` between them
abbrev pub equals : Term → Term → Term
equals t s = binary Equal t s

-- `0 - n`
abbrev pub less_than_zero : ℕ → Term
less_than_zero n = binary Subtract (number 0) (number n)

-- `a IN (1, b)`
abbrev pub one_or_b : Term
one_or_b = within true (user (codes "a")) (later (first (number 1)) (user (codes "b")))

-- a message whose one property a is this number
abbrev pub with_a : ℕ → Message
with_a n = with_props (record { name = codes "a"; value = Int (pos n) } ∷ [])

-- `color <> 'red'`
abbrev pub is_not_red : Term
is_not_red = binary NotEqual (user (codes "color")) (constant (Text (codes "red")))

-- `1 / 0 = 1`
abbrev pub by_zero : Term
by_zero = equals (binary Divide (number 1) (number 0)) (number 1)

-- `(0 - 9223372036854775807 - 1)`
abbrev pub least : Term
least = binary Subtract (less_than_zero 9223372036854775807) (number 1)
