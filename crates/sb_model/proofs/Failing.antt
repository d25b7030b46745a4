-- Each part of an expression fails only as a filter may.
use Rattle.std.specs.Prelude.{Bool, true, false, if◌then◌else◌, Option, Some, None, Result, Ok, Err, ℤ, pos, ◌+ℤ◌, ◌-ℤ◌, ◌*ℤ◌, neg_ℤ, int_div, codes}
use Rattle.std.specs.Ordering.{int_eq}
use Rattle.std.specs.Str.{str_eq_ignore_ascii_case}
use Rattle.sb_model.specs.declared.message.Message.{Message}
use Rattle.sb_model.specs.declared.message.SystemName.{SystemName}
use Rattle.sb_model.specs.declared.message.PropertyValue.{PropertyValue}
use Rattle.sb_model.specs.declared.message.PropertyValue.TheVariants.{Int, Text}
use Rattle.sb_model.specs.declared.expression.PropertyName.{PropertyName}
use Rattle.sb_model.specs.declared.expression.PropertyName.TheVariants.{User, System}
use Rattle.sb_model.specs.declared.expression.UnaryOperator.{UnaryOperator}
use Rattle.sb_model.specs.declared.expression.UnaryOperator.TheVariants.{Minus}
use Rattle.sb_model.specs.declared.expression.BinaryOperator.{BinaryOperator}
use Rattle.sb_model.specs.declared.expression.BinaryOperator.TheVariants.{Add, Subtract, Multiply, Divide, Remainder}
use Rattle.sb_model.specs.declared.evaluation.EvalFault.{EvalFault}
use Rattle.sb_model.specs.Expressions.{Term, Terms, constant, property, existing, unary, binary, within, like, like_escape, first, later}
use Rattle.sb_model.specs.SystemNames.{system_named}
use Rattle.sb_model.specs.Meaning.{and_then, is_64_bits, number_of, quotient, remainder, on_numbers, sum_of, negative, known_text, property_value, of_one, of_two, value_of, values_of}
use Rattle.sb_model.specs.FilterFaults.{FailsOnlySo, FiltersFailOnlySo}

behind : {A B : Type 0} (r : Result A EvalFault) (next : A → Result B EvalFault) → FailsOnlySo r → ((x : A) → FailsOnlySo (next x)) → FailsOnlySo (and_then r next)
behind (Ok x) next p q = q x
behind (Err fault) next p q = p

either : {A : Type 0} (test : Bool) (r s : Result A EvalFault) → FailsOnlySo r → FailsOnlySo s → FailsOnlySo (if test then r else s)
either true r s p q = p
either false r s p q = q

of_number : (z : ℤ) → FailsOnlySo (number_of z)
of_number z = either (is_64_bits z) _ _ tt tt

of_quotient : (a b : ℤ) → FailsOnlySo (quotient a b)
of_quotient a b = either (int_eq b (pos 0)) _ _ tt (of_number (int_div a b))

of_remainder : (a b : ℤ) → FailsOnlySo (remainder a b)
of_remainder a b = either (int_eq b (pos 0)) _ _ tt (either (is_64_bits (int_div a b)) _ _ tt tt)

of_numbers : (f : ℤ → ℤ → Result (Option PropertyValue) EvalFault) → ((a b : ℤ) → FailsOnlySo (f a b)) → (x y : Option PropertyValue) → FailsOnlySo (on_numbers f x y)
of_numbers f p (Some (Int a)) (Some (Int b)) = p a b
of_numbers f p _ _ = tt

of_sum : (x y : Option PropertyValue) → FailsOnlySo (sum_of x y)
of_sum (Some (Text a)) (Some (Text b)) = tt
of_sum (Some (Int a)) (Some (Int b)) = of_number (a +ℤ b)
of_sum _ _ = tt

of_negative : (x : Option PropertyValue) → FailsOnlySo (negative x)
of_negative (Some (Int a)) = of_number (neg_ℤ a)
of_negative _ = tt

of_known : (m : Message) (name : Option SystemName) → FailsOnlySo (known_text m name)
of_known m (Some name) = tt
of_known m None = tt

of_property : (m : Message) (name : PropertyName) → FailsOnlySo (property_value m name)
of_property m (User name) = tt
of_property m (System name) = either (str_eq_ignore_ascii_case name (codes "TimeToLive")) _ _ tt (of_known m (system_named name))

by_one : (m : Message) (operator : UnaryOperator) (x : Option PropertyValue) → FailsOnlySo (of_one m operator x)
by_one m Minus x = of_negative x
by_one m _ x = tt

by_two : (operator : BinaryOperator) (x y : Option PropertyValue) → FailsOnlySo (of_two operator x y)
by_two Add x y = of_sum x y
by_two Subtract x y = of_numbers _ (λ a b. of_number (a -ℤ b)) x y
by_two Multiply x y = of_numbers _ (λ a b. of_number (a *ℤ b)) x y
by_two Divide x y = of_numbers _ of_quotient x y
by_two Remainder x y = of_numbers _ of_remainder x y
by_two _ x y = tt

mutual
  of_value : (m : Message) (t : Term) → FailsOnlySo (value_of m t)
  of_value m (constant v) = tt
  of_value m (property name) = of_property m name
  of_value m (existing name) = behind (property_value m name) _ (of_property m name) (λ x. tt)
  of_value m (unary operator t) = behind (value_of m t) _ (of_value m t) (by_one m operator)
  of_value m (binary operator t s) = behind (value_of m t) _ (of_value m t) (λ x. behind (value_of m s) _ (of_value m s) (by_two operator x))
  of_value m (within affirmed t ts) = behind (value_of m t) _ (of_value m t) (λ x. behind (values_of m ts) _ (of_values m ts) (λ xs. tt))
  of_value m (like affirmed t s) = behind (value_of m t) _ (of_value m t) (λ x. behind (value_of m s) _ (of_value m s) (λ y. tt))
  of_value m (like_escape affirmed t s e) = behind (value_of m t) _ (of_value m t) (λ x. behind (value_of m s) _ (of_value m s) (λ y. behind (value_of m e) _ (of_value m e) (λ z. tt)))

  of_values : (m : Message) (ts : Terms) → FailsOnlySo (values_of m ts)
  of_values m (first t) = behind (value_of m t) _ (of_value m t) (λ x. tt)
  of_values m (later ts t) = behind (values_of m ts) _ (of_values m ts) (λ xs. behind (value_of m t) _ (of_value m t) (λ x. tt))

pub of_filters : FiltersFailOnlySo
of_filters m t = behind (value_of m t) _ (of_value m t) (λ x. tt)
