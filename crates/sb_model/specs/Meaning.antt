-- What an expression of the filter language comes to on a message: a value, unknown (`None`) or a fault.
use Rattle.std.specs.Prelude.{ℕ, List, [], ◌∷◌, ◌++◌, Bool, true, false, not, if◌then◌else◌, nat_le, nat_lt, codes, bytes_eq, ◌==◌, find, Option, Some, None, is_some, is_none, Result, Ok, Err, ℤ, pos, negsuc, ◌+ℤ◌, ◌-ℤ◌, ◌*ℤ◌, neg_ℤ, int_div, int_rem}
use Rattle.std.specs.Option.{option_map}
use Rattle.std.specs.List.{list_any}
use Rattle.std.specs.Str.{str_to_ascii_lowercase, str_eq_ignore_ascii_case}
use Rattle.std.specs.Ordering.{int_cmp, int_eq, nat_cmp, is_eq, is_lt, is_le, is_gt, is_ge}
use Rattle.std.specs.Cmp.Lexicographic.{slice_cmp}
use Rattle.std.specs.declared.cmp.Ordering.{Ordering}
use Rattle.sb_model.specs.declared.message.Message.{Message}
use Rattle.sb_model.specs.declared.message.SystemName.{SystemName}
use Rattle.sb_model.specs.declared.message.PropertyValue.{PropertyValue}
use Rattle.sb_model.specs.declared.message.PropertyValue.TheVariants.{Int, Text, Bool as Truth}
use Rattle.sb_model.specs.declared.truth.Truth.{Truth as ThreeValued}
use Rattle.sb_model.specs.declared.truth.Truth.TheVariants.{True, False, Unknown}
use Rattle.sb_model.specs.declared.expression.PropertyName.{PropertyName}
use Rattle.sb_model.specs.declared.expression.PropertyName.TheVariants.{User, System}
use Rattle.sb_model.specs.declared.expression.UnaryOperator.{UnaryOperator}
use Rattle.sb_model.specs.declared.expression.UnaryOperator.TheVariants.{Plus, Minus, Not, IsNull, IsNotNull, PropertyNamed}
use Rattle.sb_model.specs.declared.expression.BinaryOperator.{BinaryOperator}
use Rattle.sb_model.specs.declared.expression.BinaryOperator.TheVariants.{Or, And, Equal, NotEqual, Greater, AtLeast, Less, AtMost, Add, Subtract, Multiply, Divide, Remainder}
use Rattle.sb_model.specs.declared.evaluation.EvalFault.{EvalFault}
use Rattle.sb_model.specs.declared.evaluation.EvalFault.TheVariants.{Overflow, DivideByZero, NoSystemProperty}
use Rattle.sb_model.specs.Expressions.{Term, Terms, constant, property, existing, unary, binary, within, like, like_escape, first, later}
use Rattle.sb_model.specs.Truth.{known, truth_not, truth_and, truth_or}
use Rattle.sb_model.specs.SystemNames.{system_code, system_named}
use Rattle.sb_model.specs.Likes.{is_like, is_one_character}

-- the first fault is the fault
abbrev pub and_then : {A B : Type 0} → Result A EvalFault → (A → Result B EvalFault) → Result B EvalFault
and_then (Ok x) next = next x
and_then (Err fault) next = Err fault

-- ---- truth

-- a whole number or a text stands for unknown
abbrev pub truth_of : Option PropertyValue → ThreeValued
truth_of (Some (Truth b)) = known b
truth_of (Some (Int n)) = Unknown
truth_of (Some (Text s)) = Unknown
truth_of None = Unknown

-- the value of a truth; unknown has none
abbrev pub as_value : ThreeValued → Option PropertyValue
as_value True = Some (Truth true)
as_value False = Some (Truth false)
as_value Unknown = None

-- as it stands, or behind NOT
abbrev pub affirmed_or_denied : Bool → ThreeValued → ThreeValued
affirmed_or_denied true t = t
affirmed_or_denied false t = truth_not t

-- ---- properties

-- the value of a user property, if the message has it
abbrev pub user_value : Message → List ℕ → Option PropertyValue
user_value m name = option_map (λ p. p.value) (find (λ p. bytes_eq p.name name) m.props)

-- the value of a system property, if the message has it
abbrev pub system_text : Message → SystemName → Option PropertyValue
system_text m name = option_map (λ s. Text s.text) (find (λ s. system_code s.name == system_code name) m.sys)

-- in seconds; a longer one has no value
abbrev pub max_seconds : ℕ
max_seconds = 922337203685

-- a time to live as a value; one that is too long has none
abbrev pub time_to_live : Option ℕ → Option PropertyValue
time_to_live (Some seconds) = if nat_le seconds max_seconds then Some (Int (pos seconds)) else None
time_to_live None = None

-- the value of a system property that is known; another name is a fault
abbrev pub known_text : Message → Option SystemName → Result (Option PropertyValue) EvalFault
known_text m (Some name) = Ok (system_text m name)
known_text m None = Err NoSystemProperty

-- the value of what is named behind `sys.`: the time to live, or a system property
abbrev pub system_value : Message → List ℕ → Result (Option PropertyValue) EvalFault
system_value m name = if str_eq_ignore_ascii_case name (codes "TimeToLive") then Ok (time_to_live m.ttl) else known_text m (system_named name)

-- one that isn't there is unknown
abbrev pub property_value : Message → PropertyName → Result (Option PropertyValue) EvalFault
property_value m (User name) = Ok (user_value m name)
property_value m (System name) = system_value m name

-- `property(x)`: x not a text is unknown
abbrev pub value_named : Message → Option PropertyValue → Option PropertyValue
value_named m (Some (Text name)) = user_value m (str_to_ascii_lowercase name)
value_named m (Some (Int n)) = None
value_named m (Some (Truth b)) = None
value_named m None = None

-- ---- whole numbers

-- from -9223372036854775808 to 9223372036854775807
abbrev pub is_64_bits : ℤ → Bool
is_64_bits (pos n) = nat_lt n 9223372036854775808
is_64_bits (negsuc n) = nat_lt n 9223372036854775808

-- a number as a value, unless it is outside 64 bits
abbrev pub number_of : ℤ → Result (Option PropertyValue) EvalFault
number_of z = if is_64_bits z then Ok (Some (Int z)) else Err Overflow

-- cut towards zero
abbrev pub quotient : ℤ → ℤ → Result (Option PropertyValue) EvalFault
quotient a b = if int_eq b (pos 0) then Err DivideByZero else number_of (int_div a b)

-- with the sign of the dividend; Overflow where the quotient overflows
abbrev pub remainder : ℤ → ℤ → Result (Option PropertyValue) EvalFault
remainder a b = if int_eq b (pos 0) then Err DivideByZero else (if is_64_bits (int_div a b) then Ok (Some (Int (int_rem a b))) else Err Overflow)

-- of anything but two whole numbers unknown
abbrev pub on_numbers : (ℤ → ℤ → Result (Option PropertyValue) EvalFault) → Option PropertyValue → Option PropertyValue → Result (Option PropertyValue) EvalFault
on_numbers f (Some (Int a)) (Some (Int b)) = f a b
on_numbers f _ _ = Ok None

-- two texts are joined
abbrev pub sum_of : Option PropertyValue → Option PropertyValue → Result (Option PropertyValue) EvalFault
sum_of (Some (Text a)) (Some (Text b)) = Ok (Some (Text (a ++ b)))
sum_of x y = on_numbers (λ a b. number_of (a +ℤ b)) x y

-- what minus makes of a value; of anything but a number, unknown
abbrev pub negative : Option PropertyValue → Result (Option PropertyValue) EvalFault
negative (Some (Int a)) = number_of (neg_ℤ a)
negative (Some (Text s)) = Ok None
negative (Some (Truth b)) = Ok None
negative None = Ok None

-- what plus makes of a value; of anything but a number, unknown
abbrev pub positive : Option PropertyValue → Option PropertyValue
positive (Some (Int a)) = Some (Int a)
positive (Some (Text s)) = None
positive (Some (Truth b)) = None
positive None = None

-- ---- comparisons

-- how two whole numbers, or two texts by their bytes, stand to each other
abbrev pub order_of : Option PropertyValue → Option PropertyValue → Option Ordering
order_of (Some (Int a)) (Some (Int b)) = Some (int_cmp a b)
order_of (Some (Text a)) (Some (Text b)) = Some (slice_cmp nat_cmp a b)
order_of _ _ = None

-- the test of an order; unknown where there is no order
abbrev pub where_ordered : (Ordering → Bool) → Option Ordering → ThreeValued
where_ordered test (Some o) = known (test o)
where_ordered test None = Unknown

-- what a comparison of two values comes to
abbrev pub comparison : (Ordering → Bool) → Option PropertyValue → Option PropertyValue → ThreeValued
comparison test x y = where_ordered test (order_of x y)

-- of two truth values too
abbrev pub equality : Option PropertyValue → Option PropertyValue → ThreeValued
equality (Some (Truth true)) (Some (Truth b)) = known b
equality (Some (Truth false)) (Some (Truth b)) = known (not b)
equality x y = comparison is_eq x y

-- whether a truth is true
abbrev pub is_true : ThreeValued → Bool
is_true True = true
is_true False = false
is_true Unknown = false

-- whether a truth is unknown
abbrev pub is_unknown : ThreeValued → Bool
is_unknown True = false
is_unknown False = false
is_unknown Unknown = true

-- `x IN (..)`: true where an equality is true, else unknown where one is unknown, else false
abbrev pub among : Option PropertyValue → List (Option PropertyValue) → ThreeValued
among x values =
    if list_any (λ v. is_true (equality x v)) values then True
    else (if list_any (λ v. is_unknown (equality x v)) values then Unknown else False)

-- of anything but texts unknown
abbrev pub likeness : Option PropertyValue → Option PropertyValue → ThreeValued
likeness (Some (Text text)) (Some (Text pattern)) = known (is_like text pattern None)
likeness _ _ = Unknown

-- unknown where the escape isn't one character
unfoldable pub like_by : List ℕ → List ℕ → List ℕ → ThreeValued
like_by text pattern escape = if is_one_character escape then known (is_like text pattern (Some escape)) else Unknown

-- what LIKE with ESCAPE comes to; unknown, unless all three are texts
abbrev pub likeness_by : Option PropertyValue → Option PropertyValue → Option PropertyValue → ThreeValued
likeness_by (Some (Text text)) (Some (Text pattern)) (Some (Text escape)) = like_by text pattern escape
likeness_by _ _ _ = Unknown

-- ---- operators

-- what each operator of one operand comes to
abbrev pub of_one : Message → UnaryOperator → Option PropertyValue → Result (Option PropertyValue) EvalFault
of_one m Plus x = Ok (positive x)
of_one m Minus x = negative x
of_one m Not x = Ok (as_value (truth_not (truth_of x)))
of_one m IsNull x = Ok (Some (Truth (is_none x)))
of_one m IsNotNull x = Ok (Some (Truth (is_some x)))
of_one m PropertyNamed x = Ok (value_named m x)

-- what each operator of two operands comes to
abbrev pub of_two : BinaryOperator → Option PropertyValue → Option PropertyValue → Result (Option PropertyValue) EvalFault
of_two Or x y = Ok (as_value (truth_or (truth_of x) (truth_of y)))
of_two And x y = Ok (as_value (truth_and (truth_of x) (truth_of y)))
of_two Equal x y = Ok (as_value (equality x y))
of_two NotEqual x y = Ok (as_value (truth_not (equality x y)))
of_two Greater x y = Ok (as_value (comparison is_gt x y))
of_two AtLeast x y = Ok (as_value (comparison is_ge x y))
of_two Less x y = Ok (as_value (comparison is_lt x y))
of_two AtMost x y = Ok (as_value (comparison is_le x y))
of_two Add x y = sum_of x y
of_two Subtract x y = on_numbers (λ a b. number_of (a -ℤ b)) x y
of_two Multiply x y = on_numbers (λ a b. number_of (a *ℤ b)) x y
of_two Divide x y = on_numbers quotient x y
of_two Remainder x y = on_numbers remainder x y

-- ---- expressions

-- all parts are evaluated, left before right
abbrev mutual
  pub value_of : Message → Term → Result (Option PropertyValue) EvalFault
  value_of m (constant v) = Ok (Some v)
  value_of m (property name) = property_value m name
  value_of m (existing name) = and_then (property_value m name) (λ x. Ok (Some (Truth (is_some x))))
  value_of m (unary operator t) = and_then (value_of m t) (of_one m operator)
  value_of m (binary operator t s) = and_then (value_of m t) (λ x. and_then (value_of m s) (of_two operator x))
  value_of m (within affirmed t ts) = and_then (value_of m t) (λ x. and_then (values_of m ts) (λ xs. Ok (as_value (affirmed_or_denied affirmed (among x xs)))))
  value_of m (like affirmed t s) = and_then (value_of m t) (λ x. and_then (value_of m s) (λ y. Ok (as_value (affirmed_or_denied affirmed (likeness x y)))))
  value_of m (like_escape affirmed t s e) = and_then (value_of m t) (λ x. and_then (value_of m s) (λ y. and_then (value_of m e) (λ z. Ok (as_value (affirmed_or_denied affirmed (likeness_by x y z))))))

  pub values_of : Message → Terms → Result (List (Option PropertyValue)) EvalFault
  values_of m (first t) = and_then (value_of m t) (λ x. Ok (x ∷ []))
  values_of m (later ts t) = and_then (values_of m ts) (λ xs. and_then (value_of m t) (λ x. Ok (xs ++ x ∷ [])))

-- of a filter: it matches where this is true
abbrev pub truth_on : Message → Term → Result ThreeValued EvalFault
truth_on m t = and_then (value_of m t) (λ x. Ok (truth_of x))
