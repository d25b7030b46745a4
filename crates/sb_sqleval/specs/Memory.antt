-- Expressions that are evaluated, and actions that are carried out, without taking memory.
use Rattle.std.specs.Prelude.{◌≡◌, Bool, true, false, List, [], ◌∷◌}
use Rattle.sb_model.specs.declared.expression.UnaryOperator.{UnaryOperator}
use Rattle.sb_model.specs.declared.expression.UnaryOperator.TheVariants.{PropertyNamed}
use Rattle.sb_model.specs.declared.expression.BinaryOperator.{BinaryOperator}
use Rattle.sb_model.specs.declared.expression.BinaryOperator.TheVariants.{Add}
use Rattle.sb_model.specs.Expressions.{Term, Terms, constant, property, existing, unary, binary, within, like, like_escape, first, later, Change, setting, removing}

-- `property(x)` folds a name
abbrev pub may_fold : UnaryOperator → Bool
may_fold PropertyNamed = true
may_fold _ = false

-- `+` may join two texts
abbrev pub may_join : BinaryOperator → Bool
may_join Add = true
may_join _ = false

abbrev mutual
  pub TakesNoMemory : Term → Type 0
  TakesNoMemory (constant v) = Unit {0}
  TakesNoMemory (property name) = Unit {0}
  TakesNoMemory (existing name) = Unit {0}
  TakesNoMemory (unary operator t) = (may_fold operator ≡ false) × TakesNoMemory t
  TakesNoMemory (binary operator t s) = (may_join operator ≡ false) × TakesNoMemory t × TakesNoMemory s
  TakesNoMemory (within affirmed t ts) = TakesNoMemory t × NoneTakesMemory ts
  TakesNoMemory (like affirmed t s) = TakesNoMemory t × TakesNoMemory s
  TakesNoMemory (like_escape affirmed t s e) = TakesNoMemory t × TakesNoMemory s × TakesNoMemory e

  pub NoneTakesMemory : Terms → Type 0
  NoneTakesMemory (first t) = TakesNoMemory t
  NoneTakesMemory (later ts t) = NoneTakesMemory ts × TakesNoMemory t

-- a statement that removes a property
abbrev pub IsRemoval : Change → Type 0
IsRemoval (setting name t) = ⊥
IsRemoval (removing name) = Unit {0}

-- an action of REMOVE statements alone
abbrev pub RemoveAlone : List Change → Type 0
RemoveAlone [] = Unit {0}
RemoveAlone (c ∷ cs) = IsRemoval c × RemoveAlone cs
