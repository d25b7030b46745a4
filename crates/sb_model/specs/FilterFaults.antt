-- What a filter may fail by.
use Rattle.std.specs.Prelude.{Result, Ok, Err}
use Rattle.sb_model.specs.declared.message.Message.{Message}
use Rattle.sb_model.specs.declared.evaluation.EvalFault.{EvalFault}
use Rattle.sb_model.specs.declared.evaluation.EvalFault.TheVariants.{Overflow, DivideByZero, NoSystemProperty, BadSystemValue, TooLarge, OutOfMemory}
use Rattle.sb_model.specs.Expressions.{Term}
use Rattle.sb_model.specs.Meaning.{truth_on}

-- a fault that the evaluation of a filter may have
abbrev pub IsFilterFault : EvalFault → Type 0
IsFilterFault Overflow = Unit {0}
IsFilterFault DivideByZero = Unit {0}
IsFilterFault NoSystemProperty = Unit {0}
IsFilterFault BadSystemValue = ⊥
IsFilterFault TooLarge = ⊥
IsFilterFault OutOfMemory = ⊥

-- an evaluation that, if it fails, fails by a fault of a filter
abbrev pub FailsOnlySo : {A : Type 0} → Result A EvalFault → Type 0
FailsOnlySo (Ok x) = Unit {0}
FailsOnlySo (Err fault) = IsFilterFault fault

-- no filter fails in another way on any message
abbrev pub FiltersFailOnlySo : Type 0
FiltersFailOnlySo = (m : Message) (t : Term) → FailsOnlySo (truth_on m t)
