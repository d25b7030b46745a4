-- What the code's values and answers say.
use Rattle.std.specs.Prelude.{◌≡◌, ◌≢◌, Option, Some, None, Result, Ok, Err}
use Rattle.std.specs.Cow.{cow_str_bytes}
use Rattle.sb_model.specs.declared.message.PropertyValue.{PropertyValue}
use Rattle.sb_model.specs.declared.message.PropertyValue.TheVariants as property
use Rattle.sb_model.specs.declared.evaluation.EvalFault.{EvalFault}
use Rattle.sb_model.specs.declared.evaluation.EvalFault.TheVariants.{OutOfMemory}
use Rattle.sb_sqleval.specs.declared.value.Value.{Value}
use Rattle.sb_sqleval.specs.declared.value.Value.TheVariants.{Unknown, Int, Text, Bool}

-- what a value of the code means
abbrev pub value_in : Value → Option PropertyValue
value_in Unknown = None
value_in (Int n) = Some (property.Int n)
value_in (Text text) = Some (property.Text (cow_str_bytes text))
value_in (Bool is) = Some (property.Bool is)

-- just what is said
abbrev pub Is : {X Y : Type 0} → (X → Y) → Result X EvalFault → Result Y EvalFault → Type 0
Is view (Ok x) said = said ≡ Ok (view x)
Is view (Err fault) said = said ≡ Err fault

-- just what is said, or want of memory
abbrev pub Gives : {X Y : Type 0} → (X → Y) → Result X EvalFault → Result Y EvalFault → Type 0
Gives view (Ok x) said = said ≡ Ok (view x)
Gives view (Err fault) said = fault ≢ OutOfMemory → said ≡ Err fault
