-- Actions worked through: what they make of a message.
use Rattle.std.specs.Prelude.{ℕ, List, [], ◌∷◌, codes, None, Result, pos, true, replicate}
use Rattle.sb_model.specs.declared.message.Message.{Message}
use Rattle.sb_model.specs.declared.message.Property.{Property}
use Rattle.sb_model.specs.declared.message.PropertyValue.TheVariants.{Int, Text, Bool as Truth}
use Rattle.sb_model.specs.declared.message.SystemName.TheVariants.{Label, SessionId}
use Rattle.sb_model.specs.declared.expression.PropertyName.TheVariants.{User, System}
use Rattle.sb_model.specs.declared.expression.BinaryOperator.TheVariants.{Divide}
use Rattle.sb_model.specs.declared.evaluation.EvalFault.{EvalFault}
use Rattle.sb_model.specs.Expressions.{Term, Change, constant, binary, setting, removing}
use Rattle.sb_model.specs.Effects.{after_action}
use Rattle.sb_model.specs.WorkedFilters.{with_props, number, user}

-- a property that is a number
abbrev pub int : List ℕ → ℕ → Property
int name n = record { name = name; value = Int (pos n) }

-- a property that is a text
abbrev pub text : List ℕ → List ℕ → Property
text name value = record { name = name; value = Text value }

-- what an action makes of a message with these properties
abbrev pub on_props : List Property → List Change → Result Message EvalFault
on_props props changes = after_action (with_props props) changes

-- `SET a = 1; REMOVE b SET c = 'x''y'`
abbrev pub three_statements : List Change
three_statements = setting (User (codes "a")) (number 1) ∷ removing (User (codes "b")) ∷ setting (User (codes "c")) (constant (Text (codes "x'y"))) ∷ []

-- `SET sys.Foo = 1 / 0`, and so on
abbrev pub set_system : List ℕ → Term → List Change
set_system name t = setting (System name) t ∷ []

-- a division by zero
abbrev pub by_nothing : Term
by_nothing = binary Divide (number 1) (number 0)

-- `SET a = b; SET b = c; SET c = a`: each sees what those before left, and no c removes b
abbrev pub copied : List Change
copied = setting (User (codes "a")) (user (codes "b")) ∷ setting (User (codes "b")) (user (codes "c")) ∷ setting (User (codes "c")) (user (codes "a")) ∷ []

-- a message of a session, with a label
abbrev pub labelled : Message
labelled = record { body = []; sys = record { name = Label; text = codes "l" } ∷ record { name = SessionId; text = codes "s" } ∷ []; props = []; ttl = None; schedule = None }

-- a message of a session
abbrev pub in_session : Message
in_session = record { body = []; sys = record { name = SessionId; text = codes "s" } ∷ []; props = []; ttl = None; schedule = None }

-- so many properties of one name
abbrev pub flags : ℕ → List Property
flags count = replicate count (record { name = codes "f"; value = Truth true })
