-- Trees without where they lie in memory.
use Rattle.std.specs.Prelude.{Bool, List, map}
use Rattle.sb_model.specs.declared.message.PropertyValue.{PropertyValue}
use Rattle.sb_model.specs.declared.expression.PropertyName.{PropertyName}
use Rattle.sb_model.specs.declared.expression.UnaryOperator.{UnaryOperator}
use Rattle.sb_model.specs.declared.expression.BinaryOperator.{BinaryOperator}
use Rattle.sb_model.specs.declared.expression.Expression.{Expression, Constant, Property, Exists, Unary', Binary', In', Like', LikeEscape'}
use Rattle.sb_model.specs.declared.expression.Items.{Items, First', Later'}
use Rattle.sb_model.specs.declared.expression.Statement.{Statement}
use Rattle.sb_model.specs.declared.expression.Statement.TheVariants.{Set, Remove}

mutual
  -- an expression of a filter or of an action
  pub data Term : Type 0 where
    constant : PropertyValue → Term
    property : PropertyName → Term
    existing : PropertyName → Term
    unary : UnaryOperator → Term → Term
    binary : BinaryOperator → Term → Term → Term
    within : Bool → Term → Terms → Term
    like : Bool → Term → Term → Term
    like_escape : Bool → Term → Term → Term → Term

  -- the list behind IN, of one expression or more
  pub data Terms : Type 0 where
    first : Term → Terms
    later : Terms → Term → Terms

abbrev mutual
  pub term_of : Expression → Term
  term_of (Constant v) = constant v
  term_of (Property n) = property n
  term_of (Exists n) = existing n
  term_of (Unary' op p t) = unary op (term_of t)
  term_of (Binary' op p l q r) = binary op (term_of l) (term_of r)
  term_of (In' affirmed p l q xs) = within affirmed (term_of l) (terms_of xs)
  term_of (Like' affirmed p l q r) = like affirmed (term_of l) (term_of r)
  term_of (LikeEscape' affirmed p l q r o e) = like_escape affirmed (term_of l) (term_of r) (term_of e)

  pub terms_of : Items → Terms
  terms_of (First' p t) = first (term_of t)
  terms_of (Later' p xs q t) = later (terms_of xs) (term_of t)

-- one change that an action makes
pub data Change : Type 0 where
  setting : PropertyName → Term → Change
  removing : PropertyName → Change

-- what a statement asks for
abbrev pub change_of : Statement → Change
change_of (Set n x) = setting n (term_of x)
change_of (Remove n) = removing n

-- what the statements of an action ask for, in order
abbrev pub changes_of : List Statement → List Change
changes_of = map change_of
