-- Readings that were worked out by hand, on tokens.
use Rattle.std.specs.Prelude.{◌≡◌, ℕ, true, false, List, [], ◌∷◌, ◌++◌, Ok, Err, codes, replicate, pos}
use Rattle.sb_model.specs.declared.message.PropertyValue.TheVariants.{Int, Text}
use Rattle.sb_model.specs.declared.expression.PropertyName.TheVariants.{User, System}
use Rattle.sb_model.specs.declared.expression.UnaryOperator.TheVariants as unary_operator
use Rattle.sb_model.specs.declared.expression.BinaryOperator.TheVariants.{Or, And, Equal, Subtract, Multiply}
use Rattle.sb_model.specs.Expressions.{Term, constant, property, existing, unary, binary, within, like_escape, first, later, setting, removing}
use Rattle.sb_model.specs.declared.token.Kind.{Kind}
use Rattle.sb_model.specs.declared.token.Kind.TheVariants.{Constant, Name, Open, Close, Dot, Comma, Semicolon, Binary, Not, In, Like, Escape, Is, Null, Exists, Set, Remove}
use Rattle.sb_model.specs.declared.token.Role.TheVariants.{Plain, Function, SystemScope, UserScope}
use Rattle.sb_model.specs.Reading.{filter_of, action_of}

-- the token of a number
abbrev pub int : ℕ → Kind
int n = Constant (Int (pos n))

-- the tree of a number
abbrev pub one_is : ℕ → Term
one_is n = constant (Int (pos n))

-- the token of a plain name
abbrev pub word : List ℕ → Kind
word s = Name Plain s

-- the tree of a user property
abbrev pub user : List ℕ → Term
user s = property (User s)

-- a =
abbrev pub RowHalf : Type 0
RowHalf = filter_of 64 (word (codes "a") ∷ Binary Equal ∷ []) ≡ Err []

-- 1 = = 2
abbrev pub RowTwice : Type 0
RowTwice = filter_of 64 (int 1 ∷ Binary Equal ∷ Binary Equal ∷ int 2 ∷ []) ≡ Err (Binary Equal ∷ int 2 ∷ [])

-- 64 parentheses may nest, and no 65th
abbrev pub RowDeep : Type 0
RowDeep = filter_of 64 (replicate 64 Open ++ int 2 ∷ replicate 64 Close) ≡ Ok (one_is 2, [])

abbrev pub RowDeeper : Type 0
RowDeeper = filter_of 64 (replicate 65 Open ++ int 2 ∷ []) ≡ Err (Open ∷ int 2 ∷ [])

-- 1 - 2 - 3 * 4
abbrev pub RowLeft : Type 0
RowLeft = filter_of 64 (int 1 ∷ Binary Subtract ∷ int 2 ∷ Binary Subtract ∷ int 3 ∷ Binary Multiply ∷ int 4 ∷ []) ≡ Ok (binary Subtract (binary Subtract (one_is 1) (one_is 2)) (binary Multiply (one_is 3) (one_is 4)), [])

-- a OR b AND NOT NOT c IS NULL
abbrev pub RowOr : Type 0
RowOr = filter_of 64 (word (codes "a") ∷ Binary Or ∷ word (codes "b") ∷ Binary And ∷ Not ∷ Not ∷ word (codes "c") ∷ Is ∷ Null ∷ []) ≡ Ok (binary Or (user (codes "a")) (binary And (user (codes "b")) (unary unary_operator.Not (unary unary_operator.Not (unary unary_operator.IsNull (user (codes "c")))))), [])

-- P(1) NOT LIKE 2 ESCAPE sys.P
abbrev pub RowLike : Type 0
RowLike = filter_of 64 (Name Function (codes "P") ∷ Open ∷ int 1 ∷ Close ∷ Not ∷ Like ∷ int 2 ∷ Escape ∷ Name SystemScope (codes "sys") ∷ Dot ∷ Name Function (codes "P") ∷ []) ≡ Ok (like_escape false (unary unary_operator.PropertyNamed (one_is 1)) (one_is 2) (property (System (codes "P"))), [])

-- a IN (1, -b), and nothing behind
abbrev pub RowIn : Type 0
RowIn = filter_of 64 (word (codes "a") ∷ In ∷ Open ∷ int 1 ∷ Comma ∷ Binary Subtract ∷ word (codes "b") ∷ Close ∷ []) ≡ Ok (within true (user (codes "a")) (later (first (one_is 1)) (unary unary_operator.Minus (user (codes "b")))), [])

abbrev pub RowInOpen : Type 0
RowInOpen = filter_of 64 (word (codes "a") ∷ In ∷ Open ∷ Close ∷ []) ≡ Err (Close ∷ [])

-- EXISTS(user.sys)
abbrev pub RowExists : Type 0
RowExists = filter_of 64 (Exists ∷ Open ∷ Name UserScope (codes "user") ∷ Dot ∷ Name SystemScope (codes "sys") ∷ Close ∷ []) ≡ Ok (existing (User (codes "sys")), [])

-- EXISTS(p(1))
abbrev pub RowExistsCall : Type 0
RowExistsCall = filter_of 64 (Exists ∷ Open ∷ Name Function (codes "p") ∷ Open ∷ int 1 ∷ Close ∷ Close ∷ []) ≡ Err (Open ∷ int 1 ∷ Close ∷ Close ∷ [])

-- SET a = 1; REMOVE b SET sys.C = 'x',
abbrev pub RowAction : Type 0
RowAction = action_of 64 31 (Set ∷ word (codes "A") ∷ Binary Equal ∷ int 1 ∷ Semicolon ∷ Remove ∷ word (codes "b") ∷ Set ∷ Name SystemScope (codes "sys") ∷ Dot ∷ word (codes "C") ∷ Binary Equal ∷ Constant (Text (codes "x")) ∷ Comma ∷ []) ≡ Ok (setting (User (codes "a")) (one_is 1) ∷ removing (User (codes "b")) ∷ setting (System (codes "C")) (constant (Text (codes "x"))) ∷ [], [])

-- ; twice
abbrev pub RowSeparators : Type 0
RowSeparators = action_of 64 31 (Remove ∷ word (codes "b") ∷ Semicolon ∷ Semicolon ∷ []) ≡ Err (Semicolon ∷ [])

-- one statement too many
abbrev pub RowStatements : Type 0
RowStatements = action_of 64 1 (Remove ∷ word (codes "b") ∷ Remove ∷ word (codes "b") ∷ Comma ∷ Remove ∷ word (codes "b") ∷ []) ≡ Err (Remove ∷ word (codes "b") ∷ [])
