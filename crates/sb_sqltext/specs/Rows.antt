-- Texts and what they are read as, worked out by hand.
use Rattle.std.specs.Prelude.{◌≡◌, ℕ, List, [], ◌∷◌, ◌++◌, Option, Some, None, Result, Ok, Err, codes, replicate, map, pos, true, false}
use Rattle.std.specs.List.{concat}
use Rattle.sb_model.specs.declared.message.PropertyValue.TheVariants.{Int, Text}
use Rattle.sb_model.specs.declared.expression.PropertyName.TheVariants.{User, System}
use Rattle.sb_model.specs.declared.expression.UnaryOperator.TheVariants as unary_operator
use Rattle.sb_model.specs.declared.expression.BinaryOperator.TheVariants.{Or, And, Equal, NotEqual, Subtract, Multiply}
use Rattle.sb_model.specs.Expressions.{Term, Change, constant, property, unary, binary, within, like_escape, first, later, setting, removing}
use Rattle.sb_model.specs.Reading.{filter_of, action_of}
use Rattle.sb_model.specs.Texts.{read_text}

-- a filter's text as it is read
abbrev pub filter_in : List ℕ → Result Term ℕ
filter_in text = read_text (filter_of 64) text

-- an action's text as it is read
abbrev pub action_in : List ℕ → Result (List Change) ℕ
action_in text = read_text (action_of 64 31) text

-- the place of the fault, if there is one
abbrev pub fault_in : {T : Type 0} → Result T ℕ → Option ℕ
fault_in (Ok t) = None
fault_in (Err place) = Some place

-- the places of the faults of filters
abbrev pub filter_faults : List (List ℕ) → List (Option ℕ)
filter_faults = map (λ text. fault_in (filter_in text))

-- the places of the faults of actions
abbrev pub action_faults : List (List ℕ) → List (Option ℕ)
action_faults = map (λ text. fault_in (action_in text))

-- the tree of a number
abbrev pub number : ℕ → Term
number n = constant (Int (pos n))

-- the tree of a user property
abbrev pub user : List ℕ → Term
user s = property (User s)

-- texts whose tree tells precedence, grouping, folding and quotes
abbrev pub RowLeft : Type 0
RowLeft = filter_in (codes "A-1-2*3 = b") ≡ Ok (binary Equal (binary Subtract (binary Subtract (user (codes "a")) (number 1)) (binary Multiply (number 2) (number 3))) (user (codes "b")))

abbrev pub RowOr : Type 0
RowOr = filter_in (codes "a oR NOT b and c") ≡ Ok (binary Or (user (codes "a")) (binary And (unary unary_operator.Not (user (codes "b"))) (user (codes "c"))))

abbrev pub RowQuotes : Type 0
RowQuotes = filter_in (codes "[X]]y] <> 'it''s'") ≡ Ok (binary NotEqual (user (codes "x]y")) (constant (Text (codes "it's"))))

abbrev pub RowLike : Type 0
RowLike = filter_in (codes "sys.Label not like 'x!' escape '!'") ≡ Ok (like_escape false (property (System (codes "Label"))) (constant (Text (codes "x!"))) (constant (Text (codes "!"))))

abbrev pub RowIn : Type 0
RowIn = filter_in (codes "P('a') in (1,-x)") ≡ Ok (within true (unary unary_operator.PropertyNamed (constant (Text (codes "a")))) (later (first (number 1)) (unary unary_operator.Minus (user (codes "x")))))

abbrev pub RowAction : Type 0
RowAction = action_in (codes "SET a = 1; REMOVE b SET c = 'x''y'") ≡ Ok (setting (User (codes "a")) (number 1) ∷ removing (User (codes "b")) ∷ setting (User (codes "c")) (constant (Text (codes "x'y"))) ∷ [])

abbrev pub FilterTable1 : Type 0
FilterTable1 = filter_faults (codes "a =" ∷ codes "1 = = 2" ∷ codes "" ∷ codes "  " ∷ codes "1=1" ∷ codes "a NO" ∷ codes "a NOT" ∷ codes "a NOT 1" ∷ codes "NOTa" ∷ codes "NOT NOT a" ∷ codes "not not" ∷ codes "'a" ∷ codes "a = 'x" ∷ codes "'a''" ∷ codes "'''" ∷ codes "''" ∷ codes "''''" ∷ codes "'a''b''c" ∷ codes "[a" ∷ codes "[a]]" ∷ codes "[a]]]" ∷ codes "[] = 1" ∷ codes "\"\" = 1" ∷ codes "\"a\"\"b\" = 1" ∷ []) ≡ Some 3 ∷ Some 3 ∷ Some 0 ∷ Some 0 ∷ None ∷ Some 1 ∷ Some 5 ∷ Some 5 ∷ None ∷ None ∷ Some 7 ∷ Some 0 ∷ Some 3 ∷ Some 3 ∷ Some 2 ∷ None ∷ None ∷ Some 6 ∷ Some 0 ∷ Some 3 ∷ None ∷ None ∷ None ∷ None ∷ []

abbrev pub FilterTable2 : Type 0
FilterTable2 = filter_faults (codes "\"and\" = 1" ∷ codes "[or] or [and]" ∷ codes "9223372036854775807 = a" ∷ codes "9223372036854775808 = a" ∷ codes "00000000000000000000007 = 7" ∷ codes "9a = 1" ∷ codes "1.5 = a" ∷ codes "1_ = 1" ∷ codes "a1 = 1" ∷ codes "AND" ∷ codes "a aNd b" ∷ codes "a AND AND b" ∷ codes "a OR" ∷ codes "TRUE = fAlSe" ∷ codes "set = 1" ∷ codes "remove" ∷ codes "is" ∷ codes "a IN (1)" ∷ codes "a IN (1, 'x', b)" ∷ codes "a IN ()" ∷ codes "a IN 1" ∷ codes "a IN (1,)" ∷ codes "a NOT IN (1)" ∷ codes "a IN (1) IN (2)" ∷ []) ≡ None ∷ None ∷ None ∷ Some 0 ∷ None ∷ Some 0 ∷ Some 0 ∷ Some 0 ∷ None ∷ Some 0 ∷ None ∷ Some 5 ∷ Some 4 ∷ None ∷ Some 0 ∷ Some 0 ∷ Some 0 ∷ None ∷ None ∷ Some 6 ∷ Some 4 ∷ Some 8 ∷ None ∷ Some 8 ∷ []

abbrev pub FilterTable3 : Type 0
FilterTable3 = filter_faults (codes "a LIKE 'x'" ∷ codes "a LIKE 'x' ESCAPE '!'" ∷ codes "a LIKE" ∷ codes "a LIKE 'x' ESCAPE" ∷ codes "a ESCAPE 'x'" ∷ codes "a NOT LIKE b ESCAPE c" ∷ codes "EXISTS(a)" ∷ codes "EXISTS (sys.Label)" ∷ codes "EXISTS a" ∷ codes "EXISTS(p(1))" ∷ codes "EXISTS(1)" ∷ codes "exists(p)" ∷ codes "p('a') = 1" ∷ codes "property(a) = 1" ∷ codes "p = 1" ∷ codes "property = p" ∷ codes "[p](1) = 1" ∷ codes "p()" ∷ codes "sys.Label = 'x'" ∷ codes "SYS . label = 'x'" ∷ codes "user.a = sys" ∷ codes "user = sys" ∷ codes "sys. = 1" ∷ codes "a.b = 1" ∷ []) ≡ None ∷ None ∷ Some 6 ∷ Some 17 ∷ Some 1 ∷ None ∷ None ∷ None ∷ Some 6 ∷ Some 8 ∷ Some 7 ∷ None ∷ None ∷ None ∷ None ∷ None ∷ Some 3 ∷ Some 2 ∷ None ∷ None ∷ None ∷ None ∷ Some 4 ∷ Some 1 ∷ []

abbrev pub FilterTable4 : Type 0
FilterTable4 = filter_faults (codes "[sys].x = 1" ∷ codes "sys.p(1)" ∷ codes "a IS NULL" ∷ codes "a IS NOT NULL" ∷ codes "a IS 1" ∷ codes "NOT a IS NULL" ∷ codes "a IS NULL IS NULL" ∷ codes "a = b = c" ∷ codes "(a = b) + 1" ∷ codes "a <> b" ∷ codes "a != b" ∷ codes "a ! b" ∷ codes "a >= b" ∷ codes "a => b" ∷ codes "a <=b" ∷ codes "-a = +b" ∷ codes "a - - b = 0" ∷ codes "1 + * 2" ∷ codes "a % 2 = 1" ∷ codes "(a" ∷ codes "a)" ∷ codes "()" ∷ codes "a # b" ∷ []) ≡ Some 5 ∷ Some 5 ∷ None ∷ None ∷ Some 4 ∷ None ∷ Some 9 ∷ Some 5 ∷ None ∷ None ∷ None ∷ Some 1 ∷ None ∷ Some 3 ∷ None ∷ None ∷ None ∷ Some 3 ∷ None ∷ Some 2 ∷ Some 1 ∷ Some 1 ∷ Some 1 ∷ []

abbrev pub ActionTable1 : Type 0
ActionTable1 = action_faults (codes "SET a = 1; REMOVE b SET c = 'x''y'" ∷ codes "" ∷ codes "SET" ∷ codes "SET a" ∷ codes "SET a =" ∷ codes "SET a == 1" ∷ codes "SET a = b = c" ∷ codes "SET a = 1 SET b = 2" ∷ codes "SET a = 1, SET b = 2;" ∷ codes "SET a = 1;;" ∷ codes "SET a = 1,;" ∷ codes "REMOVE a" ∷ codes "REMOVE 1" ∷ codes "REMOVE sys.Label, REMOVE user.b" ∷ codes "REMOVE p(1)" ∷ codes "SET p = 1" ∷ codes "SET [p] = p(1)" ∷ codes "a = 1" ∷ codes "SET a = 1 2" ∷ codes "REMOVE" ∷ codes "SET a <> 1" ∷ []) ≡ None ∷ Some 0 ∷ Some 3 ∷ Some 5 ∷ Some 7 ∷ Some 7 ∷ None ∷ None ∷ None ∷ Some 10 ∷ Some 10 ∷ None ∷ Some 6 ∷ None ∷ Some 8 ∷ None ∷ None ∷ Some 0 ∷ Some 9 ∷ Some 6 ∷ Some 5 ∷ []

-- 64 parentheses, and one more
abbrev pub deep : ℕ → List ℕ
deep n = replicate n 40 ++ codes "1" ++ replicate n 41

-- how deep parentheses, signs and calls may nest
abbrev pub Depths : Type 0
Depths = filter_faults (deep 64 ∷ deep 65 ∷ (replicate 65 40) ∷ (replicate 64 40 ++ codes "a IN (1)" ++ replicate 64 41) ∷ (deep 64 ++ codes "IN (1)") ∷ (replicate 64 43 ++ codes "p(1)") ∷ (replicate 64 45 ++ codes "a NOT LIKE b") ∷ []) ≡ None ∷ Some 64 ∷ Some 64 ∷ Some 65 ∷ None ∷ Some 65 ∷ None ∷ []

-- 32 statements, and one more
abbrev pub Counts : Type 0
Counts = action_faults (concat (replicate 32 (codes "SET a=1 ")) ∷ concat (replicate 32 (codes "REMOVE a;")) ∷ concat (replicate 33 (codes "REMOVE a;")) ∷ []) ≡ None ∷ None ∷ Some 288 ∷ []

-- 1,024 characters, and one more; wide ones count once
abbrev pub Lengths : Type 0
Lengths = filter_faults ((codes "a=1" ++ replicate 1021 32) ∷ (codes "a=1" ++ replicate 1022 32) ∷ (codes "'" ++ concat (replicate 1022 (195 ∷ 169 ∷ [])) ++ codes "'") ∷ (codes "'" ++ concat (replicate 1024 (195 ∷ 169 ∷ [])) ++ codes "'") ∷ (codes "a" ++ 195 ∷ 169 ∷ codes " = 1") ∷ []) ≡ None ∷ Some 1024 ∷ None ∷ Some 2047 ∷ Some 1 ∷ []
