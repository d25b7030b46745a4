-- Rows worked through: three of them, and what is found and made of them.
use Rattle.std.specs.Prelude.{ℕ, Bool, true, false, List, [], ◌∷◌}
use Rattle.sb_index.specs.declared.row.Row.{Row}

-- a row whose value is its key
abbrev pub at : ℕ → Bool → ℕ → Row
at key marked due = record { key = key; value = key; marked = marked; due = due }

-- three rows: the second and the third are marked, and the second is due first
abbrev pub three : List Row
three = at 2 false 90 ∷ at 5 true 40 ∷ at 7 true 60 ∷ []
