-- Rows in rising keys: what is looked for among them, and what a change makes of them.
use Rattle.std.specs.Prelude.{◌≡◌, ℕ, ◌<◌, min, Bool, false, not, List, [], ◌∷◌, map, Option, nat_lt, nat_le, ◌==◌, ◌&&◌, if◌then◌else◌}
use Rattle.std.specs.List.{filter, insert, list_any, prefix_len, reduce}
use Rattle.sb_index.specs.declared.row.Row.{Row}

-- an index as contracts see it
pub record Indexed : Type 0 where
  -- in rising keys
  pub rows : List Row
  -- so many more may be put in
  pub spare : ℕ

-- each key is above this one
abbrev pub AreAbove : ℕ → List Row → Type 0
AreAbove key [] = Unit {0}
AreAbove key (x ∷ xs) = (key < x.key) × AreAbove key xs

-- each key is below all behind it, so that none is there twice
abbrev pub AreRising : List Row → Type 0
AreRising [] = Unit {0}
AreRising (x ∷ xs) = AreAbove x.key xs × AreRising xs

-- it has this key
abbrev pub is_at : ℕ → Row → Bool
is_at key x = key == x.key

-- its key is below this one
abbrev pub is_below : ℕ → Row → Bool
is_below key x = nat_lt x.key key

-- its key is at least this one
abbrev pub is_from : ℕ → Row → Bool
is_from key x = nat_le key x.key

-- it is marked
abbrev pub is_marked : Row → Bool
is_marked x = x.marked

-- it is due at this moment: its own is no later
abbrev pub is_due : ℕ → Row → Bool
is_due moment x = nat_le x.due moment

-- it is marked, and its key is one of `from..below`
abbrev pub is_marked_within : ℕ → ℕ → Row → Bool
is_marked_within from below x = is_marked x && (is_from from x && is_below below x)

-- it is due at this moment, and its key is at least `from`
abbrev pub is_due_from : ℕ → ℕ → Row → Bool
is_due_from from moment x = is_due moment x && is_from from x

-- no row has this key
abbrev pub Lacks : ℕ → List Row → Type 0
Lacks key rows = list_any (is_at key) rows ≡ false

-- the least moment at which one is due
abbrev pub least_due : List Row → Option ℕ
least_due rows = reduce min (map (λ x. x.due) rows)

-- the values of those that are due at this moment
abbrev pub due_values : ℕ → List Row → List ℕ
due_values moment rows = map (λ x. x.value) (filter (is_due moment) rows)

-- with one more, behind those of lower keys
abbrev pub with_row : Row → List Row → List Row
with_row x rows = insert rows (prefix_len (is_below x.key) rows) x

-- without the row of this key
abbrev pub without : ℕ → List Row → List Row
without key rows = filter (λ x. not (is_at key x)) rows

-- a row, marked or not and due at another moment where it has this key
abbrev pub told : ℕ → Bool → ℕ → Row → Row
told key marked due x = if is_at key x then record { key = x.key; value = x.value; marked = marked; due = due } else x

-- the rows where that of this key is marked or not, and due at another moment
abbrev pub changed : ℕ → Bool → ℕ → List Row → List Row
changed key marked due rows = map (told key marked due) rows
