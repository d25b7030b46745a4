-- Messages as rows in an index by group, then by number: where the row of one stands, and which rows are those of one group. A group is a number that a message has, or has none.
use Rattle.std.specs.Prelude.{◌≡◌, ℕ, ◌+◌, ◌*◌, ◌==◌, ◌&&◌, Bool, false, List, map, find, Option, Some, None}
use Rattle.std.specs.List.{filter}
use Rattle.std.specs.Option.{option_and_then, option_map_or}
use Rattle.sb_index.specs.Rows.{changed, is_below, is_from, with_row, without}
use Rattle.sb_index.specs.declared.row.Row.{Row}
use Rattle.sb_machine.specs.Leaves.{has_number}
use Rattle.sb_machine.specs.declared.state.StoredCopy.{StoredCopy}
use Rattle.sb_copies.specs.Dues.{never}

-- ---- rows

-- how many keys a group has
abbrev pub span : ℕ
span = 18446744073709551616

-- the key in a group of the message of this number
abbrev pub group_key : ℕ → ℕ → ℕ
group_key h n = h * span + n

-- the row in a group of the message of this number, marked or not
abbrev pub group_row : ℕ → ℕ → Bool → Row
group_row h n marked = record { key = group_key h n; value = n; marked = marked; due = never }

-- whether a row is under a group
abbrev pub is_under : ℕ → Row → Bool
is_under h x = is_from (h * span) x && is_below (h * span + span) x

-- ---- which messages have one: `group` tells the group of a message, `marked` whether its row is marked

-- the group of the message of this number
abbrev pub group_at : (StoredCopy → Option ℕ) → ℕ → List StoredCopy → Option ℕ
group_at group n copies = option_and_then group (find (has_number n) copies)

-- whether a message is in this group
abbrev pub is_in_group : (StoredCopy → Option ℕ) → ℕ → StoredCopy → Bool
is_in_group group h c = option_map_or (λ own. own == h) (group c) false

-- a message's row in a group
abbrev pub own_row : (StoredCopy → Bool) → ℕ → StoredCopy → Row
own_row marked h c = group_row h c.number (marked c)

-- under each group stand the rows of the messages that are in it, in their order
abbrev pub HoldsGroups : (StoredCopy → Option ℕ) → (StoredCopy → Bool) → List Row → List StoredCopy → Type 0
HoldsGroups group marked rows copies = (h : ℕ) → filter (is_under h) rows ≡ map (own_row marked h) (filter (is_in_group group h) copies)

-- the numbers that the rows under a group have as values
abbrev pub numbers_under : ℕ → List Row → List ℕ
numbers_under h rows = map (λ x. x.value) (filter (is_under h) rows)

-- how many rows a message has that is in this group or in none
abbrev pub rows_taken : Option ℕ → ℕ
rows_taken (Some h) = 1
rows_taken None = 0

-- ---- changes

-- with one row more, where there is a group
abbrev pub with_grouped : Option ℕ → ℕ → Bool → List Row → List Row
with_grouped group n marked rows = option_map_or (λ h. with_row (group_row h n marked) rows) group rows

-- without the row of the message of this number, where there is a group
abbrev pub without_grouped : Option ℕ → ℕ → List Row → List Row
without_grouped group n rows = option_map_or (λ h. without (group_key h n) rows) group rows

-- with that row marked or not
abbrev pub told_grouped : Option ℕ → ℕ → Bool → List Row → List Row
told_grouped group n marked rows = option_map_or (λ h. changed (group_key h n) marked never rows) group rows

-- with that row in another group, where the message is there: it was in the one, and will be in the other
abbrev pub moved_grouped : Option (Option ℕ) → ℕ → Option ℕ → List Row → List Row
moved_grouped was n group rows = option_map_or (λ old. with_grouped group n false (without_grouped old n rows)) was rows
