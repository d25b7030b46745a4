-- Heads of sessions in an index by session: a row of a head is due at its own number, any other at the greatest.
use Rattle.std.specs.Prelude.{◌≡◌, ℕ, ◌<◌, ◌==◌, ◌||◌, nat_lt, not, Bool, true, false, List, map, find, if◌then◌else◌, Option, is_some, IfSome, IfNone}
use Rattle.std.specs.List.{filter, list_all, list_any}
use Rattle.std.specs.Option.{option_map_or}
use Rattle.sb_index.specs.Rows.{is_at}
use Rattle.sb_index.specs.declared.row.Row.{Row}
use Rattle.sb_machine.specs.Leaves.{has_number}
use Rattle.sb_machine.specs.Messages.{text_of}
use Rattle.sb_machine.specs.declared.state.StoredCopy.{StoredCopy}
use Rattle.sb_model.specs.declared.message.SystemName.TheVariants.{SessionId}
use Rattle.sb_copies.specs.Dues.{never}
use Rattle.sb_copies.specs.Grouped.{group_key}

-- ---- numbers

-- whether this number is one of these
abbrev pub is_among : ℕ → List ℕ → Bool
is_among n ns = list_any (λ m. m == n) ns

-- these without this one
abbrev pub except : ℕ → List ℕ → List ℕ
except n ns = filter (λ m. not (m == n)) ns

-- whether it is below the greatest, which no head can have
abbrev pub is_usual : ℕ → Bool
is_usual n = nat_lt n never

-- whether the message of this number is of a session
abbrev pub is_of_session : ℕ → List StoredCopy → Bool
is_of_session n copies = option_map_or (λ c. is_some (text_of SessionId c.message)) (find (has_number n) copies) false

-- whether a message's number is one of these
abbrev pub is_head : List ℕ → StoredCopy → Bool
is_head ns c = is_among c.number ns

-- one that is the least of these, or there is none of them
abbrev pub IsLeast : Option ℕ → List ℕ → Type 0
IsLeast least ns = IfSome least (λ n. (is_among n ns ≡ true) × ((m : ℕ) → m < n → is_among m ns ≡ false)) × IfNone least ((m : ℕ) → is_among m ns ≡ false)

-- ---- rows

-- a row as it is while no head
abbrev pub undue : Row → Row
undue x = record { key = x.key; value = x.value; marked = x.marked; due = never }

-- rows as they are while none is a head
abbrev pub undue_rows : List Row → List Row
undue_rows rows = map undue rows

-- it is due at its own number, or never
abbrev pub is_own : Row → Bool
is_own x = (x.due == never) || (x.due == x.value)

-- each is due at its own number, or never
abbrev pub AreOwn : List Row → Type 0
AreOwn rows = list_all is_own rows ≡ true

-- the numbers of those that are heads
abbrev pub heads_in : List Row → List ℕ
heads_in rows = filter is_usual (map (λ x. x.due) rows)

-- a row, told to be a head or none where it has this key
abbrev pub told_head : ℕ → Bool → Row → Row
told_head key head x = if is_at key x then record { key = x.key; value = x.value; marked = x.marked; due = if head then x.value else never } else x

-- rows where that of the message of this number is so told, if it is of a session whose id comes to a hash
abbrev pub with_told : Option ℕ → ℕ → Bool → List Row → List Row
with_told hash n head rows = option_map_or (λ h. map (told_head (group_key h n) head) rows) hash rows
