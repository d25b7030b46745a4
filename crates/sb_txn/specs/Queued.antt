-- The locks whose settlements are queued, as an index has them.
use Rattle.std.specs.Prelude.{◌≡◌, ℕ, ◌+◌, ◌*◌, ◌^◌, ◌-◌, ◌<◌, ◌≤◌, ◌==◌, ◌&&◌, nat_lt, if◌then◌else◌, Bool, false, List, sum_by, find, Option, Some, None}
use Rattle.std.specs.List.{list_any}
use Rattle.sb_index.specs.Rows.{is_at, is_from, Indexed}
use Rattle.sb_index.specs.declared.row.Row.{Row}
use Rattle.sb_machine.specs.Each.{Each, Pairs}
use Rattle.sb_machine.specs.declared.state.Operation.{Operation}
use Rattle.sb_machine.specs.declared.state.Operation.TheVariants.{Send, Settle}
use Rattle.sb_machine.specs.declared.state.Transaction.{Transaction}
use Rattle.sb_txn.specs.Txns.{Opened}

-- numbers of 64 bits, each below those of all behind it
abbrev pub AreNumbered : List Opened → Type 0
AreNumbered rows = Pairs (λ x y. x.transaction.number < y.transaction.number) rows × Each (λ r. r.transaction.number < 2 ^ 64) rows

-- whether a transaction stands before that of a number
abbrev pub is_earlier : ℕ → Opened → Bool
is_earlier number r = nat_lt r.transaction.number number

-- ---- keys

-- the key of a lock in the transaction of a number: by lock, and of one lock by number
abbrev pub key_of : ℕ → ℕ → ℕ
key_of lock number = lock * 2 ^ 64 + number

-- a settlement that has this key in the transaction of a number
abbrev pub is_keyed : ℕ → ℕ → Operation → Bool
is_keyed number key (Send to messages) = false
is_keyed number key (Settle from copy token session how) = key == key_of token.lock number

-- a transaction in which one of this key is queued
abbrev pub is_keyed_in : ℕ → Transaction → Bool
is_keyed_in key x = list_any (is_keyed x.number key) x.operations

-- the same, with its room
abbrev pub has_keyed : ℕ → Opened → Bool
has_keyed key r = is_keyed_in key r.transaction

-- and it is on this entity
abbrev pub has_keyed_on : ℕ → ℕ → Opened → Bool
has_keyed_on entity key r = (r.transaction.entity == entity) && has_keyed key r

-- an index has the keys of all settlements that are queued, and no others
abbrev pub AreKeyed : List Opened → List Row → Type 0
AreKeyed rows keys = (key : ℕ) → list_any (is_at key) keys ≡ list_any (has_keyed key) rows

-- the number in a key, if it is of this lock
abbrev pub number_under : ℕ → Option Row → Option ℕ
number_under lock None = None
number_under lock (Some x) = if nat_lt (x.key - lock * 2 ^ 64) (2 ^ 64) then Some (x.key - lock * 2 ^ 64) else None

-- the number in the first key of this lock
abbrev pub first_number : ℕ → List Row → Option ℕ
first_number lock keys = number_under lock (find (is_from (lock * 2 ^ 64)) keys)

-- ---- slots

-- the slots that are promised to operations
abbrev pub slots_of : List Opened → ℕ
slots_of rows = sum_by (λ r. r.spare) rows

-- those of a transaction that was taken out, if one was
abbrev pub spare_of : Option Opened → ℕ
spare_of None = 0
spare_of (Some r) = r.spare

-- what an index of the keys tells is so, and it has a node for each slot
abbrev pub IsKept : List Opened → Indexed → Type 0
IsKept rows keys = AreNumbered rows × AreKeyed rows keys.rows × (slots_of rows ≤ keys.spare)

-- those of a transaction on this entity
abbrev pub slots_on : ℕ → Opened → ℕ
slots_on entity r = if r.transaction.entity == entity then r.spare else 0
