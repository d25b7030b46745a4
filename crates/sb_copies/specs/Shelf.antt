-- The messages of one queue or subqueue (the copies on a shelf), as contracts see them.
use Rattle.std.specs.Prelude.{◌≡◌, ℕ, nat_lt, Bool, true, false, List, map, find, option_to_list}
use Rattle.std.specs.List.{flat_map, list_all}
use Rattle.slab.specs.Slab.{Slab, get}
use Rattle.sb_index.specs.Rows.{AreRising}
use Rattle.sb_index.specs.declared.row.Row.{Row}
use Rattle.sb_machine.specs.Leases.{is_ready}
use Rattle.sb_machine.specs.Leaves.{has_number}
use Rattle.sb_machine.specs.declared.state.StoredCopy.{StoredCopy}
use Rattle.sb_copies.specs.Dues.{due_of}

-- the messages of a part, and what it has room for
pub record Shelved : Type 0 where
  -- in the order in which they were put there
  pub copies : List StoredCopy
  -- so many more may be put there
  pub spare : ℕ
  -- so many of them may come to be held
  pub locks : ℕ
  -- whether they come due once they have expired
  pub expires : Bool
  -- the numbers of those that are told to be heads of their sessions, in no order
  pub heads : List ℕ

-- ---- their order by number

-- a message's number is below this one
abbrev pub is_before : ℕ → StoredCopy → Bool
is_before n c = nat_lt c.number n

-- each message has a number below this one
abbrev pub AreBelow : ℕ → List StoredCopy → Type 0
AreBelow n copies = list_all (is_before n) copies ≡ true

-- a message's row in an index by number: marked where it may be received, due when the message is, where messages expire or don't
abbrev pub row_in : Bool → StoredCopy → Row
row_in expires c = record { key = c.number; value = c.number; marked = is_ready c.standing; due = due_of expires c }

-- the rows of messages
abbrev pub rows_in : Bool → List StoredCopy → List Row
rows_in expires copies = map (row_in expires) copies

-- for their keys alone
abbrev pub rows_of : List StoredCopy → List Row
rows_of copies = rows_in false copies

-- each number is below those of all behind it
abbrev pub AreInOrder : List StoredCopy → Type 0
AreInOrder copies = AreRising (rows_of copies)

-- ---- by their numbers

-- the message of a number, if there is one
abbrev pub numbered_at : List StoredCopy → ℕ → List StoredCopy
numbered_at copies n = option_to_list (find (has_number n) copies)

-- the messages of these numbers, in their order
abbrev pub numbered_in : List StoredCopy → List ℕ → List StoredCopy
numbered_in copies ns = flat_map (numbered_at copies) ns

-- ---- in a slab, where the rows of an index by number have the keys of its slots as values

-- the message under a key, if one is there
abbrev pub held_at : Slab StoredCopy → ℕ → List StoredCopy
held_at slots key = option_to_list (get slots key)

-- the messages under these keys, in their order
abbrev pub held_in : Slab StoredCopy → List ℕ → List StoredCopy
held_in slots keys = flat_map (held_at slots) keys

-- the messages that rows lead to, in their order
abbrev pub copies_in : Slab StoredCopy → List Row → List StoredCopy
copies_in slots rows = flat_map (λ r. held_at slots r.value) rows

-- each row leads to a message, the one whose number is the row's key
abbrev pub Leads : Slab StoredCopy → List Row → Type 0
Leads slots rows = map (λ r. r.key) rows ≡ map (λ c. c.number) (copies_in slots rows)

-- a row as it stands where values are numbers
abbrev pub unkeyed : Row → Row
unkeyed r = record r { value = r.key }

-- each row leads to a message, and tells of it what its row by number does
abbrev pub Mirrors : Bool → Slab StoredCopy → List Row → Type 0
Mirrors expires slots rows = map unkeyed rows ≡ rows_in expires (copies_in slots rows)
