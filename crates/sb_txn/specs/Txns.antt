-- Open transactions with their room, as contracts see them.
use Rattle.std.specs.Prelude.{ℕ, ◌-◌, Bool, not, ◌==◌, max, List, [], map}
use Rattle.sb_machine.specs.Changes.{is_transaction, with_operation}
use Rattle.sb_machine.specs.declared.state.Operation.{Operation}
use Rattle.sb_machine.specs.declared.state.Transaction.{Transaction}

-- a transaction, and how many more operations its list has slots for
pub record Opened : Type 0 where
  pub transaction : Transaction
  pub spare : ℕ

-- the open transactions, and how many more fit
pub record Table : Type 0 where
  -- in the order in which they were begun
  pub rows : List Opened
  -- so many more may be begun
  pub spare : ℕ

-- the transactions alone
abbrev pub transactions_of : List Opened → List Transaction
transactions_of rows = map (λ r. r.transaction) rows

-- a transaction with no slots for more
abbrev pub full : Transaction → Opened
full x = record { transaction = x; spare = 0 }

-- whether this is the transaction of a number
abbrev pub has_txn : ℕ → Opened → Bool
has_txn n r = is_transaction n r.transaction

-- a transaction in which nothing is queued yet
abbrev pub begun : ℕ → ℕ → ℕ → Transaction
begun number entity deadline = record { number = number; entity = entity; deadline = deadline; operations = [] }

-- one more operation, in a slot that was promised
abbrev pub with_queued : ℕ → Operation → Opened → Opened
with_queued deadline operation r = record { transaction = with_operation deadline operation r.transaction; spare = r.spare - 1 }

-- so many slots at least
abbrev pub with_room : ℕ → Opened → Opened
with_room count r = record r { spare = max r.spare count }

-- one slot less, where there is one
abbrev pub with_less_room : Opened → Opened
with_less_room r = record r { spare = r.spare - 1 }

-- whether a transaction is one of another entity
abbrev pub is_elsewhere : ℕ → Transaction → Bool
is_elsewhere entity x = not (x.entity == entity)
