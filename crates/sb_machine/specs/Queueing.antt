-- Open transactions, and what is queued in them.
use Rattle.std.specs.Prelude.{ℕ, ◌+◌, nat_le, Bool, true, List, [], ◌∷◌, length, find, sum_by, Option, Some, None, is_some}
use Rattle.sb_machine.specs.Changes.{is_transaction}
use Rattle.sb_machine.specs.declared.change.Change.{Change}
use Rattle.sb_machine.specs.declared.change.Change.TheVariants.{Queues}
use Rattle.sb_machine.specs.declared.state.Operation.{Operation}
use Rattle.sb_machine.specs.declared.state.Operation.TheVariants.{Send, Settle}
use Rattle.sb_machine.specs.declared.state.Space.{Space}
use Rattle.sb_machine.specs.declared.state.Transaction.{Transaction}

-- the transaction of this number, if it is open
abbrev pub transaction_of : ℕ → Space → Option Transaction
transaction_of n s = find (is_transaction n) s.transactions

-- the transaction that an act names, where it names one that is open
abbrev pub open_in : Option ℕ → Space → Option Transaction
open_in None s = None
open_in (Some n) s = transaction_of n s

-- none is named, or one that is open
abbrev pub is_open : Option ℕ → Space → Bool
is_open None s = true
is_open (Some n) s = is_some (transaction_of n s)

-- ---- queueing

abbrev pub txn_life : ℕ
txn_life = 120000

-- the first operation sets the deadline anew
abbrev pub deadline_with : ℕ → Transaction → ℕ
deadline_with t x = elim x.operations [ o ∷ os ↦ x.deadline | [] ↦ t + txn_life ]

-- queues an operation in a transaction
abbrev pub queueing : ℕ → Transaction → Operation → List Change
queueing t x o = Queues x.number (deadline_with t x) o ∷ []

-- each message and each settlement counts one
abbrev pub weight : Operation → ℕ
weight (Send to messages) = length messages
weight (Settle from number token session how) = 1

-- the greatest weight of a transaction's operations together
abbrev pub max_operations : ℕ
max_operations = 100

-- whether a transaction takes so many more
abbrev pub has_room : Transaction → ℕ → Bool
has_room x more = nat_le (sum_by weight x.operations + more) max_operations

-- the same; what is in no transaction always has room
abbrev pub has_room_in : Option Transaction → ℕ → Bool
has_room_in None more = true
has_room_in (Some x) more = has_room x more
