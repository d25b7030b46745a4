-- What operations that act together come to.
use Rattle.std.specs.Prelude.{◌≡◌, ◌⊎◌, ℕ, ◌++◌, List, Result, Ok, Err}
use Rattle.sb_machine.specs.Changes.{after_all, in_turn}
use Rattle.sb_machine.specs.Rows.{Row, refuses, within_quota}
use Rattle.sb_machine.specs.Together.{all_receipts}
use Rattle.sb_machine.specs.Transactions.{operation_changes}
use Rattle.sb_machine.specs.declared.change.Change.{Change}
use Rattle.sb_machine.specs.declared.reply.Refusal.{Refusal}
use Rattle.sb_machine.specs.declared.reply.Refusal.TheVariants.{OutOfMemory}
use Rattle.sb_machine.specs.declared.state.Entity.{Entity}
use Rattle.sb_machine.specs.declared.state.Operation.{Operation}
use Rattle.sb_machine.specs.declared.state.Space.{Space}
use Rattle.sb_engine.specs.declared.deliver.fulfilling.Fulfilled.{Fulfilled}

-- the changes of operations that act in order, with those that stand before them
abbrev pub acted_behind : ℕ → Entity → List Change → List Operation → Space → List Change
acted_behind t e front os s = front ++ in_turn (operation_changes t e) t os (after_all t front s)

-- their changes and their receipts, within the quota, or a refusal by the quota; want of memory may come in place of each
abbrev pub Fulfils : ℕ → Space → Entity → List Change → List Operation → Result Fulfilled Refusal → Type 0
Fulfils t s e front os (Ok x) =
    (x.changes ≡ acted_behind t e front os s) × (x.receipts.items ≡ all_receipts t e os (after_all t front s)) × ((row : Row) → within_quota t s (acted_behind t e front os s) row ≡ row)
Fulfils t s e front os (Err r) = (r ≡ OutOfMemory) ⊎ ((row : Row) → within_quota t s (acted_behind t e front os s) row ≡ refuses r)
