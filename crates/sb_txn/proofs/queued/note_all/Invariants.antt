use Rattle.std.proofs.Common.{◌≡◌, ℕ, ◌<◌, ◌^◌, ◌||◌, drop}
use Rattle.std.specs.List.{list_any}
use Rattle.sb_index.specs.Rows.{is_at}
use Rattle.sb_machine.specs.Each.{Each}
use Rattle.sb_txn.specs.Queued.{is_keyed_in}
use Rattle.sb_txn.proofs.queued.note_all.Given as goal

-- those so far are noted
abbrev pub invariant-loop-transaction : goal.invariant-loop-transaction
invariant-loop-transaction l =
    ((k : ℕ) → (list_any (is_keyed_in k) l.transactions || list_any (is_at k) l.fn.index.rows) ≡ (list_any (is_keyed_in k) (drop l.transaction-index l.transactions) || list_any (is_at k) l.index.rows))
    × (Each (λ x. x.number < 2 ^ 64) (drop l.transaction-index l.transactions) → Each (λ x. x.number < 2 ^ 64) l.transactions)
