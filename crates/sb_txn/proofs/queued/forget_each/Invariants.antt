use Rattle.std.proofs.Common.{◌≡◌, ℕ, ◌&&◌, not, drop}
use Rattle.std.specs.List.{list_any}
use Rattle.sb_index.specs.Rows.{is_at}
use Rattle.sb_txn.specs.Queued.{is_keyed}
use Rattle.sb_txn.proofs.queued.forget_each.Given as goal

-- those so far are forgotten
abbrev pub invariant-loop-operation : goal.invariant-loop-operation
invariant-loop-operation l =
    ((k : ℕ) → (not (list_any (is_keyed l.number k) l.operations) && list_any (is_at k) l.fn.index.rows) ≡ (not (list_any (is_keyed l.number k) (drop l.operation-index l.operations)) && list_any (is_at k) l.index.rows))
    × (l.index.spare ≡ l.fn.index.spare)
