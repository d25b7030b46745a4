use Rattle.std.proofs.Common.{◌≡◌, ℕ, ◌≤◌, ◌||◌, drop, length}
use Rattle.std.specs.List.{list_any}
use Rattle.sb_index.specs.Rows.{is_at}
use Rattle.sb_txn.specs.Queued.{is_keyed}
use Rattle.sb_txn.proofs.queued.note_each.Given as goal

-- those so far are noted, and each of those that are left has a node
abbrev pub invariant-loop-operation : goal.invariant-loop-operation
invariant-loop-operation l =
    ((k : ℕ) → (list_any (is_keyed l.number k) l.operations || list_any (is_at k) l.fn.index.rows) ≡ (list_any (is_keyed l.number k) (drop l.operation-index l.operations) || list_any (is_at k) l.index.rows))
    × (length (drop l.operation-index l.operations) ≤ l.index.spare)
