use Rattle.std.proofs.Common.{◌≡◌, ℕ, ◌&&◌, not, drop}
use Rattle.std.specs.List.{list_any}
use Rattle.sb_index.specs.Rows.{is_at}
use Rattle.sb_txn.specs.Queued.{has_keyed_on}
use Rattle.sb_txn.proofs.queued.forget_of.Given as goal

-- those so far are forgotten
abbrev pub invariant-loop-row : goal.invariant-loop-row
invariant-loop-row l =
    ((k : ℕ) → (not (list_any (has_keyed_on l.entity k) l.rows) && list_any (is_at k) l.fn.index.rows) ≡ (not (list_any (has_keyed_on l.entity k) (drop l.row-index l.rows)) && list_any (is_at k) l.index.rows))
    × (l.index.spare ≡ l.fn.index.spare)
