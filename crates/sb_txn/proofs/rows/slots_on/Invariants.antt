use Rattle.std.proofs.Common.{◌≡◌, ◌+◌, sum_by, drop}
use Rattle.sb_txn.specs.Queued.{slots_on}
use Rattle.sb_txn.proofs.rows.slots_on.Given as goal

-- those so far and those that are left give all
abbrev pub invariant-loop-row : goal.invariant-loop-row
invariant-loop-row l = l.slots + sum_by (slots_on l.entity) (drop l.row-index l.rows) ≡ sum_by (slots_on l.entity) l.rows
