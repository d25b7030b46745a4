use Rattle.std.proofs.Common.{◌≡◌, drop, map, min}
use Rattle.std.specs.List.{fold}
use Rattle.sb_txn.specs.Txns.{transactions_of}
use Rattle.sb_engine.specs.Deadlines.{least_deadline}
use Rattle.sb_engine.proofs.time.due.least_deadline.Given as goal

-- the least so far, and those that are left
abbrev pub invariant-loop-row : goal.invariant-loop-row
invariant-loop-row l = fold min l.least (map (λ x. x.deadline) (transactions_of (drop l.row-index l.rows))) ≡ least_deadline (transactions_of l.rows)
