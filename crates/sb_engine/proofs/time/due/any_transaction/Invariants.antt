use Rattle.std.proofs.Common.{◌≡◌, drop}
use Rattle.std.specs.Prelude.{nat_le}
use Rattle.std.specs.List.{list_any}
use Rattle.sb_txn.specs.Txns.{transactions_of}
use Rattle.sb_engine.proofs.time.due.any_transaction.Given as goal

-- no transaction so far
abbrev pub invariant-loop-row : goal.invariant-loop-row
invariant-loop-row l = list_any (λ x. nat_le x.deadline l.moment) (transactions_of (drop l.row-index l.rows)) ≡ list_any (λ x. nat_le x.deadline l.moment) (transactions_of l.rows)
