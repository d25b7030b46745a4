use Rattle.std.proofs.Common.{◌≡◌, map}
use Rattle.sb_txn.specs.Txns.{full}
use Rattle.sb_txn.proofs.rows.rows_of.Given as goal

abbrev pub invariant-open : goal.invariant-open
invariant-open l = l.rows.items ≡ map full l.yielded
