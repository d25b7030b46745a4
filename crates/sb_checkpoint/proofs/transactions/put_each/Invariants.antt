use Rattle.std.proofs.Common.{Ok, take}
use Rattle.std.specs.List.{AllByRecursion, flat_map}
use Rattle.sb_snapshot.specs.Transactions.{transaction}
use Rattle.sb_txn.specs.Txns.{transactions_of}
use Rattle.sb_checkpoint.specs.Takings.{Takes}
use Rattle.sb_checkpoint.proofs.transactions.put_each.Given as goal

abbrev pub invariant-loop-txn : goal.invariant-loop-txn
invariant-loop-txn g l = record {
  takes : Takes g.P.Pieces l.fn.out l.out (flat_map transaction.spell (transactions_of (take l.txn-index l.txns))) (Ok tt);
  fits : AllByRecursion (λ t. transaction.Fits t.transaction) (take l.txn-index l.txns);
}
