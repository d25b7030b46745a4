use Rattle.std.proofs.Common.{subst, sym}
use Rattle.std.proofs.lemmas.List.Elements.{All-map}
use Rattle.sb_snapshot.specs.Transactions.{transaction}
use Rattle.sb_checkpoint.proofs.Each.{all_before, all_at_end}
use Rattle.sb_checkpoint.proofs.transactions.put_each.Goals as goal

pub put_one-requires : goal.put_one-requires
put_one-requires g c = subst (λ t. transaction.Asks t.transaction) (sym c.txn-item.is) (all_before transaction.Asks (λ t. t.transaction) c.args.txns.now c.requires c.loop-txn.txn-index c.txn-item.result c.loop-txn-test.true)

pub returns-clause-fits : goal.returns-clause-fits
returns-clause-fits g c = All-map transaction.Fits (λ t. t.transaction) c.args.txns.now (all_at_end (λ t. transaction.Fits t.transaction) c.args.txns.now c.loop-txn.txn-index c.loop-txn-test.false c.loop-txn.invariant.fits)
