use Rattle.std.proofs.Common.{◌≡◌, ◌<◌, ◌^◌, length, subst, sym, ap, ◌∙◌}
use Rattle.std.specs.Prelude.{OnOk}
use Rattle.std.specs.List.{All}
use Rattle.sb_codec.proofs.Following.{each_fits}
use Rattle.sb_entities.specs.Stores.{space_in}
use Rattle.sb_snapshot.specs.Transactions.{transaction, is_next_transaction}
use Rattle.sb_txn.specs.Txns.{transactions_of}
use Rattle.sb_checkpoint.proofs.Each.{few_made}
use Rattle.sb_checkpoint.proofs.Fitting.{listed_fits}
use Rattle.sb_checkpoint.proofs.transactions.put_transactions.Goals as goal

pub put_each-requires : goal.put_each-requires
put_each-requires g c = subst (All transaction.Asks) (sym (ap transactions_of c.as_slice-txns.ensures ∙ c.txns.ensures)) (each_fits transaction.Asks is_next_transaction (space_in c.args.space.now).transactions c.requires)

pub returns-clause-fits : goal.returns-clause-fits
returns-clause-fits g c =
    let rows = c.as_slice-txns.result.now in
    let txns = (space_in c.args.space.now).transactions in
    let same : transactions_of rows ≡ txns = ap transactions_of c.as_slice-txns.ensures ∙ c.txns.ensures in
    let few : length txns < 2 ^ 64 = subst (λ xs. length xs < 2 ^ 64) same (few_made (λ t. t.transaction) rows (2 ^ 64) c.in_ok-put_number.ensures.fits) in
    listed_fits c.put_each.result is_next_transaction transaction txns few c.requires (subst (λ xs. OnOk c.put_each.result (All transaction.Fits xs)) same c.put_each.ensures.fits)
