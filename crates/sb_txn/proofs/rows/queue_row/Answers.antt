use Rattle.std.proofs.Common.{[], ◌∷◌, refl, ap, ◌∙◌}
use Rattle.sb_machine.specs.Changes.{is_transaction, with_operation}
use Rattle.sb_machine.proofs.Places.{nothing_set}
use Rattle.sb_txn.specs.Txns.{Opened, transactions_of, has_txn, with_queued}
use Rattle.sb_txn.proofs.Views.{changed_seen}
use Rattle.sb_txn.proofs.rows.queue_row.Goals as goal

pub returns-in-None-clause-rows : goal.returns-in-None-clause-rows
returns-in-None-clause-rows c = nothing_set (has_txn c.args.number) (with_queued c.args.deadline c.args.operation) c.args.rows.now.items _ c.deref.ensures.value c.in-None.ensures

pub returns-in-Some-clause-transactions : goal.returns-in-Some-clause-transactions
returns-in-Some-clause-transactions c =
    ap transactions_of c.queue_in.ensures.rows
    ∙ changed_seen (λ (r : Opened). r.transaction) (is_transaction c.args.number) (λ r. with_queued c.args.deadline c.args.operation r ∷ []) (λ x. with_operation c.args.deadline c.args.operation x ∷ []) (λ r. refl) c.args.rows.now.items

pub returns-in-None-clause-transactions : goal.returns-in-None-clause-transactions
returns-in-None-clause-transactions c =
    ap transactions_of (returns-in-None-clause-rows c)
    ∙ changed_seen (λ (r : Opened). r.transaction) (is_transaction c.args.number) (λ r. with_queued c.args.deadline c.args.operation r ∷ []) (λ x. with_operation c.args.deadline c.args.operation x ∷ []) (λ r. refl) c.args.rows.now.items
