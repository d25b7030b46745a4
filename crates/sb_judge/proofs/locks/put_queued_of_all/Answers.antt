use Rattle.std.proofs.Common.{◌++◌, ap, ◌∙◌}
use Rattle.std.specs.List.{flat_map}
use Rattle.sb_machine.specs.Consistent.{queued_lock}
use Rattle.sb_machine.specs.declared.state.Transaction.{Transaction}
use Rattle.sb_judge.proofs.Collected.{one_more, no_more}
use Rattle.sb_judge.proofs.locks.put_queued_of_all.Goals as goal

pub loop-transaction-preserved : goal.loop-transaction-preserved
loop-transaction-preserved c =
    one_more (λ (x : Transaction). flat_map queued_lock x.operations) c.args.transactions.now c.loop-transaction.transaction-index c.transaction-item.result _ c.loop-transaction.out.items c.put_queued_in.new.out.items
    c.loop-transaction-test.true c.transaction-item.is c.loop-transaction.invariant (c.in_ok-put_queued_in.ensures ∙ ap (λ l. c.loop-transaction.out.items ++ flat_map queued_lock l) c.as_slice.ensures)

pub returns : goal.returns
returns c = no_more (λ (x : Transaction). flat_map queued_lock x.operations) c.args.transactions.now c.loop-transaction.transaction-index _ c.loop-transaction.out.items c.loop-transaction-test.false c.loop-transaction.invariant
