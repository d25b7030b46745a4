use Rattle.sb_machine.specs.Consistent.{queued_lock}
use Rattle.sb_judge.proofs.Collected.{one_more, no_more}
use Rattle.sb_judge.proofs.locks.put_queued_in.Goals as goal

pub loop-operation-preserved : goal.loop-operation-preserved
loop-operation-preserved c =
    one_more queued_lock c.args.operations.now c.loop-operation.operation-index c.operation-item.result _ c.loop-operation.out.items c.put_queued.new.out.items
    c.loop-operation-test.true c.operation-item.is c.loop-operation.invariant c.in_ok-put_queued.ensures

pub returns : goal.returns
returns c = no_more queued_lock c.args.operations.now c.loop-operation.operation-index _ c.loop-operation.out.items c.loop-operation-test.false c.loop-operation.invariant
