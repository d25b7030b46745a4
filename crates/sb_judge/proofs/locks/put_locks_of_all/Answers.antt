use Rattle.std.proofs.Common.{◌++◌}
use Rattle.sb_machine.specs.Consistent.{locks_in}
use Rattle.sb_machine.specs.declared.state.Entity.{Entity}
use Rattle.sb_judge.proofs.Collected.{one_more, no_more}
use Rattle.sb_judge.proofs.locks.put_locks_of_all.Goals as goal

pub loop-entity-preserved : goal.loop-entity-preserved
loop-entity-preserved c =
    one_more (λ (e : Entity). locks_in e.main ++ locks_in e.dead ++ locks_in e.transfer) c.args.entities.now c.loop-entity.entity-index c.entity-item.result _ c.loop-entity.out.items c.put_locks.new.out.items
    c.loop-entity-test.true c.entity-item.is c.loop-entity.invariant c.in_ok-put_locks.ensures

pub returns : goal.returns
returns c = no_more (λ (e : Entity). locks_in e.main ++ locks_in e.dead ++ locks_in e.transfer) c.args.entities.now c.loop-entity.entity-index _ c.loop-entity.out.items c.loop-entity-test.false c.loop-entity.invariant
