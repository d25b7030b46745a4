use Rattle.std.proofs.Common.{◌++◌}
use Rattle.std.specs.List.{flat_map}
use Rattle.sb_machine.specs.Consistent.{holder_lock}
use Rattle.sb_machine.specs.declared.state.Entity.{Entity}
use Rattle.sb_judge.proofs.Collected.{one_more, no_more}
use Rattle.sb_judge.proofs.locks.put_holders_of_all.Goals as goal

pub loop-entity-preserved : goal.loop-entity-preserved
loop-entity-preserved c =
    one_more (λ (e : Entity). flat_map holder_lock e.main.sessions ++ flat_map holder_lock e.dead.sessions ++ flat_map holder_lock e.transfer.sessions) c.args.entities.now c.loop-entity.entity-index c.entity-item.result _ c.loop-entity.out.items c.put_holders_of.new.out.items
    c.loop-entity-test.true c.entity-item.is c.loop-entity.invariant c.in_ok-put_holders_of.ensures

pub returns : goal.returns
returns c = no_more (λ (e : Entity). flat_map holder_lock e.main.sessions ++ flat_map holder_lock e.dead.sessions ++ flat_map holder_lock e.transfer.sessions) c.args.entities.now c.loop-entity.entity-index _ c.loop-entity.out.items c.loop-entity-test.false c.loop-entity.invariant
