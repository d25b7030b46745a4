use Rattle.sb_machine.specs.Consistent.{holder_lock}
use Rattle.sb_judge.proofs.Collected.{one_more, no_more}
use Rattle.sb_judge.proofs.locks.put_holders.Goals as goal

pub loop-session-preserved : goal.loop-session-preserved
loop-session-preserved c =
    one_more holder_lock c.args.sessions.now c.loop-session.session-index c.session-item.result _ c.loop-session.out.items c.put_holder.new.out.items
    c.loop-session-test.true c.session-item.is c.loop-session.invariant c.in_ok-put_holder.ensures

pub returns : goal.returns
returns c = no_more holder_lock c.args.sessions.now c.loop-session.session-index _ c.loop-session.out.items c.loop-session-test.false c.loop-session.invariant
