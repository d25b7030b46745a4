use Rattle.std.proofs.Common.{subst}
use Rattle.sb_server.specs.declared.seat.Seat.{Seat}
use Rattle.sb_server.specs.declared.stage.Guest.{Guest}
use Rattle.sb_server.specs.Doings.{IsNextAt, IsInOrderAt, sitting_of}
use Rattle.sb_server.specs.Stages.{here_of}
use Rattle.sb_server.proofs.Attending.{free_if}
use Rattle.sb_server.proofs.work.attend.Goals as goal

pub returns-in-Free-clause-goes : goal.returns-in-Free-clause-goes
returns-in-Free-clause-goes g c = λ s same limits since i.
    let new : Guest g.row.N.Denot = record { conn = c.step-seat.new.conn; inbox = c.step-seat.new.inbox; doing = c.step-seat.new.doing; since = c.args.guest.now.since } in
    c.behind_step-over.ensures.goes s c.in-Free.pass limits since
    (subst (λ (x : Seat). IsNextAt (g.C.Clock.reads c.args.clock.now) s (here_of g.N.Conn (sitting_of x) new) x c.step-seat.result.1 c.step-seat.new.doing) c.in-Free.is (c.step-seat.ensures.steps s same i))

pub returns-in-Posts-clause-goes : goal.returns-in-Posts-clause-goes
returns-in-Posts-clause-goes g c = λ s same limits since i.
    let new : Guest g.row.N.Denot = record { conn = c.step-seat.new.conn; inbox = c.step-seat.new.inbox; doing = c.step-seat.new.doing; since = c.args.guest.now.since } in
    subst (λ (x : Seat). IsNextAt (g.C.Clock.reads c.args.clock.now) s (here_of g.N.Conn (sitting_of x) new) x c.step-seat.result.1 c.step-seat.new.doing) c.in-Posts.is (c.step-seat.ensures.steps s same i)

pub behind_step-over-requires : goal.behind_step-over-requires
behind_step-over-requires g c = record { order = subst (λ (x : Seat). IsInOrderAt x c.step-seat.new.doing) c.in-Free.is c.step-seat.ensures.order }

pub returns-in-Posts-clause-order : goal.returns-in-Posts-clause-order
returns-in-Posts-clause-order g c = subst (λ (x : Seat). IsInOrderAt x c.step-seat.new.doing) c.in-Posts.is c.step-seat.ensures.order

pub returns-in-Free-clause-free : goal.returns-in-Free-clause-free
returns-in-Free-clause-free g c = free_if c.behind_step-over.result.0 c.in-Free.pass
