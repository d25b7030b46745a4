use Rattle.std.proofs.Common.{subst}
use Rattle.sb_server.specs.declared.seat.Seat.{Seat}
use Rattle.sb_server.specs.Doings.{IsDoingAt, sitting_of}
use Rattle.sb_server.specs.Talks.{Here, here_with}
use Rattle.sb_server.proofs.step.step.Goals as goal

pub returns-in-Free-clause-steps : goal.returns-in-Free-clause-steps
returns-in-Free-clause-steps g c = λ s same d.
    c.go.ensures.steps s same (subst (λ (x : Seat). IsDoingAt (g.C.Clock.reads c.args.clock.now) s (here_with g.N.Conn (sitting_of x) c.args.inbox.now c.args.conn.now) x c.args.doing.now) c.in-Free.is d)

pub returns-in-Posts-clause-steps : goal.returns-in-Posts-clause-steps
returns-in-Posts-clause-steps g c = λ s same d.
    let h : Here = here_with g.N.Conn c.in-Posts.sent.posted.pass c.args.inbox.now c.args.conn.now in
    c.go_behind-pass.ensures.steps s h (subst (λ (x : Seat). IsDoingAt (g.C.Clock.reads c.args.clock.now) s (here_with g.N.Conn (sitting_of x) c.args.inbox.now c.args.conn.now) x c.args.doing.now) c.in-Posts.is d)
