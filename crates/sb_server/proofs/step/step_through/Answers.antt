use Rattle.std.proofs.Common.{subst}
use Rattle.sb_server.specs.declared.seat.Seat.{Seat}
use Rattle.sb_server.specs.Doings.{IsNextAt, sitting_of}
use Rattle.sb_server.specs.Talks.{Here, here_with}
use Rattle.sb_server.proofs.step.step_through.Goals as goal

pub returns-in-Free-clause-steps : goal.returns-in-Free-clause-steps
returns-in-Free-clause-steps g c = λ s same d.
    subst (λ (x : Seat). IsNextAt (g.C.Clock.reads c.args.clock.now) s (here_with g.N.Conn (sitting_of x) c.go-seat.new.inbox c.go-seat.new.conn) x c.go-seat.result.1 c.go-seat.new.doing) c.in-Free.is (c.go-seat.ensures.steps s same d)

pub returns-in-Posts-clause-steps : goal.returns-in-Posts-clause-steps
returns-in-Posts-clause-steps g c = λ s same d.
    let h : Here = here_with g.N.Conn c.in-Posts.sent.posted.pass c.go-seat.new.inbox c.go-seat.new.conn in
    c.go_behind.ensures.steps s h
    (subst (λ (x : Seat). IsNextAt (g.C.Clock.reads c.args.clock.now) s (here_with g.N.Conn (sitting_of x) c.go-seat.new.inbox c.go-seat.new.conn) x c.go-seat.result.1 c.go-seat.new.doing) c.in-Posts.is (c.go-seat.ensures.steps s same d))
