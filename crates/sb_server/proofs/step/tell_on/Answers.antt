use Rattle.sb_server.specs.Talks.{Here}
use Rattle.sb_server.proofs.Stepping.{due_owes}
use Rattle.sb_server.proofs.step.tell_on.Goals as goal

pub returns-clause-steps : goal.returns-clause-steps
returns-clause-steps g c = λ pass stand reads s same d.
    let h : Here = record { pass = pass; stand = stand; written = g.N.Conn.given c.args.conn.now; reads = reads; writes = g.N.Conn.writes c.args.conn.now } in
    due_owes (g.C.Clock.reads c.args.clock.now) s h c.args.telling.now c.in-Ok.bytes (g.N.Conn.given c.answered.new.self) (g.N.Conn.writes c.answered.new.self) d c.in-Ok.ensures c.answered.ensures.given c.answered.ensures.writes
