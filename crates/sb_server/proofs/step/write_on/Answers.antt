use Rattle.std.proofs.Common.{sym}
use Rattle.sb_server.specs.Talks.{Here}
use Rattle.sb_server.proofs.Stepping.{wrote_none, wrote_some, wrote_part, got_some, got_none}
use Rattle.sb_server.proofs.step.write_on.Goals as goal

pub returns-in_default-clause-steps : goal.returns-in_default-clause-steps
returns-in_default-clause-steps g c = λ pass stand reads s same o.
    let h : Here = record { pass = pass; stand = stand; written = g.N.Conn.given c.args.conn.now; reads = reads; writes = g.N.Conn.writes c.args.conn.now } in
    wrote_part (g.C.Clock.reads c.args.clock.now) s h c.args.outgoing.now (g.N.Conn.given c.write.new.self) (g.N.Conn.writes c.write.new.self) o c.in_default.ensures.stays c.in_default.ensures.cause.failed

pub returns-in_default-wrote-clause-steps : goal.returns-in_default-wrote-clause-steps
returns-in_default-wrote-clause-steps g c = λ pass stand reads s same o.
    let h : Here = record { pass = pass; stand = stand; written = g.N.Conn.given c.args.conn.now; reads = reads; writes = g.N.Conn.writes c.args.conn.now } in
    wrote_none (g.C.Clock.reads c.args.clock.now) s h c.args.outgoing.now (g.N.Conn.given c.write.new.self) (g.N.Conn.writes c.write.new.self) o (got_none _ _ _ c.in-Ok.wrote c.in_default-wrote.is c.in-Ok.ensures.bytes) (sym c.in-Ok.ensures.cause.passed)

pub returns-clause-steps : goal.returns-clause-steps
returns-clause-steps g c = λ pass stand reads s same o.
    let h : Here = record { pass = pass; stand = stand; written = g.N.Conn.given c.args.conn.now; reads = reads; writes = g.N.Conn.writes c.args.conn.now } in
    wrote_some (g.C.Clock.reads c.args.clock.now) s h c.args.outgoing.now (g.N.Conn.given c.write.new.self) (g.N.Conn.writes c.write.new.self) c.in-Some.count o
    (got_some _ _ c.deref.result.now c.args.outgoing.now.bytes.items c.args.outgoing.now.at c.in-Ok.wrote c.in-Some.count c.in-Some.is c.deref.ensures.value c.in-Ok.ensures.bytes) (sym c.in-Ok.ensures.cause.passed)
