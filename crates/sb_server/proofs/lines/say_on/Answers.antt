use Rattle.std.proofs.Common.{refl}
use Rattle.sb_server.specs.Talks.{Here}
use Rattle.sb_server.proofs.Calling.{said_next}
use Rattle.sb_server.proofs.lines.say_on.Goals as goal

pub returns-clause-steps : goal.returns-clause-steps
returns-clause-steps g c = λ pass stand written reads writes s same a.
    let h : Here = record { pass = pass; stand = stand; written = written; reads = reads; writes = writes } in
    said_next (g.C.Clock.reads c.args.clock.now) s h c.args.script.now _ c.args.form c.args.answer.now a refl c.in-Ok.ensures.added c.stops_by_now-script.ensures refl
