use Rattle.std.proofs.Common.{arith}
use Rattle.std.specs.Prelude.{slice_index_or}
use Rattle.sb_server.proofs.Rounds.{come_first, come_over}
use Rattle.sb_server.proofs.doors.serve_share.Goals as goal

pub loop-init : goal.loop-init
loop-init g c = record {
  work = c.requires;
  come = λ most i d lt fresh. come_first g.D.Door g.D.Conn.Conn (g.C.Clock.reads c.args.clock.now) c.args.access.now c.args.limits most c.args.desk.now (slice_index_or c.args.jobs.now i d) fresh;
}

pub returns-in-AllOver : goal.returns-in-AllOver
returns-in-AllOver g c = λ most i d lt fresh.
    let old = slice_index_or c.args.jobs.now i d in
    come_over g.D.Door g.D.Conn.Conn (g.C.Clock.reads c.args.clock.now) c.args.access.now c.args.limits most c.args.desk.now old (slice_index_or c.go_round.new.jobs i d)
    (c.go_round.ensures.come most old i d (omega (arith, lt, c.loop.auto.jobs)) (c.loop.invariant.come most i d lt fresh))
    (c.go_round.ensures.work i d (omega (arith, lt, c.loop.auto.jobs, c.go_round.auto.jobs)))
    (c.go_round.ensures.over c.in-AllOver.is i d (omega (arith, lt, c.loop.auto.jobs, c.go_round.auto.jobs)))

pub loop-preserved-in-Moves : goal.loop-preserved-in-Moves
loop-preserved-in-Moves g c = record {
  work = c.go_round.ensures.work;
  come = λ most i d lt fresh. c.go_round.ensures.come most (slice_index_or c.args.jobs.now i d) i d (omega (arith, lt, c.loop.auto.jobs)) (c.loop.invariant.come most i d lt fresh);
}

pub loop-preserved : goal.loop-preserved
loop-preserved g c = record {
  work = c.go_round.ensures.work;
  come = λ most i d lt fresh. c.go_round.ensures.come most (slice_index_or c.args.jobs.now i d) i d (omega (arith, lt, c.loop.auto.jobs)) (c.loop.invariant.come most i d lt fresh);
}
