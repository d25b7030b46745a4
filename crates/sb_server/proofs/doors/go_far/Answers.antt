use Rattle.sb_server.proofs.doors.go_far.Goals as goal

pub loop-preserved : goal.loop-preserved
loop-preserved g c = record {
  work = c.go_once-again.ensures.work;
  come = λ most began was. c.go_once-again.ensures.come most began (c.loop.invariant.come most began was);
}
