use Rattle.std.proofs.Common.{arith}
use Rattle.sb_server.proofs.doors.go_due.Goals as goal

pub loop-i-preserved : goal.loop-i-preserved
loop-i-preserved g c = record {
  work = c.go_at-this.ensures.work;
  come = λ most began k d lt was. c.go_at-this.ensures.come most began k d (omega (arith, lt, c.loop-i.auto.jobs)) (c.loop-i.invariant.come most began k d lt was);
}
