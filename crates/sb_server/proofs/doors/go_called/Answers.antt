use Rattle.std.proofs.Common.{arith}
use Rattle.sb_server.proofs.doors.go_called.Goals as goal

pub loop-k-preserved : goal.loop-k-preserved
loop-k-preserved g c = record {
  work = c.go_at-this.ensures.work;
  come = λ most began k d lt was. c.go_at-this.ensures.come most began k d (omega (arith, lt, c.loop-k.auto.jobs)) (c.loop-k.invariant.come most began k d lt was);
}
