use Rattle.std.proofs.Common.{arith}
use Rattle.sb_server.proofs.doors.sweep.Goals as goal

pub returns-clause-come : goal.returns-clause-come
returns-clause-come g c = λ most began k d lt was.
    c.collect_all-those.ensures.come most began k d (omega (arith, lt, c.go_due-these.auto.jobs)) (c.go_due-these.ensures.come most began k d lt was)
