use Rattle.std.proofs.Common.{ℕ}
use Rattle.sb_server.specs.declared.job.Job.{Job}
use Rattle.sb_server.specs.Serves.{IsAtWork, HasCome}
use Rattle.sb_server.proofs.doors.go_far.Given as goal

abbrev pub invariant-loop : goal.invariant-loop
invariant-loop g l = record {
  work : IsAtWork g.D.Door.out l.desk l.job;
  come : (most : ℕ) (began : Job g.row.D.Denot g.row.D-Conn.Denot)
      → HasCome g.D.Door g.D.Conn.Conn (g.C.Clock.reads l.clock) l.access l.limits most began l.fn.job
      → HasCome g.D.Door g.D.Conn.Conn (g.C.Clock.reads l.clock) l.access l.limits most began l.job;
}
