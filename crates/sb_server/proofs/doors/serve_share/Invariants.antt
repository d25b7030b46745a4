use Rattle.std.proofs.Common.{ℕ, ◌<◌, length}
use Rattle.std.specs.Prelude.{All, slice_index_or}
use Rattle.sb_server.specs.declared.job.Job.{Job}
use Rattle.sb_server.specs.Serves.{HasPass, IsAtWork, HasCome}
use Rattle.sb_server.proofs.doors.serve_share.Given as goal

abbrev pub invariant-loop : goal.invariant-loop
invariant-loop g l = record {
  work : All (λ j. IsAtWork g.D.Door.out l.desk j) l.jobs;
  come : (most i : ℕ) (d : Job g.row.D.Denot g.row.D-Conn.Denot) → i < length l.fn.jobs → HasPass l.desk most (slice_index_or l.fn.jobs i d)
      → HasCome g.D.Door g.D.Conn.Conn (g.C.Clock.reads l.clock) l.access l.limits most (slice_index_or l.fn.jobs i d) (slice_index_or l.jobs i d);
}
