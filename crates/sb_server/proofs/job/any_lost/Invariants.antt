use Rattle.std.proofs.Common.{◌≡◌, drop}
use Rattle.std.specs.List.{list_any}
use Rattle.sb_server.specs.Serves.{is_lost, stops_in}
use Rattle.sb_server.proofs.job.any_lost.Given as goal

-- none so far
abbrev pub invariant-loop-job : goal.invariant-loop-job
invariant-loop-job g l = list_any is_lost (stops_in (drop l.job-index l.jobs)) ≡ list_any is_lost (stops_in l.jobs)
