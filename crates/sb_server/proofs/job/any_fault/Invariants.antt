use Rattle.std.proofs.Common.{◌≡◌, drop}
use Rattle.std.specs.List.{list_any}
use Rattle.sb_server.specs.Serves.{is_fault, stops_in}
use Rattle.sb_server.proofs.job.any_fault.Given as goal

-- none so far
abbrev pub invariant-loop-job : goal.invariant-loop-job
invariant-loop-job g l = list_any is_fault (stops_in (drop l.job-index l.jobs)) ≡ list_any is_fault (stops_in l.jobs)
