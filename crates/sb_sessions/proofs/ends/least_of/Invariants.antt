use Rattle.std.proofs.Common.{◌≡◌, drop, map, min}
use Rattle.std.specs.List.{fold}
use Rattle.sb_sessions.specs.Ends.{end_of, least_end}
use Rattle.sb_sessions.proofs.ends.least_of.Given as goal

-- the least so far, and those that are left
abbrev pub invariant-loop-session : goal.invariant-loop-session
invariant-loop-session l = fold min l.least (map end_of (drop l.session-index l.rows)) ≡ least_end l.rows
