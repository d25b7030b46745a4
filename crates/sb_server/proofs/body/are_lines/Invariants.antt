use Rattle.std.proofs.Common.{◌≤◌, length}
use Rattle.sb_server.proofs.Bodies.{Looked}
use Rattle.sb_server.proofs.body.are_lines.Given as goal

-- so many were looked at, and none of them is blank
abbrev pub invariant-loop-line : goal.invariant-loop-line
invariant-loop-line l = Looked l.body l.count l.rest × (l.count ≤ 100)

abbrev pub decreases-loop-line : goal.decreases-loop-line
decreases-loop-line l = length l.rest
