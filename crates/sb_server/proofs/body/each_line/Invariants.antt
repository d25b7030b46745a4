use Rattle.std.proofs.Common.{◌≡◌, ◌++◌, length}
use Rattle.sb_desk.specs.Lists.{Each}
use Rattle.sb_input.specs.Lines.{lines_of}
use Rattle.sb_server.specs.Bodies.{IsLineInOrder}
use Rattle.sb_server.proofs.Bodies.{each_asked}
use Rattle.sb_server.proofs.body.each_line.Given as goal

-- those so far before those that are left are all
abbrev pub invariant-loop-line : goal.invariant-loop-line
invariant-loop-line l = (l.lines.items ++ each_asked (lines_of l.rest) ≡ each_asked (lines_of l.body)) × Each IsLineInOrder l.lines.items

abbrev pub decreases-loop-line : goal.decreases-loop-line
decreases-loop-line l = length l.rest
