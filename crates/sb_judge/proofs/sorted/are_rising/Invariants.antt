use Rattle.std.proofs.Common.{◌≡◌, drop}
use Rattle.sb_judge.specs.Verdicts.{rising}
use Rattle.sb_judge.proofs.sorted.are_rising.Given as goal

abbrev pub invariant-loop-row : goal.invariant-loop-row
invariant-loop-row g l = (rising g.T.Numbered.number_of l.above l.last (drop l.row-index l.rows)).0 ≡ (rising g.T.Numbered.number_of 0 l.last l.rows).0
