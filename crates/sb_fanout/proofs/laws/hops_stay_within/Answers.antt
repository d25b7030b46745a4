use Rattle.sb_fanout.proofs.Within.{hops_stay_within}
use Rattle.sb_fanout.proofs.laws.hops_stay_within.Goals as goal

pub returns : goal.returns
returns c = hops_stay_within
