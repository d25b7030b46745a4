use Rattle.sb_fanout.proofs.Counting.{visits_count}
use Rattle.sb_fanout.proofs.laws.visits_count.Goals as goal

pub returns : goal.returns
returns c = visits_count
