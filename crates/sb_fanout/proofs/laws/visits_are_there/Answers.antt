use Rattle.sb_fanout.proofs.There.{visits_are_there}
use Rattle.sb_fanout.proofs.laws.visits_are_there.Goals as goal

pub returns : goal.returns
returns c = visits_are_there
