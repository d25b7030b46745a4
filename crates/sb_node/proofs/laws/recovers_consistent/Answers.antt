use Rattle.sb_node.proofs.Recovered.{recovers_consistent}
use Rattle.sb_node.proofs.laws.recovers_consistent.Goals as goal

pub returns : goal.returns
returns c = recovers_consistent
