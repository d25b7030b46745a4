use Rattle.sb_node.proofs.Standing.{left_closed}
use Rattle.sb_node.proofs.node.Node.close.Goals as goal

pub returns-clause-left : goal.returns-clause-left
returns-clause-left g c = λ start h is honest. left_closed c.args.self c.close.result.0 c.close.result.1 start h c.close.ensures.disk_a c.close.ensures.disk_b is honest
