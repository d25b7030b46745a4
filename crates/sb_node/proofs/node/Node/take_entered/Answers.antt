use Rattle.sb_node.proofs.Alike.{alike_stands}
use Rattle.sb_node.proofs.node.Node.take_entered.Goals as goal

pub returns-clause-stands : goal.returns-clause-stands
returns-clause-stands g c start h is = alike_stands c.args.self.now c.take_entered.new.self _ _ _ _ start h c.take_entered.ensures.same is
