use Rattle.sb_node.proofs.Alike.{alike}
use Rattle.sb_node.proofs.ahead.Ahead.take_entered.Goals as goal

pub returns : goal.returns
returns g c = record { same = alike c.args.self.now c.take_entered.new.self _ c.take_entered.ensures.same }
