use Rattle.sb_fanout.proofs.Deliveries.{delivers, transferred_there}
use Rattle.sb_fanout.proofs.delivery.hand_on.Goals as goal

pub returns : goal.returns
returns g c = delivers _ _ _ _ _ _ _ _ c.begun-tally.result c.in_ok-tally.tally (transferred_there 4 _ c.args.from.now c.args.message c.args.to.now) c.begun-tally.ensures c.in_ok-tally.ensures c.ended.ensures.lasts c.ended.ensures.changes
