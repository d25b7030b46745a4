use Rattle.sb_fanout.proofs.Deliveries.{delivers, visits_there}
use Rattle.sb_fanout.proofs.delivery.deliver.Goals as goal

pub returns : goal.returns
returns g c = delivers _ _ _ _ _ _ _ _ c.begun-tally.result c.in_ok-tally.tally (visits_there _ 0 c.args.target.now c.args.message) c.begun-tally.ensures c.in_ok-tally.ensures c.ended.ensures.lasts c.ended.ensures.changes
