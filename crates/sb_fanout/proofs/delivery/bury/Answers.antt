use Rattle.sb_fanout.proofs.Deliveries.{carries}
use Rattle.sb_fanout.proofs.delivery.bury.Goals as goal

pub returns : goal.returns
returns g c = carries _ _ _ _ _ _ _ _ c.begun-tally.result c.in_ok-tally.tally c.begun-tally.ensures c.in_ok-tally.ensures c.ended.ensures.lasts c.ended.ensures.changes
