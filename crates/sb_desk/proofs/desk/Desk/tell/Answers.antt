use Rattle.sb_desk.proofs.Sparing.{spares_longer}
use Rattle.sb_desk.proofs.desk.Desk.tell.Goals as goal

pub returns-clause-spares : goal.returns-clause-spares
returns-clause-spares g c from = spares_longer g.V.Served.spared from c.args.one.seen c.args.other.seen
