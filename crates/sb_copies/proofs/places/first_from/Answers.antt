use Rattle.sb_copies.proofs.Finding.{from_none, from_there}
use Rattle.sb_copies.proofs.places.first_from.Goals as goal

pub returns-in-Some : goal.returns-in-Some
returns-in-Some c = from_there c.args.slots.now c.args.number c.in-Some.row c.args.order.now.rows _ c.requires c.in-Some.ensures c.get.ensures

pub returns-in-None : goal.returns-in-None
returns-in-None c = from_none c.args.slots.now c.args.number c.args.order.now.rows c.requires c.in-None.ensures
