use Rattle.std.proofs.Common.{◌+◌, arith}
use Rattle.sb_machine.specs.Namespace.{made}
use Rattle.sb_entities.specs.Stocks.{space_of}
use Rattle.sb_entities.specs.Stores.{entries_in, stock_in}
use Rattle.sb_entities.specs.declared.change.EntityChange.TheVariants.{InPart}
use Rattle.sb_entities.proofs.Numbering.{ready}
use Rattle.sb_entities.proofs.Tallies.{made_same}
use Rattle.sb_entities.proofs.space.SpaceStore.carry_leaf.Goals as goal

pub change_entity-requires-clause-ready : goal.change_entity-requires-clause-ready
change_entity-requires-clause-ready c =
    let s = c.args.self.now in
    ready c.args.key.entity (made (space_of (stock_in s))) (InPart c.args.key.part (s.last_lock + 1) c.args.change) (entries_in s.entities.rows) (omega arith) c.requires.fits.made c.requires.room

pub change_entity-requires-clause-fits : goal.change_entity-requires-clause-fits
change_entity-requires-clause-fits c = omega (arith, made_same c.args.self.now, c.requires.fits.made)
