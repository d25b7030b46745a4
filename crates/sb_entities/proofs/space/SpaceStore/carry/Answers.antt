use Rattle.std.proofs.Common.{◌≡◌, arith, sym, subst}
use Rattle.sb_machine.specs.Namespace.{made}
use Rattle.sb_machine.specs.declared.change.Change.{Change}
use Rattle.sb_entities.specs.Stocks.{space_of, stock_after, HasRoomFor}
use Rattle.sb_entities.specs.Stores.{entries_in, stock_in}
use Rattle.sb_entities.specs.Transactions.{AreOpened}
use Rattle.sb_entities.specs.declared.change.EntityChange.TheVariants.{NotesId, GainsRule, LosesRule}
use Rattle.sb_entities.proofs.Numbering.{ready}
use Rattle.sb_entities.proofs.Promised.{nothing_in}
use Rattle.sb_entities.proofs.Opened.{opened_queued, opened_dropped}
use Rattle.sb_entities.proofs.Tallies.{made_same}
use Rattle.sb_entities.proofs.space.SpaceStore.carry.Goals as goal

pub change_entity-requires-clause-ready : goal.change_entity-requires-clause-ready
change_entity-requires-clause-ready c =
    let k = stock_in c.args.self.now in
    ready c.in-Notes.entity (made (space_of k)) (NotesId c.in-Notes.id) (entries_in c.args.self.now.entities.rows) (omega arith) (omega (arith, c.requires.fits.made))
    (subst (λ (x : Change). HasRoomFor x k) c.in-Notes.is c.requires.room)

pub change_entity-requires-clause-fits : goal.change_entity-requires-clause-fits
change_entity-requires-clause-fits c = omega (arith, made_same c.args.self.now, c.requires.fits.made)

pub change_entity-requires-in-AddsRule-clause-ready : goal.change_entity-requires-in-AddsRule-clause-ready
change_entity-requires-in-AddsRule-clause-ready c =
    let k = stock_in c.args.self.now in
    ready c.in-AddsRule.entity (made (space_of k)) (GainsRule c.in-AddsRule.rule) (entries_in c.args.self.now.entities.rows) (omega arith) (omega (arith, c.requires.fits.made))
    (subst (λ (x : Change). HasRoomFor x k) c.in-AddsRule.is c.requires.room)

pub change_entity-requires-in-AddsRule-clause-fits : goal.change_entity-requires-in-AddsRule-clause-fits
change_entity-requires-in-AddsRule-clause-fits c = omega (arith, made_same c.args.self.now, c.requires.fits.made)

pub change_entity-requires-in-DropsRule-clause-ready : goal.change_entity-requires-in-DropsRule-clause-ready
change_entity-requires-in-DropsRule-clause-ready c =
    let k = stock_in c.args.self.now in
    ready c.in-DropsRule.entity (made (space_of k)) (LosesRule c.in-DropsRule.name) (entries_in c.args.self.now.entities.rows) (omega arith) (omega (arith, c.requires.fits.made))
    (nothing_in c.in-DropsRule.entity k)

pub change_entity-requires-in-DropsRule-clause-fits : goal.change_entity-requires-in-DropsRule-clause-fits
change_entity-requires-in-DropsRule-clause-fits c = omega (arith, made_same c.args.self.now, c.requires.fits.made)

pub invariant_of-self : goal.invariant_of-self
invariant_of-self c =
    let s = c.args.self.now in
    record { opened = subst (λ rows. AreOpened s.last_txn rows) (sym c.queue.ensures.rows) (opened_queued c.in-Queues.txn c.in-Queues.deadline s.last_txn c.in-Queues.operation s.txns.rows s.opened); living = s.living; given = s.given; numbered = s.numbered }

pub invariant_of-self-in-Drops : goal.invariant_of-self-in-Drops
invariant_of-self-in-Drops c =
    let s = c.args.self.now in
    record { opened = subst (λ rows. AreOpened s.last_txn rows) (sym c.drop_txn.ensures.rows) (opened_dropped c.in-Drops.txn s.last_txn s.txns.rows s.opened); living = s.living; given = s.given; numbered = s.numbered }

pub returns-in-Makes : goal.returns-in-Makes
returns-in-Makes c = subst (λ (x : Change). stock_in c.make.new.self ≡ stock_after c.args.moment x (stock_in c.args.self.now)) (sym c.in-Makes.is) (c.make.ensures c.args.moment)

pub returns-in-Removes : goal.returns-in-Removes
returns-in-Removes c = subst (λ (x : Change). stock_in c.remove.new.self ≡ stock_after c.args.moment x (stock_in c.args.self.now)) (sym c.in-Removes.is) (c.remove.ensures c.args.moment)

pub returns-in-Begins : goal.returns-in-Begins
returns-in-Begins c = subst (λ (x : Change). stock_in c.begin.new.self ≡ stock_after c.args.moment x (stock_in c.args.self.now)) (sym c.in-Begins.is) (c.begin.ensures c.args.moment)
