use Rattle.std.proofs.Common.{true, ◌≡◌}
use Rattle.sb_machine.specs.Due.{Item, activated}
use Rattle.sb_machine.specs.Namespace.{listed}
use Rattle.sb_fanout.specs.Lasts.{given_in, is_listed}
use Rattle.sb_entities.specs.Stores.{space_in}
use Rattle.sb_engine.specs.Sweeps.{item_in}
use Rattle.sb_engine.proofs.Items.{each_read}
use Rattle.sb_engine.proofs.Turning.{turned_all, turned_first, turned_next}
use Rattle.sb_engine.proofs.time.sweeps.activate_all.Goals as goal

pub loop-item-init : goal.loop-item-init
loop-item-init c = turned_first (space_in c.args.space.now) c.args.moment item_in activated c.args.found.now (given_in c.args.lasts.now) c.args.changes.now

pub activate-requires : goal.activate-requires
activate-requires c = each_read (λ (i : Item). is_listed i.entity.about.number (listed (space_in c.args.space.now)) ≡ true) item_in c.args.found.now c.loop-item.item-index c.item-item.result c.loop-item-test.true c.item-item.is c.requires

pub loop-item-preserved : goal.loop-item-preserved
loop-item-preserved c =
    turned_next (space_in c.args.space.now) c.args.moment item_in activated c.args.found.now c.loop-item.item-index c.item-item.result (given_in c.args.lasts.now) (given_in c.loop-item.lasts) (given_in c.activate.new.lasts) c.args.changes.now c.loop-item.changes c.activate.new.changes c.loop-item-test.true c.item-item.is c.loop-item.invariant c.in_ok-activate.ensures

pub returns : goal.returns
returns c =
    turned_all (space_in c.args.space.now) c.args.moment item_in activated c.args.found.now c.loop-item.item-index (given_in c.args.lasts.now) (given_in c.loop-item.lasts) c.args.changes.now c.loop-item.changes c.loop-item-test.false c.loop-item.invariant
