use Rattle.std.proofs.Common.{false, true}
use Rattle.sb_machine.specs.Delivery.{released}
use Rattle.sb_machine.specs.Due.{Item}
use Rattle.sb_machine.specs.Namespace.{listed}
use Rattle.sb_fanout.specs.Lasts.{given_in}
use Rattle.sb_entities.specs.Stores.{space_in}
use Rattle.sb_engine.specs.Sweeps.{item_in}
use Rattle.sb_engine.proofs.Items.{runs_next, runs_all}
use Rattle.sb_engine.proofs.time.sweeps.release_all.Goals as goal

pub loop-item-preserved : goal.loop-item-preserved
loop-item-preserved c =
    let s = space_in c.args.space.now in
    runs_next s item_in (λ (i : Item). released (listed s) c.args.moment i.entity i.part i.copy true false) c.args.found.now c.loop-item.item-index c.item-item.result (given_in c.args.lasts.now) (given_in c.loop-item.lasts) (given_in c.released.new.lasts) c.args.changes.now c.loop-item.changes c.released.new.changes c.loop-item-test.true c.item-item.is c.loop-item.invariant c.in_ok-released.ensures

pub returns : goal.returns
returns c =
    let s = space_in c.args.space.now in
    runs_all s item_in (λ (i : Item). released (listed s) c.args.moment i.entity i.part i.copy true false) c.args.found.now c.loop-item.item-index (given_in c.args.lasts.now) (given_in c.loop-item.lasts) c.args.changes.now c.loop-item.changes c.loop-item-test.false c.loop-item.invariant
