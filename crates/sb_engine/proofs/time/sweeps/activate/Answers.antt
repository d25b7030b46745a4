use Rattle.std.proofs.lemmas.Result.{on_ok_weaker}
use Rattle.sb_fanout.specs.Lasts.{given_in}
use Rattle.sb_entities.specs.Stores.{entity_in, space_in}
use Rattle.sb_engine.specs.Sweeps.{item}
use Rattle.sb_engine.proofs.Turning.{turned_activated}
use Rattle.sb_engine.proofs.time.sweeps.activate.Goals as goal

pub returns : goal.returns
returns c =
    let s = space_in c.args.space.now in
    on_ok_weaker c.enter.result (turned_activated s c.args.moment (item (entity_in c.args.entity.now) c.args.part c.args.copy.now) c.about.result.now (given_in c.args.lasts.now) (given_in c.enter.new.lasts) c.args.changes.now c.push_in.new.changes c.enter.new.changes c.about.ensures c.requires (c.in_ok-push_in.ensures.grown s (given_in c.args.lasts.now))) c.enter.ensures
