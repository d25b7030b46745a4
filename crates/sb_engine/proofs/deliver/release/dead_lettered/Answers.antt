use Rattle.std.proofs.lemmas.Result.{on_ok_weaker}
use Rattle.sb_fanout.specs.Lasts.{given_in}
use Rattle.sb_entities.specs.Stores.{entity_in, space_in}
use Rattle.sb_engine.proofs.Releases.{grown_dead}
use Rattle.sb_engine.proofs.deliver.release.dead_lettered.Goals as goal

pub returns : goal.returns
returns c =
    let s = space_in c.args.space.now in
    on_ok_weaker c.bury.result (grown_dead s (entity_in c.args.entity.now) c.about.result.now c.args.copy.now c.args.settled c.args.message (given_in c.args.lasts.now) (given_in c.bury.new.lasts) c.args.changes.now c.push_in.new.changes c.bury.new.changes c.about.ensures (c.in_ok-push_in.ensures.grown s (given_in c.args.lasts.now))) c.bury.ensures
