use Rattle.std.proofs.Common.{ap, ◌∙◌}
use Rattle.std.proofs.lemmas.Result.{on_ok_weaker}
use Rattle.sb_fanout.specs.Lasts.{given_in}
use Rattle.sb_entities.specs.Stores.{space_in}
use Rattle.sb_engine.specs.Sweeps.{items_in}
use Rattle.sb_engine.proofs.Items.{grown_locks}
use Rattle.sb_engine.proofs.time.ticks.sweep_locks.Goals as goal

pub returns : goal.returns
returns c =
    let s = space_in c.args.space.now in
    on_ok_weaker c.release_all.result (grown_locks c.args.moment s (items_in c.as_slice.result.now) (given_in c.args.lasts.now) (given_in c.release_all.new.lasts) c.args.changes.now c.close_all.new.changes c.release_all.new.changes (ap items_in c.as_slice.ensures.value ∙ c.in-Ok-find_all.ensures) c.in-Ok.ensures) c.release_all.ensures
