use Rattle.std.proofs.lemmas.Result.{on_ok_weaker}
use Rattle.sb_machine.specs.Due.{sweep_expired, sweep_locks}
use Rattle.sb_fanout.specs.Lasts.{given_in}
use Rattle.sb_entities.specs.Stores.{space_in}
use Rattle.sb_engine.proofs.Growing.{grown_more}
use Rattle.sb_engine.proofs.time.ticks.free.Goals as goal

pub returns : goal.returns
returns c =
    let t = c.args.moment in
    let s = space_in c.args.space.now in
    on_ok_weaker c.sweep_expired.result (grown_more s (sweep_locks t s) (sweep_expired t s) (given_in c.args.lasts.now) (given_in c.sweep_locks.new.lasts) (given_in c.sweep_expired.new.lasts) c.args.changes.now c.sweep_locks.new.changes c.sweep_expired.new.changes c.in-Ok.ensures) c.sweep_expired.ensures
