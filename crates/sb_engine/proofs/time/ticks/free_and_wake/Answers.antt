use Rattle.std.proofs.lemmas.Result.{on_ok_weaker}
use Rattle.sb_machine.specs.Changes.{in_turn}
use Rattle.sb_machine.specs.Due.{activated, due_scheduled}
use Rattle.sb_laws.specs.AsFound.{freed}
use Rattle.sb_fanout.specs.Lasts.{given_in}
use Rattle.sb_entities.specs.Stores.{space_in}
use Rattle.sb_engine.proofs.Turning.{woken_behind}
use Rattle.sb_engine.proofs.time.ticks.free_and_wake.Goals as goal

pub returns : goal.returns
returns c =
    let t = c.args.moment in
    let s = space_in c.args.space.now in
    on_ok_weaker c.sweep_scheduled.result (woken_behind s t (freed t s) (in_turn activated t (due_scheduled t s)) (given_in c.new-lasts.result) (given_in c.free.new.lasts) (given_in c.sweep_scheduled.new.lasts) c.args.changes.now c.free.new.changes c.sweep_scheduled.new.changes c.new-lasts.ensures c.in-Ok.ensures) c.sweep_scheduled.ensures
