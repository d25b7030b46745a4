use Rattle.std.proofs.Common.{take}
use Rattle.sb_machine.specs.Changes.{in_turn}
use Rattle.sb_machine.specs.Due.{activated}
use Rattle.sb_fanout.specs.Lasts.{given_in}
use Rattle.sb_entities.specs.Stores.{space_in}
use Rattle.sb_engine.specs.Sweeps.{IsTurned, items_in}
use Rattle.sb_engine.proofs.time.sweeps.activate_all.Given as goal

abbrev pub invariant-loop-item : goal.invariant-loop-item
invariant-loop-item l = IsTurned (space_in l.space) l.moment (in_turn activated l.moment (items_in (take l.item-index l.found))) (given_in l.initial.lasts) (given_in l.lasts) l.initial.changes l.changes
