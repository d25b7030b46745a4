use Rattle.std.proofs.Common.{false, take, true}
use Rattle.std.specs.List.{flat_map}
use Rattle.sb_machine.specs.Delivery.{released}
use Rattle.sb_machine.specs.Namespace.{listed}
use Rattle.sb_fanout.specs.Lasts.{given_in}
use Rattle.sb_entities.specs.Stores.{space_in}
use Rattle.sb_engine.specs.Growing.{IsGrown}
use Rattle.sb_engine.specs.Sweeps.{items_in}
use Rattle.sb_engine.proofs.time.sweeps.release_all.Given as goal

abbrev pub invariant-loop-item : goal.invariant-loop-item
invariant-loop-item l = IsGrown (space_in l.space) (flat_map (λ i. released (listed (space_in l.space)) l.moment i.entity i.part i.copy true false) (items_in (take l.item-index l.found))) (given_in l.initial.lasts) (given_in l.lasts) l.initial.changes l.changes
