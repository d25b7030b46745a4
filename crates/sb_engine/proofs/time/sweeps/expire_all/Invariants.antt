use Rattle.std.proofs.Common.{false, take}
use Rattle.std.specs.List.{flat_map}
use Rattle.sb_machine.specs.Delivery.{expired}
use Rattle.sb_machine.specs.Namespace.{listed}
use Rattle.sb_fanout.specs.Lasts.{given_in}
use Rattle.sb_entities.specs.Stores.{space_in}
use Rattle.sb_engine.specs.Growing.{IsGrown}
use Rattle.sb_engine.specs.Sweeps.{items_in}
use Rattle.sb_engine.proofs.time.sweeps.expire_all.Given as goal

abbrev pub invariant-loop-item : goal.invariant-loop-item
invariant-loop-item l = IsGrown (space_in l.space) (flat_map (λ i. expired (listed (space_in l.space)) i.entity i.copy false) (items_in (take l.item-index l.found))) (given_in l.initial.lasts) (given_in l.lasts) l.initial.changes l.changes
