use Rattle.std.proofs.Common.{false, map, take}
use Rattle.std.specs.List.{flat_map}
use Rattle.sb_machine.specs.Delivery.{released}
use Rattle.sb_machine.specs.Namespace.{listed}
use Rattle.sb_fanout.specs.Lasts.{given_in}
use Rattle.sb_entities.specs.Stores.{entity_in, space_in}
use Rattle.sb_engine.specs.Growing.{IsGrown}
use Rattle.sb_engine.proofs.acts.session_close.release_all.Given as goal

abbrev pub invariant-loop-copy : goal.invariant-loop-copy
invariant-loop-copy l =
    IsGrown (space_in l.space) (flat_map (λ c. released (listed (space_in l.space)) l.moment (entity_in l.entity) l.part c false false) (map (λ b. b.now) (take l.copy-index l.copies))) (given_in l.initial.lasts) (given_in l.lasts) l.initial.changes l.changes
