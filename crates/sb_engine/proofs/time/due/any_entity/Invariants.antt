use Rattle.std.proofs.Common.{◌≡◌, drop}
use Rattle.std.specs.List.{list_any}
use Rattle.sb_entities.specs.Stores.{entities_in}
use Rattle.sb_engine.specs.Deadlines.{comes_of}
use Rattle.sb_engine.proofs.time.due.any_entity.Given as goal

-- in no entity so far
abbrev pub invariant-loop-entity : goal.invariant-loop-entity
invariant-loop-entity l = list_any (comes_of l.moment) (entities_in (drop l.entity-index l.entities)) ≡ list_any (comes_of l.moment) (entities_in l.entities)
