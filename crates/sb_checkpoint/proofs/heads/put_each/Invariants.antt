use Rattle.std.proofs.Common.{Ok, map, take}
use Rattle.std.specs.List.{AllByRecursion, flat_map}
use Rattle.sb_entities.specs.Stores.{entities_in, entity_in}
use Rattle.sb_snapshot.specs.Base.{head_of}
use Rattle.sb_snapshot.specs.Entities.{head}
use Rattle.sb_checkpoint.specs.Takings.{Takes}
use Rattle.sb_checkpoint.proofs.heads.put_each.Given as goal

abbrev pub invariant-loop-entity : goal.invariant-loop-entity
invariant-loop-entity g l = record {
  takes : Takes g.P.Pieces l.fn.out l.out (flat_map head.spell (map head_of (entities_in (take l.entity-index l.entities)))) (Ok tt);
  fits : AllByRecursion (λ e. head.Fits (head_of (entity_in e))) (take l.entity-index l.entities);
}
