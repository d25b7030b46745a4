use Rattle.std.proofs.Common.{Ok, take}
use Rattle.std.specs.List.{All, AllByRecursion, flat_map}
use Rattle.sb_entities.specs.Stores.{entities_in, entity_in}
use Rattle.sb_snapshot.specs.Base.{leaves_in}
use Rattle.sb_snapshot.specs.Sessions.{leaf}
use Rattle.sb_checkpoint.specs.Takings.{Takes}
use Rattle.sb_checkpoint.proofs.leaves.put_each.Given as goal

abbrev pub invariant-loop-entity : goal.invariant-loop-entity
invariant-loop-entity g l = record {
  takes : Takes g.P.Pieces l.fn.out l.out (flat_map leaf.spell (flat_map leaves_in (entities_in (take l.entity-index l.entities)))) (Ok tt);
  fits : AllByRecursion (λ e. All leaf.Fits (leaves_in (entity_in e))) (take l.entity-index l.entities);
}
