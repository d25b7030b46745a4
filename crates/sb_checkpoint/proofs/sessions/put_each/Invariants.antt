use Rattle.std.proofs.Common.{Ok, take}
use Rattle.std.specs.List.{All, AllByRecursion, flat_map}
use Rattle.sb_entities.specs.Stores.{entities_in, entity_in}
use Rattle.sb_snapshot.specs.Base.{sessions_in}
use Rattle.sb_snapshot.specs.Sessions.{session}
use Rattle.sb_checkpoint.specs.Takings.{Takes}
use Rattle.sb_checkpoint.proofs.sessions.put_each.Given as goal

abbrev pub invariant-loop-entity : goal.invariant-loop-entity
invariant-loop-entity g l = record {
  takes : Takes g.P.Pieces l.fn.out l.out (flat_map session.spell (flat_map sessions_in (entities_in (take l.entity-index l.entities)))) (Ok tt);
  fits : AllByRecursion (λ e. All session.Fits (sessions_in (entity_in e))) (take l.entity-index l.entities);
}
