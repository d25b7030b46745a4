use Rattle.std.proofs.Common.{Some, refl}
use Rattle.sb_entities.specs.Stores.{entity_in, space_in}
use Rattle.sb_engine.proofs.Togethers.{entity_there}
use Rattle.sb_engine.proofs.acts.together.plan_gathered.Goals as goal

pub gather_and_commit-requires-clause-there : goal.gather_and_commit-requires-clause-there
gather_and_commit-requires-clause-there c = entity_there (space_in c.args.space.now) c.args.path.now (entity_in c.in-Some.entity.now) (Some (entity_in c.in-Some.entity.now)) c.is_in_order.ensures.entities c.in-Some.ensures refl
