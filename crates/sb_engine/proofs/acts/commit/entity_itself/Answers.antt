use Rattle.sb_entities.specs.Stores.{space_in}
use Rattle.sb_engine.proofs.Commits.{found_itself}
use Rattle.sb_engine.proofs.acts.commit.entity_itself.Goals as goal

pub returns-clause-itself : goal.returns-clause-itself
returns-clause-itself c = found_itself c.args.number (space_in c.args.space.now) _ c.entity.ensures
