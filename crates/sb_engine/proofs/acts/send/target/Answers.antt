use Rattle.sb_entities.specs.Stores.{space_in}
use Rattle.sb_engine.proofs.Sendings.{target_there}
use Rattle.sb_engine.proofs.acts.send.target.Goals as goal

pub returns-clause-there : goal.returns-clause-there
returns-clause-there c = target_there (space_in c.args.space.now) c.args.to.now _ c.at.ensures
