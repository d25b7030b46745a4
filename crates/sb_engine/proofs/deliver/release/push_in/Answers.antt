use Rattle.std.proofs.lemmas.Result.{on_ok_weaker}
use Rattle.sb_entities.specs.Stores.{entity_in}
use Rattle.sb_engine.proofs.Releases.{grown_in}
use Rattle.sb_engine.proofs.deliver.release.push_in.Goals as goal

pub returns-clause-grown : goal.returns-clause-grown
returns-clause-grown c = λ s given. on_ok_weaker c.push.result (grown_in s given c.args.part (entity_in c.args.entity.now) c.args.change c.in_part.result c.args.changes.now c.push.new.self c.requires c.in_part.ensures) c.push.ensures.ok
