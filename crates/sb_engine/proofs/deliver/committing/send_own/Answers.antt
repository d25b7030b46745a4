use Rattle.std.proofs.lemmas.Result.{on_ok_weaker}
use Rattle.sb_entities.specs.Stores.{entity_in, space_in}
use Rattle.sb_engine.specs.Sendings.{told}
use Rattle.sb_engine.proofs.Commits.{told_sent}
use Rattle.sb_engine.proofs.deliver.committing.send_own.Goals as goal

pub returns : goal.returns
returns c = on_ok_weaker c.send_all.result (told_sent c.args.moment (space_in c.args.space.now) (entity_in c.args.entity.now) c.args.messages.now (told c.args.sending.now) (told c.send_all.new.sending)) c.send_all.ensures
