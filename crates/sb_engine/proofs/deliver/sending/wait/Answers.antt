use Rattle.std.proofs.lemmas.Result.{on_ok_weaker}
use Rattle.sb_fanout.specs.Lasts.{given_in}
use Rattle.sb_entities.specs.Stores.{entity_in}
use Rattle.sb_engine.proofs.Sendings.{comes_waiting}
use Rattle.sb_engine.proofs.deliver.sending.wait.Goals as goal

pub returns : goal.returns
returns c = λ read. on_ok_weaker c.raise.result (comes_waiting c.args.moment read (entity_in c.args.entity.now) c.args.message.now c.in_ok-copy_of.field-0 c.args.at c.in_part.result c.key_of_main.result (given_in c.args.lasts.now) (given_in c.raise.new.self) c.args.changes.now c.push.new.self c.in_ok-copy_of.ensures c.in_part.ensures c.key_of_main.ensures c.in_ok-push.ensures.ok) c.raise.ensures
