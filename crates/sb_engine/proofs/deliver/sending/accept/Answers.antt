use Rattle.std.proofs.lemmas.Result.{on_ok_weaker}
use Rattle.sb_fanout.specs.Lasts.{given_in}
use Rattle.sb_entities.specs.Stores.{entity_in, space_in}
use Rattle.sb_engine.proofs.Sendings.{accepts_one}
use Rattle.sb_engine.proofs.deliver.sending.accept.Goals as goal

pub returns : goal.returns
returns c =
    let before = c.args.sending.now in
    on_ok_weaker c.come.result (accepts_one c.args.moment (space_in c.args.space.now) (entity_in c.args.entity.now) c.args.message.now (given_in before.lasts) (given_in c.come.new.lasts) before.noted.items c.note.new.noted.items before.changes c.note.new.changes c.come.new.changes before.receipts.items c.push.new.self.items c.key_of_main.result c.in_ok-number.number c.requires.under_way c.requires.new c.key_of_main.ensures c.in_ok-number.ensures c.in_ok-push.ensures.items c.in_ok-note.ensures.fresh c.in_ok-note.ensures.changes) c.come.ensures
