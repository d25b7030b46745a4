use Rattle.std.proofs.lemmas.Result.{on_ok_weaker}
use Rattle.sb_fanout.specs.Lasts.{given_in}
use Rattle.sb_entities.specs.Stores.{entity_in, space_in}
use Rattle.sb_engine.proofs.Receipts.{handed_told}
use Rattle.sb_engine.proofs.deliver.committing.hand_one.Goals as goal

pub returns : goal.returns
returns c =
    let before = c.args.sending.now in
    on_ok_weaker c.hand_on.result (handed_told c.args.moment (space_in c.args.space.now) (entity_in c.args.entity.now) c.about.result.now c.args.to.now c.args.message.now c.in_ok-copy.copy (given_in before.lasts) (given_in c.hand_on.new.lasts) before.noted.items before.changes c.hand_on.new.changes before.receipts.items c.push.new.self.items c.first_key.result c.in_ok-number.number c.requires c.about.ensures c.in_ok-copy.ensures c.first_key.ensures c.in_ok-number.ensures c.in_ok-push.ensures.items) c.hand_on.ensures
