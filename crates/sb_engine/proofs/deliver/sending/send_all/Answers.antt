use Rattle.std.proofs.Common.{◌++◌}
use Rattle.sb_machine.specs.Sending.{receipts, send_changes}
use Rattle.sb_entities.specs.Stores.{entity_in, space_in}
use Rattle.sb_engine.specs.Sendings.{space_at, told}
use Rattle.sb_engine.proofs.Sendings.{way_next}
use Rattle.sb_engine.proofs.deliver.sending.send_all.Goals as goal

pub loop-message-preserved : goal.loop-message-preserved
loop-message-preserved c =
    let t = c.args.moment in
    let s = space_in c.args.space.now in
    let e = entity_in c.args.entity.now in
    let ms = c.args.messages.now in
    let p = told c.args.sending.now in
    way_next t s e ms c.loop-message.message-index c.message-item.result (p.changes ++ send_changes t e ms (space_at t s p)) (p.receipts ++ receipts t e ms (space_at t s p)) (told c.loop-message.sending) (told c.send_one.new.sending) c.loop-message-test.true c.message-item.is c.loop-message.invariant c.in_ok-send_one.ensures
