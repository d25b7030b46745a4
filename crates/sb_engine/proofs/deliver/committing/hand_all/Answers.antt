use Rattle.std.proofs.Common.{◌++◌}
use Rattle.sb_machine.specs.Changes.{in_turn}
use Rattle.sb_machine.specs.Together.{handed_receipts}
use Rattle.sb_machine.specs.Transactions.{handed_on}
use Rattle.sb_entities.specs.Stores.{entity_in, space_in}
use Rattle.sb_engine.specs.Sendings.{space_at, told}
use Rattle.sb_engine.proofs.Receipts.{handed_end, handed_next}
use Rattle.sb_engine.proofs.Turns.{turn_next, turn_end}
use Rattle.sb_engine.proofs.deliver.committing.hand_all.Goals as goal

pub loop-message-preserved : goal.loop-message-preserved
loop-message-preserved c =
    let t = c.args.moment in
    let s = space_in c.args.space.now in
    let e = entity_in c.args.entity.now in
    let to = c.args.to.now in
    let ms = c.args.messages.now in
    let p = told c.args.sending.now in
    let now = told c.loop-message.sending in
    let next = told c.hand_one.new.sending in
    let one = c.in_ok-hand_one.ensures in
    (turn_next t s e.about.number (handed_on e to) ms c.loop-message.message-index c.message-item.result (p.changes ++ in_turn (handed_on e to) t ms (space_at t s p)) now next c.loop-message-test.true c.message-item.is c.loop-message.invariant.0 one.acts, handed_next t s e to ms c.loop-message.message-index c.message-item.result (p.receipts ++ handed_receipts t e to ms (space_at t s p)) now next c.loop-message-test.true c.message-item.is c.loop-message.invariant.1 one)

pub returns : goal.returns
returns c =
    let t = c.args.moment in
    let s = space_in c.args.space.now in
    let e = entity_in c.args.entity.now in
    let to = c.args.to.now in
    let ms = c.args.messages.now in
    let p = told c.args.sending.now in
    let now = told c.loop-message.sending in
    handed_end t s e to ms c.loop-message.message-index p now c.loop-message-test.false c.loop-message.invariant.1 (turn_end t s e.about.number (handed_on e to) ms c.loop-message.message-index p now c.loop-message-test.false c.loop-message.invariant.0)
