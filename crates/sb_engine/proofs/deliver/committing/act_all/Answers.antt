use Rattle.std.proofs.Common.{◌++◌}
use Rattle.sb_machine.specs.Changes.{in_turn}
use Rattle.sb_machine.specs.Together.{all_receipts}
use Rattle.sb_machine.specs.Transactions.{operation_changes}
use Rattle.sb_entities.specs.Stores.{entity_in, space_in}
use Rattle.sb_engine.specs.Sendings.{space_at, told}
use Rattle.sb_engine.proofs.Receipts.{told_end, told_next}
use Rattle.sb_engine.proofs.Turns.{turn_next, turn_end}
use Rattle.sb_engine.proofs.deliver.committing.act_all.Goals as goal

pub loop-operation-preserved : goal.loop-operation-preserved
loop-operation-preserved c =
    let t = c.args.moment in
    let s = space_in c.args.space.now in
    let e = entity_in c.args.entity.now in
    let os = c.args.operations.now in
    let p = told c.args.sending.now in
    let now = told c.loop-operation.sending in
    let next = told c.act_one.new.sending in
    let i = c.loop-operation.operation-index in
    let one = c.in_ok-act_one.ensures in (
      turn_next t s e.about.number (operation_changes t e) os i c.operation-item.result (p.changes ++ in_turn (operation_changes t e) t os (space_at t s p)) now next c.loop-operation-test.true c.operation-item.is c.loop-operation.invariant.0 one.acts,
      one.found,
      one.none,
      told_next t s e os i c.operation-item.result (c.args.sent.now.items ++ all_receipts t e os (space_at t s p)) c.loop-operation.sent.items c.act_one.new.sent.items now next c.loop-operation-test.true c.operation-item.is c.loop-operation.invariant.3 one.acts one.sent,
    )

pub returns-clause-acts : goal.returns-clause-acts
returns-clause-acts c =
    let t = c.args.moment in
    let s = space_in c.args.space.now in
    let e = entity_in c.args.entity.now in
    turn_end t s e.about.number (operation_changes t e) c.args.operations.now c.loop-operation.operation-index (told c.args.sending.now) (told c.loop-operation.sending) c.loop-operation-test.false c.loop-operation.invariant.0

pub returns-clause-sent : goal.returns-clause-sent
returns-clause-sent c =
    let t = c.args.moment in
    let s = space_in c.args.space.now in
    let e = entity_in c.args.entity.now in
    let os = c.args.operations.now in
    told_end t e os c.loop-operation.operation-index (c.args.sent.now.items ++ all_receipts t e os (space_at t s (told c.args.sending.now))) c.loop-operation.sent.items (space_at t s (told c.loop-operation.sending)) c.loop-operation-test.false c.loop-operation.invariant.3
