use Rattle.std.proofs.Common.{List, ap, sym, ◌+◌, ◌∙◌}
use Rattle.sb_entities.specs.Stores.{entity_in, space_in}
use Rattle.sb_laws.specs.Gathered.{gathering, read_send}
use Rattle.sb_machine.specs.Rows.{answers}
use Rattle.sb_machine.specs.SendRow.{queued_send}
use Rattle.sb_machine.specs.declared.reply.Reply.TheVariants.{Queued}
use Rattle.sb_model.specs.declared.message.Message.{Message}
use Rattle.sb_engine.specs.Gatherings.{queued_in, sending_tests}
use Rattle.sb_engine.proofs.Gatherings.{queued_same, sends_refused}
use Rattle.sb_engine.proofs.PlannedRows.{plans_by}
use Rattle.sb_engine.proofs.acts.gathering.read_send.Goals as goal

pub returns-in_err-judge_send : goal.returns-in_err-judge_send
returns-in_err-judge_send c =
    let s = space_in c.args.space.now in
    let t = c.args.moment in
    let e = entity_in c.args.entity.now in
    sends_refused s t e c.args.operations.now c.args.to.now c.args.messages.now c.as_slice.result.now c.from_residual.result c.in_err-judge_send.field-0.0 c.as_slice.ensures c.from_residual.ensures c.in_err-judge_send.ensures

pub returns : goal.returns
returns c =
    let s = space_in c.args.space.now in
    let t = c.args.moment in
    let e = entity_in c.args.entity.now in
    let os = c.args.operations.now in
    let to = c.args.to.now in
    let ms = c.args.messages.now in
    let x = gathering s t e os in
    let row = answers Queued (queued_in c.args.txn (t + 120000) to ms) in
    plans_by c.planned.result (read_send s t e x to ms) row
    (ap (λ (l : List Message). sending_tests s e os to l (answers Queued (queued_send t to ms x))) (sym c.as_slice.ensures) ∙ c.in_ok-judge_send.ensures (answers Queued (queued_send t to ms x)) ∙ ap (answers Queued) (queued_same s t e os c.args.txn to ms c.requires.txn))
    (c.planned.ensures.row row c.queued_messages.ensures)
