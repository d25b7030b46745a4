use Rattle.sb_engine.proofs.Sends.{queued_row}
use Rattle.sb_engine.proofs.acts.send.queued.Goals as goal

pub returns : goal.returns
returns c = queued_row c.args.moment c.args.to.now c.args.messages.now c.args.txn.now.transaction c.changing.result.reply c.changing.result.changes c.queueing.result c.in_ok-operation.operation c.is_empty.result c.is_empty.ensures c.if-is_empty.false c.in_ok-operation.ensures c.changing.ensures.reply c.changing.ensures.changes c.queueing.ensures
