use Rattle.sb_rest.proofs.Whole.{broker_whole}
use Rattle.sb_rest.proofs.shown.broker_text.Goals as goal

pub json_line-requires : goal.json_line-requires
json_line-requires c = rw c.in_ok-value.ensures (broker_whole c.args.texts.now c.args.enqueued.now c.args.until.now c.args.copy.now)
