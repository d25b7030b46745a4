use Rattle.sb_lines.proofs.Floats.{reply_whole}
use Rattle.sb_lines.proofs.reply.reply_text.Goals as goal

pub compact-requires : goal.compact-requires
compact-requires c = rw c.in_ok-value.ensures (reply_whole c.args.form c.args.reply.now)
