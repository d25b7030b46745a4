use Rattle.sb_lines.proofs.Floats.{answer_whole}
use Rattle.sb_lines.proofs.reply.reply_line.Goals as goal

pub line_text-requires : goal.line_text-requires
line_text-requires c = rw c.in_ok-value.ensures (answer_whole c.args.form c.args.answer.now)
