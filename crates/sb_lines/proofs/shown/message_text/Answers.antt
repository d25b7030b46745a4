use Rattle.sb_lines.proofs.Floats.{plain_whole}
use Rattle.sb_lines.proofs.shown.message_text.Goals as goal

pub compact-requires : goal.compact-requires
compact-requires c = rw c.in_ok-value.ensures (plain_whole c.args.copy.now)
