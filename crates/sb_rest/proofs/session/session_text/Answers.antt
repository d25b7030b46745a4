use Rattle.sb_rest.proofs.Whole.{session_whole}
use Rattle.sb_rest.proofs.session.session_text.Goals as goal

pub json_line-requires : goal.json_line-requires
json_line-requires c = rw c.in_ok-value.ensures (session_whole c.args.id.now c.args.until.now)
