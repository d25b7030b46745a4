use Rattle.std.proofs.Common.{Err}
use Rattle.sb_lines.proofs.Floats.{answer_whole}
use Rattle.sb_lines.specs.declared.form.Form.TheVariants.{Plain}
use Rattle.sb_rest.proofs.response.whole_text.Goals as goal

pub json_line-requires : goal.json_line-requires
json_line-requires c = rw c.in_ok-value.ensures (answer_whole Plain (Err c.args.refusal.now))
