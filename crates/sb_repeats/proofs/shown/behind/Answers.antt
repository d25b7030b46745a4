use Rattle.std.proofs.Common.{◌∙◌}
use Rattle.sb_repeats.proofs.Showing.{behind_from}
use Rattle.sb_repeats.proofs.shown.behind.Goals as goal

pub returns : goal.returns
returns c = c.rows_from.ensures ∙ behind_from c.args.after.now c.args.rows.now c.place_behind.result c.place_behind.ensures.place c.requires.order
