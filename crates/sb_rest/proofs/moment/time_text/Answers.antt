use Rattle.std.proofs.Common.{◌∙◌}
use Rattle.sb_rest.proofs.moment.time_text.Goals as goal

pub returns : goal.returns
returns c = record { date = c.in-Ok.date; secs = c.in-Ok.ensures.value ∙ c.second_of.ensures.value; text = c.in_ok-text.ensures }
