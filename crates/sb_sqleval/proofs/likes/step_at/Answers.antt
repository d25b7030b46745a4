use Rattle.std.proofs.Common.{sym, ◌∙◌}
use Rattle.sb_sqleval.proofs.Stepping.{text_ended, unwanted, passed_one}
use Rattle.sb_sqleval.proofs.likes.step_at.Goals as goal

pub returns-in_default : goal.returns-in_default
returns-in_default c = text_ended c.args.escape c.in-One.wanted c.args.ahead.now c.args.left.now c.in-One.onward.now c.in-One.ensures c.in_default.ensures.none

pub returns-then-not-is_wanted : goal.returns-then-not-is_wanted
returns-then-not-is_wanted c = unwanted c.args.escape c.in-One.wanted c.args.ahead.now c.args.left.now c.in-One.onward.now c.in-Some.c _ c.in-One.ensures c.in-Some.ensures.some (sym c.is_wanted.ensures ∙ c.if-not-is_wanted.true)

pub returns-else-not-is_wanted : goal.returns-else-not-is_wanted
returns-else-not-is_wanted c = passed_one c.args.escape c.in-One.wanted c.args.ahead.now c.args.left.now c.in-One.onward.now c.in-Some.rest.now c.in-Some.c c.in-One.ensures c.in-Some.ensures.some (sym c.is_wanted.ensures ∙ c.if-not-is_wanted.false)
