use Rattle.std.proofs.Common.{◌<◌, arith}
use Rattle.sb_sqltext.proofs.Statements.{loop_begins, loop_goes_on}
use Rattle.sb_sqltext.proofs.actions.action_of.Goals as goal

pub statements-init : goal.statements-init
statements-init c = loop_begins c.args.depth c.args.count _ c.args.tokens.now c.in-Some.rest.now c.in_ok-first.rest.now c.in-Some.sets c.in_ok-first.first c.in-Some.ensures.some c.in_ok-first.ensures.reads (rw c.new-statements.ensures at c.in_ok-push.ensures.ok)

pub statements-preserved : goal.statements-preserved
statements-preserved c =
    let some : 0 < c.statements.left = omega arith in
    loop_goes_on c.args.depth c.statements.left c.statements.statements _ c.statements.rest.now c.in-Some-after_set_or_remove.onward.now c.in_ok-next.behind.now c.in-Some-after_set_or_remove.sets c.in_ok-next.next _ some c.in-Some-after_set_or_remove.ensures.some c.in_ok-next.ensures.reads c.in_ok-push-2.ensures.ok c.statements.invariant
