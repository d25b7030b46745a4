use Rattle.std.proofs.Common.{refl, ◌∙◌, arith}
use Rattle.sb_routes.proofs.Segments.{passed, at_last}
use Rattle.sb_routes.proofs.path.segment.Goals as goal

pub loop-left-init : goal.loop-left-init
loop-left-init c = refl

pub loop-left-preserved : goal.loop-left-preserved
loop-left-preserved c = passed c.loop-left.left c.loop-left.rest.now c.cut.result.1.now c.loop-left-test.true c.cut.ensures.after ∙ c.loop-left.invariant

pub returns : goal.returns
returns c = c.cut-2.ensures.before ∙ at_last c.loop-left.left c.loop-left.rest.now (omega (arith, c.loop-left-test.false)) ∙ c.loop-left.invariant
