use Rattle.std.proofs.Common.{sym, arith, ◌∙◌}
use Rattle.sb_amqp.proofs.Passed.{one_more, is_bad, unended}
use Rattle.sb_amqp.proofs.order.check_sections.Goals as goal

pub loop-section-preserved : goal.loop-section-preserved
loop-section-preserved c =
    one_more c.args.bytes.now c.loop-section.last c.loop-section.rest.now (c.in-Some.section.code, (c.in-Some.section.value.now, c.in-Some.section.rest.now)) (λ i. omega (arith, c.type_inv.bytes i)) c.loop-section.invariant (sym c.in-Some.ensures.value)

pub returns : goal.returns
returns c = is_bad c.args.bytes.now c.loop-section.last c.loop-section.rest.now c.loop-section.invariant (sym c.in_default.ensures.value) (unended c.loop-section.last c.loop-section.rest.now (sym c.is_whole.ensures ∙ c.if-is_whole.false))
