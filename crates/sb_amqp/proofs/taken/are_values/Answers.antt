use Rattle.sb_amqp.proofs.Walked.{none_more, one_more, no_more}
use Rattle.sb_amqp.proofs.taken.are_values.Goals as goal

pub returns-in_default : goal.returns-in_default
returns-in_default c = none_more c.args.count c.loop.counter c.loop.rest.now c.args.bytes.now c.loop-test.true c.in_default.ensures.value c.loop.invariant

pub loop-preserved : goal.loop-preserved
loop-preserved c = one_more c.args.count c.loop.counter c.in-Some.field-0-0.now c.loop.rest.now c.in-Some.after.now c.args.bytes.now c.loop-test.true c.in-Some.ensures.value c.loop.invariant

pub returns : goal.returns
returns c = no_more c.args.count c.loop.counter c.loop.rest.now c.args.bytes.now c.is_empty.result c.loop-test.false c.is_empty.ensures c.loop.invariant
