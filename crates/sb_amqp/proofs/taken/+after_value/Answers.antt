use Rattle.std.proofs.Common.{arith}
use Rattle.sb_amqp.proofs.Walked.{goes_on, goes_no_further}
use Rattle.sb_amqp.proofs.taken.+after_value.Goals as goal

pub returns-in-Some-clause-value : goal.returns-in-Some-clause-value
returns-in-Some-clause-value t c =
    goes_on c.args.nesting c.args.bytes.now c.in-Some.value.now _ c.in-0.len_at_least (omega arith) c.if-nesting-eq0.false c.in-Some.ensures.value c.after_value-in-0.ensures.value

pub returns-in_default-clause-value : goal.returns-in_default-clause-value
returns-in_default-clause-value t c = goes_no_further c.args.nesting c.args.bytes.now c.in-0.len_at_least (omega arith) c.if-nesting-eq0.false c.in_default.ensures.value
