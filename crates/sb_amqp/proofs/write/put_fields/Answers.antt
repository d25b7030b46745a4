use Rattle.sb_amqp.proofs.Walked.{field_on}
use Rattle.sb_amqp.proofs.write.put_fields.Goals as goal

pub loop-before-preserved : goal.loop-before-preserved
loop-before-preserved c = field_on c.args.sys.now c.loop-before.out.items c.put_field.new.out.items _ c.loop-before.before c.args.count c.loop-before-test.true c.in_ok-put_field.ensures c.loop-before.invariant
