use Rattle.sb_amqp.proofs.Added.{entry_added, entries_added}
use Rattle.sb_amqp.proofs.write.put_entries.Goals as goal

pub loop-property-preserved : goal.loop-property-preserved
loop-property-preserved c =
    entry_added c.args.props.now c.loop-property.property-index c.property-item.result _ c.loop-property.out.items _ _ _ c.loop-property-test.true c.property-item.is c.as_str.ensures
    c.in_ok-put_string.ensures c.in_ok-put_property_value.ensures c.loop-property.invariant

pub returns : goal.returns
returns c = entries_added c.args.props.now c.loop-property.property-index _ _ c.loop-property-test.false c.loop-property.invariant
