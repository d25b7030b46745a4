use Rattle.sb_amqp.proofs.Added.{then_added}
use Rattle.sb_amqp.proofs.write.put_map_section.Goals as goal

pub returns : goal.returns
returns c = then_added c.put_map.result _ _ _ _ _ c.in_ok-put_descriptor.ensures c.put_map.ensures
