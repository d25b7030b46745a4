use Rattle.sb_amqp.proofs.Added.{then_added}
use Rattle.sb_amqp.proofs.write.put_list_section.Goals as goal

pub returns : goal.returns
returns c = then_added c.put_list.result _ _ _ _ _ c.in_ok-put_descriptor.ensures c.put_list.ensures
