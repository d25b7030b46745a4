use Rattle.sb_amqp.proofs.Added.{message_added}
use Rattle.sb_amqp.proofs.write.write_scheduled.Goals as goal

pub returns : goal.returns
returns c =
    message_added c.args.message.now c.args.schedule _ _ _ _ _ _ _ _ _ c.new-out.ensures.items c.as_slice.ensures c.as_slice-2.ensures c.as_slice-3.ensures
    c.in_ok-put_header.ensures c.in_ok-put_annotations.ensures c.in_ok-put_properties.ensures c.in_ok-put_application.ensures c.in_ok-put_data.ensures
