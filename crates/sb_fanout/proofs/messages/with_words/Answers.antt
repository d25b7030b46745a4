use Rattle.sb_fanout.proofs.Reasoned.{marked_twice}
use Rattle.sb_fanout.proofs.messages.with_words.Goals as goal

pub returns : goal.returns
returns c = marked_twice c.marked-2.result c.args.message c.in_ok-message.message c.args.reason.now c.args.description.now c.marked-2.ensures c.in_ok-message.ensures
