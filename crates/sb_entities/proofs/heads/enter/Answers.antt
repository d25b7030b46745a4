use Rattle.sb_entities.proofs.Leading.{holds_entered}
use Rattle.sb_entities.proofs.heads.enter.Goals as goal

pub returns-clause-heads : goal.returns-clause-heads
returns-clause-heads c =
    holds_entered c.args.copy c.head_at-head.result c.args.copies.now.heads c.push.new.self.heads c.tell.new.copies.heads c.args.copies.now.copies c.push.new.self.copies c.tell.new.copies.copies c.args.sessions.now.sessions
    c.rises.ensures c.requires.above c.requires.usual c.requires.heads c.push.ensures.heads c.push.ensures.copies c.head_at-head.ensures c.tell.ensures.heads c.tell.ensures.copies
