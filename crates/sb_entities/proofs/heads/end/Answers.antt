use Rattle.sb_entities.proofs.Leading.{holds_ended}
use Rattle.sb_entities.proofs.heads.end.Goals as goal

pub returns-clause-heads : goal.returns-clause-heads
returns-clause-heads c =
    holds_ended c.args.number c.take-ended.result c.first_at-first.result c.head_beside-head.result c.args.copies.now.heads c.forget.new.copies.heads c.take-ended.new.self.heads c.tell.new.copies.heads c.args.copies.now.copies c.forget.new.copies.copies c.take-ended.new.self.copies c.tell.new.copies.copies c.args.sessions.now.sessions
    c.rises.ensures c.rises-2.ensures c.requires.below c.requires.heads c.first_at-first.ensures c.forget.ensures.heads c.forget.ensures.copies c.take-ended.ensures.taken c.take-ended.ensures.heads c.take-ended.ensures.copies c.head_beside-head.ensures c.tell.ensures.heads c.tell.ensures.copies
