use Rattle.sb_entities.proofs.Seating.{holds_closed}
use Rattle.sb_entities.proofs.heads.close.Goals as goal

pub returns-clause-heads : goal.returns-clause-heads
returns-clause-heads c =
    holds_closed c.args.lock c.first_held-first.result c.head_again-head.result c.args.copies.now.heads c.forget.new.copies.heads c.tell.new.copies.heads c.args.copies.now.copies c.forget.new.copies.copies c.tell.new.copies.copies c.args.sessions.now.sessions c.close.new.self.sessions
    c.rises.ensures c.requires.below c.requires.heads c.first_held-first.ensures c.forget.ensures.heads c.forget.ensures.copies c.close.ensures.sessions c.head_again-head.ensures c.tell.ensures.heads c.tell.ensures.copies
