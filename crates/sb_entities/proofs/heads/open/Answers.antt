use Rattle.sb_entities.proofs.Seating.{holds_opened}
use Rattle.sb_entities.proofs.heads.open.Goals as goal

pub returns-clause-heads : goal.returns-clause-heads
returns-clause-heads c =
    holds_opened c.args.lock c.args.id c.args.until c.first_of-first.result c.args.copies.now.heads c.forget.new.copies.heads c.args.copies.now.copies c.forget.new.copies.copies c.args.sessions.now.sessions c.open.new.self.sessions
    c.rises.ensures c.requires.heads c.first_of-first.ensures c.forget.ensures.heads c.forget.ensures.copies c.open.ensures.sessions
