use Rattle.std.proofs.Common.{rules, refl, [], ◌∙◌}
use Rattle.sb_server.specs.Reads.{stand_of}
use Rattle.sb_server.proofs.Reading.{takes_start, takes_on, takes_of, takes_to}
use Rattle.sb_server.proofs.inbox.Inbox.next.Goals as goal

pub loop-init : goal.loop-init
loop-init g c = record {
  takes = takes_start _;
  given = refl;
  later = search rules;
  writes = refl;
}

pub loop-preserved-then-self : goal.loop-preserved-then-self
loop-preserved-then-self g c = record {
  takes = takes_to (stand_of c.args.self.now (g.N.Conn.left c.args.conn.now)) [] c.feed_piece.new.self (g.N.Conn.left c.loop.conn) (g.N.Conn.left c.take_one.new.conn) c.take_one.ensures.left (takes_on _ _ _ [] [] (takes_on _ _ _ [] [] c.loop.invariant.takes (takes_of _ _ _ _ _ [] c.in-NoneYet.ensures.took.0)) (c.feed_piece.ensures.takes (g.N.Conn.left c.loop.conn)));
  given = c.take_one.ensures.given ∙ c.loop.invariant.given;
  later = search rules;
  writes = c.take_one.ensures.writes ∙ c.loop.invariant.writes;
}

pub returns-in_default-clause-comes : goal.returns-in_default-clause-comes
returns-in_default-clause-comes g c = takes_to (stand_of c.args.self.now (g.N.Conn.left c.args.conn.now)) [] c.feed_piece.new.self (g.N.Conn.left c.loop.conn) (g.N.Conn.left c.take_one.new.conn) c.take_one.ensures.left (takes_on _ _ _ [] [] (takes_on _ _ _ [] [] c.loop.invariant.takes (takes_of _ _ _ _ _ [] c.in-NoneYet.ensures.took.0)) (c.feed_piece.ensures.takes (g.N.Conn.left c.loop.conn)))
