use Rattle.std.proofs.Common.{◌≡◌, ◌≤◌, []}
use Rattle.sb_server.specs.Reads.{Takes, stand_of}
use Rattle.sb_server.proofs.inbox.Inbox.next.Given as goal

abbrev pub invariant-loop : goal.invariant-loop
invariant-loop g l = record {
  takes : Takes (stand_of l.fn.self (g.N.Conn.left l.fn.conn)) [] (stand_of l.self (g.N.Conn.left l.conn));
  given : g.N.Conn.given l.conn ≡ g.N.Conn.given l.fn.conn;
  later : g.N.Conn.reads l.fn.conn ≤ g.N.Conn.reads l.conn;
  writes : g.N.Conn.writes l.conn ≡ g.N.Conn.writes l.fn.conn;
}
