use Rattle.sb_desk.specs.Desks.{IsOf}
use Rattle.sb_server.specs.Doings.{IsDoing, IsDoingInOrder}
use Rattle.sb_server.specs.Talks.{here_with, start_of}
use Rattle.sb_server.specs.Times.{IsSince}
use Rattle.sb_server.proofs.connection.serve_connection.Given as goal

abbrev pub invariant-loop : goal.invariant-loop
invariant-loop g l = record {
  desk : IsOf l.desk l.current;
  order : IsDoingInOrder l.doing;
  since : IsSince (g.C.Clock.reads l.clock) l.since;
  doing : IsDoing (g.C.Clock.reads l.clock) (start_of g.N.Conn l.access l.limits l.fn.pass l.fn.conn)
      (here_with g.N.Conn l.current l.inbox l.conn) l.doing;
}
