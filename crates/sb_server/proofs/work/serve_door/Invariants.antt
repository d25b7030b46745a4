use Rattle.sb_desk.specs.Desks.{IsOf}
use Rattle.sb_server.specs.Doings.{sitting_of}
use Rattle.sb_server.specs.Stages.{IsAt, IsSound}
use Rattle.sb_server.proofs.work.serve_door.Given as goal

abbrev pub invariant-loop : goal.invariant-loop
invariant-loop g l = record {
  desk : IsOf l.desk (sitting_of l.current);
  sound : IsSound l.current l.stage (g.D.Door.out l.door);
  at : IsAt g.D.Door g.D.Conn.Conn (g.C.Clock.reads l.clock) l.access l.limits l.fn.most l.fn.pass l.fn.door l.current l.door l.stage;
}
