use Rattle.std.proofs.Common.{◌≡◌}
use Rattle.sb_desk.specs.Desks.{IsOf, HasLegal}
use Rattle.sb_desk.specs.Spared.{Spares}
use Rattle.sb_server.specs.Waiting.{Waiting}
use Rattle.sb_server.proofs.waiting.receive_waiting.Given as goal

abbrev pub invariant-loop : goal.invariant-loop
invariant-loop g l = record {
  desk : IsOf l.desk l.current;
  legal : HasLegal l.current;
  spares : Spares g.V.Served.spared l.current.start l.current.seen;
  same : l.asked ≡ l.fn.call;
  waiting : Waiting (g.C.Clock.reads l.clock) l.fn.pass l.fn.call l.limit l.first l.now l.answer l.current;
}
