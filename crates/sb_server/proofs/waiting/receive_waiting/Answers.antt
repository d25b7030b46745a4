use Rattle.std.proofs.Common.{subst, rules}
use Rattle.sb_machine.specs.declared.call.Call.{Call}
use Rattle.sb_server.specs.Waiting.{GoesByCall}
use Rattle.sb_server.proofs.Going.{waiting_first, waiting_next, waiting_done}
use Rattle.sb_server.proofs.waiting.receive_waiting.Goals as goal

pub loop-init : goal.loop-init
loop-init g c = record {
  desk = c.call_once-current.ensures.desk;
  legal = c.call_once-current.ensures.legal;
  spares = c.call_once-current.ensures.spares;
  same = c.call_once-current.ensures.same;
  waiting = waiting_first (g.C.Clock.reads c.args.clock.now) _ _ _ _ _ _ c.call_once-current.ensures.goes c.now-first.ensures;
}

pub loop-preserved : goal.loop-preserved
loop-preserved g c = record {
  desk = c.call_once-next.ensures.desk;
  legal = c.call_once-next.ensures.legal;
  spares = c.call_once-next.ensures.spares;
  same = search rules;
  waiting = waiting_next (g.C.Clock.reads c.args.clock.now) _ _ _ _ _ _ _ _ _ _ c.loop.invariant.waiting (search rules)
      (subst (λ (x : Call). GoesByCall c.loop.current c.now-now.result x c.call_once-next.result.2 c.call_once-next.result.0) c.loop.invariant.same c.call_once-next.ensures.goes) c.now-now.ensures;
}

pub returns-clause-waits : goal.returns-clause-waits
returns-clause-waits g c = waiting_done (g.C.Clock.reads c.args.clock.now) _ _ _ _ _ _ _ c.loop.invariant.waiting (search rules)
