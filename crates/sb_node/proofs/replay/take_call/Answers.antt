use Rattle.sb_engine.specs.Engines.{engine_state}
use Rattle.sb_machine.specs.Repeats.{client_of, outcome_of}
use Rattle.sb_node.proofs.Taking.{call_still, refused_still, refused_none, not_memory}
use Rattle.sb_node.proofs.replay.take_call.Goals as goal

pub returns-in-Err : goal.returns-in-Err
returns-in-Err c = record {
  done =
      let s = engine_state c.args.engine.now in
      let call = c.args.call.now in
      let r = c.in-Err.refusal in
      refused_none c.untaken.result r _ _ c.untaken.ensures
      (λ other. call_still s c.args.moment call (refused_still (client_of call) (outcome_of s c.args.moment call) r (not_memory r _ c.in-Err.ensures.err other)));
}
