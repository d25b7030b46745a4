use Rattle.sb_engine.specs.Engines.{engine_state}
use Rattle.sb_node.proofs.Taking.{tick_spent, refused_none, not_memory}
use Rattle.sb_node.proofs.replay.take_tick.Goals as goal

pub returns-in-Err : goal.returns-in-Err
returns-in-Err c = record {
  done =
      let s = engine_state c.args.engine.now in
      let r = c.in-Err.refusal in
      refused_none c.untaken.result r _ _ c.untaken.ensures (λ other. tick_spent s c.args.moment (not_memory r _ c.in-Err.ensures.err other).1);
}
