use Rattle.sb_engine.specs.Engines.{engine_state}
use Rattle.sb_node.proofs.Gates.{taken_on}
use Rattle.sb_node.proofs.Machine.{sweepable}
use Rattle.sb_node.proofs.Recovered.{events_consistent}
use Rattle.sb_node.proofs.replay.ReplayingJudge.take.Goals as goal

pub take_payload-requires : goal.take_payload-requires
take_payload-requires c =
    let s = engine_state c.args.self.now.engine in
    sweepable s (events_consistent c.requires.0 c.requires.1 42 c.requires.2 s (c.requires.3 42))

pub returns : goal.returns
returns c salt base before taken = taken_on (engine_state c.args.self.now.engine) _ salt base before c.args.payload.now c.take_payload.result taken c.take_payload.ensures.done
