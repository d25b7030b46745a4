use Rattle.sb_engine.specs.Engines.{engine_state}
use Rattle.sb_recorder.specs.Recorders.{recorder_journal}
use Rattle.sb_node.proofs.Staged.{none_ahead}
use Rattle.sb_node.proofs.ahead.Ahead.over.Goals as goal

pub returns-clause-ahead : goal.returns-clause-ahead
returns-clause-ahead g c kept = none_ahead (recorder_journal c.args.recorder) c.args.last (engine_state c.args.engine) kept
