use Rattle.sb_engine.specs.Engines.{engine_state}
use Rattle.sb_node.proofs.Merely.{merely_live, merely_made}
use Rattle.sb_node.proofs.recovering.numbers_of.Goals as goal

pub summary-summary-requires-clause-copies : goal.summary-summary-requires-clause-copies
summary-summary-requires-clause-copies c = merely_live (engine_state c.args.engine.now) c.requires

pub summary-summary-requires-clause-numbers : goal.summary-summary-requires-clause-numbers
summary-summary-requires-clause-numbers c = merely_made (engine_state c.args.engine.now) c.requires
