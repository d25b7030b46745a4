use Rattle.std.proofs.Common.{sym}
use Rattle.sb_recorder.specs.Recorders.{begun_of}
use Rattle.sb_node.proofs.Turning.{lost_failed}
use Rattle.sb_node.proofs.checkpointing.give_up.Goals as goal

pub returns-then-not-is_writing-clause-refused : goal.returns-then-not-is_writing-clause-refused
returns-then-not-is_writing-clause-refused g c is = lost_failed c.args.recorder.now (begun_of c.args.recorder.now) c.requires.begun (sym c.if-not-is_writing.ensures.value)
