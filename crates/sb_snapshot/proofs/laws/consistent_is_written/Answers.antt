use Rattle.sb_snapshot.proofs.Asked.{state_written}
use Rattle.sb_snapshot.proofs.laws.consistent_is_written.Goals as goal

pub returns : goal.returns
returns c = state_written
