use Rattle.sb_http.proofs.WorkedStreams.{worked}
use Rattle.sb_http.proofs.laws.worked_streams.Goals as goal

pub returns : goal.returns
returns c = worked
