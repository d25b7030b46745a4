use Rattle.sb_http.proofs.Written.{responses_are_read}
use Rattle.sb_http.proofs.laws.responses_are_read.Goals as goal

pub returns : goal.returns
returns c = responses_are_read
