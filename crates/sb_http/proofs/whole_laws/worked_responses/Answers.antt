use Rattle.sb_http.proofs.WorkedResponses.{worked_responses}
use Rattle.sb_http.proofs.whole_laws.worked_responses.Goals as goal

pub returns : goal.returns
returns c = worked_responses
