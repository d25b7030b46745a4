use Rattle.sb_http.proofs.WholeResponses.{one_response}
use Rattle.sb_http.proofs.whole_laws.one_response.Goals as goal

pub returns : goal.returns
returns c = one_response
