use Rattle.sb_http.specs.Stages.{held}
use Rattle.sb_edgetests.proofs.http.take_all.Given as goal

-- less is left behind each request
abbrev pub decreases-requests : goal.decreases-requests
decreases-requests l = held l.incoming.left
