use Rattle.std.proofs.Common.{refl}
use Rattle.std.specs.Fmt.{digits}
use Rattle.sb_http.specs.Responses.{field_line, status_line}
use Rattle.sb_rest.specs.Batches.{is_media_type}
use Rattle.sb_server.proofs.worked.worked_bodies.Goals as goal

pub returns-clause-folded : goal.returns-clause-folded
unfolding is_media_type
returns-clause-folded c = refl

pub returns-clause-last_type : goal.returns-clause-last_type
unfolding is_media_type
returns-clause-last_type c = refl

pub returns-clause-longer_type : goal.returns-clause-longer_type
unfolding is_media_type
returns-clause-longer_type c = refl

pub returns-clause-no_type : goal.returns-clause-no_type
unfolding is_media_type
returns-clause-no_type c = refl

pub returns-clause-response : goal.returns-clause-response
unfolding field_line status_line digits
returns-clause-response c = refl
