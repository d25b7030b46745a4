use Rattle.std.proofs.Common.{refl}
use Rattle.std.specs.Fmt.{digits}
use Rattle.form_urlencoded.specs.Form.{split}
use Rattle.sb_http.specs.Responses.{field_line, status_line}
use Rattle.sb_server.specs.Asks.{lists_close}
use Rattle.sb_server.proofs.worked.worked_connections.Goals as goal

pub returns-clause-listed : goal.returns-clause-listed
unfolding lists_close split
returns-clause-listed c = refl

pub returns-clause-longer : goal.returns-clause-longer
unfolding lists_close split
returns-clause-longer c = refl

pub returns-clause-line : goal.returns-clause-line
unfolding lists_close split
returns-clause-line c = refl

pub returns-clause-too_large : goal.returns-clause-too_large
unfolding field_line status_line digits
returns-clause-too_large c = refl

pub returns-clause-no_method : goal.returns-clause-no_method
unfolding field_line status_line digits
returns-clause-no_method c = refl
