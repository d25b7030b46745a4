use Rattle.std.proofs.Common.{refl}
use Rattle.std.specs.Fmt.{digits}
use Rattle.std.specs.Str.{chars}
use Rattle.percent_encoding.proofs.OnLiterals.{percent_encoding_on_literals}
use Rattle.serde_json.proofs.OnLiterals.{serde_json_on_literals}
use Rattle.uuid.proofs.OnLiterals.{uuid_on_literals}
use Rattle.sb_lines.specs.Tokens.{token_text}
use Rattle.sb_rest.specs.Escapes.{escaped, ascii_json}
use Rattle.sb_rest.specs.Sessions.{session_text}
use Rattle.sb_rest.specs.Shown.{location_text}
use Rattle.sb_rest.proofs.worked.worked_session_responses.Goals as goal

pub returns-clause-accepted : goal.returns-clause-accepted
unfolding serde_json_on_literals uuid_on_literals percent_encoding_on_literals token_text session_text location_text escaped ascii_json chars digits
returns-clause-accepted c = refl

pub returns-clause-location : goal.returns-clause-location
unfolding serde_json_on_literals uuid_on_literals percent_encoding_on_literals token_text session_text location_text escaped ascii_json chars digits
returns-clause-location c = refl

pub returns-clause-held : goal.returns-clause-held
unfolding serde_json_on_literals uuid_on_literals percent_encoding_on_literals token_text session_text location_text escaped ascii_json chars digits
returns-clause-held c = refl
