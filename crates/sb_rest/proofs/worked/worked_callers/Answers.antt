use Rattle.std.proofs.Common.{refl}
use Rattle.std.specs.Str.{is_utf8, chars}
use Rattle.std.specs.Str.Lossy.{utf8_lossy, utf8_valid_len, utf8_error_len}
use Rattle.matchit.proofs.OnLiterals.{matchit_on_literals}
use Rattle.form_urlencoded.proofs.OnLiterals.{form_urlencoded_on_literals}
use Rattle.sb_routes.specs.Paths.{undollared, segment}
use Rattle.sb_routes.specs.Routes.{table, with_route, addresses, of_messages, of_sessions, of_address, sights, others}
use Rattle.sb_rest.proofs.worked.worked_callers.Goals as goal

pub returns-clause-called : goal.returns-clause-called
unfolding utf8_lossy utf8_valid_len utf8_error_len matchit_on_literals undollared segment table with_route addresses of_messages of_sessions of_address sights others is_utf8 chars lib.Utf8.encode form_urlencoded_on_literals
returns-clause-called c = refl

pub returns-clause-not_called : goal.returns-clause-not_called
unfolding matchit_on_literals undollared table with_route addresses of_messages of_sessions of_address sights others is_utf8 chars lib.Utf8.encode
returns-clause-not_called c = refl
