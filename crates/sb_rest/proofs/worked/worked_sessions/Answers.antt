use Rattle.std.proofs.Common.{refl}
use Rattle.std.specs.Str.{is_utf8, chars}
use Rattle.std.specs.Str.Lossy.{utf8_lossy, utf8_valid_len, utf8_error_len}
use Rattle.matchit.proofs.OnLiterals.{matchit_on_literals}
use Rattle.form_urlencoded.proofs.OnLiterals.{form_urlencoded_on_literals}
use Rattle.uuid.proofs.OnLiterals.{uuid_on_literals}
use Rattle.sb_routes.specs.Paths.{undollared, segment}
use Rattle.sb_routes.specs.Routes.{table, with_route, addresses, of_messages, of_sessions, of_address, sights, others}
use Rattle.sb_rest.specs.Calls.{address_in, put, wanted_by}
use Rattle.sb_rest.proofs.worked.worked_sessions.Goals as goal

pub returns-clause-next : goal.returns-clause-next
unfolding utf8_lossy utf8_valid_len utf8_error_len matchit_on_literals undollared segment table with_route addresses of_messages of_sessions of_address sights others is_utf8 chars lib.Utf8.encode form_urlencoded_on_literals address_in wanted_by
returns-clause-next c = refl

pub returns-clause-named : goal.returns-clause-named
unfolding utf8_lossy utf8_valid_len utf8_error_len segment is_utf8 chars lib.Utf8.encode form_urlencoded_on_literals uuid_on_literals address_in put wanted_by
returns-clause-named c = refl

pub returns-clause-no_text : goal.returns-clause-no_text
unfolding utf8_lossy utf8_valid_len utf8_error_len segment is_utf8 chars lib.Utf8.encode form_urlencoded_on_literals uuid_on_literals address_in put wanted_by
returns-clause-no_text c = refl

pub returns-clause-renewed : goal.returns-clause-renewed
unfolding utf8_lossy utf8_valid_len utf8_error_len segment is_utf8 chars lib.Utf8.encode form_urlencoded_on_literals uuid_on_literals address_in put wanted_by
returns-clause-renewed c = refl

pub returns-clause-closed : goal.returns-clause-closed
unfolding utf8_lossy utf8_valid_len utf8_error_len segment is_utf8 chars lib.Utf8.encode form_urlencoded_on_literals uuid_on_literals address_in put wanted_by
returns-clause-closed c = refl

pub returns-clause-no_token : goal.returns-clause-no_token
unfolding utf8_lossy utf8_valid_len utf8_error_len segment is_utf8 chars lib.Utf8.encode form_urlencoded_on_literals uuid_on_literals address_in put wanted_by
returns-clause-no_token c = refl

pub returns-clause-read : goal.returns-clause-read
unfolding utf8_lossy utf8_valid_len utf8_error_len segment is_utf8 chars lib.Utf8.encode form_urlencoded_on_literals uuid_on_literals address_in put wanted_by
returns-clause-read c = refl

pub returns-clause-remembered : goal.returns-clause-remembered
unfolding utf8_lossy utf8_valid_len utf8_error_len segment is_utf8 chars lib.Utf8.encode form_urlencoded_on_literals uuid_on_literals address_in put wanted_by
returns-clause-remembered c = refl

pub returns-clause-forgotten : goal.returns-clause-forgotten
unfolding utf8_lossy utf8_valid_len utf8_error_len segment is_utf8 chars lib.Utf8.encode form_urlencoded_on_literals uuid_on_literals address_in put wanted_by
returns-clause-forgotten c = refl

pub returns-clause-received : goal.returns-clause-received
unfolding utf8_lossy utf8_valid_len utf8_error_len segment is_utf8 chars lib.Utf8.encode form_urlencoded_on_literals uuid_on_literals address_in put wanted_by
returns-clause-received c = refl

pub returns-clause-deleted : goal.returns-clause-deleted
unfolding utf8_lossy utf8_valid_len utf8_error_len segment is_utf8 chars lib.Utf8.encode form_urlencoded_on_literals uuid_on_literals address_in put wanted_by
returns-clause-deleted c = refl

pub returns-clause-deferred : goal.returns-clause-deferred
unfolding utf8_lossy utf8_valid_len utf8_error_len segment is_utf8 chars lib.Utf8.encode form_urlencoded_on_literals uuid_on_literals address_in put wanted_by
returns-clause-deferred c = refl

pub returns-clause-deferred_deleted : goal.returns-clause-deferred_deleted
unfolding utf8_lossy utf8_valid_len utf8_error_len segment is_utf8 chars lib.Utf8.encode form_urlencoded_on_literals uuid_on_literals address_in put wanted_by
returns-clause-deferred_deleted c = refl

pub returns-clause-completed : goal.returns-clause-completed
unfolding utf8_lossy utf8_valid_len utf8_error_len segment is_utf8 chars lib.Utf8.encode form_urlencoded_on_literals uuid_on_literals address_in put wanted_by
returns-clause-completed c = refl

pub returns-clause-abandoned : goal.returns-clause-abandoned
unfolding utf8_lossy utf8_valid_len utf8_error_len segment is_utf8 chars lib.Utf8.encode form_urlencoded_on_literals uuid_on_literals address_in put wanted_by
returns-clause-abandoned c = refl
