use Rattle.std.proofs.Common.{refl}
use Rattle.std.specs.Str.{is_utf8, chars}
use Rattle.std.specs.Str.Lossy.{utf8_lossy, utf8_valid_len, utf8_error_len}
use Rattle.matchit.proofs.OnLiterals.{matchit_on_literals}
use Rattle.form_urlencoded.proofs.OnLiterals.{form_urlencoded_on_literals}
use Rattle.sb_routes.specs.Paths.{undollared, segment}
use Rattle.sb_routes.specs.Routes.{table, with_route, addresses, of_messages, of_sessions, of_address, sights, others}
use Rattle.sb_rest.specs.Calls.{address_in, wanted_by}
use Rattle.sb_rest.proofs.worked.worked_numbers.Goals as goal

pub returns-clause-deferred : goal.returns-clause-deferred
unfolding utf8_lossy utf8_valid_len utf8_error_len matchit_on_literals undollared segment table with_route addresses of_messages of_sessions of_address sights others is_utf8 chars lib.Utf8.encode form_urlencoded_on_literals address_in wanted_by
returns-clause-deferred c = refl

pub returns-clause-deleted : goal.returns-clause-deleted
unfolding utf8_lossy utf8_valid_len utf8_error_len matchit_on_literals undollared segment table with_route addresses of_messages of_sessions of_address sights others is_utf8 chars lib.Utf8.encode form_urlencoded_on_literals address_in wanted_by
returns-clause-deleted c = refl

pub returns-clause-cancelled : goal.returns-clause-cancelled
unfolding utf8_lossy utf8_valid_len utf8_error_len matchit_on_literals undollared segment table with_route addresses of_messages of_sessions of_address sights others is_utf8 chars lib.Utf8.encode form_urlencoded_on_literals address_in wanted_by
returns-clause-cancelled c = refl

pub returns-clause-no_number : goal.returns-clause-no_number
unfolding utf8_lossy utf8_valid_len utf8_error_len matchit_on_literals undollared segment table with_route addresses of_messages of_sessions of_address sights others is_utf8 chars lib.Utf8.encode form_urlencoded_on_literals address_in wanted_by
returns-clause-no_number c = refl

pub returns-clause-number_first : goal.returns-clause-number_first
unfolding utf8_lossy utf8_valid_len utf8_error_len matchit_on_literals undollared segment table with_route addresses of_messages of_sessions of_address sights others is_utf8 chars lib.Utf8.encode form_urlencoded_on_literals address_in wanted_by
returns-clause-number_first c = refl

pub returns-clause-then_timeout : goal.returns-clause-then_timeout
unfolding utf8_lossy utf8_valid_len utf8_error_len matchit_on_literals undollared segment table with_route addresses of_messages of_sessions of_address sights others is_utf8 chars lib.Utf8.encode form_urlencoded_on_literals address_in wanted_by
returns-clause-then_timeout c = refl

pub returns-clause-method : goal.returns-clause-method
unfolding utf8_lossy utf8_valid_len utf8_error_len matchit_on_literals undollared segment table with_route addresses of_messages of_sessions of_address sights others is_utf8 chars lib.Utf8.encode form_urlencoded_on_literals address_in wanted_by
returns-clause-method c = refl

pub returns-clause-another_method : goal.returns-clause-another_method
unfolding utf8_lossy utf8_valid_len utf8_error_len matchit_on_literals undollared segment table with_route addresses of_messages of_sessions of_address sights others is_utf8 chars lib.Utf8.encode form_urlencoded_on_literals address_in wanted_by
returns-clause-another_method c = refl

pub returns-clause-greatest : goal.returns-clause-greatest
unfolding utf8_lossy utf8_valid_len utf8_error_len matchit_on_literals undollared segment table with_route addresses of_messages of_sessions of_address sights others is_utf8 chars lib.Utf8.encode form_urlencoded_on_literals address_in wanted_by
returns-clause-greatest c = refl

pub returns-clause-above : goal.returns-clause-above
unfolding utf8_lossy utf8_valid_len utf8_error_len matchit_on_literals undollared segment table with_route addresses of_messages of_sessions of_address sights others is_utf8 chars lib.Utf8.encode form_urlencoded_on_literals address_in wanted_by
returns-clause-above c = refl

pub returns-clause-escaped : goal.returns-clause-escaped
unfolding utf8_lossy utf8_valid_len utf8_error_len matchit_on_literals undollared segment table with_route addresses of_messages of_sessions of_address sights others is_utf8 chars lib.Utf8.encode form_urlencoded_on_literals address_in wanted_by
returns-clause-escaped c = refl

pub returns-clause-signed : goal.returns-clause-signed
unfolding utf8_lossy utf8_valid_len utf8_error_len matchit_on_literals undollared segment table with_route addresses of_messages of_sessions of_address sights others is_utf8 chars lib.Utf8.encode form_urlencoded_on_literals address_in wanted_by
returns-clause-signed c = refl

pub returns-clause-no_text : goal.returns-clause-no_text
unfolding utf8_lossy utf8_valid_len utf8_error_len matchit_on_literals undollared segment table with_route addresses of_messages of_sessions of_address sights others is_utf8 chars lib.Utf8.encode form_urlencoded_on_literals address_in wanted_by
returns-clause-no_text c = refl
