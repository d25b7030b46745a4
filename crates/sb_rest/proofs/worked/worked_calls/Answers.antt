use Rattle.std.proofs.Common.{refl}
use Rattle.std.specs.Str.{is_utf8, chars}
use Rattle.std.specs.Str.Lossy.{utf8_lossy, utf8_valid_len, utf8_error_len}
use Rattle.matchit.proofs.OnLiterals.{matchit_on_literals}
use Rattle.form_urlencoded.proofs.OnLiterals.{form_urlencoded_on_literals}
use Rattle.sb_routes.specs.Paths.{undollared, segment}
use Rattle.sb_routes.specs.Routes.{table, with_route, addresses, of_messages, of_sessions, of_address, sights, others}
use Rattle.sb_rest.specs.Calls.{address_in, sent, wanted_by}
use Rattle.sb_rest.specs.Headers.{heard, heard_all}
use Rattle.sb_rest.specs.Reserved.{is_reserved}
use Rattle.sb_rest.specs.Batches.{is_media_type}
use Rattle.sb_rest.proofs.worked.worked_calls.Goals as goal

pub returns-clause-send : goal.returns-clause-send
unfolding utf8_lossy utf8_valid_len utf8_error_len matchit_on_literals undollared segment table with_route addresses of_messages of_sessions of_address sights others is_utf8 chars lib.Utf8.encode form_urlencoded_on_literals address_in sent wanted_by is_reserved heard heard_all is_media_type
returns-clause-send c = refl

pub returns-clause-receive : goal.returns-clause-receive
unfolding utf8_lossy utf8_valid_len utf8_error_len matchit_on_literals undollared segment table with_route addresses of_messages of_sessions of_address sights others is_utf8 chars lib.Utf8.encode form_urlencoded_on_literals address_in sent wanted_by is_reserved heard heard_all is_media_type
returns-clause-receive c = refl

pub returns-clause-waits : goal.returns-clause-waits
unfolding utf8_lossy utf8_valid_len utf8_error_len matchit_on_literals undollared segment table with_route addresses of_messages of_sessions of_address sights others is_utf8 chars lib.Utf8.encode form_urlencoded_on_literals address_in sent wanted_by is_reserved heard heard_all is_media_type
returns-clause-waits c = refl

pub returns-clause-too_long : goal.returns-clause-too_long
unfolding utf8_lossy utf8_valid_len utf8_error_len matchit_on_literals undollared segment table with_route addresses of_messages of_sessions of_address sights others is_utf8 chars lib.Utf8.encode form_urlencoded_on_literals address_in sent wanted_by is_reserved heard heard_all is_media_type
returns-clause-too_long c = refl

pub returns-clause-method : goal.returns-clause-method
unfolding utf8_lossy utf8_valid_len utf8_error_len matchit_on_literals undollared segment table with_route addresses of_messages of_sessions of_address sights others is_utf8 chars lib.Utf8.encode form_urlencoded_on_literals address_in sent wanted_by is_reserved heard heard_all is_media_type
returns-clause-method c = refl

pub returns-clause-route : goal.returns-clause-route
unfolding utf8_lossy utf8_valid_len utf8_error_len matchit_on_literals undollared segment table with_route addresses of_messages of_sessions of_address sights others is_utf8 chars lib.Utf8.encode form_urlencoded_on_literals address_in sent wanted_by is_reserved heard heard_all is_media_type
returns-clause-route c = refl

pub returns-clause-script : goal.returns-clause-script
unfolding utf8_lossy utf8_valid_len utf8_error_len matchit_on_literals undollared segment table with_route addresses of_messages of_sessions of_address sights others is_utf8 chars lib.Utf8.encode form_urlencoded_on_literals address_in sent wanted_by is_reserved heard heard_all is_media_type
returns-clause-script c = refl

pub returns-clause-no_property : goal.returns-clause-no_property
unfolding utf8_lossy utf8_valid_len utf8_error_len matchit_on_literals undollared segment table with_route addresses of_messages of_sessions of_address sights others is_utf8 chars lib.Utf8.encode form_urlencoded_on_literals address_in sent wanted_by is_reserved heard heard_all is_media_type
returns-clause-no_property c = refl

pub returns-clause-plain_script : goal.returns-clause-plain_script
unfolding utf8_lossy utf8_valid_len utf8_error_len matchit_on_literals undollared segment table with_route addresses of_messages of_sessions of_address sights others is_utf8 chars lib.Utf8.encode form_urlencoded_on_literals address_in sent wanted_by is_reserved heard heard_all is_media_type
returns-clause-plain_script c = refl

pub returns-clause-numbered : goal.returns-clause-numbered
unfolding utf8_lossy utf8_valid_len utf8_error_len matchit_on_literals undollared segment table with_route addresses of_messages of_sessions of_address sights others is_utf8 chars lib.Utf8.encode form_urlencoded_on_literals address_in sent wanted_by is_reserved heard heard_all is_media_type
returns-clause-numbered c = refl

pub returns-clause-client_alone : goal.returns-clause-client_alone
unfolding utf8_lossy utf8_valid_len utf8_error_len matchit_on_literals undollared segment table with_route addresses of_messages of_sessions of_address sights others is_utf8 chars lib.Utf8.encode form_urlencoded_on_literals address_in sent wanted_by is_reserved heard heard_all is_media_type
returns-clause-client_alone c = refl

pub returns-clause-number_alone : goal.returns-clause-number_alone
unfolding utf8_lossy utf8_valid_len utf8_error_len matchit_on_literals undollared segment table with_route addresses of_messages of_sessions of_address sights others is_utf8 chars lib.Utf8.encode form_urlencoded_on_literals address_in sent wanted_by is_reserved heard heard_all is_media_type
returns-clause-number_alone c = refl

pub returns-clause-origin : goal.returns-clause-origin
unfolding utf8_lossy utf8_valid_len utf8_error_len matchit_on_literals undollared segment table with_route addresses of_messages of_sessions of_address sights others is_utf8 chars lib.Utf8.encode form_urlencoded_on_literals address_in sent wanted_by is_reserved heard heard_all is_media_type
returns-clause-origin c = refl

pub returns-clause-another_site : goal.returns-clause-another_site
unfolding utf8_lossy utf8_valid_len utf8_error_len matchit_on_literals undollared segment table with_route addresses of_messages of_sessions of_address sights others is_utf8 chars lib.Utf8.encode form_urlencoded_on_literals address_in sent wanted_by is_reserved heard heard_all is_media_type
returns-clause-another_site c = refl

pub returns-clause-own_site : goal.returns-clause-own_site
unfolding utf8_lossy utf8_valid_len utf8_error_len matchit_on_literals undollared segment table with_route addresses of_messages of_sessions of_address sights others is_utf8 chars lib.Utf8.encode form_urlencoded_on_literals address_in sent wanted_by is_reserved heard heard_all is_media_type
returns-clause-own_site c = refl
