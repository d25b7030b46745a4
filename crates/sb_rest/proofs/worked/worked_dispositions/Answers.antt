use Rattle.std.proofs.Common.{refl}
use Rattle.std.specs.Str.{is_utf8, chars}
use Rattle.std.specs.Str.Lossy.{utf8_lossy, utf8_valid_len, utf8_error_len}
use Rattle.form_urlencoded.proofs.OnLiterals.{form_urlencoded_on_literals}
use Rattle.serde_json.proofs.OnLiterals.{serde_json_on_literals}
use Rattle.uuid.proofs.OnLiterals.{uuid_on_literals}
use Rattle.sb_routes.specs.Paths.{segment}
use Rattle.sb_rest.specs.Calls.{address_in, put}
use Rattle.sb_rest.proofs.worked.worked_dispositions.Goals as goal

pub returns-clause-abandon : goal.returns-clause-abandon
unfolding utf8_lossy utf8_valid_len utf8_error_len segment is_utf8 chars lib.Utf8.encode form_urlencoded_on_literals serde_json_on_literals uuid_on_literals address_in put
returns-clause-abandon c = refl

pub returns-clause-defer : goal.returns-clause-defer
unfolding utf8_lossy utf8_valid_len utf8_error_len segment is_utf8 chars lib.Utf8.encode form_urlencoded_on_literals serde_json_on_literals uuid_on_literals address_in put
returns-clause-defer c = refl

pub returns-clause-dead_letter : goal.returns-clause-dead_letter
unfolding utf8_lossy utf8_valid_len utf8_error_len segment is_utf8 chars lib.Utf8.encode form_urlencoded_on_literals serde_json_on_literals uuid_on_literals address_in put
returns-clause-dead_letter c = refl

pub returns-clause-another : goal.returns-clause-another
unfolding utf8_lossy utf8_valid_len utf8_error_len segment is_utf8 chars lib.Utf8.encode form_urlencoded_on_literals serde_json_on_literals uuid_on_literals address_in put
returns-clause-another c = refl

pub returns-clause-before_number : goal.returns-clause-before_number
unfolding utf8_lossy utf8_valid_len utf8_error_len segment is_utf8 chars lib.Utf8.encode form_urlencoded_on_literals serde_json_on_literals uuid_on_literals address_in put
returns-clause-before_number c = refl

pub returns-clause-behind_timeout : goal.returns-clause-behind_timeout
unfolding utf8_lossy utf8_valid_len utf8_error_len segment is_utf8 chars lib.Utf8.encode form_urlencoded_on_literals serde_json_on_literals uuid_on_literals address_in put
returns-clause-behind_timeout c = refl

pub returns-clause-behind_number : goal.returns-clause-behind_number
unfolding utf8_lossy utf8_valid_len utf8_error_len segment is_utf8 chars lib.Utf8.encode form_urlencoded_on_literals serde_json_on_literals uuid_on_literals address_in put
returns-clause-behind_number c = refl

pub returns-clause-both : goal.returns-clause-both
unfolding utf8_lossy utf8_valid_len utf8_error_len segment is_utf8 chars lib.Utf8.encode form_urlencoded_on_literals serde_json_on_literals uuid_on_literals address_in put
returns-clause-both c = refl

pub returns-clause-neither : goal.returns-clause-neither
unfolding utf8_lossy utf8_valid_len utf8_error_len segment is_utf8 chars lib.Utf8.encode form_urlencoded_on_literals serde_json_on_literals uuid_on_literals address_in put
returns-clause-neither c = refl

pub returns-clause-absent : goal.returns-clause-absent
unfolding utf8_lossy utf8_valid_len utf8_error_len segment is_utf8 chars lib.Utf8.encode form_urlencoded_on_literals serde_json_on_literals uuid_on_literals address_in put
returns-clause-absent c = refl

pub returns-clause-no_reason : goal.returns-clause-no_reason
unfolding utf8_lossy utf8_valid_len utf8_error_len segment is_utf8 chars lib.Utf8.encode form_urlencoded_on_literals serde_json_on_literals uuid_on_literals address_in put
returns-clause-no_reason c = refl

pub returns-clause-no_description : goal.returns-clause-no_description
unfolding utf8_lossy utf8_valid_len utf8_error_len segment is_utf8 chars lib.Utf8.encode form_urlencoded_on_literals serde_json_on_literals uuid_on_literals address_in put
returns-clause-no_description c = refl

pub returns-clause-no_object : goal.returns-clause-no_object
unfolding utf8_lossy utf8_valid_len utf8_error_len segment is_utf8 chars lib.Utf8.encode form_urlencoded_on_literals serde_json_on_literals uuid_on_literals address_in put
returns-clause-no_object c = refl
