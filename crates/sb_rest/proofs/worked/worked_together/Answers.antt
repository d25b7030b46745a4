use Rattle.std.proofs.Common.{refl}
use Rattle.std.specs.Fmt.{digits}
use Rattle.std.specs.Str.{is_utf8, chars}
use Rattle.std.specs.Str.Lossy.{utf8_lossy, utf8_valid_len, utf8_error_len}
use Rattle.matchit.proofs.OnLiterals.{matchit_on_literals}
use Rattle.form_urlencoded.proofs.OnLiterals.{form_urlencoded_on_literals}
use Rattle.serde_json.proofs.OnLiterals.{serde_json_on_literals}
use Rattle.sb_lines.specs.Fields.{path_of}
use Rattle.sb_lines.specs.Lines.{send_step, step_named, operations, together_alone}
use Rattle.sb_lines.specs.Messages.{messages}
use Rattle.sb_routes.specs.Paths.{undollared, segment}
use Rattle.sb_routes.specs.Routes.{table, with_route, addresses, of_messages, of_sessions, of_address, sights, others}
use Rattle.sb_rest.specs.Calls.{together, wanted_by}
use Rattle.sb_rest.proofs.worked.worked_together.Goals as goal

pub returns-clause-call : goal.returns-clause-call
unfolding utf8_lossy utf8_valid_len utf8_error_len matchit_on_literals serde_json_on_literals digits undollared segment table with_route addresses of_messages of_sessions of_address sights others is_utf8 chars lib.Utf8.encode form_urlencoded_on_literals wanted_by together path_of messages send_step step_named operations together_alone
returns-clause-call c = refl

pub returns-clause-behind_number : goal.returns-clause-behind_number
unfolding utf8_lossy utf8_valid_len utf8_error_len matchit_on_literals serde_json_on_literals digits undollared segment table with_route addresses of_messages of_sessions of_address sights others is_utf8 chars lib.Utf8.encode form_urlencoded_on_literals wanted_by together path_of messages send_step step_named operations together_alone
returns-clause-behind_number c = refl

pub returns-clause-no_object : goal.returns-clause-no_object
unfolding utf8_lossy utf8_valid_len utf8_error_len matchit_on_literals serde_json_on_literals digits undollared segment table with_route addresses of_messages of_sessions of_address sights others is_utf8 chars lib.Utf8.encode form_urlencoded_on_literals wanted_by together path_of messages send_step step_named operations together_alone
returns-clause-no_object c = refl

pub returns-clause-empty : goal.returns-clause-empty
unfolding utf8_lossy utf8_valid_len utf8_error_len matchit_on_literals serde_json_on_literals digits undollared segment table with_route addresses of_messages of_sessions of_address sights others is_utf8 chars lib.Utf8.encode form_urlencoded_on_literals wanted_by together path_of messages send_step step_named operations together_alone
returns-clause-empty c = refl

pub returns-clause-method : goal.returns-clause-method
unfolding utf8_lossy utf8_valid_len utf8_error_len matchit_on_literals serde_json_on_literals digits undollared segment table with_route addresses of_messages of_sessions of_address sights others is_utf8 chars lib.Utf8.encode form_urlencoded_on_literals wanted_by together path_of messages send_step step_named operations together_alone
returns-clause-method c = refl

pub returns-clause-other_act : goal.returns-clause-other_act
unfolding utf8_lossy utf8_valid_len utf8_error_len matchit_on_literals serde_json_on_literals digits undollared segment table with_route addresses of_messages of_sessions of_address sights others is_utf8 chars lib.Utf8.encode form_urlencoded_on_literals wanted_by together path_of messages send_step step_named operations together_alone
returns-clause-other_act c = refl

pub returns-clause-wordless : goal.returns-clause-wordless
unfolding utf8_lossy utf8_valid_len utf8_error_len matchit_on_literals serde_json_on_literals digits undollared segment table with_route addresses of_messages of_sessions of_address sights others is_utf8 chars lib.Utf8.encode form_urlencoded_on_literals wanted_by together path_of messages send_step step_named operations together_alone
returns-clause-wordless c = refl

pub returns-clause-numbered : goal.returns-clause-numbered
unfolding utf8_lossy utf8_valid_len utf8_error_len matchit_on_literals serde_json_on_literals digits undollared segment table with_route addresses of_messages of_sessions of_address sights others is_utf8 chars lib.Utf8.encode form_urlencoded_on_literals wanted_by together path_of messages send_step step_named operations together_alone
returns-clause-numbered c = refl

pub returns-clause-timed : goal.returns-clause-timed
unfolding utf8_lossy utf8_valid_len utf8_error_len matchit_on_literals serde_json_on_literals digits undollared segment table with_route addresses of_messages of_sessions of_address sights others is_utf8 chars lib.Utf8.encode form_urlencoded_on_literals wanted_by together path_of messages send_step step_named operations together_alone
returns-clause-timed c = refl

pub returns-clause-operations : goal.returns-clause-operations
unfolding utf8_lossy utf8_valid_len utf8_error_len matchit_on_literals serde_json_on_literals digits undollared segment table with_route addresses of_messages of_sessions of_address sights others is_utf8 chars lib.Utf8.encode form_urlencoded_on_literals wanted_by together path_of messages send_step step_named operations together_alone
returns-clause-operations c = refl

pub returns-clause-allow : goal.returns-clause-allow
unfolding utf8_lossy utf8_valid_len utf8_error_len matchit_on_literals serde_json_on_literals digits undollared segment table with_route addresses of_messages of_sessions of_address sights others is_utf8 chars lib.Utf8.encode form_urlencoded_on_literals wanted_by together path_of messages send_step step_named operations together_alone
returns-clause-allow c = refl

pub returns-clause-told : goal.returns-clause-told
unfolding utf8_lossy utf8_valid_len utf8_error_len matchit_on_literals serde_json_on_literals digits undollared segment table with_route addresses of_messages of_sessions of_address sights others is_utf8 chars lib.Utf8.encode form_urlencoded_on_literals wanted_by together path_of messages send_step step_named operations together_alone
returns-clause-told c = refl

pub returns-clause-another_reply : goal.returns-clause-another_reply
unfolding utf8_lossy utf8_valid_len utf8_error_len matchit_on_literals serde_json_on_literals digits undollared segment table with_route addresses of_messages of_sessions of_address sights others is_utf8 chars lib.Utf8.encode form_urlencoded_on_literals wanted_by together path_of messages send_step step_named operations together_alone
returns-clause-another_reply c = refl

pub returns-clause-scope : goal.returns-clause-scope
unfolding utf8_lossy utf8_valid_len utf8_error_len matchit_on_literals serde_json_on_literals digits undollared segment table with_route addresses of_messages of_sessions of_address sights others is_utf8 chars lib.Utf8.encode form_urlencoded_on_literals wanted_by together path_of messages send_step step_named operations together_alone
returns-clause-scope c = refl

pub returns-clause-full : goal.returns-clause-full
unfolding utf8_lossy utf8_valid_len utf8_error_len matchit_on_literals serde_json_on_literals digits undollared segment table with_route addresses of_messages of_sessions of_address sights others is_utf8 chars lib.Utf8.encode form_urlencoded_on_literals wanted_by together path_of messages send_step step_named operations together_alone
returns-clause-full c = refl

pub returns-clause-all_full : goal.returns-clause-all_full
unfolding utf8_lossy utf8_valid_len utf8_error_len matchit_on_literals serde_json_on_literals digits undollared segment table with_route addresses of_messages of_sessions of_address sights others is_utf8 chars lib.Utf8.encode form_urlencoded_on_literals wanted_by together path_of messages send_step step_named operations together_alone
returns-clause-all_full c = refl

pub returns-clause-placed : goal.returns-clause-placed
unfolding utf8_lossy utf8_valid_len utf8_error_len matchit_on_literals serde_json_on_literals digits undollared segment table with_route addresses of_messages of_sessions of_address sights others is_utf8 chars lib.Utf8.encode form_urlencoded_on_literals wanted_by together path_of messages send_step step_named operations together_alone
returns-clause-placed c = refl

pub returns-clause-bad_part : goal.returns-clause-bad_part
unfolding utf8_lossy utf8_valid_len utf8_error_len matchit_on_literals serde_json_on_literals digits undollared segment table with_route addresses of_messages of_sessions of_address sights others is_utf8 chars lib.Utf8.encode form_urlencoded_on_literals wanted_by together path_of messages send_step step_named operations together_alone
returns-clause-bad_part c = refl

pub returns-clause-lost_part : goal.returns-clause-lost_part
unfolding utf8_lossy utf8_valid_len utf8_error_len matchit_on_literals serde_json_on_literals digits undollared segment table with_route addresses of_messages of_sessions of_address sights others is_utf8 chars lib.Utf8.encode form_urlencoded_on_literals wanted_by together path_of messages send_step step_named operations together_alone
returns-clause-lost_part c = refl
