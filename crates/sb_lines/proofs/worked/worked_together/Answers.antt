use Rattle.std.proofs.Common.{refl}
use Rattle.std.specs.Fmt.{digits}
use Rattle.std.specs.Str.{is_utf8, chars}
use Rattle.serde_json.proofs.OnLiterals.{serde_json_on_literals}
use Rattle.sb_lines.specs.Fields.{path_of}
use Rattle.sb_lines.specs.Lines.{which, send_step, settle_step, dead_letter_step, session_set_step, step_named, operations, together, look_act, transaction_act, session_act, lock_act, message_act, act_named, reading_of, beside, named_call}
use Rattle.sb_lines.specs.Messages.{messages, bytes}
use Rattle.sb_lines.proofs.worked.worked_together.Goals as goal

pub returns-clause-none : goal.returns-clause-none
unfolding digits is_utf8 chars serde_json_on_literals path_of messages bytes which send_step settle_step dead_letter_step session_set_step step_named operations together look_act transaction_act session_act lock_act message_act act_named reading_of beside named_call
returns-clause-none c = refl

pub returns-clause-two : goal.returns-clause-two
unfolding digits is_utf8 chars serde_json_on_literals path_of messages bytes which send_step settle_step dead_letter_step session_set_step step_named operations together look_act transaction_act session_act lock_act message_act act_named reading_of beside named_call
returns-clause-two c = refl

pub returns-clause-other_entity : goal.returns-clause-other_entity
unfolding digits is_utf8 chars serde_json_on_literals path_of messages bytes which send_step settle_step dead_letter_step session_set_step step_named operations together look_act transaction_act session_act lock_act message_act act_named reading_of beside named_call
returns-clause-other_entity c = refl

pub returns-clause-left_out : goal.returns-clause-left_out
unfolding digits is_utf8 chars serde_json_on_literals path_of messages bytes which send_step settle_step dead_letter_step session_set_step step_named operations together look_act transaction_act session_act lock_act message_act act_named reading_of beside named_call
returns-clause-left_out c = refl

pub returns-clause-no_list : goal.returns-clause-no_list
unfolding digits is_utf8 chars serde_json_on_literals path_of messages bytes which send_step settle_step dead_letter_step session_set_step step_named operations together look_act transaction_act session_act lock_act message_act act_named reading_of beside named_call
returns-clause-no_list c = refl

pub returns-clause-no_object : goal.returns-clause-no_object
unfolding digits is_utf8 chars serde_json_on_literals path_of messages bytes which send_step settle_step dead_letter_step session_set_step step_named operations together look_act transaction_act session_act lock_act message_act act_named reading_of beside named_call
returns-clause-no_object c = refl

pub returns-clause-wordless : goal.returns-clause-wordless
unfolding digits is_utf8 chars serde_json_on_literals path_of messages bytes which send_step settle_step dead_letter_step session_set_step step_named operations together look_act transaction_act session_act lock_act message_act act_named reading_of beside named_call
returns-clause-wordless c = refl

pub returns-clause-other_act : goal.returns-clause-other_act
unfolding digits is_utf8 chars serde_json_on_literals path_of messages bytes which send_step settle_step dead_letter_step session_set_step step_named operations together look_act transaction_act session_act lock_act message_act act_named reading_of beside named_call
returns-clause-other_act c = refl

pub returns-clause-within : goal.returns-clause-within
unfolding digits is_utf8 chars serde_json_on_literals path_of messages bytes which send_step settle_step dead_letter_step session_set_step step_named operations together look_act transaction_act session_act lock_act message_act act_named reading_of beside named_call
returns-clause-within c = refl

pub returns-clause-first : goal.returns-clause-first
unfolding digits is_utf8 chars serde_json_on_literals path_of messages bytes which send_step settle_step dead_letter_step session_set_step step_named operations together look_act transaction_act session_act lock_act message_act act_named reading_of beside named_call
returns-clause-first c = refl

pub returns-clause-in_transaction : goal.returns-clause-in_transaction
unfolding digits is_utf8 chars serde_json_on_literals path_of messages bytes which send_step settle_step dead_letter_step session_set_step step_named operations together look_act transaction_act session_act lock_act message_act act_named reading_of beside named_call
returns-clause-in_transaction c = refl

pub returns-clause-numbered : goal.returns-clause-numbered
unfolding digits is_utf8 chars serde_json_on_literals path_of messages bytes which send_step settle_step dead_letter_step session_set_step step_named operations together look_act transaction_act session_act lock_act message_act act_named reading_of beside named_call
returns-clause-numbered c = refl

pub returns-clause-timed : goal.returns-clause-timed
unfolding digits is_utf8 chars serde_json_on_literals path_of messages bytes which send_step settle_step dead_letter_step session_set_step step_named operations together look_act transaction_act session_act lock_act message_act act_named reading_of beside named_call
returns-clause-timed c = refl

pub returns-clause-unknown : goal.returns-clause-unknown
unfolding digits is_utf8 chars serde_json_on_literals path_of messages bytes which send_step settle_step dead_letter_step session_set_step step_named operations together look_act transaction_act session_act lock_act message_act act_named reading_of beside named_call
returns-clause-unknown c = refl

pub returns-clause-told : goal.returns-clause-told
unfolding digits is_utf8 chars serde_json_on_literals path_of messages bytes which send_step settle_step dead_letter_step session_set_step step_named operations together look_act transaction_act session_act lock_act message_act act_named reading_of beside named_call
returns-clause-told c = refl

pub returns-clause-lost : goal.returns-clause-lost
unfolding digits is_utf8 chars serde_json_on_literals path_of messages bytes which send_step settle_step dead_letter_step session_set_step step_named operations together look_act transaction_act session_act lock_act message_act act_named reading_of beside named_call
returns-clause-lost c = refl

pub returns-clause-bad_field : goal.returns-clause-bad_field
unfolding digits is_utf8 chars serde_json_on_literals path_of messages bytes which send_step settle_step dead_letter_step session_set_step step_named operations together look_act transaction_act session_act lock_act message_act act_named reading_of beside named_call
returns-clause-bad_field c = refl

pub returns-clause-pending : goal.returns-clause-pending
unfolding digits is_utf8 chars serde_json_on_literals path_of messages bytes which send_step settle_step dead_letter_step session_set_step step_named operations together look_act transaction_act session_act lock_act message_act act_named reading_of beside named_call
returns-clause-pending c = refl

pub returns-clause-large : goal.returns-clause-large
unfolding digits is_utf8 chars serde_json_on_literals path_of messages bytes which send_step settle_step dead_letter_step session_set_step step_named operations together look_act transaction_act session_act lock_act message_act act_named reading_of beside named_call
returns-clause-large c = refl
