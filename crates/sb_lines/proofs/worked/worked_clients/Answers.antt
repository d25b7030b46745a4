use Rattle.std.proofs.Common.{refl}
use Rattle.std.specs.Fmt.{digits}
use Rattle.std.specs.Str.{is_utf8, chars}
use Rattle.serde_json.proofs.OnLiterals.{serde_json_on_literals}
use Rattle.sb_lines.specs.Lines.{clients, forget_client, look_act, transaction_act, session_act, lock_act, message_act, act_named, reading_of, beside, named_call}
use Rattle.sb_lines.proofs.worked.worked_clients.Goals as goal

pub returns-clause-first : goal.returns-clause-first
unfolding digits is_utf8 chars serde_json_on_literals clients forget_client look_act transaction_act session_act lock_act message_act act_named reading_of beside named_call
returns-clause-first c = refl

pub returns-clause-behind : goal.returns-clause-behind
unfolding digits is_utf8 chars serde_json_on_literals clients forget_client look_act transaction_act session_act lock_act message_act act_named reading_of beside named_call
returns-clause-behind c = refl

pub returns-clause-uncounted : goal.returns-clause-uncounted
unfolding digits is_utf8 chars serde_json_on_literals clients forget_client look_act transaction_act session_act lock_act message_act act_named reading_of beside named_call
returns-clause-uncounted c = refl

pub returns-clause-after_first : goal.returns-clause-after_first
unfolding digits is_utf8 chars serde_json_on_literals clients forget_client look_act transaction_act session_act lock_act message_act act_named reading_of beside named_call
returns-clause-after_first c = refl

pub returns-clause-unnumbered : goal.returns-clause-unnumbered
unfolding digits is_utf8 chars serde_json_on_literals clients forget_client look_act transaction_act session_act lock_act message_act act_named reading_of beside named_call
returns-clause-unnumbered c = refl

pub returns-clause-forget : goal.returns-clause-forget
unfolding digits is_utf8 chars serde_json_on_literals clients forget_client look_act transaction_act session_act lock_act message_act act_named reading_of beside named_call
returns-clause-forget c = refl

pub returns-clause-numbered : goal.returns-clause-numbered
unfolding digits is_utf8 chars serde_json_on_literals clients forget_client look_act transaction_act session_act lock_act message_act act_named reading_of beside named_call
returns-clause-numbered c = refl

pub returns-clause-nameless : goal.returns-clause-nameless
unfolding digits is_utf8 chars serde_json_on_literals clients forget_client look_act transaction_act session_act lock_act message_act act_named reading_of beside named_call
returns-clause-nameless c = refl

pub returns-clause-unknown : goal.returns-clause-unknown
unfolding digits is_utf8 chars serde_json_on_literals clients forget_client look_act transaction_act session_act lock_act message_act act_named reading_of beside named_call
returns-clause-unknown c = refl

pub returns-clause-shown : goal.returns-clause-shown
unfolding digits is_utf8 chars serde_json_on_literals clients forget_client look_act transaction_act session_act lock_act message_act act_named reading_of beside named_call
returns-clause-shown c = refl

pub returns-clause-none : goal.returns-clause-none
unfolding digits is_utf8 chars serde_json_on_literals clients forget_client look_act transaction_act session_act lock_act message_act act_named reading_of beside named_call
returns-clause-none c = refl

pub returns-clause-refused : goal.returns-clause-refused
unfolding digits is_utf8 chars serde_json_on_literals clients forget_client look_act transaction_act session_act lock_act message_act act_named reading_of beside named_call
returns-clause-refused c = refl
