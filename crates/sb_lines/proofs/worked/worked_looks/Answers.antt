use Rattle.std.proofs.Common.{refl}
use Rattle.std.specs.Str.{is_utf8, chars}
use Rattle.serde_json.proofs.OnLiterals.{serde_json_on_literals}
use Rattle.sb_lines.specs.Fields.{path_of}
use Rattle.sb_lines.specs.Lines.{list, describe, sessions, transactions, look_act, transaction_act, session_act, lock_act, message_act, act_named, reading_of, beside, named_call}
use Rattle.sb_lines.proofs.worked.worked_looks.Goals as goal

pub returns-clause-all : goal.returns-clause-all
unfolding is_utf8 chars serde_json_on_literals path_of list describe sessions transactions look_act transaction_act session_act lock_act message_act act_named reading_of beside named_call
returns-clause-all c = refl

pub returns-clause-some : goal.returns-clause-some
unfolding is_utf8 chars serde_json_on_literals path_of list describe sessions transactions look_act transaction_act session_act lock_act message_act act_named reading_of beside named_call
returns-clause-some c = refl

pub returns-clause-part : goal.returns-clause-part
unfolding is_utf8 chars serde_json_on_literals path_of list describe sessions transactions look_act transaction_act session_act lock_act message_act act_named reading_of beside named_call
returns-clause-part c = refl

pub returns-clause-uncounted : goal.returns-clause-uncounted
unfolding is_utf8 chars serde_json_on_literals path_of list describe sessions transactions look_act transaction_act session_act lock_act message_act act_named reading_of beside named_call
returns-clause-uncounted c = refl

pub returns-clause-described : goal.returns-clause-described
unfolding is_utf8 chars serde_json_on_literals path_of list describe sessions transactions look_act transaction_act session_act lock_act message_act act_named reading_of beside named_call
returns-clause-described c = refl

pub returns-clause-sessions : goal.returns-clause-sessions
unfolding is_utf8 chars serde_json_on_literals path_of list describe sessions transactions look_act transaction_act session_act lock_act message_act act_named reading_of beside named_call
returns-clause-sessions c = refl

pub returns-clause-transactions : goal.returns-clause-transactions
unfolding is_utf8 chars serde_json_on_literals path_of list describe sessions transactions look_act transaction_act session_act lock_act message_act act_named reading_of beside named_call
returns-clause-transactions c = refl

pub returns-clause-unknown : goal.returns-clause-unknown
unfolding is_utf8 chars serde_json_on_literals path_of list describe sessions transactions look_act transaction_act session_act lock_act message_act act_named reading_of beside named_call
returns-clause-unknown c = refl

pub returns-clause-unnumbered : goal.returns-clause-unnumbered
unfolding is_utf8 chars serde_json_on_literals path_of list describe sessions transactions look_act transaction_act session_act lock_act message_act act_named reading_of beside named_call
returns-clause-unnumbered c = refl
