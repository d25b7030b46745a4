use Rattle.std.proofs.Common.{refl}
use Rattle.std.specs.Str.{is_utf8, chars}
use Rattle.serde_json.proofs.OnLiterals.{serde_json_on_literals}
use Rattle.sb_lines.specs.Fields.{path_of}
use Rattle.sb_lines.specs.Lines.{receive, accept, peek, transaction_act, session_act, lock_act, message_act, act_named, reading_of, beside, named_call}
use Rattle.sb_lines.proofs.worked.worked_waits.Goals as goal

pub returns-clause-absent : goal.returns-clause-absent
unfolding is_utf8 chars serde_json_on_literals path_of receive accept peek transaction_act session_act lock_act message_act act_named reading_of beside named_call
returns-clause-absent c = refl

pub returns-clause-none : goal.returns-clause-none
unfolding is_utf8 chars serde_json_on_literals path_of receive accept peek transaction_act session_act lock_act message_act act_named reading_of beside named_call
returns-clause-none c = refl

pub returns-clause-hour : goal.returns-clause-hour
unfolding is_utf8 chars serde_json_on_literals path_of receive accept peek transaction_act session_act lock_act message_act act_named reading_of beside named_call
returns-clause-hour c = refl

pub returns-clause-session : goal.returns-clause-session
unfolding is_utf8 chars serde_json_on_literals path_of receive accept peek transaction_act session_act lock_act message_act act_named reading_of beside named_call
returns-clause-session c = refl

pub returns-clause-too_long : goal.returns-clause-too_long
unfolding is_utf8 chars serde_json_on_literals path_of receive accept peek transaction_act session_act lock_act message_act act_named reading_of beside named_call
returns-clause-too_long c = refl

pub returns-clause-below : goal.returns-clause-below
unfolding is_utf8 chars serde_json_on_literals path_of receive accept peek transaction_act session_act lock_act message_act act_named reading_of beside named_call
returns-clause-below c = refl

pub returns-clause-words : goal.returns-clause-words
unfolding is_utf8 chars serde_json_on_literals path_of receive accept peek transaction_act session_act lock_act message_act act_named reading_of beside named_call
returns-clause-words c = refl

pub returns-clause-behind_form : goal.returns-clause-behind_form
unfolding is_utf8 chars serde_json_on_literals path_of receive accept peek transaction_act session_act lock_act message_act act_named reading_of beside named_call
returns-clause-behind_form c = refl

pub returns-clause-before_at : goal.returns-clause-before_at
unfolding is_utf8 chars serde_json_on_literals path_of receive accept peek transaction_act session_act lock_act message_act act_named reading_of beside named_call
returns-clause-before_at c = refl

pub returns-clause-unknown : goal.returns-clause-unknown
unfolding is_utf8 chars serde_json_on_literals path_of receive accept peek transaction_act session_act lock_act message_act act_named reading_of beside named_call
returns-clause-unknown c = refl
