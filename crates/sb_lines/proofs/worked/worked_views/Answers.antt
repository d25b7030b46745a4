use Rattle.std.proofs.Common.{refl}
use Rattle.std.specs.Fmt.{digits}
use Rattle.std.specs.Str.{is_utf8, chars}
use Rattle.serde_json.proofs.OnLiterals.{serde_json_on_literals}
use Rattle.sb_lines.specs.Messages.{condition_fields, conditions}
use Rattle.sb_lines.specs.Lines.{filter, create_rule, act_named, reading_of, beside, named_call}
use Rattle.sb_lines.proofs.worked.worked_views.Goals as goal

pub returns-clause-entities : goal.returns-clause-entities
unfolding digits is_utf8 chars serde_json_on_literals condition_fields conditions filter create_rule act_named reading_of beside named_call
returns-clause-entities c = refl

pub returns-clause-queue : goal.returns-clause-queue
unfolding digits is_utf8 chars serde_json_on_literals condition_fields conditions filter create_rule act_named reading_of beside named_call
returns-clause-queue c = refl

pub returns-clause-subscription : goal.returns-clause-subscription
unfolding digits is_utf8 chars serde_json_on_literals condition_fields conditions filter create_rule act_named reading_of beside named_call
returns-clause-subscription c = refl

pub returns-clause-correlation : goal.returns-clause-correlation
unfolding digits is_utf8 chars serde_json_on_literals condition_fields conditions filter create_rule act_named reading_of beside named_call
returns-clause-correlation c = refl

pub returns-clause-read_back : goal.returns-clause-read_back
unfolding digits is_utf8 chars serde_json_on_literals condition_fields conditions filter create_rule act_named reading_of beside named_call
returns-clause-read_back c = refl

pub returns-clause-sessions : goal.returns-clause-sessions
unfolding digits is_utf8 chars serde_json_on_literals condition_fields conditions filter create_rule act_named reading_of beside named_call
returns-clause-sessions c = refl

pub returns-clause-transactions : goal.returns-clause-transactions
unfolding digits is_utf8 chars serde_json_on_literals condition_fields conditions filter create_rule act_named reading_of beside named_call
returns-clause-transactions c = refl
