use Rattle.std.proofs.Common.{refl}
use Rattle.std.specs.Str.{chars}
use Rattle.sb_model.proofs.effects.effect_rows.Goals as goal

pub returns-clause-three : goal.returns-clause-three
returns-clause-three c = refl

pub returns-clause-replaced : goal.returns-clause-replaced
returns-clause-replaced c = refl

pub returns-clause-unknown : goal.returns-clause-unknown
returns-clause-unknown c = refl

pub returns-clause-no_property : goal.returns-clause-no_property
returns-clause-no_property c = refl

pub returns-clause-name_before_value : goal.returns-clause-name_before_value
returns-clause-name_before_value c = refl

pub returns-clause-time_to_live : goal.returns-clause-time_to_live
returns-clause-time_to_live c = refl

pub returns-clause-removed_time_to_live : goal.returns-clause-removed_time_to_live
returns-clause-removed_time_to_live c = refl

pub returns-clause-value_before_kind : goal.returns-clause-value_before_kind
returns-clause-value_before_kind c = refl

pub returns-clause-number : goal.returns-clause-number
returns-clause-number c = refl

pub returns-clause-text : goal.returns-clause-text
unfolding chars
returns-clause-text c = refl

pub returns-clause-empty_text : goal.returns-clause-empty_text
unfolding chars
returns-clause-empty_text c = refl

pub returns-clause-unknown_text : goal.returns-clause-unknown_text
returns-clause-unknown_text c = refl

pub returns-clause-long_id : goal.returns-clause-long_id
unfolding chars
returns-clause-long_id c = refl

pub returns-clause-most : goal.returns-clause-most
returns-clause-most c = refl

pub returns-clause-too_many : goal.returns-clause-too_many
returns-clause-too_many c = refl
