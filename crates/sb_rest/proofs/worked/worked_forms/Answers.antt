use Rattle.std.proofs.Common.{refl}
use Rattle.form_urlencoded.specs.Form.{split}
use Rattle.sb_http.specs.Responses.{field_line}
use Rattle.sb_rest.specs.Forms.{lists_json, fits_head}
use Rattle.sb_rest.proofs.worked.worked_forms.Goals as goal

pub returns-clause-among : goal.returns-clause-among
unfolding lists_json fits_head split field_line
returns-clause-among c = refl

pub returns-clause-longer : goal.returns-clause-longer
unfolding lists_json fits_head split field_line
returns-clause-longer c = refl

pub returns-clause-any : goal.returns-clause-any
unfolding lists_json fits_head split field_line
returns-clause-any c = refl

pub returns-clause-accept : goal.returns-clause-accept
unfolding lists_json fits_head split field_line
returns-clause-accept c = refl

pub returns-clause-another : goal.returns-clause-another
returns-clause-another c = refl

pub returns-clause-small : goal.returns-clause-small
unfolding lists_json fits_head split field_line
returns-clause-small c = refl

pub returns-clause-many : goal.returns-clause-many
unfolding lists_json fits_head split field_line
returns-clause-many c = refl

pub returns-clause-too_many : goal.returns-clause-too_many
unfolding lists_json fits_head split field_line
returns-clause-too_many c = refl

pub returns-clause-unasked : goal.returns-clause-unasked
returns-clause-unasked c = refl
