use Rattle.std.proofs.Common.{refl}
use Rattle.std.specs.Str.{chars}
use Rattle.sb_model.specs.Likes.{is_like, is_one_character}
use Rattle.sb_model.proofs.likes.like_rows.Goals as goal

pub returns-clause-lone_escape : goal.returns-clause-lone_escape
unfolding chars is_like is_one_character
returns-clause-lone_escape c = refl

pub returns-clause-escaped_percent : goal.returns-clause-escaped_percent
unfolding chars is_like is_one_character
returns-clause-escaped_percent c = refl

pub returns-clause-escaped_percent_missing : goal.returns-clause-escaped_percent_missing
unfolding chars is_like is_one_character
returns-clause-escaped_percent_missing c = refl

pub returns-clause-empty_run : goal.returns-clause-empty_run
unfolding chars is_like is_one_character
returns-clause-empty_run c = refl

pub returns-clause-one_of_two_bytes : goal.returns-clause-one_of_two_bytes
unfolding chars is_like is_one_character
returns-clause-one_of_two_bytes c = refl

pub returns-clause-two_of_two_bytes : goal.returns-clause-two_of_two_bytes
unfolding chars is_like is_one_character
returns-clause-two_of_two_bytes c = refl

pub returns-clause-runs : goal.returns-clause-runs
unfolding chars is_like is_one_character
returns-clause-runs c = refl

pub returns-clause-percent_escape : goal.returns-clause-percent_escape
unfolding chars is_like is_one_character
returns-clause-percent_escape c = refl

pub returns-clause-one : goal.returns-clause-one
unfolding chars is_like is_one_character
returns-clause-one c = refl

pub returns-clause-none : goal.returns-clause-none
unfolding chars is_like is_one_character
returns-clause-none c = refl
