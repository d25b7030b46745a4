use Rattle.std.proofs.Common.{refl}
use Rattle.std.specs.Str.{chars}
use Rattle.sb_laws.proofs.worked.worked_forgetting.Goals as goal

pub returns-clause-told : goal.returns-clause-told
unfolding chars
returns-clause-told c = refl

pub returns-clause-uses : goal.returns-clause-uses
unfolding chars
returns-clause-uses c = refl

pub returns-clause-forgotten : goal.returns-clause-forgotten
unfolding chars
returns-clause-forgotten c = refl

pub returns-clause-again : goal.returns-clause-again
unfolding chars
returns-clause-again c = refl

pub returns-clause-other : goal.returns-clause-other
unfolding chars
returns-clause-other c = refl
