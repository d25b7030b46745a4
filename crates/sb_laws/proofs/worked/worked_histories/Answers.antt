use Rattle.std.proofs.Common.{refl}
use Rattle.std.specs.Str.{chars}
use Rattle.sb_laws.proofs.worked.worked_histories.Goals as goal

pub returns-clause-entries : goal.returns-clause-entries
unfolding chars
returns-clause-entries c = refl

pub returns-clause-uses : goal.returns-clause-uses
unfolding chars
returns-clause-uses c = refl

pub returns-clause-ends : goal.returns-clause-ends
unfolding chars
returns-clause-ends c = refl

pub returns-clause-spent : goal.returns-clause-spent
unfolding chars
returns-clause-spent c = refl

pub returns-clause-noted : goal.returns-clause-noted
unfolding chars
returns-clause-noted c = refl

pub returns-clause-made : goal.returns-clause-made
unfolding chars
returns-clause-made c = refl

pub returns-clause-live : goal.returns-clause-live
unfolding chars
returns-clause-live c = refl

pub returns-clause-changing : goal.returns-clause-changing
unfolding chars
returns-clause-changing c = refl

pub returns-clause-thin : goal.returns-clause-thin
unfolding chars
returns-clause-thin c = refl

pub returns-clause-second : goal.returns-clause-second
unfolding chars
returns-clause-second c = refl

pub returns-clause-handed : goal.returns-clause-handed
unfolding chars
returns-clause-handed c = refl

pub returns-clause-locks : goal.returns-clause-locks
unfolding chars
returns-clause-locks c = refl

pub returns-clause-settled : goal.returns-clause-settled
unfolding chars
returns-clause-settled c = refl

pub returns-clause-notes : goal.returns-clause-notes
unfolding chars
returns-clause-notes c = refl

pub returns-clause-accepted : goal.returns-clause-accepted
unfolding chars
returns-clause-accepted c = refl
