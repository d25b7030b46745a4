use Rattle.std.proofs.Common.{refl}
use Rattle.std.specs.Str.{chars}
use Rattle.sb_laws.proofs.worked.worked_together.Goals as goal

pub returns-clause-replies : goal.returns-clause-replies
unfolding chars
returns-clause-replies c = refl

pub returns-clause-in_turn : goal.returns-clause-in_turn
unfolding chars
returns-clause-in_turn c = refl

pub returns-clause-lost : goal.returns-clause-lost
unfolding chars
returns-clause-lost c = refl

pub returns-clause-scope : goal.returns-clause-scope
unfolding chars
returns-clause-scope c = refl

pub returns-clause-left : goal.returns-clause-left
unfolding chars
returns-clause-left c = refl

pub returns-clause-kept : goal.returns-clause-kept
unfolding chars
returns-clause-kept c = refl

pub returns-clause-worker : goal.returns-clause-worker
unfolding chars
returns-clause-worker c = refl

pub returns-clause-settled : goal.returns-clause-settled
unfolding chars
returns-clause-settled c = refl

pub returns-clause-noted : goal.returns-clause-noted
unfolding chars
returns-clause-noted c = refl
