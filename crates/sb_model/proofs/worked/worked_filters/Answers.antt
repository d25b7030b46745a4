use Rattle.std.proofs.Common.{refl}
use Rattle.sb_model.proofs.worked.worked_filters.Goals as goal

pub returns-clause-cut : goal.returns-clause-cut
returns-clause-cut c = refl

pub returns-clause-remainder : goal.returns-clause-remainder
returns-clause-remainder c = refl

pub returns-clause-among : goal.returns-clause-among
returns-clause-among c = refl

pub returns-clause-found : goal.returns-clause-found
returns-clause-found c = refl

pub returns-clause-not_null : goal.returns-clause-not_null
returns-clause-not_null c = refl

pub returns-clause-differs : goal.returns-clause-differs
returns-clause-differs c = refl

pub returns-clause-not_same : goal.returns-clause-not_same
returns-clause-not_same c = refl

pub returns-clause-null : goal.returns-clause-null
returns-clause-null c = refl

pub returns-clause-overflow : goal.returns-clause-overflow
returns-clause-overflow c = refl

pub returns-clause-no_short_cut : goal.returns-clause-no_short_cut
returns-clause-no_short_cut c = refl

pub returns-clause-no_system : goal.returns-clause-no_system
returns-clause-no_system c = refl

pub returns-clause-system : goal.returns-clause-system
returns-clause-system c = refl
