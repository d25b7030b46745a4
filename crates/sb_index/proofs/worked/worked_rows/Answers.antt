use Rattle.std.proofs.Common.{refl}
use Rattle.sb_index.proofs.worked.worked_rows.Goals as goal

pub returns-clause-get : goal.returns-clause-get
returns-clause-get c = refl

pub returns-clause-get_none : goal.returns-clause-get_none
returns-clause-get_none c = refl

pub returns-clause-from : goal.returns-clause-from
returns-clause-from c = refl

pub returns-clause-from_own : goal.returns-clause-from_own
returns-clause-from_own c = refl

pub returns-clause-from_none : goal.returns-clause-from_none
returns-clause-from_none c = refl

pub returns-clause-marked : goal.returns-clause-marked
returns-clause-marked c = refl

pub returns-clause-marked_from : goal.returns-clause-marked_from
returns-clause-marked_from c = refl

pub returns-clause-marked_below : goal.returns-clause-marked_below
returns-clause-marked_below c = refl

pub returns-clause-due : goal.returns-clause-due
returns-clause-due c = refl

pub returns-clause-due_from : goal.returns-clause-due_from
returns-clause-due_from c = refl

pub returns-clause-due_before : goal.returns-clause-due_before
returns-clause-due_before c = refl

pub returns-clause-due_values : goal.returns-clause-due_values
returns-clause-due_values c = refl

pub returns-clause-due_values_none : goal.returns-clause-due_values_none
returns-clause-due_values_none c = refl

pub returns-clause-least : goal.returns-clause-least
returns-clause-least c = refl

pub returns-clause-least_none : goal.returns-clause-least_none
returns-clause-least_none c = refl

pub returns-clause-inserted : goal.returns-clause-inserted
returns-clause-inserted c = refl

pub returns-clause-lacks : goal.returns-clause-lacks
returns-clause-lacks c = refl

pub returns-clause-removed : goal.returns-clause-removed
returns-clause-removed c = refl

pub returns-clause-not_removed : goal.returns-clause-not_removed
returns-clause-not_removed c = refl

pub returns-clause-told : goal.returns-clause-told
returns-clause-told c = refl

pub returns-clause-not_told : goal.returns-clause-not_told
returns-clause-not_told c = refl
