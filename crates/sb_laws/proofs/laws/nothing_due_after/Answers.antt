use Rattle.sb_laws.proofs.Sweeps.{nothing_due_after}
use Rattle.sb_laws.proofs.laws.nothing_due_after.Goals as goal

pub returns : goal.returns
returns c s t may = nothing_due_after s t may
