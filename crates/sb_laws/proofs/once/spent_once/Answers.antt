use Rattle.sb_laws.proofs.SpentOnce.{spent_once}
use Rattle.sb_laws.proofs.once.spent_once.Goals as goal

pub returns : goal.returns
returns c s h lock consistent legal = spent_once s h lock consistent
