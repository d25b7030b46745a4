use Rattle.sb_laws.proofs.SpentLived.{spent_lived}
use Rattle.sb_laws.proofs.once.spent_lived.Goals as goal

pub returns : goal.returns
returns c s h consistent legal = spent_lived s h consistent legal
