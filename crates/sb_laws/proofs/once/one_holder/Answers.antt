use Rattle.sb_laws.proofs.OneHolder.{one_holder}
use Rattle.sb_laws.proofs.once.one_holder.Goals as goal

pub returns : goal.returns
returns c s h consistent legal = one_holder s h consistent legal
