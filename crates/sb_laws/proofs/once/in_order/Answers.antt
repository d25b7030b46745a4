use Rattle.sb_laws.proofs.Handed.{in_order}
use Rattle.sb_laws.proofs.once.in_order.Goals as goal

pub returns : goal.returns
returns c s h consistent legal = in_order s h consistent legal
