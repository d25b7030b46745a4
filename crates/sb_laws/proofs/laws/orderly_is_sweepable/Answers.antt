use Rattle.sb_laws.proofs.Orders.{orderly_is_sweepable}
use Rattle.sb_laws.proofs.laws.orderly_is_sweepable.Goals as goal

pub returns : goal.returns
returns c s orderly = orderly_is_sweepable s orderly
