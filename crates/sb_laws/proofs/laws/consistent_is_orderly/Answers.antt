use Rattle.sb_laws.proofs.Orders.{consistent_is_orderly}
use Rattle.sb_laws.proofs.laws.consistent_is_orderly.Goals as goal

pub returns : goal.returns
returns c s consistent = consistent_is_orderly s consistent
