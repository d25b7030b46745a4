use Rattle.sb_laws.proofs.Ordering.{stays_orderly}
use Rattle.sb_laws.proofs.laws.stays_orderly.Goals as goal

pub returns : goal.returns
returns c s t call orderly later counts = stays_orderly s t call orderly later counts
