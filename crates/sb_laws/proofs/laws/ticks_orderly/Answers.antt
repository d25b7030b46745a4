use Rattle.sb_laws.proofs.Ordering.{ticks_orderly}
use Rattle.sb_laws.proofs.laws.ticks_orderly.Goals as goal

pub returns : goal.returns
returns c s t orderly later counts room = ticks_orderly s t orderly later counts room
