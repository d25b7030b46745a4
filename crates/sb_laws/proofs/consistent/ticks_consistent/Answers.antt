use Rattle.sb_laws.proofs.StaysWhole.{ticks_consistent}
use Rattle.sb_laws.proofs.consistent.ticks_consistent.Goals as goal

pub returns : goal.returns
returns c s t h le most room = ticks_consistent s t h le most room
