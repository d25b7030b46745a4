use Rattle.sb_laws.proofs.StaysWhole.{stays_consistent}
use Rattle.sb_laws.proofs.consistent.stays_consistent.Goals as goal

pub returns : goal.returns
returns c s t call h order le most = stays_consistent s t call h order le most
