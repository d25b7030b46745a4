use Rattle.sb_laws.proofs.StaysWhole.{histories_consistent}
use Rattle.sb_laws.proofs.consistent.histories_consistent.Goals as goal

pub returns : goal.returns
returns c s es h legal order = histories_consistent s es h legal order
