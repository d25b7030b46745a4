use Rattle.sb_laws.proofs.SameActs.{same_act_exactly}
use Rattle.sb_laws.proofs.laws.same_act_exactly.Goals as goal

pub returns : goal.returns
returns c a b = same_act_exactly a b
