use Rattle.sb_fanout.proofs.Keeping.{numbers_stand}
use Rattle.sb_fanout.proofs.laws.numbers_stand.Goals as goal

pub returns : goal.returns
returns c = numbers_stand
