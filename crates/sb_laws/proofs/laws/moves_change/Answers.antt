use Rattle.sb_laws.proofs.Moving.{moves_change}
use Rattle.sb_laws.proofs.laws.moves_change.Goals as goal

pub returns : goal.returns
returns c s t call reply cs may is same = moves_change s t call reply cs may is same
