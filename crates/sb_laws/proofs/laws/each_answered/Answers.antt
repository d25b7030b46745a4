use Rattle.sb_laws.proofs.Unlost.{each_answered}
use Rattle.sb_laws.proofs.laws.each_answered.Goals as goal

pub returns : goal.returns
returns c s t by path steps reply cs may is = each_answered s t by path steps reply cs may is
