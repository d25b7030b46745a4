use Rattle.sb_laws.proofs.Turns.{act_in_turn}
use Rattle.sb_laws.proofs.laws.act_in_turn.Goals as goal

pub returns : goal.returns
returns c s t by path steps reply cs is = act_in_turn s t by path steps reply cs is
