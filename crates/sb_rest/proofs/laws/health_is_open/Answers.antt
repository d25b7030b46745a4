use Rattle.sb_rest.proofs.Methods.{health_open}
use Rattle.sb_rest.proofs.laws.health_is_open.Goals as goal

pub returns : goal.returns
returns c access m w none is = health_open access m w none is
