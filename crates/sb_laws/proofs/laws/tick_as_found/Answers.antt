use Rattle.sb_laws.proofs.AsFound.{tick_as_found}
use Rattle.sb_laws.proofs.laws.tick_as_found.Goals as goal

pub returns : goal.returns
returns c t s may = tick_as_found t s may
