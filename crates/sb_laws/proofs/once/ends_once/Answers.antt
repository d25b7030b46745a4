use Rattle.sb_laws.proofs.Ended.{ends_once}
use Rattle.sb_laws.proofs.once.ends_once.Goals as goal

pub returns : goal.returns
returns c s h consistent legal = ends_once s h consistent
