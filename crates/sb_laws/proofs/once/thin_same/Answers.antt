use Rattle.sb_laws.proofs.ThinSame.{thin_same}
use Rattle.sb_laws.proofs.once.thin_same.Goals as goal

pub returns : goal.returns
returns c s h consistent legal = thin_same s h legal
