use Rattle.sb_laws.proofs.DoneSettles.{done_settles}
use Rattle.sb_laws.proofs.once.done_settles.Goals as goal

pub returns : goal.returns
returns c s h consistent legal = done_settles s h consistent legal
