use Rattle.sb_laws.proofs.Joining.{undecided_joins}
use Rattle.sb_laws.proofs.once.undecided_joins.Goals as goal

pub returns : goal.returns
returns c start h events consistent legal hangs = undecided_joins start h events consistent legal hangs
