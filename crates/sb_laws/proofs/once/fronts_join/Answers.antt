use Rattle.sb_laws.proofs.Joining.{fronts_join}
use Rattle.sb_laws.proofs.once.fronts_join.Goals as goal

pub returns : goal.returns
returns c start h more seat reading call consistent legal running = fronts_join start h more seat reading call consistent legal running
