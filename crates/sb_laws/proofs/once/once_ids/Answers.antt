use Rattle.sb_laws.proofs.OnceIds.{once_ids}
use Rattle.sb_laws.proofs.once.once_ids.Goals as goal

pub returns : goal.returns
returns c s h consistent legal = once_ids s h consistent legal
