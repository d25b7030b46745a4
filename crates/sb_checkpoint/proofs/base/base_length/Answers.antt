use Rattle.std.proofs.Common.{[], refl}
use Rattle.sb_checkpoint.proofs.base.base_length.Goals as goal

pub returns-in-Ok : goal.returns-in-Ok
returns-in-Ok c = c.in-Ok.ensures.has [] refl
