use Rattle.sb_outside.proofs.Leaves.{writes_keep_images}
use Rattle.sb_outside.proofs.images.writes_keep_images.Goals as goal

pub returns : goal.returns
returns c = writes_keep_images
