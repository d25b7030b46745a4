use Rattle.sb_outside.proofs.Leaves.{cuts_keep_images}
use Rattle.sb_outside.proofs.images.cuts_keep_images.Goals as goal

pub returns : goal.returns
returns c = cuts_keep_images
