use Rattle.sb_outside.proofs.Leaves.{rest_has_one_image}
use Rattle.sb_outside.proofs.images.rest_has_one_image.Goals as goal

pub returns : goal.returns
returns c = rest_has_one_image
