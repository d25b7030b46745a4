use Rattle.sb_entities.specs.Stores.{leaf_in}
use Rattle.sb_entities.proofs.Signs.{signs_in}
use Rattle.sb_entities.proofs.part.PartStore.heads.Goals as goal

pub returns : goal.returns
returns c = signs_in c.args.self.now.copies.heads (leaf_in c.args.self.now) c.args.self.now.heads c.heads.result c.heads.ensures
