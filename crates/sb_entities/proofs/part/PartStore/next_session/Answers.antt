use Rattle.std.proofs.Common.{refl}
use Rattle.sb_entities.specs.Stores.{leaf_in}
use Rattle.sb_entities.proofs.part.PartStore.next_session.Goals as goal

pub returns : goal.returns
returns c = c.next_session.ensures (leaf_in c.args.self.now) refl refl
