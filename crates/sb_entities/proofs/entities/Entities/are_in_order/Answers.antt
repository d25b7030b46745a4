use Rattle.std.proofs.Common.{subst}
use Rattle.sb_machine.specs.Keyed.{AreRising}
use Rattle.sb_entities.specs.Stores.{entities_in}
use Rattle.sb_entities.specs.Tables.{Tabled, number_of}
use Rattle.sb_entities.proofs.entities.Entities.are_in_order.Goals as goal

pub returns : goal.returns
returns c = subst (λ (t : Tabled). AreRising number_of 0 t.last (entities_in t.rows)) c.self.view_is c.self.invariant.0
