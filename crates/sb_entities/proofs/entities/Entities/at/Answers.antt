use Rattle.std.proofs.Common.{List, sym, subst}
use Rattle.sb_machine.specs.Each.{IsSorted}
use Rattle.sb_entities.specs.ByHash.{HoldsBy, hash_of_path}
use Rattle.sb_entities.specs.Stores.{entities_in}
use Rattle.sb_entities.specs.Tables.{is_earlier}
use Rattle.sb_entities.specs.declared.entity.EntityStore.{EntityStore}
use Rattle.sb_entities.proofs.InOrder.{sorted}
use Rattle.sb_entities.proofs.entities.Entities.at.Goals as goal

pub entity_at-requires-clause-order : goal.entity_at-requires-clause-order
entity_at-requires-clause-order c = subst (λ (rows : List EntityStore). IsSorted is_earlier rows) (sym c.deref.ensures.value) (sorted c.self.inside.last c.self.inside.rows.items c.self.invariant.0)

pub entity_at-requires-clause-holds : goal.entity_at-requires-clause-holds
entity_at-requires-clause-holds c = subst (λ (rows : List EntityStore). HoldsBy hash_of_path c.self.inside.by_path.rows (entities_in rows)) (sym c.deref.ensures.value) c.self.invariant.5
