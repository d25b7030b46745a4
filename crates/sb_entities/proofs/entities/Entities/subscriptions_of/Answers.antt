use Rattle.std.proofs.Common.{List, sym, subst}
use Rattle.sb_machine.specs.Each.{IsSorted}
use Rattle.sb_entities.specs.ByHash.{HoldsBy, hash_of_topic}
use Rattle.sb_entities.specs.Stores.{entities_in}
use Rattle.sb_entities.specs.Tables.{is_earlier}
use Rattle.sb_entities.specs.declared.entity.EntityStore.{EntityStore}
use Rattle.sb_entities.proofs.InOrder.{sorted}
use Rattle.sb_entities.proofs.entities.Entities.subscriptions_of.Goals as goal

pub subscriptions_of-requires-clause-order : goal.subscriptions_of-requires-clause-order
subscriptions_of-requires-clause-order c = subst (λ (rows : List EntityStore). IsSorted is_earlier rows) (sym c.deref.ensures.value) (sorted c.self.inside.last c.self.inside.rows.items c.self.invariant.0)

pub subscriptions_of-requires-clause-holds : goal.subscriptions_of-requires-clause-holds
subscriptions_of-requires-clause-holds c = subst (λ (rows : List EntityStore). HoldsBy hash_of_topic c.self.inside.by_topic.rows (entities_in rows)) (sym c.deref.ensures.value) c.self.invariant.6
