use Rattle.std.proofs.Common.{List, sym, subst}
use Rattle.sb_machine.specs.Each.{IsSorted}
use Rattle.sb_entities.specs.Tables.{is_earlier}
use Rattle.sb_entities.specs.declared.entity.EntityStore.{EntityStore}
use Rattle.sb_entities.proofs.InOrder.{sorted}
use Rattle.sb_entities.proofs.entities.Entities.numbered.Goals as goal

pub numbered-requires : goal.numbered-requires
numbered-requires c = subst (λ (rows : List EntityStore). IsSorted is_earlier rows) (sym c.deref.ensures.value) (sorted c.self.inside.last c.self.inside.rows.items c.self.invariant.0)
