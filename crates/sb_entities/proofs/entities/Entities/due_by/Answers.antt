use Rattle.std.proofs.Common.{List, ap, sym, subst}
use Rattle.sb_machine.specs.Each.{IsSorted}
use Rattle.sb_entities.specs.Tables.{Tabled, is_earlier}
use Rattle.sb_entities.specs.declared.entity.EntityStore.{EntityStore}
use Rattle.sb_entities.proofs.InOrder.{sorted}
use Rattle.sb_entities.proofs.WhenDue.{due_among}
use Rattle.sb_entities.proofs.entities.Entities.due_by.Goals as goal

pub entities_of-requires : goal.entities_of-requires
entities_of-requires c = subst (λ (rows : List EntityStore). IsSorted is_earlier rows) (sym c.deref.ensures.value) (sorted c.self.inside.last c.self.inside.rows.items c.self.invariant.0)

pub returns : goal.returns
returns c =
    let s = c.self.inside in
    due_among c.args.moment s.last s.dues.rows c.in_ok-numbers.numbers.items c.deref-2.result.now s.rows.items c.deref.result.now c.args.self.now.rows c.entities_of.result
    c.self.invariant.0 c.self.invariant.2.rows c.in_ok-numbers.ensures c.deref.ensures.value c.deref-2.ensures.value (ap (λ (t : Tabled). t.rows) c.self.view_is) c.entities_of.ensures
