use Rattle.std.proofs.Common.{List, ap, sym, subst, ◌∙◌, arith}
use Rattle.sb_machine.specs.Each.{IsSorted}
use Rattle.sb_entities.specs.DueRows.{told_due}
use Rattle.sb_entities.specs.Stores.{entities_in}
use Rattle.sb_entities.specs.Tables.{is_earlier}
use Rattle.sb_entities.specs.declared.entity.EntityStore.{EntityStore}
use Rattle.sb_entities.proofs.DueIndex.{row_told}
use Rattle.sb_entities.specs.ByHash.{hash_of_path, hash_of_topic}
use Rattle.sb_entities.proofs.Holding.{held_changed, path_stays, topic_stays}
use Rattle.sb_entities.proofs.InOrder.{rise_changed, sorted}
use Rattle.sb_entities.proofs.entities.Entities.change.Goals as goal

pub change_row-tally-requires-clause-order : goal.change_row-tally-requires-clause-order
change_row-tally-requires-clause-order c = sorted c.self.inside.last c.self.inside.rows.items c.self.invariant.0

pub tell-requires : goal.tell-requires
tell-requires c =
    let s = c.self.inside in
    let new = c.change_row-tally.new.rows.items in
    subst (λ (rows : List EntityStore). IsSorted is_earlier rows) (sym c.deref.ensures.value)
    (sorted s.last new (rise_changed c.args.number s.last c.args.moment c.args.change s.rows.items new c.change_row-tally.ensures.rows c.self.invariant.0))

pub invariant_of-self : goal.invariant_of-self
invariant_of-self c =
    let s = c.self.inside in
    let new = c.change_row-tally.new.rows.items in (
      rise_changed c.args.number s.last c.args.moment c.args.change s.rows.items new c.change_row-tally.ensures.rows c.self.invariant.0,
      omega (arith, c.change_row-tally.ensures.len, c.change_row-tally.ensures.capacity, c.self.invariant.1),
      record {
        rows = row_told c.args.number s.last c.args.moment c.args.change s.dues.rows c.tell.new.dues.rows s.rows.items new c.self.invariant.0 c.self.invariant.2.rows c.change_row-tally.ensures.rows
            (c.tell.ensures.rows ∙ ap (λ (rows : List EntityStore). told_due c.args.number (entities_in rows) s.dues.rows) c.deref.ensures.value);
        room = omega (arith, c.tell.ensures.spare, c.self.invariant.2.room);
      },
      omega (arith, c.self.invariant.3),
      omega (arith, c.self.invariant.4),
      held_changed hash_of_path path_stays c.args.number c.args.moment c.args.change s.by_path.rows s.rows.items new c.self.invariant.5 c.change_row-tally.ensures.rows,
      held_changed hash_of_topic topic_stays c.args.number c.args.moment c.args.change s.by_topic.rows s.rows.items new c.self.invariant.6 c.change_row-tally.ensures.rows,
    )
