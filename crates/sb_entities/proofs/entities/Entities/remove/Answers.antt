use Rattle.std.proofs.Common.{ℕ, List, sym, subst, ap, ◌∙◌, arith}
use Rattle.sb_index.specs.Rows.{without}
use Rattle.sb_machine.specs.Each.{IsSorted}
use Rattle.sb_entities.specs.ByHash.{hash_at, hash_of_path, hash_of_topic}
use Rattle.sb_entities.specs.Stores.{entities_in}
use Rattle.sb_entities.specs.Tables.{is_earlier}
use Rattle.sb_entities.specs.declared.entity.EntityStore.{EntityStore}
use Rattle.sb_entities.proofs.DueIndex.{row_taken}
use Rattle.sb_entities.proofs.Holding.{held_removed}
use Rattle.sb_entities.proofs.InOrder.{rise_removed, sorted}
use Rattle.sb_entities.proofs.entities.Entities.remove.Goals as goal

pub path_hash_at-hash-requires : goal.path_hash_at-hash-requires
path_hash_at-hash-requires c = subst (λ (rows : List EntityStore). IsSorted is_earlier rows) (sym c.deref.ensures.value) (sorted c.self.inside.last c.self.inside.rows.items c.self.invariant.0)

pub topic_hash_at-topic-requires : goal.topic_hash_at-topic-requires
topic_hash_at-topic-requires c = subst (λ (rows : List EntityStore). IsSorted is_earlier rows) (sym c.deref-2.ensures.value) (sorted c.self.inside.last c.self.inside.rows.items c.self.invariant.0)

pub invariant_of-self : goal.invariant_of-self
invariant_of-self c =
    let s = c.self.inside in
    let n = c.args.number in
    let hash = c.path_hash_at-hash.ensures ∙ ap (λ (rows : List EntityStore). hash_at hash_of_path n (entities_in rows)) c.deref.ensures.value in
    let topic = c.topic_hash_at-topic.ensures ∙ ap (λ (rows : List EntityStore). hash_at hash_of_topic n (entities_in rows)) c.deref-2.ensures.value in (
      rise_removed n s.last s.rows.items c.remove_rows.new.rows.items c.remove_rows.ensures.rows c.self.invariant.0,
      omega (arith, c.remove_rows.ensures.len, c.remove_rows.ensures.capacity, c.self.invariant.1),
      record {
        rows = row_taken n s.dues.rows c.remove.new.self.rows s.rows.items c.remove_rows.new.rows.items c.self.invariant.2.rows (c.remove.ensures.rows ∙ ap (λ (k : ℕ). without k s.dues.rows) c.from.ensures) c.remove_rows.ensures.rows;
        room = omega (arith, c.remove.ensures.spare, c.self.invariant.2.room);
      },
      omega (arith, c.take.ensures.spare, c.self.invariant.3),
      omega (arith, c.take-2.ensures.spare, c.self.invariant.4),
      held_removed hash_of_path n s.last c.path_hash_at-hash.result s.by_path.rows c.take.new.index.rows s.rows.items c.remove_rows.new.rows.items (omega arith) (omega arith) hash c.self.invariant.0 c.self.invariant.5 c.take.ensures.rows c.remove_rows.ensures.rows,
      held_removed hash_of_topic n s.last c.topic_hash_at-topic.result s.by_topic.rows c.take-2.new.index.rows s.rows.items c.remove_rows.new.rows.items (omega arith) (omega arith) topic c.self.invariant.0 c.self.invariant.6 c.take-2.ensures.rows c.remove_rows.ensures.rows,
    )
