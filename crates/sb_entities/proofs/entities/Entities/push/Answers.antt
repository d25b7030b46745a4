use Rattle.std.proofs.Common.{◌≡◌, ◌+◌, Some, ap, sym, ◌∙◌, arith}
use Rattle.sb_machine.specs.declared.state.Listed.{Listed}
use Rattle.sb_entities.proofs.DueIndex.{lacks_row, row_put}
use Rattle.sb_entities.proofs.Holding.{held_lacks, held_pushed}
use Rattle.sb_entities.proofs.InOrder.{rise_pushed}
use Rattle.sb_entities.specs.ByHash.{hash_of_path, hash_of_topic, path_hash, topic_hash}
use Rattle.sb_entities.specs.Stores.{entities_in, entity_in}
use Rattle.sb_entities.specs.Tables.{Tabled, number_of}
use Rattle.sb_entities.proofs.entities.Entities.push.Goals as goal

pub insert-requires-clause-apart : goal.insert-requires-clause-apart
insert-requires-clause-apart c =
    let s = c.self.inside in
    let last = ap (λ (t : Tabled). t.last) c.self.view_is in
    let next : number_of (entity_in c.args.entity) ≡ s.last + 1 = omega (arith, c.requires.next, last) in
    lacks_row s.spare s.dues s.last (entity_in c.args.entity) c.row_of.result (entities_in s.rows.items) next c.row_of.ensures c.self.invariant.0 c.self.invariant.2

pub put-requires-clause-apart : goal.put-requires-clause-apart
put-requires-clause-apart c =
    let s = c.self.inside in
    let number = ap (λ (l : Listed). l.number) c.about-about.ensures in
    let last = ap (λ (t : Tabled). t.last) c.self.view_is in
    held_lacks hash_of_path s.last c.about-about.result.now.number s.by_path.rows s.rows.items (omega (arith, number, c.requires.next, last)) (omega arith) c.self.invariant.0 c.self.invariant.5

pub put-requires-2-clause-apart : goal.put-requires-2-clause-apart
put-requires-2-clause-apart c =
    let s = c.self.inside in
    let number = ap (λ (l : Listed). l.number) c.about-about.ensures in
    let last = ap (λ (t : Tabled). t.last) c.self.view_is in
    held_lacks hash_of_topic s.last c.about-about.result.now.number s.by_topic.rows s.rows.items (omega (arith, number, c.requires.next, last)) (omega arith) c.self.invariant.0 c.self.invariant.6

pub invariant_of-self : goal.invariant_of-self
invariant_of-self c =
    let s = c.self.inside in
    let e = c.args.entity in
    let n = c.about-about.result.now.number in
    let last = ap (λ (t : Tabled). t.last) c.self.view_is in
    let spare = ap (λ (t : Tabled). t.spare) c.self.view_is in
    let number : n ≡ number_of (entity_in e) = ap (λ (l : Listed). l.number) c.about-about.ensures in
    let next : number_of (entity_in e) ≡ s.last + 1 = omega (arith, c.requires.next, last) in
    let hash : hash_of_path (entity_in e) ≡ Some c.path_hash-hash.result = ap (λ h. Some h) (ap (λ (l : Listed). path_hash l.path) (sym c.about-about.ensures) ∙ sym c.path_hash-hash.ensures.hash) in
    let topic : hash_of_topic (entity_in e) ≡ c.topic_hash-topic.result = ap (λ (l : Listed). topic_hash l.path) (sym c.about-about.ensures) ∙ sym c.topic_hash-topic.ensures in (
      rise_pushed s.last n e s.rows.items c.push_reserved.new.self.items (number ∙ next) next c.push_reserved.ensures.items c.self.invariant.0,
      omega (arith, c.push_reserved.ensures.len, c.push_reserved.ensures.capacity, c.requires.room, spare, c.self.invariant.1),
      record {
        rows = row_put s.last e c.row_of.result s.dues.rows c.insert.new.self.rows s.rows.items c.push_reserved.new.self.items next c.row_of.ensures c.self.invariant.0 c.self.invariant.2.rows c.insert.ensures.rows c.push_reserved.ensures.items;
        room = omega (arith, c.insert.ensures.spare, c.requires.room, spare, c.self.invariant.2.room);
      },
      omega (arith, c.put.ensures.spare, c.requires.room, spare, c.self.invariant.3),
      omega (arith, c.put-2.ensures.spare, c.requires.room, spare, c.self.invariant.4),
      held_pushed hash_of_path (Some c.path_hash-hash.result) s.last n e s.by_path.rows c.put.new.index.rows s.rows.items c.push_reserved.new.self.items hash number (number ∙ next) (omega arith) c.rises.ensures c.self.invariant.0 c.self.invariant.5 c.put.ensures.rows c.push_reserved.ensures.items,
      held_pushed hash_of_topic c.topic_hash-topic.result s.last n e s.by_topic.rows c.put-2.new.index.rows s.rows.items c.push_reserved.new.self.items topic number (number ∙ next) (omega arith) c.rises-2.ensures c.self.invariant.0 c.self.invariant.6 c.put-2.ensures.rows c.push_reserved.ensures.items,
    )
