use Rattle.std.proofs.Common.{◌≡◌, ap, ◌∙◌, arith}
use Rattle.std.specs.Prelude.{sum_by}
use Rattle.sb_machine.specs.Namespace.{live_in, made_in}
use Rattle.sb_entities.specs.Stores.{entities_in}
use Rattle.sb_entities.proofs.Holdable.{all_opened, all_ordered, few_live, rising_pairs}
use Rattle.sb_entities.proofs.space.SpaceStore.from_space.Goals as goal

pub entities_of-requires-clause-ordered : goal.entities_of-requires-clause-ordered
entities_of-requires-clause-ordered c = all_ordered c.requires.now c.args.space.entities c.requires.entities

pub from_rows-requires : goal.from_rows-requires
from_rows-requires c = rising_pairs 0 c.args.space.last_txn c.args.space.transactions c.requires.transactions

pub copies_of-live-requires : goal.copies_of-live-requires
copies_of-live-requires c =
    let s = c.args.space in
    let seen : entities_in c.as_slice.result.now ≡ s.entities = ap entities_in c.as_slice.ensures ∙ c.in_ok-entities.ensures.rows in
    let few = few_live s.entities (all_ordered c.requires.now s.entities c.requires.entities) in
    omega (arith, ap (sum_by live_in) seen, few, c.requires.made)

pub invariant_of-result : goal.invariant_of-result
invariant_of-result c =
    let s = c.args.space in
    let held : entities_in c.in_ok-entities.entities.rows ≡ s.entities = c.in_ok-entities.ensures.rows in
    let few = few_live s.entities (all_ordered c.requires.now s.entities c.requires.entities) in
    let live : c.copies_of-live.result ≡ sum_by live_in (entities_in c.in_ok-entities.entities.rows) = c.copies_of-live.ensures ∙ ap (sum_by live_in) (ap entities_in c.as_slice.ensures) in
    let made : c.numbers_of.result ≡ sum_by made_in (entities_in c.in_ok-entities.entities.rows) = c.numbers_of.ensures ∙ ap (sum_by made_in) (ap entities_in c.as_slice-2.ensures) in
    record {
      opened = all_opened s.last_txn c.in_ok-txns.txns.rows s.transactions c.in_ok-txns.ensures.transactions c.requires.transactions;
      living = live;
      given = omega (arith, made);
      numbered = omega (arith, live, made, few, ap (sum_by live_in) held, ap (sum_by made_in) held);
    }
