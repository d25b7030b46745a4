use Rattle.std.proofs.Common.{◌≡◌, arith, filter, sum_by, sym, subst, ap, ◌∙◌}
use Rattle.sb_machine.specs.Namespace.{live_in, made_in}
use Rattle.sb_entities.specs.Stocks.{Entry, has_number}
use Rattle.sb_entities.specs.Stores.{entities_in, entries_in}
use Rattle.sb_entities.specs.Transactions.{AreOpened}
use Rattle.sb_entities.proofs.Opened.{opened_elsewhere}
use Rattle.sb_entities.proofs.Tallies.{made_same, sum_left, sum_within}
use Rattle.sb_entities.proofs.space.SpaceStore.remove.Goals as goal

pub copies_in-requires : goal.copies_in-requires
copies_in-requires c =
    let s = c.args.self.now in
    omega (arith, ap (λ rows. sum_by live_in (entities_in rows)) c.as_slice.ensures, s.living, s.numbered, made_same s, c.requires)

pub overflow_sub-self : goal.overflow_sub-self
overflow_sub-self c =
    let s = c.args.self.now in
    let copies : c.copies_in.result ≡ sum_by (λ (x : Entry). live_in x.entity) (filter (has_number c.args.entity) (entries_in s.entities.rows)) =
    c.copies_in.ensures ∙ ap (λ rows. sum_by (λ (x : Entry). live_in x.entity) (filter (has_number c.args.entity) (entries_in rows))) c.as_slice.ensures in
    omega (arith, copies, s.living, sum_within live_in c.args.entity s.entities.rows)

pub overflow_add-self : goal.overflow_add-self
overflow_add-self c =
    let s = c.args.self.now in
    let numbers : c.numbers_in.result ≡ sum_by (λ (x : Entry). made_in x.entity) (filter (has_number c.args.entity) (entries_in s.entities.rows)) =
    c.numbers_in.ensures ∙ ap (λ rows. sum_by (λ (x : Entry). made_in x.entity) (filter (has_number c.args.entity) (entries_in rows))) c.as_slice-2.ensures in
    omega (arith, numbers, s.given, made_same s, c.requires, sum_within made_in c.args.entity s.entities.rows)

pub invariant_of-self : goal.invariant_of-self
invariant_of-self c =
    let s = c.args.self.now in
    let xs = entries_in s.entities.rows in
    let copies : c.copies_in.result ≡ sum_by (λ (x : Entry). live_in x.entity) (filter (has_number c.args.entity) xs) =
    c.copies_in.ensures ∙ ap (λ rows. sum_by (λ (x : Entry). live_in x.entity) (filter (has_number c.args.entity) (entries_in rows))) c.as_slice.ensures in
    let numbers : c.numbers_in.result ≡ sum_by (λ (x : Entry). made_in x.entity) (filter (has_number c.args.entity) xs) =
    c.numbers_in.ensures ∙ ap (λ rows. sum_by (λ (x : Entry). made_in x.entity) (filter (has_number c.args.entity) (entries_in rows))) c.as_slice-2.ensures in
    record {
      opened = subst (λ rows. AreOpened s.last_txn rows) (sym c.remove_of.ensures.rows) (opened_elsewhere c.args.entity s.last_txn s.txns.rows s.opened);
      living = omega (arith, s.living, copies, sum_left live_in c.args.entity s.entities.rows c.remove.new.self.rows c.remove.ensures.rows);
      given = omega (arith, s.given, numbers, sum_left made_in c.args.entity s.entities.rows c.remove.new.self.rows c.remove.ensures.rows);
      numbered = omega (arith, s.numbered);
    }
