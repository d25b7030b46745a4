use Rattle.std.proofs.Common.{◌≡◌, ◌∙◌, ◌++◌, List, ℕ, ap, map, subst}
use Rattle.std.specs.Prelude.{IfOk}
use Rattle.sb_machine.specs.declared.state.StoredCopy.{StoredCopy}
use Rattle.sb_copies.specs.Grouped.{numbers_under}
use Rattle.sb_copies.specs.Shelf.{copies_in, numbered_in}
use Rattle.sb_copies.proofs.Ending.{under_found}
use Rattle.sb_copies.proofs.session_locks.held_under.Goals as goal

pub returns : goal.returns
returns c =
    let cs = copies_in c.args.slots.now c.args.order.now.rows in
    subst (λ (l : List StoredCopy). IfOk c.numbered_all.result (λ found. map (λ x. x.now) found.items ≡ l))
    (ap (λ (ns : List ℕ). numbered_in cs ns) (c.deref.ensures.value ∙ c.in_ok-found.ensures ∙ ap (λ (ns : List ℕ). ns ++ numbers_under c.args.lock c.args.under.now.rows) c.new.ensures.items) ∙ under_found c.args.lock c.args.under.now.rows cs c.requires.order c.requires.holds)
    c.numbered_all.ensures
