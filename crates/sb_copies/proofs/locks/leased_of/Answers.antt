use Rattle.std.proofs.Common.{rules, arith, ◌≡◌, ◌∙◌, ◌+◌, ◌<◌, ◌≤◌, ap, find, sym, ℕ}
use Rattle.sb_copies.specs.Grouped.{span}
use Rattle.sb_copies.specs.Shelf.{copies_in}
use Rattle.sb_copies.proofs.LockFinds.{further_on, is_leased_from, leased_next, leased_nowhere, leased_there, none_from}
use Rattle.sb_copies.proofs.locks.leased_of.Goals as goal

pub returns-then-is_leased : goal.returns-then-is_leased
returns-then-is_leased c = sym (c.held.invariant ∙ leased_there c.args.moment c.args.sessions.now c.args.lock c.args.which.now c.held.from c.in-Some.copy.now (copies_in c.args.slots.now c.args.order.now.rows) c.in-Some.ensures (sym c.if-is_leased.ensures))

pub returns-in_default-checked_add : goal.returns-in_default-checked_add
returns-in_default-checked_add c =
    let cs = copies_in c.args.slots.now c.args.order.now.rows in
    let copy = c.in-Some.copy.now in
    let past : span ≤ copy.number + 1 = search rules in
    sym (c.held.invariant
    ∙ leased_next c.args.moment c.args.sessions.now c.args.lock c.args.which.now c.held.from copy cs c.requires.order c.in-Some.ensures (sym c.if-is_leased.ensures)
    ∙ none_from c.args.moment c.args.sessions.now c.args.lock c.args.which.now (copy.number + 1) cs c.requires.below past)

pub held-smaller : goal.held-smaller
held-smaller c =
    let copy = c.in-Some.copy.now in
    let le : c.held.from ≤ copy.number = further_on c.args.moment c.args.sessions.now c.args.lock c.args.which.now c.held.from copy (copies_in c.args.slots.now c.args.order.now.rows) c.in-Some.ensures in
    let next : c.in-Some-checked_add.next ≡ copy.number + 1 = search rules in
    let lt : copy.number < span = search rules in
    omega (arith, le, next, lt)

pub held-preserved : goal.held-preserved
held-preserved c =
    let cs = copies_in c.args.slots.now c.args.order.now.rows in
    let copy = c.in-Some.copy.now in
    let next : c.in-Some-checked_add.next ≡ copy.number + 1 = search rules in
    c.held.invariant
    ∙ leased_next c.args.moment c.args.sessions.now c.args.lock c.args.which.now c.held.from copy cs c.requires.order c.in-Some.ensures (sym c.if-is_leased.ensures)
    ∙ ap (λ (n : ℕ). find (is_leased_from c.args.moment c.args.sessions.now c.args.lock c.args.which.now n) cs) (sym next)

pub returns : goal.returns
returns c = sym (c.held.invariant ∙ leased_nowhere c.args.moment c.args.sessions.now c.args.lock c.args.which.now c.held.from (copies_in c.args.slots.now c.args.order.now.rows) c.in_default.ensures)
