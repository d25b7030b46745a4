use Rattle.std.proofs.Common.{◌∙◌, ap, find, sym}
use Rattle.sb_index.specs.Rows.{is_from}
use Rattle.sb_copies.specs.Shelf.{copies_in}
use Rattle.sb_copies.proofs.LockFinds.{held_nowhere, held_past, held_there}
use Rattle.sb_copies.proofs.locks.held_from.Goals as goal

pub returns-in_default : goal.returns-in_default
returns-in_default c =
    let rows = c.args.by_lock.now.rows in
    held_nowhere c.args.lock c.args.from rows (copies_in c.args.slots.now c.args.order.now.rows) c.requires.holds (c.in_default.ensures ∙ ap (λ k. find (is_from k) rows) c.key_of.ensures)

pub returns-then-is_within : goal.returns-then-is_within
returns-then-is_within c =
    let rows = c.args.by_lock.now.rows in
    c.numbered.ensures ∙ held_there c.args.lock c.args.from c.in-Some.row rows (copies_in c.args.slots.now c.args.order.now.rows) c.requires.holds c.requires.order (c.in-Some.ensures ∙ ap (λ k. find (is_from k) rows) c.key_of.ensures) (sym c.if-is_within.ensures)

pub returns-else-is_within : goal.returns-else-is_within
returns-else-is_within c =
    let rows = c.args.by_lock.now.rows in
    held_past c.args.lock c.args.from c.in-Some.row rows (copies_in c.args.slots.now c.args.order.now.rows) c.requires.holds c.rises.ensures (c.in-Some.ensures ∙ ap (λ k. find (is_from k) rows) c.key_of.ensures) (sym c.if-is_within.ensures)
