use Rattle.std.proofs.Common.{◌≡◌, ◌∙◌, ap, sym, find, length, None, Option, Some}
use Rattle.sb_index.specs.Rows.{is_at}
use Rattle.sb_index.specs.declared.row.Row.{Row}
use Rattle.sb_copies.proofs.Finding.{numbered_none, numbered_there}
use Rattle.sb_copies.proofs.SlotChanges.{same_rows, taken_led, taken_long, untaken_led}
use Rattle.sb_copies.proofs.rows.take_row.Goals as goal

nothing : (c : goal.In_default) → ◌≡◌ {A = Option Row} None (find (is_at c.from.result) c.args.order.now.rows)
nothing c = sym c.in_default.is ∙ c.remove.ensures.removed

found : (c : goal.After-try_remove) → Some c.in-Some.row ≡ find (is_at c.from.result) c.args.order.now.rows
found c = sym c.in-Some.is ∙ c.remove.ensures.removed

pub returns-in_default-clause-taken : goal.returns-in_default-clause-taken
returns-in_default-clause-taken c = numbered_none c.args.slots.now c.args.number c.args.order.now.rows c.requires.leads (nothing c ∙ ap (λ n. find (is_at n) c.args.order.now.rows) c.from.ensures)

pub returns-in_default-clause-copies : goal.returns-in_default-clause-copies
returns-in_default-clause-copies c = untaken_led c.from.result c.args.number c.args.slots.now c.args.order.now.rows c.remove.new.self.rows c.from.ensures c.requires.leads (nothing c) c.remove.ensures.rows

pub returns-in_default-clause-count : goal.returns-in_default-clause-count
returns-in_default-clause-count c = c.requires.count ∙ ap length (sym (same_rows c.from.result c.args.order.now.rows c.remove.new.self.rows (nothing c) c.remove.ensures.rows))

pub returns-clause-taken : goal.returns-clause-taken
returns-clause-taken c = numbered_there c.args.slots.now c.args.number c.in-Some.row c.args.order.now.rows c.try_remove.result c.requires.leads (found c ∙ ap (λ n. find (is_at n) c.args.order.now.rows) c.from.ensures) c.try_remove.ensures.value

pub returns-clause-copies : goal.returns-clause-copies
returns-clause-copies c = taken_led c.from.result c.args.number c.args.slots.now c.try_remove.new.self c.in-Some.row c.args.order.now.rows c.remove.new.self.rows c.from.ensures c.requires.leads c.rises.ensures (found c) c.try_remove.ensures.updates c.remove.ensures.rows

pub returns-clause-count : goal.returns-clause-count
returns-clause-count c = taken_long c.from.result _ _ c.args.slots.now c.try_remove.result c.in-Some.row c.args.order.now.rows c.remove.new.self.rows c.requires.leads c.rises.ensures (found c) c.try_remove.ensures.value c.try_remove.ensures.len c.remove.ensures.rows c.requires.count
