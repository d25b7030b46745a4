use Rattle.std.proofs.Common.{◌&&◌, ◌==◌, sym}
use Rattle.sb_machine.specs.Leases.{is_scheduled}
use Rattle.sb_copies.specs.Shelf.{copies_in}
use Rattle.sb_copies.proofs.Order.{both, one_fails, one_found, one_lacks}
use Rattle.sb_copies.proofs.searches.scheduled.Goals as goal

pub returns-in_default : goal.returns-in_default
returns-in_default c = sym (one_lacks c.args.number (λ x. is_scheduled x.standing && (x.number == c.args.number)) (copies_in c.args.slots.now c.args.order.now.rows) (λ x e. (both (is_scheduled x.standing) (x.number == c.args.number) e).1) (sym c.in_default.ensures))

pub returns-then-is_scheduled_at : goal.returns-then-is_scheduled_at
returns-then-is_scheduled_at c = sym (one_found c.args.number (λ x. is_scheduled x.standing && (x.number == c.args.number)) c.in-Some.copy.now (copies_in c.args.slots.now c.args.order.now.rows) (λ x e. (both (is_scheduled x.standing) (x.number == c.args.number) e).1) (sym c.in-Some.ensures) (sym c.if-is_scheduled_at.ensures))

pub returns-else-is_scheduled_at : goal.returns-else-is_scheduled_at
returns-else-is_scheduled_at c = sym (one_fails c.args.number (λ x. is_scheduled x.standing && (x.number == c.args.number)) c.in-Some.copy.now (copies_in c.args.slots.now c.args.order.now.rows) (λ x e. (both (is_scheduled x.standing) (x.number == c.args.number) e).1) c.requires.order (sym c.in-Some.ensures) (sym c.if-is_scheduled_at.ensures))
