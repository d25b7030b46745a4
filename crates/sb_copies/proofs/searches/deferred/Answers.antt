use Rattle.std.proofs.Common.{◌&&◌, ◌==◌, None, sym}
use Rattle.sb_machine.specs.Claims.{is_of}
use Rattle.sb_machine.specs.Leaves.{is_deferred}
use Rattle.sb_copies.specs.Shelf.{copies_in}
use Rattle.sb_copies.proofs.Order.{both, one_fails, one_found, one_lacks}
use Rattle.sb_copies.proofs.searches.deferred.Goals as goal

pub returns-in_default : goal.returns-in_default
returns-in_default c = sym (one_lacks c.args.number (λ x. is_deferred x.standing && (x.number == c.args.number) && is_of None x) (copies_in c.args.slots.now c.args.order.now.rows) (λ x e. (both (is_deferred x.standing) (x.number == c.args.number) (both (is_deferred x.standing && (x.number == c.args.number)) (is_of None x) e).0).1) (sym c.in_default.ensures))

pub returns-then-is_deferred_at : goal.returns-then-is_deferred_at
returns-then-is_deferred_at c = sym (one_found c.args.number (λ x. is_deferred x.standing && (x.number == c.args.number) && is_of None x) c.in-Some.copy.now (copies_in c.args.slots.now c.args.order.now.rows) (λ x e. (both (is_deferred x.standing) (x.number == c.args.number) (both (is_deferred x.standing && (x.number == c.args.number)) (is_of None x) e).0).1) (sym c.in-Some.ensures) (sym c.if-is_deferred_at.ensures))

pub returns-else-is_deferred_at : goal.returns-else-is_deferred_at
returns-else-is_deferred_at c = sym (one_fails c.args.number (λ x. is_deferred x.standing && (x.number == c.args.number) && is_of None x) c.in-Some.copy.now (copies_in c.args.slots.now c.args.order.now.rows) (λ x e. (both (is_deferred x.standing) (x.number == c.args.number) (both (is_deferred x.standing && (x.number == c.args.number)) (is_of None x) e).0).1) c.requires.order (sym c.in-Some.ensures) (sym c.if-is_deferred_at.ensures))
