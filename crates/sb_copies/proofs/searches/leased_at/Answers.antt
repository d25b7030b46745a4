use Rattle.std.proofs.Common.{◌&&◌, ◌∙◌, ap, Bool, sym}
use Rattle.sb_machine.specs.Leases.{is_living}
use Rattle.sb_machine.specs.Leaves.{has_number}
use Rattle.sb_machine.proofs.Places.{found_passes}
use Rattle.sb_copies.specs.Shelf.{copies_in}
use Rattle.sb_copies.proofs.Order.{both, one_fails, one_found, one_lacks}
use Rattle.sb_copies.proofs.searches.leased_at.Goals as goal

pub returns-in_default : goal.returns-in_default
returns-in_default c = sym (one_lacks c.args.number (λ x. is_living c.args.moment c.args.sessions.now c.args.lock x.standing && has_number c.args.number x) (copies_in c.args.slots.now c.args.order.now.rows) (λ x e. (both (is_living c.args.moment c.args.sessions.now c.args.lock x.standing) (has_number c.args.number x) e).1) (sym c.in_default.ensures))

pub returns-then-is_living : goal.returns-then-is_living
returns-then-is_living c = sym (one_found c.args.number (λ x. is_living c.args.moment c.args.sessions.now c.args.lock x.standing && has_number c.args.number x) c.in-Some.copy.now (copies_in c.args.slots.now c.args.order.now.rows) (λ x e. (both (is_living c.args.moment c.args.sessions.now c.args.lock x.standing) (has_number c.args.number x) e).1) (sym c.in-Some.ensures) (ap (λ (b : Bool). b && has_number c.args.number c.in-Some.copy.now) (sym c.if-is_living.ensures) ∙ found_passes (has_number c.args.number) (copies_in c.args.slots.now c.args.order.now.rows) c.in-Some.copy.now (sym c.in-Some.ensures)))

pub returns-else-is_living : goal.returns-else-is_living
returns-else-is_living c = sym (one_fails c.args.number (λ x. is_living c.args.moment c.args.sessions.now c.args.lock x.standing && has_number c.args.number x) c.in-Some.copy.now (copies_in c.args.slots.now c.args.order.now.rows) (λ x e. (both (is_living c.args.moment c.args.sessions.now c.args.lock x.standing) (has_number c.args.number x) e).1) c.requires.order (sym c.in-Some.ensures) (ap (λ (b : Bool). b && has_number c.args.number c.in-Some.copy.now) (sym c.if-is_living.ensures)))
