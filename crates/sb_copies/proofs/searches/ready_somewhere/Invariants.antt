use Rattle.std.proofs.Common.{◌≡◌, ◌&&◌, find, length}
use Rattle.sb_machine.specs.Leases as lease
use Rattle.sb_machine.specs.Messages.{has_text_of}
use Rattle.sb_model.specs.declared.message.SystemName.TheVariants.{SessionId}
use Rattle.sb_copies.specs.Shelf.{copies_in}
use Rattle.sb_copies.proofs.Walking.{from}
use Rattle.sb_copies.proofs.searches.ready_somewhere.Given as goal

-- the first of all is the first of those that are left
abbrev pub invariant-loop-copy : goal.invariant-loop-copy
invariant-loop-copy l = find (λ x. lease.is_ready x.standing && has_text_of SessionId l.session x.message) (from l.from (copies_in l.slots l.order.rows)) ≡ find (λ x. lease.is_ready x.standing && has_text_of SessionId l.session x.message) (copies_in l.slots l.order.rows)

abbrev pub decreases-loop-copy : goal.decreases-loop-copy
decreases-loop-copy l = length (from l.from (copies_in l.slots l.order.rows))
