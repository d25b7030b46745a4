use Rattle.std.proofs.Common.{◌&&◌, ◌+◌, ap}
use Rattle.sb_machine.specs.Leases as lease
use Rattle.sb_machine.specs.Messages.{has_text_of}
use Rattle.sb_model.specs.declared.message.SystemName.TheVariants.{SessionId}
use Rattle.sb_copies.specs.Shelf.{copies_in}
use Rattle.sb_copies.proofs.Walking.{fewer_left, looked_all, looked_first, looked_here, looked_on}
use Rattle.sb_copies.proofs.searches.ready_somewhere.Goals as goal

pub loop-copy-init : goal.loop-copy-init
loop-copy-init c = looked_first (λ x. lease.is_ready x.standing && has_text_of SessionId c.args.session.now x.message) (copies_in c.args.slots.now c.args.order.now.rows)

pub loop-copy-smaller : goal.loop-copy-smaller
loop-copy-smaller c = fewer_left c.loop-copy.from (c.from-from.result + 1) c.in-Some.copy.now (copies_in c.args.slots.now c.args.order.now.rows) c.requires.order c.in-Some.ensures (ap (λ n. n + 1) c.from-from.ensures)

pub loop-copy-preserved : goal.loop-copy-preserved
loop-copy-preserved c = looked_on (λ x. lease.is_ready x.standing && has_text_of SessionId c.args.session.now x.message) c.loop-copy.from (c.from-from.result + 1) c.in-Some.copy.now (copies_in c.args.slots.now c.args.order.now.rows) c.requires.order c.in-Some.ensures (ap (λ n. n + 1) c.from-from.ensures) c.loop-copy.invariant c.if-is_ready_of.ensures

pub returns-then-is_ready_of : goal.returns-then-is_ready_of
returns-then-is_ready_of c = looked_here (λ x. lease.is_ready x.standing && has_text_of SessionId c.args.session.now x.message) c.loop-copy.from c.in-Some.copy.now (copies_in c.args.slots.now c.args.order.now.rows) c.requires.order c.in-Some.ensures c.loop-copy.invariant c.if-is_ready_of.ensures

pub returns : goal.returns
returns c = looked_all (λ x. lease.is_ready x.standing && has_text_of SessionId c.args.session.now x.message) c.loop-copy.from (copies_in c.args.slots.now c.args.order.now.rows) c.in_default.ensures c.loop-copy.invariant
