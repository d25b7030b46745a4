use Rattle.std.proofs.Common.{length}
use Rattle.sb_amqp.proofs.Passed.{Passed}
use Rattle.sb_amqp.proofs.order.check_sections.Given as goal

abbrev pub invariant-loop-section : goal.invariant-loop-section
invariant-loop-section l = Passed l.bytes l.last l.rest

abbrev pub decreases-loop-section : goal.decreases-loop-section
decreases-loop-section l = length l.rest
