use Rattle.std.proofs.Common.{sym, subst}
use Rattle.sb_machine.specs.Ordered.{IsActInOrder}
use Rattle.sb_drill.proofs.InOrder.{in_order}
use Rattle.sb_drill.proofs.calls.call_at.Goals as goal

pub returns-clause-order : goal.returns-clause-order
returns-clause-order c = subst IsActInOrder (sym c.in_ok-act.ensures) (in_order c.args.seed c.args.n c.args.memory)
