use Rattle.std.proofs.Common.{◌≡◌, drop}
use Rattle.sb_judge.specs.Orders.{is_on_from}
use Rattle.sb_judge.proofs.sorted.is_on_from.Given as goal

abbrev pub invariant-loop-next : goal.invariant-loop-next
invariant-loop-next g l = is_on_from g.T.Ordered.before l.last (drop l.next-index l.rest) ≡ is_on_from g.T.Ordered.before l.fn.first l.rest
