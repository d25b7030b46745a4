use Rattle.sb_machine.specs.Ordered.{IsActInOrder}
use Rattle.sb_desk.specs.Desks.{IsOf}
use Rattle.sb_desktests.proofs.callers.repeat.Given as goal

-- the call is in order each time
abbrev pub invariant-loop : goal.invariant-loop
invariant-loop g l = IsOf l.desk l.pass × IsActInOrder l.call.act
