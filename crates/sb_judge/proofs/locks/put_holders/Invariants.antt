use Rattle.std.proofs.Common.{◌≡◌, ◌++◌, take}
use Rattle.std.specs.List.{flat_map}
use Rattle.sb_machine.specs.Consistent.{holder_lock}
use Rattle.sb_judge.proofs.locks.put_holders.Given as goal

abbrev pub invariant-loop-session : goal.invariant-loop-session
invariant-loop-session l = l.out.items ≡ l.fn.out.items ++ flat_map holder_lock (take l.session-index l.sessions)
