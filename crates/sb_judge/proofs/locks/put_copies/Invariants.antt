use Rattle.std.proofs.Common.{◌≡◌, ◌++◌, take}
use Rattle.std.specs.List.{flat_map}
use Rattle.sb_machine.specs.Ends.{lock_in}
use Rattle.sb_judge.proofs.locks.put_copies.Given as goal

abbrev pub invariant-loop-copy : goal.invariant-loop-copy
invariant-loop-copy l = l.out.items ≡ l.fn.out.items ++ flat_map (λ c. lock_in c.standing) (take l.copy-index l.copies)
