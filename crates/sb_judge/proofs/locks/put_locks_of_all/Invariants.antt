use Rattle.std.proofs.Common.{◌≡◌, ◌++◌, take}
use Rattle.std.specs.List.{flat_map}
use Rattle.sb_machine.specs.Consistent.{locks_in}
use Rattle.sb_judge.proofs.locks.put_locks_of_all.Given as goal

abbrev pub invariant-loop-entity : goal.invariant-loop-entity
invariant-loop-entity l = l.out.items ≡ l.fn.out.items ++ flat_map (λ e. locks_in e.main ++ locks_in e.dead ++ locks_in e.transfer) (take l.entity-index l.entities)
