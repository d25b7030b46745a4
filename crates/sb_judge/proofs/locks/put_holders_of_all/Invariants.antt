use Rattle.std.proofs.Common.{◌≡◌, ◌++◌, take}
use Rattle.std.specs.List.{flat_map}
use Rattle.sb_machine.specs.Consistent.{holder_lock}
use Rattle.sb_judge.proofs.locks.put_holders_of_all.Given as goal

abbrev pub invariant-loop-entity : goal.invariant-loop-entity
invariant-loop-entity l = l.out.items ≡ l.fn.out.items ++ flat_map (λ e. flat_map holder_lock e.main.sessions ++ flat_map holder_lock e.dead.sessions ++ flat_map holder_lock e.transfer.sessions) (take l.entity-index l.entities)
