use Rattle.std.proofs.Common.{◌≡◌, ◌++◌, take}
use Rattle.std.specs.List.{flat_map}
use Rattle.sb_machine.specs.Consistent.{queued_lock}
use Rattle.sb_judge.proofs.locks.put_queued_of_all.Given as goal

abbrev pub invariant-loop-transaction : goal.invariant-loop-transaction
invariant-loop-transaction l = l.out.items ≡ l.fn.out.items ++ flat_map (λ x. flat_map queued_lock x.operations) (take l.transaction-index l.transactions)
