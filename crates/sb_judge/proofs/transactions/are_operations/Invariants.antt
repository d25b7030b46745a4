use Rattle.std.proofs.Common.{◌≡◌, drop}
use Rattle.std.specs.List.{list_all}
use Rattle.sb_judge.specs.Transactions.{operation_verdict}
use Rattle.sb_judge.proofs.transactions.are_operations.Given as goal

abbrev pub invariant-loop-operation : goal.invariant-loop-operation
invariant-loop-operation l = list_all (λ o. (operation_verdict l.space l.entity o).0) (drop l.operation-index l.operations) ≡ list_all (λ o. (operation_verdict l.space l.entity o).0) l.operations
