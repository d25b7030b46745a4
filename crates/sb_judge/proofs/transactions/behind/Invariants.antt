use Rattle.std.proofs.Common.{◌≡◌, drop, sum_by}
use Rattle.sb_machine.specs.Queueing.{weight, max_operations}
use Rattle.sb_judge.specs.Messages.{less}
use Rattle.sb_judge.proofs.transactions.behind.Given as goal

abbrev pub invariant-loop-operation : goal.invariant-loop-operation
invariant-loop-operation l = less l.left (sum_by weight (drop l.operation-index l.operations)) ≡ less max_operations (sum_by weight l.operations)
