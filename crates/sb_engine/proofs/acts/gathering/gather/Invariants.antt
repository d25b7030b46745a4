use Rattle.std.proofs.Common.{◌≡◌, ◌++◌, length}
use Rattle.sb_laws.specs.Gathered.{operations_in}
use Rattle.sb_machine.specs.Together.{unqueued}
use Rattle.sb_engine.proofs.acts.gathering.gather.Given as goal

-- what is left gives all
abbrev pub invariant-loop-change : goal.invariant-loop-change
invariant-loop-change l = record {
  operations : l.gathering.operations.items ++ operations_in l.left ≡ l.initial.gathering.operations.items ++ operations_in l.fn.draft.changes;
  changes : l.gathering.changes ++ unqueued l.left ≡ l.initial.gathering.changes ++ unqueued l.fn.draft.changes;
}

abbrev pub decreases-loop-change : goal.decreases-loop-change
decreases-loop-change l = length l.left
