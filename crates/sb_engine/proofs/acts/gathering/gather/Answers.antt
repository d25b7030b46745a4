use Rattle.std.proofs.Common.{refl, ◌++◌}
use Rattle.sb_laws.specs.Gathered.{operations_in}
use Rattle.sb_machine.specs.Together.{unqueued}
use Rattle.sb_engine.proofs.Gatherings.{adds_end, adds_next, operations_more, unqueued_more}
use Rattle.sb_engine.proofs.acts.gathering.gather.Goals as goal

pub loop-change-preserved : goal.loop-change-preserved
loop-change-preserved c =
    let before = c.loop-change.gathering in
    let after = c.add.new.gathering in
    let all = c.args.draft.changes in
    record {
      operations = adds_next operations_in operations_more before.operations.items after.operations.items c.in-Some.change c.loop-change.left c.take_first.new.self (c.args.gathering.now.operations.items ++ operations_in all) c.in-Some.ensures.some c.in_ok-add.ensures.operations c.loop-change.invariant.operations;
      changes = adds_next unqueued unqueued_more before.changes after.changes c.in-Some.change c.loop-change.left c.take_first.new.self (c.args.gathering.now.changes ++ unqueued all) c.in-Some.ensures.some c.in_ok-add.ensures.changes c.loop-change.invariant.changes;
    }

pub returns-clause-operations : goal.returns-clause-operations
returns-clause-operations c = adds_end operations_in refl c.loop-change.gathering.operations.items c.loop-change.left (c.args.gathering.now.operations.items ++ operations_in c.args.draft.changes) (c.in_default.ensures.none refl) c.loop-change.invariant.operations

pub returns-clause-changes : goal.returns-clause-changes
returns-clause-changes c = adds_end unqueued refl c.loop-change.gathering.changes c.loop-change.left (c.args.gathering.now.changes ++ unqueued c.args.draft.changes) (c.in_default.ensures.none refl) c.loop-change.invariant.changes
