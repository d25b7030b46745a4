use Rattle.std.proofs.Common.{[], drop, ◌++◌, ◌≡◌}
use Rattle.sb_machine.specs.Changes.{in_turn}
use Rattle.sb_machine.specs.Together.{all_receipts}
use Rattle.sb_machine.specs.Transactions.{operation_changes}
use Rattle.sb_entities.specs.Stores.{entity_in, space_in}
use Rattle.sb_engine.specs.Commits.{AsFound}
use Rattle.sb_engine.specs.Sendings.{space_at, told}
use Rattle.sb_engine.proofs.Turns.{IsTurning}
use Rattle.sb_engine.proofs.deliver.committing.act_all.Given as goal

-- what is left gives all changes and all receipts
abbrev pub invariant-loop-operation : goal.invariant-loop-operation
invariant-loop-operation l =
    let s = space_in l.space in
    let e = entity_in l.entity in
    let p = told l.initial.sending in
    let now = told l.sending in
    IsTurning l.moment s e.about.number (operation_changes l.moment e) l.operations l.operation-index (p.changes ++ in_turn (operation_changes l.moment e) l.moment l.operations (space_at l.moment s p)) now
    × AsFound l.moment s e l.done.items (space_at l.moment s now)
    × (now.receipts ≡ [])
    × (l.sent.items ++ all_receipts l.moment e (drop l.operation-index l.operations) (space_at l.moment s now) ≡ l.initial.sent.items ++ all_receipts l.moment e l.operations (space_at l.moment s p))
