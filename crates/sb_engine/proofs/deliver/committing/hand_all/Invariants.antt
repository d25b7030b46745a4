use Rattle.std.proofs.Common.{drop, ◌++◌, ◌≡◌}
use Rattle.sb_machine.specs.Changes.{in_turn}
use Rattle.sb_machine.specs.Together.{handed_receipts}
use Rattle.sb_machine.specs.Transactions.{handed_on}
use Rattle.sb_entities.specs.Stores.{entity_in, space_in}
use Rattle.sb_engine.specs.Sendings.{space_at, told}
use Rattle.sb_engine.proofs.Turns.{IsTurning}
use Rattle.sb_engine.proofs.deliver.committing.hand_all.Given as goal

-- what is left gives all changes and all receipts
abbrev pub invariant-loop-message : goal.invariant-loop-message
invariant-loop-message l =
    let s = space_in l.space in
    let e = entity_in l.entity in
    let p = told l.initial.sending in
    let now = told l.sending in
    IsTurning l.moment s e.about.number (handed_on e l.to) l.messages l.message-index (p.changes ++ in_turn (handed_on e l.to) l.moment l.messages (space_at l.moment s p)) now
    × (now.receipts ++ handed_receipts l.moment e l.to (drop l.message-index l.messages) (space_at l.moment s now) ≡ p.receipts ++ handed_receipts l.moment e l.to l.messages (space_at l.moment s p))
