use Rattle.std.proofs.Common.{◌++◌}
use Rattle.sb_machine.specs.Sending.{receipts, send_changes}
use Rattle.sb_entities.specs.Stores.{entity_in, space_in}
use Rattle.sb_engine.specs.Sendings.{space_at, told}
use Rattle.sb_engine.proofs.Sendings.{IsOnTheWay}
use Rattle.sb_engine.proofs.deliver.sending.send_all.Given as goal

abbrev pub invariant-loop-message : goal.invariant-loop-message
invariant-loop-message l =
    let s = space_in l.space in
    let e = entity_in l.entity in
    let p = told l.initial.sending in
    IsOnTheWay l.moment s e l.messages l.message-index (p.changes ++ send_changes l.moment e l.messages (space_at l.moment s p)) (p.receipts ++ receipts l.moment e l.messages (space_at l.moment s p)) (told l.sending)
