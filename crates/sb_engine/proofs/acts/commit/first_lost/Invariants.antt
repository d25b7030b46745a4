use Rattle.std.proofs.Common.{◌≡◌, drop, find}
use Rattle.sb_machine.specs.Transactions.{is_lost}
use Rattle.sb_entities.specs.Stores.{entity_in, space_in}
use Rattle.sb_engine.proofs.acts.commit.first_lost.Given as goal

abbrev pub invariant-loop-operation : goal.invariant-loop-operation
invariant-loop-operation l = find (is_lost (space_in l.space) l.moment (entity_in l.entity)) (drop l.operation-index l.operations) ≡ find (is_lost (space_in l.space) l.moment (entity_in l.entity)) l.operations
