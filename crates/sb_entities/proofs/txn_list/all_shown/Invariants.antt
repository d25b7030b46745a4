use Rattle.std.proofs.Common.{◌≡◌, ◌++◌, drop, map}
use Rattle.sb_machine.specs.Looks.{transaction_shown}
use Rattle.sb_txn.specs.Txns.{transactions_of}
use Rattle.sb_entities.specs.Stores.{space_in}
use Rattle.sb_entities.proofs.txn_list.all_shown.Given as goal

-- those shown so far, and those still to be shown, are all
abbrev pub invariant-loop-row : goal.invariant-loop-row
invariant-loop-row l = l.shown ++ map (transaction_shown (space_in l.space)) (transactions_of (drop l.row-index l.rows)) ≡ map (transaction_shown (space_in l.space)) (transactions_of l.rows)
