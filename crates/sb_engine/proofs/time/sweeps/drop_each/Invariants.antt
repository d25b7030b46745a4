use Rattle.std.proofs.Common.{◌≡◌, ◌++◌, drop, map}
use Rattle.std.specs.Prelude.{nat_le}
use Rattle.std.specs.List.{filter}
use Rattle.sb_machine.specs.declared.change.Change.TheVariants.{Drops}
use Rattle.sb_txn.specs.Txns.{transactions_of}
use Rattle.sb_engine.proofs.time.sweeps.drop_each.Given as goal

-- those dropped so far, and those still to be dropped, are all
abbrev pub invariant-loop-row : goal.invariant-loop-row
invariant-loop-row l =
    l.changes ++ map (λ x. Drops x.number) (filter (λ x. nat_le x.deadline l.moment) (transactions_of (drop l.row-index l.rows)))
    ≡ l.initial.changes ++ map (λ x. Drops x.number) (filter (λ x. nat_le x.deadline l.moment) (transactions_of l.rows))
