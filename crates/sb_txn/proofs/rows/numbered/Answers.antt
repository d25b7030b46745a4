use Rattle.std.proofs.Common.{ap, ◌∙◌}
use Rattle.std.specs.Option.{option_map}
use Rattle.sb_machine.specs.Changes.{is_transaction}
use Rattle.sb_machine.proofs.Places.{found_at, found_none}
use Rattle.sb_txn.specs.Txns.{Opened, has_txn}
use Rattle.sb_txn.proofs.Views.{find_seen}
use Rattle.sb_txn.proofs.rows.numbered.Goals as goal

pub returns-in-Some-clause-row : goal.returns-in-Some-clause-row
returns-in-Some-clause-row c = found_at (has_txn c.args.number) c.args.rows.now c.in-Some.place c.index-rows-place.result c.in-Some.ensures c.index-rows-place.is

pub returns-in-None-clause-row : goal.returns-in-None-clause-row
returns-in-None-clause-row c = found_none (has_txn c.args.number) c.args.rows.now c.in-None.ensures

pub returns-in-Some-clause-transaction : goal.returns-in-Some-clause-transaction
returns-in-Some-clause-transaction c = ap (option_map (λ (r : Opened). r.transaction)) (returns-in-Some-clause-row c) ∙ find_seen (λ (r : Opened). r.transaction) (is_transaction c.args.number) c.args.rows.now

pub returns-in-None-clause-transaction : goal.returns-in-None-clause-transaction
returns-in-None-clause-transaction c = ap (option_map (λ (r : Opened). r.transaction)) (returns-in-None-clause-row c) ∙ find_seen (λ (r : Opened). r.transaction) (is_transaction c.args.number) c.args.rows.now
