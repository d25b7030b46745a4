use Rattle.std.proofs.Common.{[], refl, ap, ◌∙◌}
use Rattle.std.specs.Option.{option_map}
use Rattle.sb_machine.specs.Changes.{is_transaction}
use Rattle.sb_machine.proofs.Places.{take_is, taken_is, nothing_taken, taken_none}
use Rattle.sb_txn.specs.Txns.{Opened, transactions_of, has_txn}
use Rattle.sb_txn.proofs.Kept.{taken_kept, taken_slots}
use Rattle.sb_txn.proofs.Views.{find_seen, changed_seen}
use Rattle.sb_txn.proofs.rows.take_row.Goals as goal

pub returns-in_default-clause-taken : goal.returns-in_default-clause-taken
returns-in_default-clause-taken c = taken_none (has_txn c.args.number) c.args.rows.now.items _ c.deref.ensures.value c.in_default.ensures

pub returns-in_default-clause-transaction : goal.returns-in_default-clause-transaction
returns-in_default-clause-transaction c = ap (option_map (λ (r : Opened). r.transaction)) (returns-in_default-clause-taken c) ∙ find_seen (λ (r : Opened). r.transaction) (is_transaction c.args.number) c.args.rows.now.items

pub returns-in_default-clause-rows : goal.returns-in_default-clause-rows
returns-in_default-clause-rows c = nothing_taken (has_txn c.args.number) c.args.rows.now.items _ c.deref.ensures.value c.in_default.ensures

pub returns-in_default-clause-transactions : goal.returns-in_default-clause-transactions
returns-in_default-clause-transactions c =
    ap transactions_of (returns-in_default-clause-rows c)
    ∙ changed_seen (λ (r : Opened). r.transaction) (is_transaction c.args.number) (λ r. []) (λ x. []) (λ r. refl) c.args.rows.now.items

pub returns-clause-taken : goal.returns-clause-taken
returns-clause-taken c = taken_is (has_txn c.args.number) c.in-Some.place c.remove-row.result c.args.rows.now.items _ c.deref.ensures.value c.in-Some.ensures c.remove-row.ensures.value

pub returns-clause-transaction : goal.returns-clause-transaction
returns-clause-transaction c = ap (option_map (λ (r : Opened). r.transaction)) (returns-clause-taken c) ∙ find_seen (λ (r : Opened). r.transaction) (is_transaction c.args.number) c.args.rows.now.items

pub returns-clause-rows : goal.returns-clause-rows
returns-clause-rows c = take_is (has_txn c.args.number) c.in-Some.place c.args.rows.now.items _ c.remove-row.new.self.items c.deref.ensures.value c.in-Some.ensures c.remove-row.ensures.items

pub returns-clause-transactions : goal.returns-clause-transactions
returns-clause-transactions c =
    ap transactions_of (returns-clause-rows c)
    ∙ changed_seen (λ (r : Opened). r.transaction) (is_transaction c.args.number) (λ r. []) (λ x. []) (λ r. refl) c.args.rows.now.items

pub returns-clause-kept : goal.returns-clause-kept
returns-clause-kept c =
    taken_kept c.args.number c.remove-row.result c.args.rows.now.items c.remove-row.new.self.items c.args.keys.now c.forget.new.index (returns-clause-taken c) c.forget.ensures.keys c.forget.ensures.spare (returns-clause-rows c) c.requires.kept

pub returns-clause-slots : goal.returns-clause-slots
returns-clause-slots c = taken_slots c.args.number c.remove-row.result c.args.rows.now.items c.remove-row.new.self.items (returns-clause-taken c) (returns-clause-rows c)
