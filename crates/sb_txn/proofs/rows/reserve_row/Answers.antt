use Rattle.std.proofs.Common.{[], ◌∷◌, refl, ap, ◌∙◌}
use Rattle.sb_machine.specs.Changes.{is_transaction}
use Rattle.sb_machine.proofs.Places.{set_is, nothing_set}
use Rattle.sb_txn.specs.Txns.{Opened, transactions_of, has_txn, with_room}
use Rattle.sb_txn.proofs.Kept.{had_least, reserved_slots, reserved_kept}
use Rattle.sb_txn.proofs.Views.{unseen}
use Rattle.sb_txn.proofs.rows.reserve_row.Goals as goal

pub returns-in_default-clause-ok : goal.returns-in_default-clause-ok
returns-in_default-clause-ok c = nothing_set (has_txn c.args.number) (with_room c.args.count) c.args.rows.now.items _ c.deref.ensures.value c.in_default.ensures

pub slots_with-requires : goal.slots_with-requires
slots_with-requires c = had_least c.args.number c.in-Some.place c.spare_at-had.result c.args.slots.now c.args.rows.now.items _ _ c.deref.ensures.value c.deref-2.ensures.value c.in-Some.ensures c.spare_at-had.ensures c.requires.slots

pub returns-clause-ok : goal.returns-clause-ok
returns-clause-ok c = set_is (has_txn c.args.number) (with_room c.args.count) c.in-Some.place c.args.rows.now.items _ c.reserve_at.new.rows.items c.deref.ensures.value c.in-Some.ensures c.in_ok-reserve_at.ensures.ok

pub returns-clause-transactions : goal.returns-clause-transactions
returns-clause-transactions c = ap transactions_of (returns-clause-ok c) ∙ unseen (λ (r : Opened). r.transaction) (is_transaction c.args.number) (λ r. with_room c.args.count r ∷ []) (λ r. refl) c.args.rows.now.items

pub returns-clause-slots : goal.returns-clause-slots
returns-clause-slots c =
    reserved_slots c.args.number c.in-Some.place c.args.count c.spare_at-had.result c.in-Some-slots_with.wanted c.args.slots.now c.args.rows.now.items _ _ c.reserve_at.new.rows.items c.deref.ensures.value c.deref-2.ensures.value c.in-Some.ensures c.spare_at-had.ensures
    c.requires.slots c.in-Some-slots_with.ensures (returns-clause-ok c)

pub returns-clause-kept : goal.returns-clause-kept
returns-clause-kept c =
    reserved_kept c.args.number c.args.count c.in-Some-slots_with.wanted c.args.rows.now.items c.reserve_at.new.rows.items c.args.keys.now c.reserve.new.self (returns-clause-slots c) c.reserve.ensures.rows c.in_ok-reserve.ensures.spare (returns-clause-ok c) c.requires.kept
