use Rattle.std.proofs.Common.{[], ◌∷◌, refl, ap, ◌∙◌}
use Rattle.sb_machine.specs.Changes.{is_transaction}
use Rattle.sb_machine.proofs.Places.{set_is, nothing_set}
use Rattle.sb_txn.specs.Txns.{Opened, transactions_of, has_txn, with_less_room}
use Rattle.sb_txn.proofs.Releasing.{released_slots, released_kept}
use Rattle.sb_txn.proofs.Views.{unseen}
use Rattle.sb_txn.proofs.rows.release_row.Goals as goal

pub returns-in-None-clause-rows : goal.returns-in-None-clause-rows
returns-in-None-clause-rows c = nothing_set (has_txn c.args.number) with_less_room c.args.rows.now.items _ c.deref.ensures.value c.in-None.ensures

pub returns-in-Some-clause-rows : goal.returns-in-Some-clause-rows
returns-in-Some-clause-rows c = set_is (has_txn c.args.number) with_less_room c.in-Some.place c.args.rows.now.items _ c.release_at.new.rows.items c.deref.ensures.value c.in-Some.ensures c.release_at.ensures.rows

pub returns-in-Some-clause-transactions : goal.returns-in-Some-clause-transactions
returns-in-Some-clause-transactions c = ap transactions_of (returns-in-Some-clause-rows c) ∙ unseen (λ (r : Opened). r.transaction) (is_transaction c.args.number) (λ r. with_less_room r ∷ []) (λ r. refl) c.args.rows.now.items

pub returns-in-Some-clause-slots : goal.returns-in-Some-clause-slots
returns-in-Some-clause-slots c = released_slots c.args.number c.in-Some.place c.release_at.result c.args.rows.now.items _ c.release_at.new.rows.items c.deref.ensures.value c.in-Some.ensures c.release_at.ensures.slots (returns-in-Some-clause-rows c)

pub returns-in-Some-clause-kept : goal.returns-in-Some-clause-kept
returns-in-Some-clause-kept c = released_kept c.args.number c.release_at.result c.args.rows.now.items c.release_at.new.rows.items c.args.keys.now (returns-in-Some-clause-slots c) (returns-in-Some-clause-rows c) c.requires.kept
