use Rattle.std.proofs.Common.{rules, ap, ◌∙◌}
use Rattle.std.proofs.lemmas.Fn.{filter_same}
use Rattle.sb_txn.specs.Txns.{Opened, transactions_of, is_elsewhere}
use Rattle.sb_txn.proofs.Kept.{removed_kept, removed_slots, slots_within}
use Rattle.sb_txn.proofs.Views.{filter_seen}
use Rattle.sb_txn.proofs.rows.remove_rows.Goals as goal

pub slots_on-slots-requires : goal.slots_on-slots-requires
slots_on-slots-requires c = slots_within c.args.entity _ c.args.rows.now.items _ c.deref-2.ensures.value c.requires.within

pub returns-clause-rows : goal.returns-clause-rows
returns-clause-rows c = filter_same _ _ _ (λ x b f' k. search rules) _ _ c.retain.ensures.filtered

pub returns-clause-transactions : goal.returns-clause-transactions
returns-clause-transactions c = ap transactions_of (returns-clause-rows c) ∙ filter_seen (λ (r : Opened). r.transaction) (is_elsewhere c.args.entity) c.args.rows.now.items

pub returns-clause-kept : goal.returns-clause-kept
returns-clause-kept c =
    removed_kept c.args.entity c.args.rows.now.items _ c.retain.new.self.items c.args.keys.now c.forget_of.new.index c.deref.ensures.value c.forget_of.ensures.keys c.forget_of.ensures.spare (returns-clause-rows c) c.requires.kept

pub returns-clause-slots : goal.returns-clause-slots
returns-clause-slots c = removed_slots c.args.entity c.slots_on-slots.result c.args.rows.now.items _ c.retain.new.self.items c.deref-2.ensures.value c.slots_on-slots.ensures (returns-clause-rows c)
