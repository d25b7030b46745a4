use Rattle.std.proofs.Common.{Some, None, refl}
use Rattle.sb_machine.proofs.Places.{set_is, nothing_set}
use Rattle.sb_entities.specs.Stocks.{has_number, entry_grown}
use Rattle.sb_entities.specs.Stores.{entries_in}
use Rattle.sb_entities.proofs.Steps.{on_ok, on_err, either, placed, grown_unseen, same_unseen}
use Rattle.sb_entities.proofs.rows.reserve_row.Goals as goal

pub returns-in-Some-clause-ok : goal.returns-in-Some-clause-ok
returns-in-Some-clause-ok c =
    on_ok c.reserve_at.result _ _ (set_is (has_number c.args.number) (entry_grown c.args.place) c.in-Some.at (entries_in c.args.rows.now.items) (entries_in c.args.rows.now.items) (entries_in c.reserve_at.new.rows.items) refl
    (placed c.args.number (Some c.in-Some.at) c.args.rows.now.items _ c.deref.ensures.value c.in-Some.ensures)) c.reserve_at.ensures.ok

pub returns-in-None-clause-ok : goal.returns-in-None-clause-ok
returns-in-None-clause-ok c =
    nothing_set (has_number c.args.number) (entry_grown c.args.place) (entries_in c.args.rows.now.items) (entries_in c.args.rows.now.items) refl
    (placed c.args.number None c.args.rows.now.items _ c.deref.ensures.value c.in-None.ensures)

pub returns-in-Some-clause-entities : goal.returns-in-Some-clause-entities
returns-in-Some-clause-entities c =
    either c.reserve_at.result _
    (on_ok c.reserve_at.result _ _ (grown_unseen c.args.number c.args.place c.args.rows.now.items c.reserve_at.new.rows.items) (returns-in-Some-clause-ok c))
    (on_err c.reserve_at.result _ _ (same_unseen c.args.rows.now.items c.reserve_at.new.rows.items) c.reserve_at.ensures.err)
