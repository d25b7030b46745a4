use Rattle.std.proofs.Common.{Some, None, refl}
use Rattle.sb_machine.proofs.Places.{set_is, nothing_set}
use Rattle.sb_entities.specs.Released.{entry_shrunk}
use Rattle.sb_entities.specs.Stocks.{has_number}
use Rattle.sb_entities.specs.Stores.{entries_in}
use Rattle.sb_entities.proofs.Steps.{placed}
use Rattle.sb_entities.proofs.WayBack.{shrunk_unseen}
use Rattle.sb_entities.proofs.rows.release_row.Goals as goal

pub returns-in-Some-clause-rows : goal.returns-in-Some-clause-rows
returns-in-Some-clause-rows c =
    set_is (has_number c.args.number) (entry_shrunk c.args.place) c.in-Some.at (entries_in c.args.rows.now.items) (entries_in c.args.rows.now.items) (entries_in c.release_at.new.rows.items) refl
    (placed c.args.number (Some c.in-Some.at) c.args.rows.now.items _ c.deref.ensures.value c.in-Some.ensures) c.release_at.ensures.rows

pub returns-in-Some-clause-entities : goal.returns-in-Some-clause-entities
returns-in-Some-clause-entities c = shrunk_unseen c.args.number c.args.place c.args.rows.now.items c.release_at.new.rows.items (returns-in-Some-clause-rows c)

pub returns-in_default-clause-rows : goal.returns-in_default-clause-rows
returns-in_default-clause-rows c =
    nothing_set (has_number c.args.number) (entry_shrunk c.args.place) (entries_in c.args.rows.now.items) (entries_in c.args.rows.now.items) refl
    (placed c.args.number None c.args.rows.now.items _ c.deref.ensures.value c.in_default.ensures)
