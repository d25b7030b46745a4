use Rattle.std.proofs.Common.{Some, None, refl}
use Rattle.sb_machine.proofs.Places.{set_is, nothing_set}
use Rattle.sb_entities.specs.Stocks.{has_number, entry_after, IsReady}
use Rattle.sb_entities.specs.Stores.{entries_in}
use Rattle.sb_entities.proofs.Steps.{placed, at_placed}
use Rattle.sb_entities.proofs.rows.change_row.Goals as goal

pub change_at-requires-clause-ready : goal.change_at-requires-clause-ready
change_at-requires-clause-ready c = at_placed (IsReady c.args.change) c.args.number c.in-Some.at c.args.rows.now.items _ c.deref.ensures.value c.in-Some.ensures c.requires.ready

pub returns-in-Some-clause-rows : goal.returns-in-Some-clause-rows
returns-in-Some-clause-rows c =
    set_is (has_number c.args.number) (entry_after c.args.moment c.args.change) c.in-Some.at (entries_in c.args.rows.now.items) (entries_in c.args.rows.now.items) (entries_in c.change_at.new.rows.items) refl
    (placed c.args.number (Some c.in-Some.at) c.args.rows.now.items _ c.deref.ensures.value c.in-Some.ensures) c.change_at.ensures.rows

pub returns-in-None-clause-rows : goal.returns-in-None-clause-rows
returns-in-None-clause-rows c =
    nothing_set (has_number c.args.number) (entry_after c.args.moment c.args.change) (entries_in c.args.rows.now.items) (entries_in c.args.rows.now.items) refl
    (placed c.args.number None c.args.rows.now.items _ c.deref.ensures.value c.in-None.ensures)
