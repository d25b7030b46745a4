use Rattle.sb_machine.specs.Leaves.{is_held_under, remembered}
use Rattle.sb_machine.proofs.Places.{nothing}
use Rattle.sb_sessions.proofs.Seats.{write_known}
use Rattle.sb_sessions.proofs.rows.write_row.Goals as goal

pub returns-in-Some-clause-rows : goal.returns-in-Some-clause-rows
returns-in-Some-clause-rows c = write_known c.args.lock c.args.state c.in-Some.place c.args.rows.now.items _ c.write_at.new.rows.items c.deref.ensures.value c.in-Some.ensures c.write_at.ensures.rows

pub returns-in_default-clause-rows : goal.returns-in_default-clause-rows
returns-in_default-clause-rows c = nothing (is_held_under c.args.lock) (λ x. remembered (record x { state = c.args.state })) c.args.rows.now.items _ c.deref.ensures.value c.in_default.ensures
