use Rattle.sb_sessions.proofs.Seats.{open_new, open_known}
use Rattle.sb_sessions.proofs.rows.open_row.Goals as goal

pub returns-in_default-clause-rows : goal.returns-in_default-clause-rows
returns-in_default-clause-rows c = open_new c.args.lock c.args.id _ c.args.until c.args.rows.now.items _ c.insert_row.new.rows.items c.as_str.ensures c.deref.ensures.value c.in_default.ensures c.insert_row.ensures.rows

pub returns-clause-rows : goal.returns-clause-rows
returns-clause-rows c = open_known c.args.lock c.args.id _ c.args.until c.in-Some.place c.args.rows.now.items _ c.hold_at.new.rows.items c.as_str.ensures c.deref.ensures.value c.in-Some.ensures c.hold_at.ensures.rows
