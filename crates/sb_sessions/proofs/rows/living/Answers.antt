use Rattle.sb_machine.specs.Leases.{is_living_holder}
use Rattle.sb_machine.proofs.Places.{found_at, found_none}
use Rattle.sb_sessions.proofs.rows.living.Goals as goal

pub returns-in-Some : goal.returns-in-Some
returns-in-Some c = found_at (is_living_holder c.args.moment c.args.lock) c.args.rows.now c.in-Some.place c.index-rows-place.result c.in-Some.ensures c.index-rows-place.is

pub returns-in-None : goal.returns-in-None
returns-in-None c = found_none (is_living_holder c.args.moment c.args.lock) c.args.rows.now c.in-None.ensures
