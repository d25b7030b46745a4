use Rattle.sb_server.proofs.Emptied.{took_nothing}
use Rattle.sb_server.proofs.came.take_one.Goals as goal

pub returns-in_default-clause-took : goal.returns-in_default-clause-took
returns-in_default-clause-took g c = took_nothing c.reader.inside.incoming c.args.reader.now c.in_default.is c.reader.view_is
