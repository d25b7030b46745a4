use Rattle.std.proofs.Common.{ap}
use Rattle.clap.specs.Simple.{app_of_fields}
use Rattle.sb_words.proofs.command_line.called_bus.Goals as goal

pub returns-clause-app : goal.returns-clause-app
returns-clause-app c = ap app_of_fields c.in_ok-called.ensures.0
