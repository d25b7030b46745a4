use Rattle.std.proofs.Common.{◌==◌}
use Rattle.sb_model.specs.SystemNames.{system_code}
use Rattle.sb_machine.proofs.Places.{found_at, found_none}
use Rattle.sb_machine.proofs.lookups.named.Goals as goal

pub returns-in-Some : goal.returns-in-Some
returns-in-Some c = found_at (λ x. system_code x.name == c.args.code) c.args.sys.now c.in-Some.place c.index-sys-place.result c.in-Some.ensures c.index-sys-place.is

pub returns-in-None : goal.returns-in-None
returns-in-None c = found_none (λ x. system_code x.name == c.args.code) c.args.sys.now c.in-None.ensures
