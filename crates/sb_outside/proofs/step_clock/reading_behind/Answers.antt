use Rattle.std.proofs.Common.{◌*◌, ◌^◌}
use Rattle.std.proofs.Math.Nat.{add-mod-mod}
use Rattle.sb_outside.proofs.step_clock.reading_behind.Goals as goal

pub returns : goal.returns
returns c = (c.args.pauses, add-mod-mod c.args.start_ms (c.args.pauses * c.args.step_ms) (2 ^ 64))
