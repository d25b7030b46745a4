use Rattle.std.proofs.Common.{arith, length-take}
use Rattle.sb_input.proofs.Errors.{on_error}
use Rattle.sb_input.proofs.Splits.{ended_of, stays_took}
use Rattle.sb_input.proofs.reader.read_piece.Goals as goal

pub returns-clause-ended : goal.returns-clause-ended
returns-clause-ended g c none =
    ended_of _ _ _ _ _ c.in_ok-count.ensures.bytes c.in_ok-count.ensures.ends (omega (arith, length-take c.args.room c.args.piece.now, c.requires.room, c.requires.some)) none

pub returns-in_err-count-clause-stays : goal.returns-in_err-count-clause-stays
returns-in_err-count-clause-stays g c = on_error _ c.from_residual.result (stays_took _ _ c.in_err-count.ensures.stays)
