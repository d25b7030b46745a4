use Rattle.sb_entities.specs.Stores.{space_in}
use Rattle.sb_engine.proofs.Numbering.{locks_after, fits_as}
use Rattle.sb_engine.proofs.plan.numbers.locks_fit.Goals as goal

pub returns : goal.returns
returns c t = fits_as c.last_lock.result c.given.result _ _ _ c.fits.ensures c.last_lock.ensures c.given.ensures (locks_after t c.args.changes.now (space_in c.args.space.now))
