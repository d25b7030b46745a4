use Rattle.sb_entities.specs.Stores.{space_in}
use Rattle.sb_engine.proofs.Numbering.{txns_after, fits_as}
use Rattle.sb_engine.proofs.plan.numbers.transactions_fit.Goals as goal

pub returns : goal.returns
returns c t = fits_as c.last_txn.result c.given.result _ _ _ c.fits.ensures c.last_txn.ensures c.given.ensures (txns_after t c.args.changes.now (space_in c.args.space.now))
