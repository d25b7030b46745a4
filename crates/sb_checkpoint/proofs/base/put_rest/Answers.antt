use Rattle.std.proofs.Common.{subst}
use Rattle.std.proofs.lemmas.Result.{on_ok_weaker}
use Rattle.sb_codec.specs.Forms.{number64}
use Rattle.sb_checkpoint.proofs.base.put_rest.Goals as goal

pub returns-clause-fits : goal.returns-clause-fits
returns-clause-fits g c few = on_ok_weaker c.put_lists.result (λ others. (subst number64.Fits c.removed.ensures c.in_ok-put_number.ensures.fits, others)) (c.put_lists.ensures.fits few)
