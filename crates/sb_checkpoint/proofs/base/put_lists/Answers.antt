use Rattle.std.proofs.lemmas.Result.{on_ok_weaker}
use Rattle.sb_checkpoint.proofs.base.put_lists.Goals as goal

pub returns-clause-fits : goal.returns-clause-fits
returns-clause-fits g c few = on_ok_weaker c.put_clients.result (λ clients. (c.in_ok-put_sessions.ensures.fits few, (c.in_ok-put_transactions.ensures.fits, clients))) c.put_clients.ensures.fits
