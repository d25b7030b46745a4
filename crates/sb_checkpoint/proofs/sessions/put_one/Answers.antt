use Rattle.sb_snapshot.specs.Sessions.{in_part, session}
use Rattle.sb_checkpoint.proofs.Fitting.{on_ok}
use Rattle.sb_checkpoint.proofs.sessions.put_one.Goals as goal

pub returns-clause-fits : goal.returns-clause-fits
returns-clause-fits g c = on_ok c.put_bytes.result (session.Fits (in_part c.args.key.now c.args.session.now)) c.in_ok-put_session.ensures.fits
