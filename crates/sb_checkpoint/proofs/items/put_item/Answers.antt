use Rattle.sb_checkpoint.proofs.Fitting.{on_ok}
use Rattle.sb_checkpoint.proofs.items.put_item.Goals as goal

pub returns-clause-fits : goal.returns-clause-fits
returns-clause-fits g c = on_ok c.put_bytes.result (g.F.Piece.form.Fits c.args.value.now) c.in_ok-put.ensures.fits
