use Rattle.sb_checkpoint.proofs.Each.{all_at_end}
use Rattle.sb_checkpoint.proofs.Taking.{takes_exit}
use Rattle.sb_checkpoint.proofs.items.put_items.Goals as goal

pub returns-in_err-put_item-clause-takes : goal.returns-in_err-put_item-clause-takes
returns-in_err-put_item-clause-takes g c = takes_exit g.P.Pieces c.args.out.now c.loop-item.out c.put_item.new.out _ _ c.in_err-put_item.field-0.0 c.from_residual.result c.loop-item.invariant.takes c.in_err-put_item.ensures.takes c.from_residual.ensures.1

pub returns-clause-fits : goal.returns-clause-fits
returns-clause-fits g c = all_at_end g.F.Piece.form.Fits c.args.items.now c.loop-item.item-index c.loop-item-test.false c.loop-item.invariant.fits
