use Rattle.std.proofs.Common.{subst, sym}
use Rattle.std.proofs.lemmas.List.Elements.{All-map}
use Rattle.sb_checkpoint.proofs.Each.{all_before, all_at_end}
use Rattle.sb_checkpoint.proofs.items.put_found.Goals as goal

pub put_item-requires : goal.put_item-requires
put_item-requires g c = subst (λ x. g.F.Piece.form.Asks x.now) (sym c.item-item.is) (all_before g.F.Piece.form.Asks (λ x. x.now) c.args.items.now c.requires c.loop-item.item-index c.item-item.result c.loop-item-test.true)

pub returns-clause-fits : goal.returns-clause-fits
returns-clause-fits g c = All-map g.F.Piece.form.Fits (λ x. x.now) c.args.items.now (all_at_end (λ x. g.F.Piece.form.Fits x.now) c.args.items.now c.loop-item.item-index c.loop-item-test.false c.loop-item.invariant.fits)
