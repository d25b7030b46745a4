use Rattle.std.proofs.Common.{[], vec_len, sym, subst, arith}
use Rattle.std.specs.Prelude.{vec_capacity}
use Rattle.sb_codec.proofs.Room.{full_at}
use Rattle.sb_codec.proofs.Following.{each_fits, fit_at_end, puts_err}
use Rattle.sb_codec.proofs.lists.put_items.Goals as goal

pub put-requires : goal.put-requires
put-requires g c = subst g.F.Piece.form.Asks (sym c.item-item.is) (each_fits g.F.Piece.form.Asks g.F.Item.follows c.args.items.now c.requires c.loop-item.item-index _ c.loop-item-test.true)

pub returns-in_err-put-clause-puts : goal.returns-in_err-put-clause-puts
returns-in_err-put-clause-puts g c =
    puts_err _ c.args.out.now c.put.new.out c.from_residual.result c.from_residual.ensures.0
    (full_at g.F.Piece.form.spell c.args.items.now c.loop-item.item-index c.item-item.result [] (vec_capacity c.args.out.now) (vec_capacity c.loop-item.out) (vec_len c.args.out.now) (vec_len c.loop-item.out)
    c.loop-item-test.true c.item-item.is c.loop-item.invariant.2 c.loop-item.invariant.1 c.in_err-put.ensures.puts.0)
    (let a = c.loop-item.invariant.2 in let b = c.in_err-put.ensures.puts.1 in omega (arith, a, b))

pub returns-clause-fits : goal.returns-clause-fits
returns-clause-fits g c = fit_at_end g.F.Piece.form.Asks g.F.Piece.form.Fits g.F.Item.follows c.args.items.now c.loop-item.item-index c.loop-item-test.false c.requires c.loop-item.invariant.3
