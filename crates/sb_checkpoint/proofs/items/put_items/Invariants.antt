use Rattle.std.proofs.Common.{Ok, take}
use Rattle.std.specs.List.{AllByRecursion, flat_map}
use Rattle.sb_checkpoint.specs.Takings.{Takes}
use Rattle.sb_checkpoint.proofs.items.put_items.Given as goal

abbrev pub invariant-loop-item : goal.invariant-loop-item
invariant-loop-item g l = record {
  takes : Takes g.P.Pieces l.fn.out l.out (flat_map g.F.Piece.form.spell (take l.item-index l.items)) (Ok tt);
  fits : AllByRecursion g.F.Piece.form.Fits (take l.item-index l.items);
}
