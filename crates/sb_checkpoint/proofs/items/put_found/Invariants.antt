use Rattle.std.proofs.Common.{Ok, map, take}
use Rattle.std.specs.List.{AllByRecursion, flat_map}
use Rattle.sb_checkpoint.specs.Takings.{Takes}
use Rattle.sb_checkpoint.proofs.items.put_found.Given as goal

abbrev pub invariant-loop-item : goal.invariant-loop-item
invariant-loop-item g l = record {
  takes : Takes g.P.Pieces l.fn.out l.out (flat_map g.F.Piece.form.spell (map (λ x. x.now) (take l.item-index l.items))) (Ok tt);
  fits : AllByRecursion (λ x. g.F.Piece.form.Fits x.now) (take l.item-index l.items);
}
