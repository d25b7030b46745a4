use Rattle.std.proofs.Common.{◌≡◌, ◌+◌, ◌≤◌, ◌++◌, length, take, vec_len}
use Rattle.std.specs.Prelude.{vec_capacity}
use Rattle.std.specs.List.{AllByRecursion, flat_map}
use Rattle.sb_codec.proofs.lists.put_items.Given as goal

abbrev pub invariant-loop-item : goal.invariant-loop-item
invariant-loop-item g l =
    (l.out.items ≡ l.fn.out.items ++ flat_map g.F.Piece.form.spell (take l.item-index l.items))
    × (vec_len l.out ≡ vec_len l.fn.out + length (flat_map g.F.Piece.form.spell (take l.item-index l.items)))
    × (vec_capacity l.fn.out ≤ vec_capacity l.out)
    × AllByRecursion g.F.Piece.form.Fits (take l.item-index l.items)
