use Rattle.std.proofs.Common.{◌-◌}
use Rattle.sb_codec.specs.Readers.{tested}
use Rattle.sb_codec.proofs.Items.{Reads}
use Rattle.sb_codec.proofs.lists.items_of.Given as goal

abbrev pub invariant-loop : goal.invariant-loop
invariant-loop g l = Reads (λ last. tested (g.F.Item.follows last) g.F.Piece.form.reads) l.count l.bytes l.items.items (l.count - l.counter) l.rest
