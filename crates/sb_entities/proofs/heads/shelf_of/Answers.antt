use Rattle.std.proofs.Common.{List, subst, sym}
use Rattle.sb_machine.specs.declared.state.StoredCopy.{StoredCopy}
use Rattle.sb_copies.specs.Shelf.{AreBelow}
use Rattle.sb_entities.proofs.Fronts.{before_next}
use Rattle.sb_entities.proofs.heads.shelf_of.Goals as goal

pub enter-requires-clause-above : goal.enter-requires-clause-above
enter-requires-clause-above c =
    subst (λ (l : List StoredCopy). AreBelow c.in-Some.copy.number l) (sym c.reserve.ensures.copies)
    (before_next c.in-Some.copy c.loop-copy.shelf.copies c.pop_front.new.self.items c.loop-copy.left.items c.args.copies c.loop-copy.invariant.all c.in-Some.ensures.items c.requires.order)
