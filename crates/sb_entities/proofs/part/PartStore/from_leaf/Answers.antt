use Rattle.std.proofs.Common.{◌+◌, List, arith, subst, sym}
use Rattle.sb_machine.specs.declared.state.StoredCopy.{StoredCopy}
use Rattle.sb_copies.specs.Dues.{never}
use Rattle.sb_copies.specs.Shelf.{AreBelow}
use Rattle.sb_entities.proofs.Fronts.{rising_below, rising_order}
use Rattle.sb_entities.proofs.part.PartStore.from_leaf.Goals as goal

pub shelf_of-requires-clause-order : goal.shelf_of-requires-clause-order
shelf_of-requires-clause-order c = rising_order 0 c.args.leaf.last c.args.leaf.copies c.requires.numbers

pub shelf_of-requires-clause-below : goal.shelf_of-requires-clause-below
shelf_of-requires-clause-below c = rising_below never 0 c.args.leaf.last c.args.leaf.copies (omega (arith, c.requires.last)) c.requires.numbers

pub invariant_of-result : goal.invariant_of-result
invariant_of-result c =
    let leaf = c.args.leaf in
    record {
      numbered = subst (λ (l : List StoredCopy). AreBelow (leaf.last + 1) l) (sym c.in_ok-copies.ensures.copies) (rising_below (leaf.last + 1) 0 leaf.last leaf.copies (omega arith) c.requires.numbers);
      bounded = c.requires.last;
      heads = c.in_ok-copies.ensures.heads;
    }
