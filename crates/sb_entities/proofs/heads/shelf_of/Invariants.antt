use Rattle.std.proofs.Common.{◌≡◌, ◌++◌, length}
use Rattle.sb_entities.specs.Heads.{HoldsHeads}
use Rattle.sb_entities.proofs.heads.shelf_of.Given as goal

-- those that have entered, and those that are left, are all
abbrev pub invariant-loop-copy : goal.invariant-loop-copy
invariant-loop-copy l = record {
  all : l.shelf.copies ++ l.left.items ≡ l.fn.copies;
  expires : l.shelf.expires ≡ l.fn.expires;
  heads : HoldsHeads l.shelf.heads l.shelf.copies l.sessions.sessions;
}

abbrev pub decreases-loop-copy : goal.decreases-loop-copy
decreases-loop-copy l = length l.left.items
