use Rattle.std.proofs.Common.{◌≡◌, ◌++◌, drop, map}
use Rattle.sb_copies.specs.Shelf.{held_in}
use Rattle.sb_copies.proofs.dues.copies_of.Given as goal

-- those found so far, and those still to be found, are all
abbrev pub invariant-loop-key : goal.invariant-loop-key
invariant-loop-key l = map (λ c. c.now) l.found.items ++ held_in l.slots (drop l.key-index l.keys) ≡ held_in l.slots l.keys
