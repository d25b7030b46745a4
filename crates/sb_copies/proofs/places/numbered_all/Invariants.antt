use Rattle.std.proofs.Common.{◌≡◌, ◌++◌, drop, map}
use Rattle.sb_copies.specs.Shelf.{copies_in, numbered_in}
use Rattle.sb_copies.proofs.places.numbered_all.Given as goal

-- those found so far, and those still to be found, are all
abbrev pub invariant-loop-number : goal.invariant-loop-number
invariant-loop-number l = map (λ c. c.now) l.found.items ++ numbered_in (copies_in l.slots l.order.rows) (drop l.number-index l.numbers) ≡ numbered_in (copies_in l.slots l.order.rows) l.numbers
