use Rattle.std.proofs.Common.{◌≡◌, ◌++◌, ◌-◌, map, take}
use Rattle.sb_machine.specs.Receiving.{browsed, peeked}
use Rattle.sb_copies.specs.Shelf.{copies_in}
use Rattle.sb_copies.proofs.Walking.{from}
use Rattle.sb_copies.proofs.looks.peek.Given as goal

-- those seen and those that are still to be seen are all
abbrev pub invariant-loop : goal.invariant-loop
invariant-loop l = l.seen.items ++ map browsed (take (l.count - l.counter) (from l.from (copies_in l.slots l.order.rows))) ≡ peeked l.start l.count (copies_in l.slots l.order.rows)
