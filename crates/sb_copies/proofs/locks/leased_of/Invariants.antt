use Rattle.std.proofs.Common.{◌≡◌, ◌-◌, ◌^◌, find}
use Rattle.sb_copies.specs.Shelf.{copies_in}
use Rattle.sb_copies.proofs.LockFinds.{is_leased, is_leased_from}
use Rattle.sb_copies.proofs.locks.leased_of.Given as goal

-- the one is among those that are still to be looked at
abbrev pub invariant-held : goal.invariant-held
invariant-held l = find (is_leased l.moment l.sessions l.lock l.which) (copies_in l.slots l.order.rows) ≡ find (is_leased_from l.moment l.sessions l.lock l.which l.from) (copies_in l.slots l.order.rows)

abbrev pub decreases-held : goal.decreases-held
decreases-held l = 2 ^ 64 - l.from
