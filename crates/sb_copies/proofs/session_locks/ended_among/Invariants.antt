use Rattle.std.proofs.Common.{◌≡◌, ◌++◌, drop, map}
use Rattle.std.specs.List.{filter}
use Rattle.sb_machine.specs.Leases.{has_ended}
use Rattle.sb_copies.proofs.session_locks.ended_among.Given as goal

-- those found so far, and those still to be found, are all
abbrev pub invariant-loop-copy : goal.invariant-loop-copy
invariant-loop-copy l =
    l.found.items ++ map (λ c. c.number) (filter (λ c. has_ended l.moment l.sessions c.standing) (map (λ c. c.now) (drop l.copy-index l.copies)))
    ≡ map (λ c. c.number) (filter (λ c. has_ended l.moment l.sessions c.standing) (map (λ c. c.now) l.copies))
