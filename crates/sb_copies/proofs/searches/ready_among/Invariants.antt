use Rattle.std.proofs.Common.{◌≡◌, ◌+◌, ◌≤◌, drop, length, map}
use Rattle.std.specs.List.{filter}
use Rattle.sb_machine.specs.Looks.{is_ready_of}
use Rattle.sb_copies.proofs.searches.ready_among.Given as goal

-- those counted so far, and those still to be counted, are all
abbrev pub invariant-loop-copy : goal.invariant-loop-copy
invariant-loop-copy l =
    (l.count + length (filter (is_ready_of l.session) (map (λ c. c.now) (drop l.copy-index l.copies))) ≡ length (filter (is_ready_of l.session) (map (λ c. c.now) l.copies)))
    × (l.count ≤ l.copy-index)
