use Rattle.std.proofs.Common.{◌*◌, ◌-◌, ◌^◌, ◌≤◌}
use Rattle.sb_copies.specs.Grouped.{span}
use Rattle.sb_copies.proofs.Stretches.{IsOnWay}
use Rattle.sb_copies.proofs.groups.with_numbers.Given as goal

-- those found so far, and those still to be found, are all
abbrev pub invariant-rows : goal.invariant-rows
invariant-rows l = (l.group * span ≤ l.from) × IsOnWay l.group l.index.rows l.initial.found.items l.from l.found.items

abbrev pub decreases-rows : goal.decreases-rows
decreases-rows l = 2 ^ 128 - l.from
