use Rattle.std.proofs.Common.{◌≡◌, ◌-◌, ◌^◌}
use Rattle.sb_machine.specs.Changes.{is_known}
use Rattle.sb_repeats.specs.Windows.{is_known_from}
use Rattle.sb_repeats.proofs.known.is_known_by.Given as goal

-- what is left to look at tells all
abbrev pub invariant-rows : goal.invariant-rows
invariant-rows l = is_known l.seconds l.id l.moment l.ids.items ≡ is_known_from l.seconds l.id l.moment l.from l.ids.items

abbrev pub decreases-rows : goal.decreases-rows
decreases-rows l = 2 ^ 64 - l.from
