use Rattle.std.proofs.Common.{◌≡◌, ◌-◌, ◌^◌, filter}
use Rattle.std.specs.List.{list_any}
use Rattle.sb_engine.specs.Deadlines.{copy_deadline, has_passed}
use Rattle.sb_engine.proofs.Onward.{is_from}
use Rattle.sb_engine.proofs.time.due.any_copy.Given as goal

-- those that are left tell of all
abbrev pub invariant-copies : goal.invariant-copies
invariant-copies l = list_any (λ c. has_passed l.moment (copy_deadline l.part c)) (filter (is_from l.from) l.copies.copies) ≡ list_any (λ c. has_passed l.moment (copy_deadline l.part c)) l.copies.copies

abbrev pub decreases-copies : goal.decreases-copies
decreases-copies l = 2 ^ 64 - l.from
