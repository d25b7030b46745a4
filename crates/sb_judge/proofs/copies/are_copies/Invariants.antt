use Rattle.std.proofs.Common.{◌≡◌, drop}
use Rattle.std.specs.List.{list_all}
use Rattle.sb_judge.specs.Copies.{copy_verdict}
use Rattle.sb_judge.proofs.copies.are_copies.Given as goal

abbrev pub invariant-loop-copy : goal.invariant-loop-copy
invariant-loop-copy l = list_all (λ c. (copy_verdict l.moment l.sessions c).0) (drop l.copy-index l.copies) ≡ list_all (λ c. (copy_verdict l.moment l.sessions c).0) l.copies
