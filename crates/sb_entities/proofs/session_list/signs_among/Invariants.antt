use Rattle.std.proofs.Common.{◌≡◌, ◌++◌, drop, filter, map}
use Rattle.sb_machine.specs.Looks.{is_only_sign}
use Rattle.sb_entities.specs.Stores.{leaf_in}
use Rattle.sb_entities.proofs.session_list.signs_among.Given as goal

-- those found so far, and those still to be found, are all
abbrev pub invariant-loop-copy : goal.invariant-loop-copy
invariant-loop-copy l = map (λ c. c.now) l.signs.items ++ filter (is_only_sign (leaf_in l.part)) (map (λ c. c.now) (drop l.copy-index l.copies)) ≡ filter (is_only_sign (leaf_in l.part)) (map (λ c. c.now) l.copies)
