use Rattle.std.proofs.Common.{◌≡◌, ◌++◌, drop, map}
use Rattle.sb_entities.specs.Stores.{entity_in}
use Rattle.sb_engine.specs.Sweeps.{item, items_in}
use Rattle.sb_engine.proofs.time.finding.with_these.Given as goal

-- those found so far, and those still to be found, are all
abbrev pub invariant-loop-copy : goal.invariant-loop-copy
invariant-loop-copy l =
    items_in l.found.items ++ map (item (entity_in l.entity) l.part) (map (λ c. c.now) (drop l.copy-index l.copies))
    ≡ items_in l.initial.found.items ++ map (item (entity_in l.entity) l.part) (map (λ c. c.now) l.copies)
