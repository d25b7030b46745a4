use Rattle.std.proofs.Common.{◌≡◌, ◌++◌, drop, map}
use Rattle.std.specs.List.{filter}
use Rattle.sb_entities.specs.Stores.{entity_in}
use Rattle.sb_engine.specs.Sweeps.{is_looked_for, item, items_in}
use Rattle.sb_engine.proofs.time.finding.with_each.Given as goal

-- those found so far, and those still to be found, are all
abbrev pub invariant-loop-copy : goal.invariant-loop-copy
invariant-loop-copy l =
    items_in l.found.items ++ map (item (entity_in l.entity) l.part) (filter (is_looked_for l.search l.moment l.sessions) (map (λ c. c.now) (drop l.copy-index l.copies)))
    ≡ items_in l.initial.found.items ++ map (item (entity_in l.entity) l.part) (filter (is_looked_for l.search l.moment l.sessions) (map (λ c. c.now) l.copies))
