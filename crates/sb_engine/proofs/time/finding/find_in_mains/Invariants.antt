use Rattle.std.proofs.Common.{◌≡◌, ◌++◌, drop, map}
use Rattle.std.specs.List.{flat_map}
use Rattle.sb_machine.specs.declared.call.Part.TheVariants.{Main}
use Rattle.sb_entities.specs.Stores.{entity_in}
use Rattle.sb_engine.specs.Sweeps.{found_in, items_in}
use Rattle.sb_engine.proofs.time.finding.find_in_mains.Given as goal

-- those found so far, and those still to be found, are all
abbrev pub invariant-loop-entity : goal.invariant-loop-entity
invariant-loop-entity l =
    items_in l.found.items ++ flat_map (λ e. found_in l.search l.moment e Main) (map (λ e. entity_in e.now) (drop l.entity-index l.entities)) ≡ flat_map (λ e. found_in l.search l.moment e Main) (map (λ e. entity_in e.now) l.entities)
