use Rattle.std.proofs.Common.{◌≡◌, ◌++◌, drop, map}
use Rattle.std.specs.List.{flat_map}
use Rattle.sb_machine.specs.Due.{closes_in}
use Rattle.sb_machine.specs.declared.call.Part.TheVariants.{Dead, Main, Transfer}
use Rattle.sb_entities.specs.Stores.{entity_in}
use Rattle.sb_engine.proofs.time.sweeps.close_each.Given as goal

-- those closed so far, and those still to be closed, are all
abbrev pub invariant-loop-entity : goal.invariant-loop-entity
invariant-loop-entity l =
    l.changes ++ flat_map (λ e. closes_in l.moment e Main ++ closes_in l.moment e Dead ++ closes_in l.moment e Transfer) (map (λ e. entity_in e.now) (drop l.entity-index l.entities))
    ≡ l.initial.changes ++ flat_map (λ e. closes_in l.moment e Main ++ closes_in l.moment e Dead ++ closes_in l.moment e Transfer) (map (λ e. entity_in e.now) l.entities)
