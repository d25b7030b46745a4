use Rattle.std.proofs.Common.{◌≡◌, ◌++◌, drop, map}
use Rattle.sb_machine.specs.Looks.{entity_shown}
use Rattle.sb_entities.specs.Stores.{entity_in}
use Rattle.sb_engine.proofs.acts.views.all_shown.Given as goal

-- those shown so far, and those still to be shown, are all
abbrev pub invariant-loop-entity : goal.invariant-loop-entity
invariant-loop-entity l =
    l.shown ++ map entity_shown (map (λ e. entity_in e.now) (drop l.entity-index l.entities)) ≡ map entity_shown (map (λ e. entity_in e.now) l.entities)
