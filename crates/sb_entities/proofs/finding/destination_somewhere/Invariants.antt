use Rattle.std.proofs.Common.{◌≡◌, drop, map}
use Rattle.sb_machine.specs.Visits as visits
use Rattle.sb_entities.specs.Stores.{entities_in}
use Rattle.sb_entities.proofs.finding.destination_somewhere.Given as goal

-- none of those so far
abbrev pub invariant-loop-entity : goal.invariant-loop-entity
invariant-loop-entity l = visits.destination (map (λ e. e.about) (entities_in (drop l.entity-index l.rows))) l.name ≡ visits.destination (map (λ e. e.about) (entities_in l.rows)) l.name
