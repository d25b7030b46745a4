use Rattle.std.proofs.Common.{◌≡◌, drop, find}
use Rattle.sb_machine.specs.Names.{is_same_entity}
use Rattle.sb_entities.specs.Stores.{entities_in}
use Rattle.sb_entities.proofs.finding.entity_somewhere.Given as goal

-- none of those so far
abbrev pub invariant-loop-entity : goal.invariant-loop-entity
invariant-loop-entity l = find (λ e. is_same_entity e.about.path l.path) (entities_in (drop l.entity-index l.rows)) ≡ find (λ e. is_same_entity e.about.path l.path) (entities_in l.rows)
