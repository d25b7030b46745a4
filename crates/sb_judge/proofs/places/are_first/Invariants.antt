use Rattle.std.proofs.Common.{◌≡◌, drop}
use Rattle.std.specs.List.{list_all}
use Rattle.sb_judge.specs.Places.{is_first}
use Rattle.sb_judge.proofs.places.are_first.Given as goal

abbrev pub invariant-loop-entity : goal.invariant-loop-entity
invariant-loop-entity l = list_all (is_first l.entities) (drop l.entity-index l.entities) ≡ list_all (is_first l.entities) l.entities
