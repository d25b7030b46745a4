use Rattle.std.proofs.Common.{◌≡◌, drop, find}
use Rattle.sb_judge.specs.Places.{is_named}
use Rattle.sb_judge.proofs.places.somewhere.Given as goal

abbrev pub invariant-loop-entity : goal.invariant-loop-entity
invariant-loop-entity l = find (is_named l.name l.own) (drop l.entity-index l.entities) ≡ find (is_named l.name l.own) l.entities
