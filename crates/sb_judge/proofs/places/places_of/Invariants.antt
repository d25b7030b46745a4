use Rattle.std.proofs.Common.{◌≡◌, ℕ, drop}
use Rattle.std.specs.BTreeMap.{get}
use Rattle.std.specs.Ordering.{nat_cmp}
use Rattle.sb_judge.specs.Places.{first_of, first_place}
use Rattle.sb_judge.proofs.places.places_of.Given as goal

abbrev pub invariant-loop-entity : goal.invariant-loop-entity
invariant-loop-entity l = (l.place ≡ l.entity-index) × ((k : ℕ) → first_of (get nat_cmp l.places k) (first_place k l.place (drop l.entity-index l.entities)) ≡ first_place k 0 l.entities)
