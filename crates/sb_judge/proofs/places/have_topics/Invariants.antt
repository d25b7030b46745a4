use Rattle.std.proofs.Common.{◌≡◌, drop}
use Rattle.std.specs.List.{list_all}
use Rattle.sb_judge.specs.Entities.{topic_verdict}
use Rattle.sb_judge.proofs.places.have_topics.Given as goal

abbrev pub invariant-loop-entity : goal.invariant-loop-entity
invariant-loop-entity l = list_all (λ e. (topic_verdict l.space e).0) (drop l.entity-index l.space.entities) ≡ list_all (λ e. (topic_verdict l.space e).0) l.space.entities
