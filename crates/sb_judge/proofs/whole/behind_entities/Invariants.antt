use Rattle.std.proofs.Common.{◌≡◌, drop, sum_by}
use Rattle.sb_machine.specs.Namespace.{made_in}
use Rattle.sb_judge.specs.Messages.{less}
use Rattle.sb_judge.proofs.whole.behind_entities.Given as goal

abbrev pub invariant-loop-entity : goal.invariant-loop-entity
invariant-loop-entity l = less l.left (sum_by made_in (drop l.entity-index l.entities)) ≡ less l.fn.left (sum_by made_in l.entities)
