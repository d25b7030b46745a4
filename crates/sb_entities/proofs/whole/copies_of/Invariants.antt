use Rattle.std.proofs.Common.{◌≡◌, ◌+◌, drop, sum_by}
use Rattle.sb_machine.specs.Namespace.{live_in}
use Rattle.sb_entities.specs.Stores.{entities_in}
use Rattle.sb_entities.proofs.whole.copies_of.Given as goal

-- those so far, and those behind them, are all
abbrev pub invariant-loop-entity : goal.invariant-loop-entity
invariant-loop-entity l = l.all + sum_by live_in (entities_in (drop l.entity-index l.rows)) ≡ sum_by live_in (entities_in l.rows)
