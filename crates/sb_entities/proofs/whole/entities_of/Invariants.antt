use Rattle.std.proofs.Common.{◌≡◌, ◌++◌, length}
use Rattle.sb_machine.specs.Each.{Each}
use Rattle.sb_machine.specs.Keyed.{AreRising}
use Rattle.sb_entities.specs.Stores.{entities_in}
use Rattle.sb_entities.specs.Tables.{number_of}
use Rattle.sb_entities.specs.Whole.{IsOrdered}
use Rattle.sb_entities.proofs.whole.entities_of.Given as goal

-- those that were put there, and those that are left, are all
abbrev pub invariant-loop-entity : goal.invariant-loop-entity
invariant-loop-entity l = record {
  all : entities_in l.made.rows ++ l.left.items ≡ l.fn.entities;
  above : AreRising number_of l.made.last l.fn.last l.left.items;
  ordered : Each IsOrdered l.left.items;
}

abbrev pub decreases-loop-entity : goal.decreases-loop-entity
decreases-loop-entity l = length l.left.items
