use Rattle.std.proofs.Common.{◌≡◌, ◌++◌, drop, map}
use Rattle.sb_entities.specs.DueRows.{those_of}
use Rattle.sb_entities.specs.Stores.{entities_in, entity_in}
use Rattle.sb_entities.proofs.dues.entities_of.Given as goal

-- those found so far, and those still to be found, are all
abbrev pub invariant-loop-number : goal.invariant-loop-number
invariant-loop-number l = map (λ e. entity_in e.now) l.found.items ++ those_of (drop l.number-index l.numbers) (entities_in l.rows) ≡ those_of l.numbers (entities_in l.rows)
