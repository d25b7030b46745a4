use Rattle.std.proofs.Common.{◌≡◌, ◌+◌, ◌≤◌, drop, filter, sum_by}
use Rattle.sb_machine.specs.Changes.{max_number}
use Rattle.sb_machine.specs.Namespace.{live_in}
use Rattle.sb_entities.specs.Stocks.{Entry, has_number}
use Rattle.sb_entities.specs.Stores.{entries_in, entities_in}
use Rattle.sb_entities.proofs.rows.copies_in.Given as goal

-- those so far, and those behind them, are all
abbrev pub invariant-loop-entity : goal.invariant-loop-entity
invariant-loop-entity l = record {
  few : l.all + sum_by live_in (entities_in (drop l.entity-index l.rows)) ≤ max_number;
  all : l.all + sum_by (λ (x : Entry). live_in x.entity) (filter (has_number l.number) (entries_in (drop l.entity-index l.rows))) ≡ sum_by (λ (x : Entry). live_in x.entity) (filter (has_number l.number) (entries_in l.rows));
}
