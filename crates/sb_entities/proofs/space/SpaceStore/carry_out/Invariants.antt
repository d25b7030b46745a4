use Rattle.std.proofs.Common.{◌≡◌, length, true}
use Rattle.sb_machine.specs.Changes.{after_all, is_numbered}
use Rattle.sb_entities.specs.Stocks.{PromisesAll}
use Rattle.sb_entities.specs.Stores.{space_in, stock_in}
use Rattle.sb_entities.proofs.space.SpaceStore.carry_out.Given as goal

-- what is left leads to where all lead, and its room is there
abbrev pub invariant-loop-change : goal.invariant-loop-change
invariant-loop-change l = record {
  space : after_all l.moment l.left (space_in l.self) ≡ after_all l.moment l.fn.changes (space_in l.fn.self);
  numbered : is_numbered l.moment l.left (space_in l.self) ≡ true;
  room : PromisesAll l.left (stock_in l.self);
}

abbrev pub decreases-loop-change : goal.decreases-loop-change
decreases-loop-change l = length l.left
