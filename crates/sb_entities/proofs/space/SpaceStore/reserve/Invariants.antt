use Rattle.std.proofs.Common.{◌≡◌, take}
use Rattle.sb_entities.specs.Released.{stock_grown_by}
use Rattle.sb_entities.specs.Stocks.{PromisesAll}
use Rattle.sb_entities.specs.Stores.{space_in, stock_in}
use Rattle.sb_entities.proofs.space.SpaceStore.reserve.Given as goal

-- there is room for those so far, and no slot beyond theirs
abbrev pub invariant-loop-index : goal.invariant-loop-index
invariant-loop-index l = record {
  space : space_in l.self ≡ space_in l.fn.self;
  room : PromisesAll (take l.index l.changes) (stock_in l.self);
  stock : stock_in l.self ≡ stock_grown_by (take l.index l.changes) (stock_in l.fn.self);
}
