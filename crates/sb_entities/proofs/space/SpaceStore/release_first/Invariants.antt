use Rattle.std.proofs.Common.{◌≡◌, take}
use Rattle.sb_entities.specs.Released.{stock_grown_by}
use Rattle.sb_entities.specs.Stocks.{Stock}
use Rattle.sb_entities.specs.Stores.{space_in, stock_in}
use Rattle.sb_entities.proofs.space.SpaceStore.release_first.Given as goal

-- so many of the first changes have their slots still
abbrev pub invariant-loop-index : goal.invariant-loop-index
invariant-loop-index l = record {
  space : space_in l.self ≡ space_in l.fn.self;
  stock : (k : Stock) → stock_in l.fn.self ≡ stock_grown_by (take l.count l.changes) k → stock_in l.self ≡ stock_grown_by (take l.index l.changes) k;
}
