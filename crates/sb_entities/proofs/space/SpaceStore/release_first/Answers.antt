use Rattle.std.proofs.Common.{◌≡◌, ◌+◌, ◌-◌, ◌∙◌, arith}
use Rattle.sb_entities.specs.Stores.{stock_in}
use Rattle.sb_entities.proofs.WayBack.{released_for, released_none}
use Rattle.sb_entities.proofs.space.SpaceStore.release_first.Goals as goal

pub loop-index-preserved-in-Some : goal.loop-index-preserved-in-Some
loop-index-preserved-in-Some c =
    let i = c.loop-index.index in
    let next : i ≡ i - 1 + 1 = omega (arith, c.loop-index-test.true) in
    record {
      space = c.release_for.ensures.space ∙ c.loop-index.invariant.space;
      stock = λ k is. released_for (i - 1) i c.in-Some.change.now c.args.changes.now k (stock_in c.loop-index.self) (stock_in c.release_for.new.self) next c.in-Some.ensures (c.loop-index.invariant.stock k is) c.release_for.ensures.stock;
    }

pub loop-index-preserved : goal.loop-index-preserved
loop-index-preserved c =
    let i = c.loop-index.index in
    let next : i ≡ i - 1 + 1 = omega (arith, c.loop-index-test.true) in
    record {
      space = c.loop-index.invariant.space;
      stock = λ k is. released_none (i - 1) i c.args.changes.now k (stock_in c.loop-index.self) next c.in_default.ensures (c.loop-index.invariant.stock k is);
    }
