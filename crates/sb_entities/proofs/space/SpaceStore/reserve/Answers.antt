use Rattle.std.proofs.Common.{◌≤◌, ◌+◌, ◌∙◌, length, take, arith, sym, subst, is_some}
use Rattle.sb_machine.specs.declared.change.Change.{Change}
use Rattle.sb_entities.specs.Places.{place_of}
use Rattle.sb_entities.specs.Stocks.{Stock, PromisesAll}
use Rattle.sb_entities.specs.Stores.{stock_in}
use Rattle.sb_entities.proofs.Carried.{none_passes}
use Rattle.sb_entities.proofs.Promised.{promised_one, promised_all}
use Rattle.sb_entities.proofs.WayBack.{promised_for}
use Rattle.sb_entities.proofs.space.SpaceStore.reserve.Goals as goal

pub loop-index-preserved : goal.loop-index-preserved
loop-index-preserved c =
    let s = c.loop-index.self in
    let cs = c.args.changes.now in
    record {
      space = c.reserve_for.ensures.space ∙ c.loop-index.invariant.space;
      room = subst (λ (k : Stock). PromisesAll (take (c.loop-index.index + 1) cs) k) (sym c.in_default-reserve_for.ensures.ok) (promised_one c.loop-index.index c.in-Some.change.now cs (stock_in s) c.in-Some.ensures s.opened c.in_default-reserve_for.ensures.reached c.loop-index.invariant.room);
      stock = promised_for c.loop-index.index c.in-Some.change.now cs (stock_in c.args.self.now) (stock_in s) (stock_in c.reserve_for.new.self) c.in-Some.ensures c.loop-index.invariant.stock c.in_default-reserve_for.ensures.ok;
    }

pub returns-clause-room : goal.returns-clause-room
returns-clause-room c =
    let past : length c.args.changes.now ≤ c.loop-index.index = omega (arith, c.loop-index-test.false, c.len-index-end.ensures) in
    promised_all c.loop-index.index c.args.changes.now (stock_in c.loop-index.self) past c.loop-index.invariant.room

pub returns-in-Err-clause-free : goal.returns-in-Err-clause-free
returns-in-Err-clause-free c none = c.in-Err.ensures.free (none_passes (λ (x : Change). is_some (place_of x)) c.loop-index.index c.in-Some.change.now c.args.changes.now none c.in-Some.ensures)
