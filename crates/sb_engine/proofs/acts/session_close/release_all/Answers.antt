use Rattle.std.proofs.Common.{false}
use Rattle.std.specs.Borrow.{Bor}
use Rattle.sb_machine.specs.Delivery.{released}
use Rattle.sb_machine.specs.Namespace.{listed}
use Rattle.sb_machine.specs.declared.state.StoredCopy.{StoredCopy}
use Rattle.sb_fanout.specs.Lasts.{given_in}
use Rattle.sb_entities.specs.Stores.{entity_in, space_in}
use Rattle.sb_engine.proofs.Items.{runs_all, runs_next}
use Rattle.sb_engine.proofs.acts.session_close.release_all.Goals as goal

pub loop-copy-preserved : goal.loop-copy-preserved
loop-copy-preserved c =
    let s = space_in c.args.space.now in
    let e = entity_in c.args.entity.now in
    let f = λ (x : StoredCopy). released (listed s) c.args.moment e c.args.part x false false in
    runs_next s (λ (b : Bor StoredCopy). b.now) f c.args.copies.now c.loop-copy.copy-index c.copy-item.result (given_in c.args.lasts.now) (given_in c.loop-copy.lasts) (given_in c.released.new.lasts) c.args.changes.now c.loop-copy.changes c.released.new.changes c.loop-copy-test.true c.copy-item.is c.loop-copy.invariant c.in_ok-released.ensures

pub returns : goal.returns
returns c =
    let s = space_in c.args.space.now in
    let e = entity_in c.args.entity.now in
    let f = λ (x : StoredCopy). released (listed s) c.args.moment e c.args.part x false false in
    runs_all s (λ (b : Bor StoredCopy). b.now) f c.args.copies.now c.loop-copy.copy-index (given_in c.args.lasts.now) (given_in c.loop-copy.lasts) c.args.changes.now c.loop-copy.changes c.loop-copy-test.false c.loop-copy.invariant
