use Rattle.std.proofs.Common.{sym}
use Rattle.std.proofs.lemmas.Result.{on_ok_weaker}
use Rattle.sb_machine.specs.Sending.{coming, entering, waiting}
use Rattle.sb_machine.specs.declared.state.Space.{Space}
use Rattle.sb_fanout.specs.Lasts.{given_in}
use Rattle.sb_entities.specs.Stores.{entity_in, space_in}
use Rattle.sb_engine.proofs.Sendings.{comes_as, coming_waits, coming_enters}
use Rattle.sb_engine.proofs.deliver.sending.come.Goals as goal

pub returns-in-Some : goal.returns-in-Some
returns-in-Some c =
    let s = space_in c.args.space.now in
    let e = entity_in c.args.entity.now in
    let t = c.args.moment in
    let m = c.args.message.now in
    on_ok_weaker c.wait.result (comes_as t s e.about.number (λ (x : Space). waiting e m c.in-Some.at) (coming t e m) (given_in c.args.lasts.now) (given_in c.wait.new.lasts) c.args.changes.now c.wait.new.changes (λ (x : Space). coming_waits t e m c.in-Some.at x (sym c.in-Some.ensures))) (c.wait.ensures s)

pub returns-in-None : goal.returns-in-None
returns-in-None c =
    let s = space_in c.args.space.now in
    let e = entity_in c.args.entity.now in
    let t = c.args.moment in
    let m = c.args.message.now in
    on_ok_weaker c.enter.result (comes_as t s e.about.number (entering e m) (coming t e m) (given_in c.args.lasts.now) (given_in c.enter.new.lasts) c.args.changes.now c.enter.new.changes (λ (x : Space). coming_enters t e m x (sym c.in-None.ensures))) c.enter.ensures
