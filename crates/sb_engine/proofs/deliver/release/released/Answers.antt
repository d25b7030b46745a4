use Rattle.std.proofs.Common.{List, subst, OnOk}
use Rattle.sb_machine.specs.Namespace.{listed}
use Rattle.sb_machine.specs.declared.change.Change.{Change}
use Rattle.sb_fanout.specs.Lasts.{given_in}
use Rattle.sb_entities.specs.Stores.{entity_in, space_in}
use Rattle.sb_engine.specs.Growing.{IsGrown}
use Rattle.sb_engine.proofs.Releases.{released_back}
use Rattle.sb_engine.proofs.deliver.release.released.Goals as goal

pub returns : goal.returns
returns c =
    let s = space_in c.args.space.now in
    let is = released_back (listed s) c.args.moment (entity_in c.args.entity.now) c.args.part c.args.copy.now c.args.raise c.args.settled c.raised-count.result c.back_to.result c.is_too_often.result c.is_over.result c.raised-count.ensures c.back_to.ensures c.is_too_often.ensures c.is_over.ensures c.if-is_too_often.false c.if-is_over.false in
    subst (λ (l : List Change). OnOk c.push_in.result (IsGrown s l (given_in c.args.lasts.now) (given_in c.args.lasts.now) c.args.changes.now c.push_in.new.changes)) is (c.push_in.ensures.grown s (given_in c.args.lasts.now))
