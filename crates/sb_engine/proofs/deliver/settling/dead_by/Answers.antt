use Rattle.std.proofs.Common.{◌≡◌, ◌∙◌, true, ap, subst, OnOk}
use Rattle.sb_machine.specs.Delivery.{dead_lettered}
use Rattle.sb_machine.specs.Namespace.{listed}
use Rattle.sb_machine.specs.Reasons.{with_reason}
use Rattle.sb_model.specs.declared.message.Message.{Message}
use Rattle.sb_fanout.specs.Lasts.{given_in}
use Rattle.sb_entities.specs.Stores.{entity_in, space_in}
use Rattle.sb_engine.specs.Growing.{IsGrown}
use Rattle.sb_engine.proofs.deliver.settling.dead_by.Goals as goal

pub returns : goal.returns
returns c =
    let s = space_in c.args.space.now in
    let is : c.in_ok-message.message ≡ with_reason c.args.reason.now c.args.description.now c.args.copy.now.message = c.in_ok-message.ensures ∙ ap (λ (m : Message). with_reason c.args.reason.now c.args.description.now m) c.in_ok-own.ensures in
    subst (λ (m : Message). OnOk c.dead_lettered.result (IsGrown s (dead_lettered (listed s) (entity_in c.args.entity.now) c.args.copy.now true m) (given_in c.args.lasts.now) (given_in c.dead_lettered.new.lasts) c.args.changes.now c.dead_lettered.new.changes)) is c.dead_lettered.ensures
