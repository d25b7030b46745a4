use Rattle.std.proofs.Common.{List, ap, subst, sym, ◌∙◌, ◌≡◌}
use Rattle.std.specs.Prelude.{◌⊎◌}
use Rattle.sb_entities.specs.Stores.{entity_in, space_in}
use Rattle.sb_laws.specs.Gathered.{read_step}
use Rattle.sb_machine.specs.Rows.{refuses}
use Rattle.sb_machine.specs.declared.reply.Refusal.TheVariants.{OutOfMemory}
use Rattle.sb_machine.specs.declared.state.Operation.{Operation}
use Rattle.sb_engine.proofs.Gatherings.{gathers_answered, gathers_refused, still_front}
use Rattle.sb_engine.proofs.acts.gathering.gather_one.Goals as goal

pub returns-in_err-draft-clause-row : goal.returns-in_err-draft-clause-row
returns-in_err-draft-clause-row c =
    let own = c.args.gathering.now in
    let r = c.in_err-draft.field-0.0 in
    gathers_refused c.from_residual.result r own.operations.items own.operations.items own.changes own.changes (read_step (space_in c.args.space.now) c.args.moment c.args.path.now (entity_in c.args.entity.now) own.operations.items c.args.step.now) c.from_residual.ensures
    (subst (λ (os : List Operation). (r ≡ OutOfMemory) ⊎ (read_step (space_in c.args.space.now) c.args.moment c.args.path.now (entity_in c.args.entity.now) os c.args.step.now ≡ refuses r)) c.as_slice-operations.ensures.value c.in_err-draft.ensures)

pub returns-in-Ok-clause-row : goal.returns-in-Ok-clause-row
returns-in-Ok-clause-row c =
    let own = c.args.gathering.now in
    let draft = c.in_ok-draft.draft in
    gathers_answered own.operations.items c.gather.new.gathering.operations.items own.changes c.gather.new.gathering.changes draft.changes (read_step (space_in c.args.space.now) c.args.moment c.args.path.now (entity_in c.args.entity.now) own.operations.items c.args.step.now) draft.reply
    (ap (λ (os : List Operation). read_step (space_in c.args.space.now) c.args.moment c.args.path.now (entity_in c.args.entity.now) os c.args.step.now) (sym c.as_slice-operations.ensures.value) ∙ c.in_ok-draft.ensures) c.in-Ok.ensures.operations c.in-Ok.ensures.changes

pub returns-in-Ok-clause-front : goal.returns-in-Ok-clause-front
returns-in-Ok-clause-front c =
    let own = c.args.gathering.now in
    let draft = c.in_ok-draft.draft in
    still_front (space_in c.args.space.now) c.args.moment c.args.path.now (entity_in c.args.entity.now) own.operations.items c.args.step.now draft.reply own.changes c.gather.new.gathering.changes draft.changes c.requires.front
    (ap (λ (os : List Operation). read_step (space_in c.args.space.now) c.args.moment c.args.path.now (entity_in c.args.entity.now) os c.args.step.now) (sym c.as_slice-operations.ensures.value) ∙ c.in_ok-draft.ensures) c.in-Ok.ensures.changes
