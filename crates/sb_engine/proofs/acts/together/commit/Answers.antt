use Rattle.std.proofs.Common.{List, ap, subst, sym, ◌∙◌, ◌≡◌}
use Rattle.std.specs.Prelude.{◌⊎◌}
use Rattle.sb_entities.specs.Stores.{entity_in, space_in}
use Rattle.sb_laws.specs.Gathered.{read_commit}
use Rattle.sb_machine.specs.Rows.{answers, refuses}
use Rattle.sb_machine.specs.Together.{step_replies}
use Rattle.sb_machine.specs.declared.reply.Refusal.TheVariants.{OutOfMemory}
use Rattle.sb_machine.specs.declared.reply.Reply.TheVariants.{Together}
use Rattle.sb_machine.specs.declared.state.Operation.{Operation}
use Rattle.sb_engine.proofs.PlannedRows.{plans_by}
use Rattle.sb_engine.proofs.Togethers.{commit_answers, commit_refused, ended_front}
use Rattle.sb_engine.proofs.acts.together.commit.Goals as goal

pub fulfil-requires-clause-front : goal.fulfil-requires-clause-front
fulfil-requires-clause-front c = ended_front c.args.gathering.changes c.push.new.self c.args.txn c.requires.front c.in-Ok.ensures.ok

pub returns-in-Ok-fulfil : goal.returns-in-Ok-fulfil
returns-in-Ok-fulfil c =
    let t = c.args.moment in
    let s = space_in c.args.space.now in
    let e = entity_in c.args.entity.now in
    let steps = c.args.steps.now in
    let own = c.args.gathering in
    let done = c.in-Ok-fulfil.fulfilled in
    let os = c.as_slice-operations.result.now in
    plans_by c.answered.result (read_commit s t e steps own.operations.items own.changes) (answers (Together (step_replies steps done.receipts.items)) done.changes)
    (ap (λ (l : List Operation). read_commit s t e steps l own.changes) (sym c.as_slice-operations.ensures.value) ∙ commit_answers s t e steps os own.changes c.push.new.self done.changes c.args.txn done.receipts.items c.requires.txn c.in-Ok.ensures.ok c.in-Ok-fulfil.ensures.0 c.in-Ok-fulfil.ensures.1 c.in-Ok-fulfil.ensures.2) c.answered.ensures

pub returns : goal.returns
returns c =
    let t = c.args.moment in
    let s = space_in c.args.space.now in
    let e = entity_in c.args.entity.now in
    let steps = c.args.steps.now in
    let own = c.args.gathering in
    let r = c.in-Err.refusal in
    subst (λ (l : List Operation). (r ≡ OutOfMemory) ⊎ (read_commit s t e steps l own.changes ≡ refuses r)) c.as_slice-operations.ensures.value
    (commit_refused s t e steps c.as_slice-operations.result.now own.changes c.push.new.self c.args.txn r c.requires.txn c.in-Ok.ensures.ok c.in-Err.ensures)
