use Rattle.std.proofs.Common.{[], ◌+◌, ◌∷◌}
use Rattle.sb_entities.specs.Stores.{entity_in, space_in}
use Rattle.sb_laws.specs.Gathered.{read_commit, read_steps}
use Rattle.sb_machine.specs.declared.change.Change.TheVariants.{Begins}
use Rattle.sb_engine.proofs.PlannedRows.{plans_by}
use Rattle.sb_engine.proofs.Togethers.{gathered_first, refused_first}
use Rattle.sb_engine.proofs.acts.together.gather_and_commit.Goals as goal

pub returns : goal.returns
returns c =
    let t = c.args.moment in
    let s = space_in c.args.space.now in
    let e = entity_in c.args.entity.now in
    let path = c.args.path.now in
    let steps = c.args.steps.now in
    let begun = c.begun-gathering.result in
    let own = c.gather_all.new.gathering in
    plans_by c.commit.result (read_steps 0 s t path e [] (Begins e.about.number (t + 120000) ∷ []) steps (read_commit s t e steps)) (read_commit s t e steps own.operations.items own.changes)
    (gathered_first s t path e steps begun.operations.items own.operations.items begun.changes own.changes (read_commit s t e steps) c.begun-gathering.ensures.operations c.begun-gathering.ensures.changes c.in_default-gather_all.ensures.row) c.commit.ensures

pub returns-in-Err : goal.returns-in-Err
returns-in-Err c =
    let t = c.args.moment in
    let s = space_in c.args.space.now in
    let e = entity_in c.args.entity.now in
    let begun = c.begun-gathering.result in
    refused_first s t c.args.path.now e c.args.steps.now begun.operations.items begun.changes (read_commit s t e c.args.steps.now) c.in-Err.refusal c.begun-gathering.ensures.operations c.begun-gathering.ensures.changes c.in-Err.ensures.row
