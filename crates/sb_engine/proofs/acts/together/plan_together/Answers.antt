use Rattle.std.proofs.Common.{ap, sym, ◌∙◌}
use Rattle.sb_entities.specs.Stores.{space_in}
use Rattle.sb_laws.specs.Gathered.{gathered_row}
use Rattle.sb_machine.specs.Together.{together_row}
use Rattle.sb_engine.proofs.PlannedRows.{plans_by}
use Rattle.sb_engine.proofs.acts.together.plan_together.Goals as goal

pub returns : goal.returns
returns c =
    let s = space_in c.args.space.now in
    let t = c.args.moment in
    let path = c.args.path.now in
    let steps = c.args.steps.now in
    plans_by c.plan_gathered.result (together_row s t path steps) (gathered_row s t path c.as_slice.result.now) (c.gathers_as_read.ensures s t path steps c.is_in_order.ensures.entities c.is_in_order.ensures.transactions c.requires.once ∙ ap (gathered_row s t path) (sym c.as_slice.ensures)) c.plan_gathered.ensures
