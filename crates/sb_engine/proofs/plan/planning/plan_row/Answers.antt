use Rattle.std.proofs.Common.{inr, sym, ◌∙◌}
use Rattle.sb_entities.specs.Stores.{space_in}
use Rattle.sb_machine.specs.Acts.{act_row, bad_call, is_via_in}
use Rattle.sb_machine.specs.Fields.{bad_field, bad_part}
use Rattle.sb_engine.proofs.Exhausting.{exhausted}
use Rattle.sb_engine.proofs.Fields.{fields_once}
use Rattle.sb_engine.proofs.plan.planning.plan_row.Goals as goal

pub returns-else-is_numbered-clause-row : goal.returns-else-is_numbered-clause-row
returns-else-is_numbered-clause-row c =
    let s = space_in c.args.space.now in
    let t = c.args.moment in
    inr (exhausted t s (bad_call (bad_part c.args.act.now) (bad_field (is_via_in s c.args.act.now) c.args.act.now c.args.by.now)) (act_row s t c.args.act.now) c.in_ok-draft.draft.reply c.in_ok-draft.draft.changes c.in_ok-judge_fields.ensures.passes c.in_ok-draft.ensures.row (sym (c.is_numbered.ensures t) ∙ c.if-is_numbered.false))

pub plan_act-requires-clause-once : goal.plan_act-requires-clause-once
plan_act-requires-clause-once c = fields_once (is_via_in (space_in c.args.space.now) c.args.act.now) c.args.act.now c.args.by.now c.in_ok-judge_fields.ensures.passes
