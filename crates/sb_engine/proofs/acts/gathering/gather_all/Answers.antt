use Rattle.sb_entities.specs.Stores.{entity_in, space_in}
use Rattle.sb_laws.specs.Gathered.{read_steps}
use Rattle.sb_engine.proofs.Gatherings.{steps_end, steps_next, steps_refuse}
use Rattle.sb_engine.proofs.acts.gathering.gather_all.Goals as goal

pub loop-part-preserved : goal.loop-part-preserved
loop-part-preserved c =
    let t = c.args.moment in
    let s = space_in c.args.space.now in
    let e = entity_in c.args.entity.now in
    let path = c.args.path.now in
    let own = c.args.gathering.now in
    let now = c.loop-part.gathering in
    let next = c.gather_one.new.gathering in
    record {
      row = steps_next s t path e c.args.steps.now c.loop-part.part c.index-steps-part.result (read_steps 0 s t path e own.operations.items own.changes c.args.steps.now) now.operations.items next.operations.items now.changes next.changes c.loop-part-test.true c.index-steps-part.is c.loop-part.invariant.row c.in_default.ensures.row;
      front = c.in_default.ensures.front;
    }

pub returns-in-Err-clause-row : goal.returns-in-Err-clause-row
returns-in-Err-clause-row c =
    let t = c.args.moment in
    let s = space_in c.args.space.now in
    let e = entity_in c.args.entity.now in
    let path = c.args.path.now in
    let own = c.args.gathering.now in
    let now = c.loop-part.gathering in
    steps_refuse s t path e c.args.steps.now c.loop-part.part c.index-steps-part.result (read_steps 0 s t path e own.operations.items own.changes c.args.steps.now) now.operations.items now.changes c.in-Err.refusal c.at_part.result c.loop-part-test.true c.index-steps-part.is c.loop-part.invariant.row c.at_part.ensures c.in-Err.ensures.row

pub returns-clause-row : goal.returns-clause-row
returns-clause-row c =
    let t = c.args.moment in
    let s = space_in c.args.space.now in
    let e = entity_in c.args.entity.now in
    let path = c.args.path.now in
    let own = c.args.gathering.now in
    let now = c.loop-part.gathering in
    steps_end s t path e c.args.steps.now c.loop-part.part (read_steps 0 s t path e own.operations.items own.changes c.args.steps.now) now.operations.items now.changes c.loop-part-test.false c.loop-part.invariant.row
