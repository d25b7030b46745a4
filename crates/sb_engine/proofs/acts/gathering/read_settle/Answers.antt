use Rattle.sb_entities.specs.Stores.{entity_in, leaf_in, space_in}
use Rattle.sb_engine.proofs.Gatherings.{settles_refused}
use Rattle.sb_engine.proofs.acts.gathering.read_settle.Goals as goal

pub returns-in_err-claim_by : goal.returns-in_err-claim_by
returns-in_err-claim_by c =
    settles_refused (space_in c.args.space.now) c.args.moment (entity_in c.args.own.now) c.args.operations.now c.args.from.now c.args.which.now c.args.token c.args.session c.args.how.now (entity_in c.in_ok-entity.entity.now) (leaf_in c.part-part.result.now) c.goes_with.result c.is_same_number.result c.from_residual-in_err-claim_by.result c.in_err-claim_by.field-0.0
    c.in_ok-entity.ensures c.goes_with.ensures c.if-not-goes_with.false c.in_ok-check_session.ensures c.is_same_number.ensures c.if-not-is_same_number.false c.part-part.ensures c.in_err-claim_by.ensures c.from_residual-in_err-claim_by.ensures
