use Rattle.std.proofs.Common.{Option}
use Rattle.std.specs.Option.{option_map}
use Rattle.sb_machine.specs.Claims.{Claim}
use Rattle.sb_machine.specs.Namespace.{leaf_of}
use Rattle.sb_machine.specs.Receiving.{deferred_received, deferred_copy, receive_deferred_row}
use Rattle.sb_machine.specs.declared.state.Entity.{Entity}
use Rattle.sb_entities.specs.Stores.{entity_in, space_in}
use Rattle.sb_engine.specs.Heads.{claim_in}
use Rattle.sb_engine.proofs.PlannedRows.{plans_by, refuses_on}
use Rattle.sb_engine.proofs.acts.receive_deferred.plan_receive_deferred.Goals as goal

pub returns-in_err-receiver : goal.returns-in_err-receiver
returns-in_err-receiver c =
    let s = space_in c.args.space.now in
    let from = c.args.from.now in
    refuses_on c.from_residual.result c.in_err-receiver.field-0.0 (receive_deferred_row s c.args.moment from c.args.number c.args.mode c.args.session) c.from_residual.ensures
    (c.in_err-receiver.ensures (λ (e : Entity) (claim : Option Claim). deferred_received s c.args.moment e from.part c.args.mode claim (deferred_copy c.args.number claim (leaf_of from.part e))))

pub returns : goal.returns
returns c =
    let s = space_in c.args.space.now in
    let from = c.args.from.now in
    let e = entity_in c.in_ok-receiver.receiver.entity.now in
    let claim = option_map claim_in c.in_ok-receiver.receiver.claim in
    plans_by c.deferred_received.result (receive_deferred_row s c.args.moment from c.args.number c.args.mode c.args.session) (deferred_received s c.args.moment e from.part c.args.mode claim (deferred_copy c.args.number claim (leaf_of from.part e)))
    (c.in_ok-receiver.ensures (λ (e : Entity) (claim : Option Claim). deferred_received s c.args.moment e from.part c.args.mode claim (deferred_copy c.args.number claim (leaf_of from.part e))))
    c.deferred_received.ensures
