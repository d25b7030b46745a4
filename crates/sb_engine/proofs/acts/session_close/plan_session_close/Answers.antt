use Rattle.sb_machine.specs.Rows.{answers}
use Rattle.sb_machine.specs.Sessions.{closed, session_close_row}
use Rattle.sb_machine.specs.declared.reply.Reply.TheVariants.{Done}
use Rattle.sb_machine.specs.declared.state.Entity.{Entity}
use Rattle.sb_machine.specs.declared.state.Session.{Session}
use Rattle.sb_entities.specs.Stores.{entity_in, space_in}
use Rattle.sb_engine.proofs.PlannedRows.{plans_by, refuses_on}
use Rattle.sb_engine.proofs.acts.session_close.plan_session_close.Goals as goal

pub returns-in_err-held : goal.returns-in_err-held
returns-in_err-held c =
    let s = space_in c.args.space.now in
    let from = c.args.from.now in
    refuses_on c.from_residual.result c.in_err-held.field-0.0 (session_close_row s c.args.moment from c.args.token) c.from_residual.ensures
    (c.in_err-held.ensures (λ (e : Entity) (x : Session). answers Done (closed s c.args.moment e from.part c.args.token.lock)))

pub returns : goal.returns
returns c =
    let s = space_in c.args.space.now in
    let from = c.args.from.now in
    let row = answers Done (closed s c.args.moment (entity_in c.in_ok-held.held.entity.now) from.part c.args.token.lock) in
    plans_by c.planned.result (session_close_row s c.args.moment from c.args.token) row
    (c.in_ok-held.ensures (λ (e : Entity) (x : Session). answers Done (closed s c.args.moment e from.part c.args.token.lock)))
    (c.planned.ensures.row row c.close.ensures)
