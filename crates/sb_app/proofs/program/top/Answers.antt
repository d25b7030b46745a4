use Rattle.std.proofs.Common.{◌∙◌, Bool, List, Some, ℕ, map, refl, subst, sym}
use Rattle.std.specs.Prelude.{nat_lt}
use Rattle.sb_words.specs.Words.{checkpoint_after_in, checkpoint_in, connections_in, max_jump_in}
use Rattle.sb_server.specs.Serves.{WorkerDid}
use Rattle.sb_server.specs.Works.{ConnectionServed}
use Rattle.sb_server.specs.declared.limits.Limits.{Limits}
use Rattle.sb_app.specs.Calls.{task_in}
use Rattle.sb_app.specs.Outside.{input_of, outside_of}
use Rattle.sb_app.specs.Servings.{limits_in, IsServer}
use Rattle.sb_app.proofs.Calls.{bytes_in, checkpoint_is, client_task, days_in, limits_are, most_in, named, other_task, plain_task, unnamed}
use Rattle.sb_app.proofs.Ends.{no_two_server, unread_server}
use Rattle.sb_app.proofs.program.top.Goals as goal

pub returns-in-Err-clause-serves : goal.returns-in-Err-clause-serves
returns-in-Err-clause-serves g c serves =
    let words : List (List ℕ) = map (λ w. w.now) c.args.words.now in
    unread_server (checkpoint_in words) (g.C.Clock.reads c.args.clock.now) (max_jump_in words) (nat_lt 0 (checkpoint_after_in words)) (λ desk. WorkerDid g.R.Door (ConnectionServed g.R.Conn.Conn (g.C.Clock.reads c.args.clock.now) c.args.access.now (limits_in words)) desk (connections_in words)) g.R.Door.count words c.in-Err.fault c.args.salt _ _ _ _ c.args.doors.now.items _ c.in-Err.ensures.bad serves c.carry_out-status.ensures.done c.carry_out-status.ensures.usage

pub returns-in-Err-clause-link : goal.returns-in-Err-clause-link
returns-in-Err-clause-link g c other =
    let words : List (List ℕ) = map (λ w. w.now) c.args.words.now in
    c.carry_out-status.ensures.link (task_in words) (max_jump_in words) (unnamed words (max_jump_in words) c.in-Err.fault c.in-Err.ensures.bad) (other_task words other)

pub returns-in-Err-clause-client_alone : goal.returns-in-Err-clause-client_alone
returns-in-Err-clause-client_alone g c is =
    let words : List (List ℕ) = map (λ w. w.now) c.args.words.now in
    let same = c.carry_out-status.ensures.client_alone (task_in words) (max_jump_in words) (unnamed words (max_jump_in words) c.in-Err.fault c.in-Err.ensures.bad) (client_task words is) in
    rw (same.0, same.1) refl

pub returns-in-Err-clause-input : goal.returns-in-Err-clause-input
returns-in-Err-clause-input g c serves = c.carry_out-status.ensures.unread

pub returns-in_default-clause-serves : goal.returns-in_default-clause-serves
returns-in_default-clause-serves g c serves =
    let words : List (List ℕ) = map (λ w. w.now) c.args.words.now in
    let was = outside_of g.D.Disk g.S.Source g.K.Sink c.args.disk_a c.args.disk_b c.args.input.now c.args.output.now in
    let now = outside_of g.D.Disk g.S.Source g.K.Sink c.serve_over-status.result.1 c.serve_over-status.result.2 c.args.input.now c.serve_over-status.new.output in
    let call : Bool → ℕ → Bool → ℕ → Limits → Type 0 = λ checkpoint days goes_on most limits. IsServer checkpoint (g.C.Clock.reads c.args.clock.now) days goes_on (λ desk. WorkerDid g.R.Door (ConnectionServed g.R.Conn.Conn (g.C.Clock.reads c.args.clock.now) c.args.access.now limits) desk most) g.R.Door.count c.args.salt was now c.args.doors.now.items c.serve_over-status.new.doors.items c.serve_over-status.result.0 in
    let form = c.in-Ok.form in
    let ok = c.in-Ok.ensures.ok in
    subst (λ checkpoint. call checkpoint (max_jump_in words) (nat_lt 0 (checkpoint_after_in words)) (connections_in words) (limits_in words)) (checkpoint_is words form ok)
    (subst (λ days. call form.checkpoint days (nat_lt 0 (checkpoint_after_in words)) (connections_in words) (limits_in words)) (days_in words form ok)
    (subst (λ bytes. call form.checkpoint form.max_jump (nat_lt 0 bytes) (connections_in words) (limits_in words)) (bytes_in words form ok)
    (subst (λ most. call form.checkpoint form.max_jump (nat_lt 0 form.checkpoint_after) most (limits_in words)) (most_in words form ok)
    (subst (λ limits. call form.checkpoint form.max_jump (nat_lt 0 form.checkpoint_after) form.connections limits) (c.limits_of.ensures ∙ limits_are words form ok) (c.serve_over-status.ensures (input_of g.S.Source c.args.input.now))))))

pub returns-in_default-clause-usage : goal.returns-in_default-clause-usage
returns-in_default-clause-usage g c two = absurd (no_two_server c.in-Ok.form.checkpoint _ _ _ _ _ _ _ _ _ _ _ (c.serve_over-status.ensures (input_of g.S.Source c.args.input.now)) two)

pub returns-in_default-clause-usage_alone : goal.returns-in_default-clause-usage_alone
returns-in_default-clause-usage_alone g c two = absurd (no_two_server c.in-Ok.form.checkpoint _ _ _ _ _ _ _ _ _ _ _ (c.serve_over-status.ensures (input_of g.S.Source c.args.input.now)) two)

pub returns-clause-link : goal.returns-clause-link
returns-clause-link g c other =
    let words : List (List ℕ) = map (λ w. w.now) c.args.words.now in
    let is = named words c.in-Ok.form (Some c.in-Some.task) c.in-Ok.ensures.ok (sym c.in-Some.is ∙ c.task_of.ensures) in
    c.carry_out-status-2.ensures.link (Some c.in-Some.task) c.in-Ok.form.max_jump (refl, refl) (λ client. other_task words other (is ∙ client))

pub returns-in-Err-clause-aside : goal.returns-in-Err-clause-aside
returns-in-Err-clause-aside g c plain honest other =
    let words : List (List ℕ) = map (λ w. w.now) c.args.words.now in
    c.carry_out-status.ensures.aside (task_in words) (max_jump_in words) (unnamed words (max_jump_in words) c.in-Err.fault c.in-Err.ensures.bad) (plain_task words plain) honest

pub returns-clause-aside : goal.returns-clause-aside
returns-clause-aside g c plain honest other =
    let words : List (List ℕ) = map (λ w. w.now) c.args.words.now in
    let is = named words c.in-Ok.form (Some c.in-Some.task) c.in-Ok.ensures.ok (sym c.in-Some.is ∙ c.task_of.ensures) in
    c.carry_out-status-2.ensures.aside (Some c.in-Some.task) c.in-Ok.form.max_jump (refl, refl) (λ checkpoint. plain_task words plain (is ∙ checkpoint)) honest
