use Rattle.std.proofs.Common.{◌≡◌, ◌≢◌, [], Some, None, true, refl, sym, ap, ◌∙◌, subst}
use Rattle.std.proofs.Math.Logic.{∥∥₁_map}
use Rattle.sb_engine.specs.Engines.{engine_state, carried_out}
use Rattle.sb_machine.specs.Consistent.{IsConsistent}
use Rattle.sb_machine.specs.Due.{is_due}
use Rattle.sb_machine.specs.History.{advanced}
use Rattle.sb_machine.specs.declared.call.Event.TheVariants.{Tick}
use Rattle.sb_machine.specs.declared.reply.Refusal.TheVariants.{DiskFault}
use Rattle.sb_machine.specs.declared.state.State.{State}
use Rattle.sb_laws.proofs.StaysWhole.{ticks_consistent}
use Rattle.sb_recorder.proofs.Beside.{no_account}
use Rattle.sb_node.specs.Ahead.{ahead_journal, IsUnmoved}
use Rattle.sb_node.specs.Steps.{IsTickFault}
use Rattle.sb_node.proofs.Accounts.{other_tells}
use Rattle.sb_node.proofs.Keeping.{error_of, unplanned, unplanned_not}
use Rattle.sb_node.proofs.Machine.{tick_written, tick_is_short}
use Rattle.sb_node.proofs.Merely.{merely_sweepable}
use Rattle.sb_node.proofs.Staged.{one_staged, none_staged, staged_still, unstaged_tick, with_rest}
use Rattle.sb_node.proofs.Taking.{tick_taken}
use Rattle.sb_node.proofs.ahead.Ahead.tick.Goals as goal

pub returns-then-not-is_due-clause-ahead : goal.returns-then-not-is_due-clause-ahead
returns-then-not-is_due-clause-ahead g c file events ahead =
    let a = c.args.self.now in
    let s = engine_state a.engine in
    none_staged (ahead_journal a) (ahead_journal a) a.last a.last a.staged a.staged file events [] s s ahead refl refl refl refl refl

pub returns-then-not-is_due-clause-any_moment : goal.returns-then-not-is_due-clause-any_moment
returns-then-not-is_due-clause-any_moment g c file events ahead = let a = c.args.self.now in staged_still (ahead_journal a) a.last a.staged file events (engine_state a.engine) ahead

pub returns-then-not-is_due-clause-account : goal.returns-then-not-is_due-clause-account
returns-then-not-is_due-clause-account g c = no_account (ahead_journal c.args.self.now) c.requires.running

pub plan_tick-requires : goal.plan_tick-requires
plan_tick-requires g c = record { sweepable = merely_sweepable (engine_state c.args.self.now.engine) c.args.self.now.consistent }

pub returns-in_err-plan-clause-any_moment : goal.returns-in_err-plan-clause-any_moment
returns-in_err-plan-clause-any_moment g c file events ahead = let a = c.args.self.now in staged_still (ahead_journal a) a.last a.staged file events (engine_state a.engine) ahead

-- where nothing was planned
pub returns-in_err-plan-clause-err : goal.returns-in_err-plan-clause-err
returns-in_err-plan-clause-err g c =
    let a = c.args.self.now in
    let s = engine_state a.engine in
    with_rest c.from_residual.result (λ e. e ≢ DiskFault) (IsTickFault c.args.t s None) (IsUnmoved a a)
    (unplanned c.args.t s None c.in_err-plan.field-0.0 c.from_residual.result (error_of _ _ c.from_residual.ensures) c.in_err-plan.ensures.err (sym c.if-not-is_due.ensures) refl)
    (record { journal = refl; staged = refl; state = refl })

pub returns-in_err-plan-clause-account : goal.returns-in_err-plan-clause-account
returns-in_err-plan-clause-account g c = no_account (ahead_journal c.args.self.now) c.requires.running

pub returns-in_err-plan-clause-failed : goal.returns-in_err-plan-clause-failed
returns-in_err-plan-clause-failed g c =
    c.requires.running ∙ sym (other_tells c.from_residual.result (unplanned_not c.in_err-plan.field-0.0 c.from_residual.result _ ⊥ (error_of _ _ c.from_residual.ensures) c.in_err-plan.ensures.err))

pub stage-requires-clause-spellable : goal.stage-requires-clause-spellable
stage-requires-clause-spellable g c = tick_written c.args.t

pub stage-requires-clause-short : goal.stage-requires-clause-short
stage-requires-clause-short g c spelled = tick_is_short c.args.t

pub returns-in-Err-clause-any_moment : goal.returns-in-Err-clause-any_moment
returns-in-Err-clause-any_moment g c file events ahead = c.stage.ensures.any_moment file ahead.staged ahead.holds

pub returns-in-Err-clause-err : goal.returns-in-Err-clause-err
returns-in-Err-clause-err g c other =
    let a = c.args.self.now in
    let b = c.stage.new.self in
    let fact = unstaged_tick (ahead_journal a) (ahead_journal b) c.args.t (engine_state a.engine) c.in-Err.refusal c.in-Err.ensures.refused.0 other in
    (fact.0, record { journal = fact.1; staged = c.in-Err.ensures.refused.1; state = c.stage.ensures.state })

pub invariant_of-self : goal.invariant_of-self
invariant_of-self g c =
    let s = engine_state c.args.self.now.engine in
    let t = c.args.t in
    let went : engine_state c.commit-answered.new.self ≡ advanced s t =
    c.commit-answered.ensures.state ∙ ap (λ (x : State). carried_out t c.in_ok-plan.plan x) c.in-Ok.ensures.state ∙ c.in_ok-plan.ensures.ok.0 in
    record {
      consistent = ∥∥₁_map c.args.self.now.consistent (λ k. subst IsConsistent (sym went) (ticks_consistent s t k c.requires.later c.requires.counts c.in_ok-plan.ensures.ok.1));
    }

pub returns-clause-any_moment : goal.returns-clause-any_moment
returns-clause-any_moment g c file events ahead = c.stage.ensures.any_moment file ahead.staged ahead.holds

pub returns-clause-ahead : goal.returns-clause-ahead
returns-clause-ahead g c file events ahead =
    let a = c.args.self.now in
    let b = c.stage.new.self in
    let s = engine_state a.engine in
    let t = c.args.t in
    let due : is_due t s.space ≡ true = sym c.if-not-is_due.ensures in
    let went : engine_state c.commit-answered.new.self ≡ advanced s t =
    c.commit-answered.ensures.state ∙ ap (λ (x : State). carried_out t c.in_ok-plan.plan x) c.in-Ok.ensures.state ∙ c.in_ok-plan.ensures.ok.0 in
    one_staged (ahead_journal a) (ahead_journal b) a.last b.last a.staged b.staged file events s (engine_state c.commit-answered.new.self) (Tick t) ahead (c.in-Ok.ensures.staged file ahead.staged ahead.holds) c.stage.ensures.last c.in-Ok.ensures.count
    (tick_taken s t c.requires.later c.requires.counts due c.in_ok-plan.ensures.ok.1 ∙ ap Some (sym went))

pub commit-answered-requires : goal.commit-answered-requires
commit-answered-requires g c = record { room = c.in-Ok.ensures.room c.args.t c.in_ok-plan.ensures.ok.2 }

-- ---- a disk that failed failed for a tick that could be made

pub returns-in_err-plan-clause-busy : goal.returns-in_err-plan-clause-busy
returns-in_err-plan-clause-busy g c = unplanned_not c.in_err-plan.field-0.0 c.from_residual.result _ _ (error_of _ _ c.from_residual.ensures) c.in_err-plan.ensures.err

pub returns-in-Err-clause-busy : goal.returns-in-Err-clause-busy
returns-in-Err-clause-busy g c same = c.in_ok-plan.ensures.ok.1
