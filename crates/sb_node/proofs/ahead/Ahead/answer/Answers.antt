use Rattle.std.proofs.Common.{◌≡◌, List, ◌++◌, length, Some, Ok, Err, true, false, sym, ap, ◌∙◌, subst, refl}
use Rattle.std.proofs.Math.Logic.{∥∥₁_map}
use Rattle.sb_engine.specs.Engines.{engine_state, carried_out}
use Rattle.sb_machine.specs.Answers.{state_of, is_change}
use Rattle.sb_machine.specs.Consistent.{IsConsistent}
use Rattle.sb_machine.specs.History.{is_fault}
use Rattle.sb_machine.specs.Repeats.{client_of, outcome_of}
use Rattle.sb_machine.specs.declared.call.Event.{Event}
use Rattle.sb_machine.specs.declared.call.Event.TheVariants.{Called}
use Rattle.sb_machine.specs.declared.reply.Refusal.TheVariants.{DiskFault, Stopped}
use Rattle.sb_machine.specs.declared.state.State.{State}
use Rattle.sb_laws.proofs.StaysWhole.{stays_consistent}
use Rattle.sb_recorder.proofs.Beside.{no_account}
use Rattle.sb_node.specs.Ahead.{ahead_journal, StagesEvents}
use Rattle.sb_node.specs.Serving.{raised}
use Rattle.sb_node.specs.Steps.{call_events}
use Rattle.sb_node.proofs.Accounts.{other_told}
use Rattle.sb_node.proofs.Histories.{call_changed, call_fault, call_still}
use Rattle.sb_node.proofs.Keeping.{error_of}
use Rattle.sb_node.proofs.Merely.{call_brief, call_written, call_short}
use Rattle.sb_node.proofs.Sparing.{fault_spared, refused_spared}
use Rattle.sb_node.proofs.Staged.{one_staged, none_staged, staged_still, unstaged_want, want_answered}
use Rattle.sb_node.proofs.Stepping.{refused_answered, refused_not, refused_events, still_is}
use Rattle.sb_node.proofs.Taking.{call_taken}
use Rattle.sb_node.proofs.ahead.Ahead.answer.Goals as goal

-- ---- a call that wasn't planned

pub returns-in_err-plan-clause-answered : goal.returns-in_err-plan-clause-answered
returns-in_err-plan-clause-answered g c other =
    refused_answered c.args.t c.args.call.now (engine_state c.args.self.now.engine) c.in_err-plan.field-0.0 c.from_residual.result (error_of _ _ c.from_residual.ensures) c.in_err-plan.ensures.err

pub returns-in_err-plan-clause-any_moment : goal.returns-in_err-plan-clause-any_moment
returns-in_err-plan-clause-any_moment g c file events ahead = let a = c.args.self.now in staged_still (ahead_journal a) a.last a.staged file events (engine_state a.engine) ahead

pub returns-in_err-plan-clause-ahead : goal.returns-in_err-plan-clause-ahead
returns-in_err-plan-clause-ahead g c file events ahead other =
    let a = c.args.self.now in
    let s = engine_state a.engine in
    none_staged (ahead_journal a) (ahead_journal a) a.last a.last a.staged a.staged file events (call_events c.args.t c.args.call.now s c.from_residual.result) s s ahead refl refl refl refl
    (refused_events c.args.t c.args.call.now s c.in_err-plan.field-0.0 c.from_residual.result (error_of _ _ c.from_residual.ensures) c.in_err-plan.ensures.err)

pub returns-in_err-plan-clause-no_stop : goal.returns-in_err-plan-clause-no_stop
returns-in_err-plan-clause-no_stop g c n same =
    refused_not c.args.t c.args.call.now (engine_state c.args.self.now.engine) c.in_err-plan.field-0.0 (Stopped n) c.from_residual.result (error_of _ _ c.from_residual.ensures) c.in_err-plan.ensures.err refl (λ other. absurd cc) same

pub returns-in_err-plan-clause-account : goal.returns-in_err-plan-clause-account
returns-in_err-plan-clause-account g c = no_account (ahead_journal c.args.self.now) c.requires.running

pub returns-in_err-plan-clause-failed : goal.returns-in_err-plan-clause-failed
returns-in_err-plan-clause-failed g c =
    c.requires.running
    ∙ sym
    (other_told c.from_residual.result
    (refused_not c.args.t c.args.call.now (engine_state c.args.self.now.engine) c.in_err-plan.field-0.0 DiskFault c.from_residual.result (error_of _ _ c.from_residual.ensures) c.in_err-plan.ensures.err refl (λ other. absurd cc)))

pub returns-in_err-plan-clause-still : goal.returns-in_err-plan-clause-still
returns-in_err-plan-clause-still g c other none = record { journal = refl; staged = refl; state = refl }

pub returns-in_err-plan-clause-free : goal.returns-in_err-plan-clause-free
returns-in_err-plan-clause-free g c small =
    refused_spared c.args.t c.args.call.now (engine_state c.args.self.now.engine) c.in_err-plan.field-0.0 c.from_residual.result (error_of _ _ c.from_residual.ensures) (c.in_err-plan.ensures.free small)

-- ---- one that changes nothing

pub returns-then-not-is_changing-clause-answered : goal.returns-then-not-is_changing-clause-answered
returns-then-not-is_changing-clause-answered g c other =
    let s = engine_state c.args.self.now.engine in
    let still : is_change (client_of c.args.call.now) (outcome_of s c.args.t c.args.call.now) ≡ false = c.in_ok-plan.ensures.ok.0.change ∙ sym c.if-not-is_changing.ensures in
    still_is c.args.t c.args.call.now s c.in_ok-plan.plan.answered c.into_answered.result c.in_ok-plan.ensures.ok.0.answer c.into_answered.ensures still

pub returns-then-not-is_changing-clause-any_moment : goal.returns-then-not-is_changing-clause-any_moment
returns-then-not-is_changing-clause-any_moment g c file events ahead = let a = c.args.self.now in staged_still (ahead_journal a) a.last a.staged file events (engine_state a.engine) ahead

pub returns-then-not-is_changing-clause-account : goal.returns-then-not-is_changing-clause-account
returns-then-not-is_changing-clause-account g c = no_account (ahead_journal c.args.self.now) c.requires.running

pub returns-then-not-is_changing-clause-ahead : goal.returns-then-not-is_changing-clause-ahead
returns-then-not-is_changing-clause-ahead g c file events ahead other =
    let a = c.args.self.now in
    let s = engine_state a.engine in
    let still : is_change (client_of c.args.call.now) (outcome_of s c.args.t c.args.call.now) ≡ false = c.in_ok-plan.ensures.ok.0.change ∙ sym c.if-not-is_changing.ensures in
    none_staged (ahead_journal a) (ahead_journal a) a.last a.last a.staged a.staged file events (call_events c.args.t c.args.call.now s (Ok c.into_answered.result)) s s ahead refl refl refl refl
    (call_still c.args.t c.args.call.now s (Ok c.into_answered.result) still)

pub returns-then-not-is_changing-clause-still : goal.returns-then-not-is_changing-clause-still
returns-then-not-is_changing-clause-still g c other none = record { journal = refl; staged = refl; state = refl }

-- ---- one whose event wasn't staged

pub stage-requires-clause-spellable : goal.stage-requires-clause-spellable
stage-requires-clause-spellable g c =
    let s = engine_state c.args.self.now.engine in
    let changing : is_change (client_of c.args.call.now) (outcome_of s c.args.t c.args.call.now) ≡ true = c.in_ok-plan.ensures.ok.0.change ∙ sym c.if-not-is_changing.ensures in
    call_written s c.args.t c.args.call.now c.args.self.now.consistent c.requires.order changing

pub stage-requires-clause-short : goal.stage-requires-clause-short
stage-requires-clause-short g c spelled =
    let s = engine_state c.args.self.now.engine in
    let changing : is_change (client_of c.args.call.now) (outcome_of s c.args.t c.args.call.now) ≡ true = c.in_ok-plan.ensures.ok.0.change ∙ sym c.if-not-is_changing.ensures in
    call_short s c.args.t c.args.call.now c.args.self.now.consistent c.requires.order changing spelled

pub returns-in-Err-clause-any_moment : goal.returns-in-Err-clause-any_moment
returns-in-Err-clause-any_moment g c file events ahead = c.stage.ensures.any_moment file ahead.staged ahead.holds

pub returns-in-Err-clause-answered : goal.returns-in-Err-clause-answered
returns-in-Err-clause-answered g c other =
    let want = unstaged_want (ahead_journal c.args.self.now) (ahead_journal c.stage.new.self) c.in-Err.refusal c.in-Err.ensures.refused.0 (λ same. other (ap Err same)) in
    want_answered c.args.t c.args.call.now (engine_state c.args.self.now.engine) (engine_state c.stage.new.self.engine) c.in-Err.refusal want.0 c.stage.ensures.state

pub returns-in-Err-clause-ahead : goal.returns-in-Err-clause-ahead
returns-in-Err-clause-ahead g c file events ahead other =
    let a = c.args.self.now in
    let b = c.stage.new.self in
    let s = engine_state a.engine in
    let want = unstaged_want (ahead_journal a) (ahead_journal b) c.in-Err.refusal c.in-Err.ensures.refused.0 (λ same. other (ap Err same)) in
    let fault : is_fault (Err c.in-Err.refusal) ≡ true = ap (λ e. is_fault (Err e)) want.0 in
    none_staged (ahead_journal a) (ahead_journal b) a.last b.last a.staged b.staged file events (call_events c.args.t c.args.call.now s (Err c.in-Err.refusal)) s (engine_state b.engine) ahead want.1 c.stage.ensures.last c.in-Err.ensures.refused.1 c.stage.ensures.state
    (call_fault c.args.t c.args.call.now s (Err c.in-Err.refusal) fault)

pub returns-in-Err-clause-still : goal.returns-in-Err-clause-still
returns-in-Err-clause-still g c other none =
    let want = unstaged_want (ahead_journal c.args.self.now) (ahead_journal c.stage.new.self) c.in-Err.refusal c.in-Err.ensures.refused.0 (λ same. other (ap Err same)) in
    record { journal = want.1; staged = c.in-Err.ensures.refused.1; state = c.stage.ensures.state }

pub returns-in-Err-clause-free : goal.returns-in-Err-clause-free
returns-in-Err-clause-free g c small =
    let s = engine_state c.args.self.now.engine in
    let changing : is_change (client_of c.args.call.now) (outcome_of s c.args.t c.args.call.now) ≡ true = c.in_ok-plan.ensures.ok.0.change ∙ sym c.if-not-is_changing.ensures in
    let bare = c.in_ok-plan.ensures.bare small in
    fault_spared c.in-Err.refusal (Err c.in-Err.refusal) refl (c.in-Err.ensures.free bare.0 bare.1 (call_brief s c.args.t c.args.call.now c.args.self.now.consistent c.requires.order changing small))

-- ---- one whose event was staged

pub invariant_of-self : goal.invariant_of-self
invariant_of-self g c =
    let s = engine_state c.args.self.now.engine in
    let went : engine_state c.commit-answered.new.self ≡ state_of s c.args.t c.args.call.now =
    c.commit-answered.ensures.state ∙ ap (λ (x : State). carried_out c.args.t c.in_ok-plan.plan x) c.in-Ok.ensures.state ∙ sym (c.in_ok-plan.ensures.ok.0.state (sym c.if-not-is_changing.ensures)) in
    record {
      consistent = ∥∥₁_map c.args.self.now.consistent (λ k. subst IsConsistent (sym went) (stays_consistent s c.args.t c.args.call.now k c.requires.order c.requires.later c.requires.counts));
    }

pub returns-clause-any_moment : goal.returns-clause-any_moment
returns-clause-any_moment g c file events ahead = c.stage.ensures.any_moment file ahead.staged ahead.holds

pub returns-clause-ahead : goal.returns-clause-ahead
returns-clause-ahead g c file events ahead other =
    let a = c.args.self.now in
    let b = c.stage.new.self in
    let s = engine_state a.engine in
    let changing : is_change (client_of c.args.call.now) (outcome_of s c.args.t c.args.call.now) ≡ true = c.in_ok-plan.ensures.ok.0.change ∙ sym c.if-not-is_changing.ensures in
    let went : engine_state c.commit-answered.new.self ≡ state_of s c.args.t c.args.call.now =
    c.commit-answered.ensures.state ∙ ap (λ (x : State). carried_out c.args.t c.in_ok-plan.plan x) c.in-Ok.ensures.state ∙ sym (c.in_ok-plan.ensures.ok.0.state (sym c.if-not-is_changing.ensures)) in
    let after = engine_state c.commit-answered.new.self in
    subst (λ (l : List Event). StagesEvents (ahead_journal b) b.last b.staged file (events ++ l) after) (sym (call_changed c.args.t c.args.call.now s c.commit-answered.result changing))
    (one_staged (ahead_journal a) (ahead_journal b) a.last b.last a.staged b.staged file events s after (Called c.args.t c.args.call.now) ahead (c.in-Ok.ensures.staged file ahead.staged ahead.holds) c.stage.ensures.last c.in-Ok.ensures.count
    (call_taken s c.args.t c.args.call.now c.requires.later c.requires.counts c.requires.calm changing ∙ ap Some (sym went)))

pub returns-clause-still : goal.returns-clause-still
returns-clause-still g c other none =
    let s = engine_state c.args.self.now.engine in
    let changing : is_change (client_of c.args.call.now) (outcome_of s c.args.t c.args.call.now) ≡ true = c.in_ok-plan.ensures.ok.0.change ∙ sym c.if-not-is_changing.ensures in
    absurd (let one = sym (call_changed c.args.t c.args.call.now s c.commit-answered.result changing) ∙ none in cc)

-- ---- how many are staged

pub returns-in_err-plan-clause-count : goal.returns-in_err-plan-clause-count
returns-in_err-plan-clause-count g c other =
    ap (λ (l : List Event). raised c.args.self.now.staged (length l)) (sym (refused_events c.args.t c.args.call.now (engine_state c.args.self.now.engine) c.in_err-plan.field-0.0 c.from_residual.result (error_of _ _ c.from_residual.ensures) c.in_err-plan.ensures.err))

pub returns-then-not-is_changing-clause-count : goal.returns-then-not-is_changing-clause-count
returns-then-not-is_changing-clause-count g c other =
    let s = engine_state c.args.self.now.engine in
    let still : is_change (client_of c.args.call.now) (outcome_of s c.args.t c.args.call.now) ≡ false = c.in_ok-plan.ensures.ok.0.change ∙ sym c.if-not-is_changing.ensures in
    ap (λ (l : List Event). raised c.args.self.now.staged (length l)) (sym (call_still c.args.t c.args.call.now s (Ok c.into_answered.result) still))

pub returns-in-Err-clause-count : goal.returns-in-Err-clause-count
returns-in-Err-clause-count g c other =
    let a = c.args.self.now in
    let want = unstaged_want (ahead_journal a) (ahead_journal c.stage.new.self) c.in-Err.refusal c.in-Err.ensures.refused.0 (λ same. other (ap Err same)) in
    let fault : is_fault (Err c.in-Err.refusal) ≡ true = ap (λ e. is_fault (Err e)) want.0 in
    c.in-Err.ensures.refused.1 ∙ ap (λ (l : List Event). raised a.staged (length l)) (sym (call_fault c.args.t c.args.call.now (engine_state a.engine) (Err c.in-Err.refusal) fault))

pub returns-clause-count : goal.returns-clause-count
returns-clause-count g c other =
    let a = c.args.self.now in
    let s = engine_state a.engine in
    let changing : is_change (client_of c.args.call.now) (outcome_of s c.args.t c.args.call.now) ≡ true = c.in_ok-plan.ensures.ok.0.change ∙ sym c.if-not-is_changing.ensures in
    c.in-Ok.ensures.count ∙ ap (λ (l : List Event). raised a.staged (length l)) (sym (call_changed c.args.t c.args.call.now s c.commit-answered.result changing))

-- ---- a disk that failed failed for a call that changes something

pub returns-in_err-plan-clause-busy : goal.returns-in_err-plan-clause-busy
returns-in_err-plan-clause-busy g c same =
    absurd (refused_not c.args.t c.args.call.now (engine_state c.args.self.now.engine) c.in_err-plan.field-0.0 DiskFault c.from_residual.result (error_of _ _ c.from_residual.ensures) c.in_err-plan.ensures.err refl (λ other. absurd cc) same)

pub returns-in-Err-clause-busy : goal.returns-in-Err-clause-busy
returns-in-Err-clause-busy g c same = c.in_ok-plan.ensures.ok.0.change ∙ sym c.if-not-is_changing.ensures
