use Rattle.std.proofs.Common.{◌≡◌, false, ◌≤◌, List, ◌++◌, length, Option, Some, None, Err, refl, sym, ap, ◌∙◌, subst, ℕ, max, min, arith, append_assoc, length-append}
use Rattle.std.specs.Prelude.{IfSome}
use Rattle.sb_journal.specs.Opened.{FindsFile}
use Rattle.sb_engine.specs.Engines.{engine_state}
use Rattle.sb_machine.specs.Answers.{moment_of, max_moment}
use Rattle.sb_machine.specs.Consistent.{IsConsistent}
use Rattle.sb_machine.specs.declared.call.Event.{Event}
use Rattle.sb_machine.specs.declared.state.State.{State}
use Rattle.sb_recorder.proofs.Beside.{account_on}
use Rattle.sb_node.specs.Ahead.{ahead_journal, made_events, StagesEvents}
use Rattle.sb_node.specs.Serving.{raised}
use Rattle.sb_node.specs.Steps.{is_still, tick_events, call_events, IsTicked}
use Rattle.sb_node.proofs.Counts.{raised_on}
use Rattle.sb_node.proofs.Histories.{no_changing, step_changing}
use Rattle.sb_node.proofs.Made.{none_made, nothing_made, step_made}
use Rattle.sb_node.proofs.Merely.{merely_now, merely_calm}
use Rattle.sb_node.proofs.Sparing.{spared_on, spared_tick}
use Rattle.sb_node.proofs.Staged.{other_answer, other_refusal, pairs_behind, that_answer, that_refusal, unmoved_behind, unmoved_staged}
use Rattle.sb_node.proofs.Stepping.{call_busy, calm_then, stepped, tick_busy, tick_failed}
use Rattle.sb_node.proofs.Whole.{step_consistent}
use Rattle.sb_node.proofs.ahead.Ahead.step.Goals as goal

late : (now reading least t : ℕ) {moment : ℕ} → t ≡ max least moment → moment ≡ now → least ≡ min reading max_moment → now ≤ max_moment → t ≤ max_moment
late now reading least t is same cut early = omega (arith, is, same, cut, early)

not_earlier : (now least t : ℕ) {moment : ℕ} → t ≡ max least moment → moment ≡ now → now ≤ t
not_earlier now least t is same = omega (arith, is, same)

at_moment : (now reading least t : ℕ) {moment : ℕ} → t ≡ max least moment → moment ≡ now → least ≡ min reading max_moment → t ≡ max (min reading max_moment) now
at_moment now reading least t is same cut = omega (arith, is, same, cut)

pub tick-requires-clause-counts : goal.tick-requires-clause-counts
tick-requires-clause-counts g c =
    let s = engine_state c.args.self.now.engine in
    late s.now c.args.reading c.min.result c.max-t.result c.max-t.ensures c.moment.ensures c.min.ensures (merely_now s c.args.self.now.consistent)

pub answer-answer-requires-clause-counts : goal.answer-answer-requires-clause-counts
answer-answer-requires-clause-counts g c =
    let s = engine_state c.args.self.now.engine in
    late s.now c.args.reading c.min.result c.max-t.result c.max-t.ensures c.moment.ensures c.min.ensures (merely_now s c.args.self.now.consistent)

pub answer-answer-requires-clause-calm : goal.answer-answer-requires-clause-calm
answer-answer-requires-clause-calm g c =
    let s = engine_state c.args.self.now.engine in
    calm_then c.in-Ok.tick c.max-t.result s (engine_state c.tick.new.self.engine) c.in-Ok.ensures.ok (merely_calm s c.max-t.result c.args.self.now.consistent)

-- ---- a step whose tick failed

pub returns-then-is_disk_refusal-clause-failed : goal.returns-then-is_disk_refusal-clause-failed
returns-then-is_disk_refusal-clause-failed g c = c.in-Err.ensures.failed ∙ sym c.if-is_disk_refusal.ensures

pub returns-in-Err-clause-failed : goal.returns-in-Err-clause-failed
returns-in-Err-clause-failed g c = c.in-Err.ensures.failed ∙ sym c.if-is_disk_refusal.ensures

pub returns-in-Err-clause-step : goal.returns-in-Err-clause-step
returns-in-Err-clause-step g c seat =
    let s = engine_state c.args.self.now.engine in
    let at = at_moment s.now c.args.reading c.min.result c.max-t.result c.max-t.ensures c.moment.ensures c.min.ensures in
    let fact = c.in-Err.ensures.err (other_refusal c.in-Err.refusal (sym c.if-is_disk_refusal.ensures)) in
    tick_failed seat c.args.reading c.max-t.result c.args.call.now s (engine_state c.tick.new.self.engine) None c.in-Err.refusal at fact.0 fact.1.state

pub returns-in-Err-clause-ahead : goal.returns-in-Err-clause-ahead
returns-in-Err-clause-ahead g c file events ahead seat =
    let s = engine_state c.args.self.now.engine in
    let at = at_moment s.now c.args.reading c.min.result c.max-t.result c.max-t.ensures c.moment.ensures c.min.ensures in
    let fact = c.in-Err.ensures.err (other_refusal c.in-Err.refusal (sym c.if-is_disk_refusal.ensures)) in
    unmoved_staged c.args.self.now c.tick.new.self file events (made_events s None seat c.args.reading c.args.call.now (Err c.in-Err.refusal)) fact.1 c.tick.ensures.last
    (no_changing seat c.args.reading c.max-t.result s None None c.args.call.now c.in-Err.refusal at fact.0) ahead

pub returns-in-Err-clause-made : goal.returns-in-Err-clause-made
returns-in-Err-clause-made g c seat =
    let s = engine_state c.args.self.now.engine in
    let at = at_moment s.now c.args.reading c.min.result c.max-t.result c.max-t.ensures c.moment.ensures c.min.ensures in
    let fact = c.in-Err.ensures.err (other_refusal c.in-Err.refusal (sym c.if-is_disk_refusal.ensures)) in
    none_made s (engine_state c.tick.new.self.engine) c.args.reading c.args.call.now (made_events s None seat c.args.reading c.args.call.now (Err c.in-Err.refusal))
    (no_changing seat c.args.reading c.max-t.result s None None c.args.call.now c.in-Err.refusal at fact.0) fact.1.state

pub returns-in-Err-clause-consistent : goal.returns-in-Err-clause-consistent
returns-in-Err-clause-consistent g c consistent = subst IsConsistent (sym (c.in-Err.ensures.err (other_refusal c.in-Err.refusal (sym c.if-is_disk_refusal.ensures))).1.state) consistent

pub returns-in-Err-clause-still : goal.returns-in-Err-clause-still
returns-in-Err-clause-still g c seat none = (c.in-Err.ensures.err (other_refusal c.in-Err.refusal (sym c.if-is_disk_refusal.ensures))).1

pub returns-in-Err-clause-free : goal.returns-in-Err-clause-free
returns-in-Err-clause-free g c =
    let s = engine_state c.args.self.now.engine in
    let at = at_moment s.now c.args.reading c.min.result c.max-t.result c.max-t.ensures c.moment.ensures c.min.ensures in
    spared_tick None c.max-t.result (moment_of s c.args.reading) c.args.call.now s (Err c.in-Err.refusal) refl (sym at) c.in-Err.ensures.due

-- ---- a step that came to its call

pub returns-then-is_disk_fault-clause-any_moment : goal.returns-then-is_disk_fault-clause-any_moment
returns-then-is_disk_fault-clause-any_moment g c file events ahead =
    pairs_behind (ahead_journal c.args.self.now) (ahead_journal c.tick.new.self) (ahead_journal c.answer-answer.new.self) (FindsFile file) c.tick.ensures.aside c.answer-answer.ensures.aside
    (c.tick.ensures.any_moment file events ahead) (c.answer-answer.ensures.any_moment file (events ++ tick_events c.in-Ok.tick) (c.in-Ok.ensures.ahead file events ahead))

pub returns-then-is_disk_fault-clause-account : goal.returns-then-is_disk_fault-clause-account
returns-then-is_disk_fault-clause-account g c =
    account_on (ahead_journal c.args.self.now) (ahead_journal c.tick.new.self) (ahead_journal c.answer-answer.new.self) c.in-Ok.ensures.failed c.tick.ensures.account c.answer-answer.ensures.account

pub returns-then-is_disk_fault-clause-failed : goal.returns-then-is_disk_fault-clause-failed
returns-then-is_disk_fault-clause-failed g c = c.answer-answer.ensures.failed ∙ sym c.if-is_disk_fault.ensures

pub returns-then-is_disk_fault-clause-aside : goal.returns-then-is_disk_fault-clause-aside
returns-then-is_disk_fault-clause-aside g c = c.answer-answer.ensures.aside ∙ c.tick.ensures.aside

pub returns-clause-any_moment : goal.returns-clause-any_moment
returns-clause-any_moment g c file events ahead =
    pairs_behind (ahead_journal c.args.self.now) (ahead_journal c.tick.new.self) (ahead_journal c.answer-answer.new.self) (FindsFile file) c.tick.ensures.aside c.answer-answer.ensures.aside
    (c.tick.ensures.any_moment file events ahead) (c.answer-answer.ensures.any_moment file (events ++ tick_events c.in-Ok.tick) (c.in-Ok.ensures.ahead file events ahead))

pub returns-clause-step : goal.returns-clause-step
returns-clause-step g c seat =
    let s = engine_state c.args.self.now.engine in
    let s1 = engine_state c.tick.new.self.engine in
    let t = c.max-t.result in
    let at = at_moment s.now c.args.reading c.min.result t c.max-t.ensures c.moment.ensures c.min.ensures in
    let calm = calm_then c.in-Ok.tick t s s1 c.in-Ok.ensures.ok (merely_calm s t c.args.self.now.consistent) in
    let counts = late s.now c.args.reading c.min.result t c.max-t.ensures c.moment.ensures c.min.ensures (merely_now s c.args.self.now.consistent) in
    stepped c.in-Ok.tick seat c.args.reading t c.args.call.now c.answer-answer.result s s1 (engine_state c.answer-answer.new.self.engine) None at counts c.in-Ok.ensures.ok calm
    (c.answer-answer.ensures.answered (other_answer c.answer-answer.result (sym c.if-is_disk_fault.ensures)))

pub returns-clause-ahead : goal.returns-clause-ahead
returns-clause-ahead g c file events ahead seat =
    let s = engine_state c.args.self.now.engine in
    let s1 = engine_state c.tick.new.self.engine in
    let b = c.answer-answer.new.self in
    let tick = c.in-Ok.tick in
    let t = c.max-t.result in
    let call = c.args.call.now in
    let answer = c.answer-answer.result in
    let at = at_moment s.now c.args.reading c.min.result t c.max-t.ensures c.moment.ensures c.min.ensures in
    let calm = calm_then tick t s s1 c.in-Ok.ensures.ok (merely_calm s t c.args.self.now.consistent) in
    let mid = c.in-Ok.ensures.ahead file events ahead in
    let last = c.answer-answer.ensures.ahead file (events ++ tick_events tick) mid (other_answer answer (sym c.if-is_disk_fault.ensures)) in
    subst (λ (l : List Event). StagesEvents (ahead_journal b) b.last b.staged file l (engine_state b.engine))
    (append_assoc events (tick_events tick) (call_events t call s1 answer) ∙ ap (λ (l : List Event). events ++ l) (sym (step_changing tick seat c.args.reading t s s1 None call answer at c.in-Ok.ensures.ok calm)))
    last

pub returns-clause-made : goal.returns-clause-made
returns-clause-made g c seat =
    let s = engine_state c.args.self.now.engine in
    let s1 = engine_state c.tick.new.self.engine in
    let t = c.max-t.result in
    let at = at_moment s.now c.args.reading c.min.result t c.max-t.ensures c.moment.ensures c.min.ensures in
    let calm = calm_then c.in-Ok.tick t s s1 c.in-Ok.ensures.ok (merely_calm s t c.args.self.now.consistent) in
    step_made c.in-Ok.tick seat c.args.reading t c.args.call.now c.answer-answer.result s s1 (engine_state c.answer-answer.new.self.engine) at c.in-Ok.ensures.ok calm
    (c.answer-answer.ensures.answered (other_answer c.answer-answer.result (sym c.if-is_disk_fault.ensures)))

pub returns-clause-still : goal.returns-clause-still
returns-clause-still g c seat none =
    let s = engine_state c.args.self.now.engine in
    let s1 = engine_state c.tick.new.self.engine in
    let t = c.max-t.result in
    let at = at_moment s.now c.args.reading c.min.result t c.max-t.ensures c.moment.ensures c.min.ensures in
    let calm = calm_then c.in-Ok.tick t s s1 c.in-Ok.ensures.ok (merely_calm s t c.args.self.now.consistent) in
    let parts = nothing_made c.in-Ok.tick seat c.args.reading t c.args.call.now c.answer-answer.result s s1 at c.in-Ok.ensures.ok calm none in
    unmoved_behind c.args.self.now c.tick.new.self c.answer-answer.new.self (c.in-Ok.ensures.still parts.0) (c.answer-answer.ensures.still (other_answer c.answer-answer.result (sym c.if-is_disk_fault.ensures)) parts.1)

pub returns-clause-consistent : goal.returns-clause-consistent
returns-clause-consistent g c consistent =
    let s = engine_state c.args.self.now.engine in
    let counts = late s.now c.args.reading c.min.result c.max-t.result c.max-t.ensures c.moment.ensures c.min.ensures (merely_now s c.args.self.now.consistent) in
    let later = not_earlier s.now c.min.result c.max-t.result c.max-t.ensures c.moment.ensures in
    step_consistent c.in-Ok.tick c.max-t.result c.args.call.now s (engine_state c.tick.new.self.engine) (engine_state c.answer-answer.new.self.engine) c.answer-answer.result None c.requires.order later counts c.in-Ok.ensures.ok
    (c.answer-answer.ensures.answered (other_answer c.answer-answer.result (sym c.if-is_disk_fault.ensures))) consistent

pub returns-clause-free : goal.returns-clause-free
returns-clause-free g c =
    let s = engine_state c.args.self.now.engine in
    let at = at_moment s.now c.args.reading c.min.result c.max-t.result c.max-t.ensures c.moment.ensures c.min.ensures in
    spared_on c.in-Ok.tick c.in-Ok.tick c.max-t.result (moment_of s c.args.reading) c.args.call.now s (engine_state c.tick.new.self.engine) c.answer-answer.result refl (sym at) c.in-Ok.ensures.ok c.answer-answer.ensures.free

pub returns-clause-account : goal.returns-clause-account
returns-clause-account g c =
    account_on (ahead_journal c.args.self.now) (ahead_journal c.tick.new.self) (ahead_journal c.answer-answer.new.self) c.in-Ok.ensures.failed c.tick.ensures.account c.answer-answer.ensures.account

pub returns-clause-failed : goal.returns-clause-failed
returns-clause-failed g c = c.answer-answer.ensures.failed ∙ sym c.if-is_disk_fault.ensures

pub returns-clause-aside : goal.returns-clause-aside
returns-clause-aside g c = c.answer-answer.ensures.aside ∙ c.tick.ensures.aside

-- ---- no call was answered that the disk failed

pub returns-in-Err-clause-no_fault : goal.returns-in-Err-clause-no_fault
returns-in-Err-clause-no_fault g c = sym c.if-is_disk_refusal.ensures

pub returns-clause-no_fault : goal.returns-clause-no_fault
returns-clause-no_fault g c = sym c.if-is_disk_fault.ensures

-- ---- the moment of a tick is that of its call

ticked_at : (tick : Option ℕ) (t m : ℕ) (s0 s1 : State) → IsTicked tick t s0 s1 → t ≡ m → IfSome tick (λ n. n ≡ m)
ticked_at None t m s0 s1 went at = tt
ticked_at (Some n) t m s0 s1 went at = went.0 ∙ at

pub returns-clause-ticked : goal.returns-clause-ticked
returns-clause-ticked g c =
    let s = engine_state c.args.self.now.engine in
    let at = at_moment s.now c.args.reading c.min.result c.max-t.result c.max-t.ensures c.moment.ensures c.min.ensures in
    ticked_at c.in-Ok.tick c.max-t.result (moment_of s c.args.reading) s (engine_state c.tick.new.self.engine) c.in-Ok.ensures.ok at

-- ---- how many are staged

pub returns-in-Err-clause-count : goal.returns-in-Err-clause-count
returns-in-Err-clause-count g c seat =
    let a = c.args.self.now in
    let s = engine_state a.engine in
    let at = at_moment s.now c.args.reading c.min.result c.max-t.result c.max-t.ensures c.moment.ensures c.min.ensures in
    let fact = c.in-Err.ensures.err (other_refusal c.in-Err.refusal (sym c.if-is_disk_refusal.ensures)) in
    fact.1.staged ∙ ap (λ (l : List Event). raised a.staged (length l)) (sym (no_changing seat c.args.reading c.max-t.result s None None c.args.call.now c.in-Err.refusal at fact.0))

pub returns-clause-count : goal.returns-clause-count
returns-clause-count g c seat =
    let a = c.args.self.now in
    let s = engine_state a.engine in
    let s1 = engine_state c.tick.new.self.engine in
    let t = c.max-t.result in
    let tick = c.in-Ok.tick in
    let answer = c.answer-answer.result in
    let own = call_events t c.args.call.now s1 answer in
    let at = at_moment s.now c.args.reading c.min.result t c.max-t.ensures c.moment.ensures c.min.ensures in
    let calm = calm_then tick t s s1 c.in-Ok.ensures.ok (merely_calm s t c.args.self.now.consistent) in
    c.answer-answer.ensures.count (other_answer answer (sym c.if-is_disk_fault.ensures))
    ∙ ap (λ (n : ℕ). raised n (length own)) c.in-Ok.ensures.count
    ∙ raised_on a.staged (length (tick_events tick)) (length own)
    ∙ ap (raised a.staged) (sym (length-append (tick_events tick) own))
    ∙ ap (λ (l : List Event). raised a.staged (length l)) (sym (step_changing tick seat c.args.reading t s s1 None c.args.call.now answer at c.in-Ok.ensures.ok calm))

-- ---- a disk that failed failed for something that changes

pub returns-then-is_disk_refusal-clause-busy : goal.returns-then-is_disk_refusal-clause-busy
returns-then-is_disk_refusal-clause-busy g c =
    let s = engine_state c.args.self.now.engine in
    let at = at_moment s.now c.args.reading c.min.result c.max-t.result c.max-t.ensures c.moment.ensures c.min.ensures in
    subst (λ (m : ℕ). is_still m c.args.call.now s ≡ false) at (tick_busy c.max-t.result c.args.call.now s c.in-Err.ensures.due (c.in-Err.ensures.busy (that_refusal c.in-Err.refusal (sym c.if-is_disk_refusal.ensures))))

pub returns-then-is_disk_fault-clause-busy : goal.returns-then-is_disk_fault-clause-busy
returns-then-is_disk_fault-clause-busy g c =
    let s = engine_state c.args.self.now.engine in
    let at = at_moment s.now c.args.reading c.min.result c.max-t.result c.max-t.ensures c.moment.ensures c.min.ensures in
    subst (λ (m : ℕ). is_still m c.args.call.now s ≡ false) at
    (call_busy c.in-Ok.tick c.max-t.result c.args.call.now s (engine_state c.tick.new.self.engine) c.in-Ok.ensures.ok (c.answer-answer.ensures.busy (that_answer c.answer-answer.result (sym c.if-is_disk_fault.ensures))))
