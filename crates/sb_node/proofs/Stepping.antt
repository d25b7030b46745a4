-- What the parts of a step are together.
use Rattle.std.proofs.Common.{◌≡◌, ◌≢◌, ◌⊎◌, inl, inr, ℕ, ◌≤◌, Bool, true, false, [], Option, Some, None, Result, Ok, Err, refl, sym, ◌∙◌, ap, subst, arith, max, min}
use Rattle.std.specs.Prelude.{is_some, not}
use Rattle.std.specs.Bool.{MatchBool}
use Rattle.sb_machine.specs.Answers.{answer_of, state_of, is_change, moment_of, max_moment}
use Rattle.sb_machine.specs.Due.{is_due}
use Rattle.sb_machine.specs.History.{Log, IsAnswer, after_call, advanced, is_fault, is_spent, stops}
use Rattle.sb_machine.specs.Repeats.{client_of, outcome_of}
use Rattle.sb_machine.specs.declared.call.Call.{Call}
use Rattle.sb_machine.specs.declared.reply.Answered.{Answered}
use Rattle.sb_machine.specs.declared.reply.Refusal.{Refusal}
use Rattle.sb_machine.specs.declared.reply.Refusal.TheVariants.{DiskFault, Stopped, OutOfMemory, Exhausted}
use Rattle.sb_machine.specs.declared.state.State.{State}
use Rattle.sb_node.specs.Steps.{log_of, entries_with, is_still, call_events, IsStep, IsTicked, IsTickFault, IsAnswered}
use Rattle.sb_node.proofs.Histories.{later_on, call_fault, call_still}
use Rattle.sb_node.proofs.Machine.{no_fault}
use Rattle.sb_node.proofs.Taking.{refused_still, still_stays}

-- an answer where nothing is due
machine_is : (s : State) (t reading : ℕ) (call : Call) (answer : Result Answered Refusal) (stopped : Option ℕ) (new : State) → t ≡ moment_of s reading → is_due t s.space ≡ false → IsAnswered t call s answer stopped new
    → is_fault answer ≡ false → IsAnswer s (moment_of s reading) call answer
machine_is s t reading call answer stopped new at calm is no_fault =
    subst (λ (m : ℕ). IsAnswer s m call answer) at (subst (λ (b : Bool). MatchBool b ((is_spent s t ≡ true) × (answer ≡ Err Exhausted)) (answer ≡ answer_of s t call)) (sym calm) (is.machine no_fault).0)

state_is : (s : State) (t reading : ℕ) (call : Call) (answer : Result Answered Refusal) (stopped : Option ℕ) (new : State) → t ≡ moment_of s reading → is_due t s.space ≡ false → IsAnswered t call s answer stopped new → new ≡ after_call s reading call answer
state_is s t reading call answer stopped new at calm is = go (is_fault answer) refl
  where
    calm' : is_due (moment_of s reading) s.space ≡ false
    calm' = subst (λ (m : ℕ). is_due m s.space ≡ false) at calm

    go : (b : Bool) → is_fault answer ≡ b → new ≡ after_call s reading call answer
    go true e = rw e (is.fault e)
    go false e = rw (e, calm') ((is.machine e).1 ∙ ap (λ (m : ℕ). state_of s m call) at)

same_log : (s s' : State) (stopped stopped' : Bool) → s ≡ s' → stopped ≡ stopped' → ◌≡◌ {A = Log} (record { state = s; stopped = stopped; failing = false; tick = None }) (record { state = s'; stopped = stopped'; failing = false; tick = None })
same_log s s' stopped stopped' e f = ap (λ (x : State). record { state = x; stopped = stopped; failing = false; tick = None }) e ∙ ap (λ (b : Bool). record { state = s'; stopped = b; failing = false; tick = None }) f

not_before : (a now t : ℕ) → t ≡ max a now → now ≤ t
not_before a now t is = omega (arith, is)

-- a tick, or none, and then the call
pub stepped : (tick : Option ℕ) (seat reading t : ℕ) (call : Call) (answer : Result Answered Refusal) (s0 s1 s2 : State) (stopped : Option ℕ) → t ≡ moment_of s0 reading → t ≤ max_moment → IsTicked tick t s0 s1 → is_due t s1.space ≡ false → IsAnswered t call s1 answer stopped s2
    → IsStep (log_of s0 None) (entries_with tick seat reading call answer) (log_of s2 stopped)
stepped None seat reading t call answer s0 s1 s2 stopped at counts went calm is =
    let is' : IsAnswered t call s0 answer stopped s2 = subst (λ (s : State). IsAnswered t call s answer stopped s2) went.1 is in
    record {
      legal = ((tt, machine_is s0 t reading call answer stopped s2 at went.0 is'), refl);
      leads = same_log s2 _ (is_some stopped) _ (state_is s0 t reading call answer stopped s2 at went.0 is') is'.stops;
    }
stepped (Some m) seat reading t call answer s0 s1 s2 stopped at counts went calm is = rw went.0 from_moment
  where
    new : State
    new = advanced s0 t

    calm' : is_due t (advanced s0 t).space ≡ false
    calm' = subst (λ (s : State). is_due t s.space ≡ false) went.3 calm

    is' : IsAnswered t call (advanced s0 t) answer stopped s2
    is' = subst (λ (s : State). IsAnswered t call s answer stopped s2) went.3 is

    there : t ≡ moment_of (advanced s0 t) reading
    there = sym (later_on (min reading max_moment) s0.now t at)

    from_moment : IsStep (log_of s0 None) (entries_with (Some t) seat reading call answer) (log_of s2 stopped)
    from_moment = record {
      legal = ((refl, refl, (not_before (min reading max_moment) s0.now t at, counts, went.1, went.2)), (((refl, sym there), machine_is (advanced s0 t) t reading call answer stopped s2 there calm' is'), refl));
      leads = same_log s2 _ (is_some stopped) _ (state_is (advanced s0 t) t reading call answer stopped s2 there calm' is') is'.stops;
    }

-- a step whose tick failed
pub tick_failed : (seat reading t : ℕ) (call : Call) (s after : State) (stopped : Option ℕ) (e : Refusal) → t ≡ moment_of s reading → IsTickFault t s stopped e → after ≡ s
    → IsStep (log_of s None) (entries_with None seat reading call (Err e)) (log_of after stopped)
tick_failed seat reading t call s after stopped OutOfMemory at is same = record {
  legal = ((tt, λ sound. absurd cc), refl);
  leads = same_log after s (is_some stopped) false same is;
}
tick_failed seat reading t call s after stopped DiskFault at is same = record {
  legal = ((tt, λ sound. absurd cc), refl);
  leads = same_log after s (is_some stopped) true same is.0;
}
tick_failed seat reading t call s after stopped Exhausted at is same =
    let due : is_due (moment_of s reading) s.space ≡ true = ap (λ (m : ℕ). is_due m s.space) (sym at) ∙ is.1 in
    let spent : is_spent s (moment_of s reading) ≡ true = ap (is_spent s) (sym at) ∙ is.2 in
    record {
      legal = ((tt, λ sound. rw due (spent, refl)), refl);
      leads = same_log after _ (is_some stopped) false (rw due same) is.0;
    }
tick_failed seat reading t call s after stopped _ at is same = absurd is

-- one for which no call was made, since a disk had failed
pub fault_step : (seat reading : ℕ) (call : Call) (s after : State) (stopped stopped_after tick : Option ℕ) → stopped ≡ None → tick ≡ None → after ≡ s → is_some stopped_after ≡ true
    → IsStep (log_of s stopped) (entries_with tick seat reading call (Err DiskFault)) (log_of after stopped_after)
fault_step seat reading call s after None stopped_after None ran none same failed = record {
  legal = ((tt, λ sound. absurd cc), refl);
  leads = same_log after s (is_some stopped_after) true same failed;
}
fault_step seat reading call s after None stopped_after (Some t) ran none same failed = absurd cc
fault_step seat reading call s after (Some n) stopped_after tick ran none same failed = absurd cc

-- a step of a node that has stopped
pub stopped_step : (seat reading n : ℕ) (call : Call) (s : State) (stopped : Option ℕ) → stopped ≡ Some n → IsStep (log_of s stopped) (entries_with None seat reading call (Err (Stopped n))) (log_of s stopped)
stopped_step seat reading n call s stopped is = rw is (record { legal = ((tt, refl), refl); leads = refl })

-- nothing is due where time has come up, if it may
pub calm_then : (tick : Option ℕ) (t : ℕ) (s0 s1 : State) → IsTicked tick t s0 s1 → is_due t (advanced s0 t).space ≡ false → is_due t s1.space ≡ false
calm_then None t s0 s1 went calm = subst (λ (s : State). is_due t s.space ≡ false) (sym went.1) went.0
calm_then (Some m) t s0 s1 went calm = subst (λ (s : State). is_due t s.space ≡ false) (sym went.3) calm

-- ---- where nothing changes

pub still_calm : (t : ℕ) (call : Call) (s : State) → is_due t s.space ≡ false → is_still t call s ≡ true → is_change (client_of call) (outcome_of s t call) ≡ false
still_calm t call s calm still = by_change (is_change (client_of call) (outcome_of s t call)) (sym (rw calm refl) ∙ still)
  where
    by_change : (b : Bool) → not b ≡ true → b ≡ false
    by_change true e = absurd cc
    by_change false e = refl

pub still_spent : (t : ℕ) (call : Call) (s : State) → is_due t s.space ≡ true → is_still t call s ≡ true → is_spent s t ≡ true
still_spent t call s due still = sym (rw due refl) ∙ still

-- where a tick may be made, or the call behind it changes something, it isn't so
pub tick_busy : (t : ℕ) (call : Call) (s : State) → is_due t s.space ≡ true → is_spent s t ≡ false → is_still t call s ≡ false
tick_busy t call s due goes = rw (due, goes) refl

pub call_busy : (tick : Option ℕ) (t : ℕ) (call : Call) (s0 s1 : State) → IsTicked tick t s0 s1 → is_change (client_of call) (outcome_of s1 t call) ≡ true → is_still t call s0 ≡ false
call_busy None t call s0 s1 went changes =
    let calm = went.0 in
    let here : is_change (client_of call) (outcome_of s0 t call) ≡ true = subst (λ (s : State). is_change (client_of call) (outcome_of s t call) ≡ true) went.1 changes in
    rw (calm, here) refl
call_busy (Some m) t call s0 s1 went changes = tick_busy t call s0 went.1 went.2

pub still_answered : (t : ℕ) (call : Call) (s1 s2 : State) (answer : Result Answered Refusal) (stopped : Option ℕ) → IsAnswered t call s1 answer stopped s2 → is_change (client_of call) (outcome_of s1 t call) ≡ false → s2 ≡ s1
still_answered t call s1 s2 answer stopped is none = by_fault (is_fault answer) refl
  where
    by_fault : (b : Bool) → is_fault answer ≡ b → s2 ≡ s1
    by_fault true fault = is.fault fault
    by_fault false sound = (is.machine sound).1 ∙ still_stays s1 t call (outcome_of s1 t call) none

-- ---- a call that was answered where nothing is due

sound_goes : (answer : Result Answered Refusal) → is_fault answer ≡ false → stops answer ≡ false
sound_goes (Err DiskFault) sound = absurd cc
sound_goes (Err (Stopped n)) sound = absurd cc
sound_goes _ sound = refl

-- refused by the machine, or for want of memory
pub refused_answered : (t : ℕ) (call : Call) (s : State) (e : Refusal) (answer : Result Answered Refusal) → answer ≡ Err e → (e ≡ OutOfMemory) ⊎ (answer_of s t call ≡ Err e) → IsAnswered t call s answer None s
refused_answered t call s e answer is (inl want) = subst (λ a. IsAnswered t call s a None s) (sym (is ∙ ap Err want)) (record { machine = λ sound. absurd cc; fault = λ fault. refl; stops = refl })
refused_answered t call s e answer is (inr same) =
    let sound : is_fault answer ≡ false = ap is_fault (is ∙ sym same) ∙ no_fault s t call in
    record {
      machine = λ none. (is ∙ sym same, sym (still_stays s t call (outcome_of s t call) (refused_still (client_of call) (outcome_of s t call) e same)));
      fault = λ fault. refl;
      stops = sym (sound_goes answer sound);
    }

pub refused_not : (t : ℕ) (call : Call) (s : State) (e f : Refusal) (answer : Result Answered Refusal) → answer ≡ Err e → (e ≡ OutOfMemory) ⊎ (answer_of s t call ≡ Err e) → is_fault (Err f) ≡ true → f ≢ OutOfMemory → answer ≡ Err f → ⊥
refused_not t call s e f answer is (inl want) fault other same = let e_f : e ≡ f = cc in other (sym e_f ∙ want)
refused_not t call s e f answer is (inr from) fault other same = let no' : true ≡ false = sym fault ∙ ap is_fault (sym same ∙ is ∙ sym from) ∙ no_fault s t call in absurd cc

pub refused_events : (t : ℕ) (call : Call) (s : State) (e : Refusal) (answer : Result Answered Refusal) → answer ≡ Err e → (e ≡ OutOfMemory) ⊎ (answer_of s t call ≡ Err e) → call_events t call s answer ≡ []
refused_events t call s e answer is (inl want) = call_fault t call s answer (ap is_fault (is ∙ ap Err want))
refused_events t call s e answer is (inr same) = call_still t call s answer (refused_still (client_of call) (outcome_of s t call) e same)

-- answered where it changes nothing
pub still_is : (t : ℕ) (call : Call) (s : State) (said answered : Answered) → answer_of s t call ≡ Ok said → answered ≡ said → is_change (client_of call) (outcome_of s t call) ≡ false → IsAnswered t call s (Ok answered) None s
still_is t call s said answered same is none = record {
  machine = λ sound. (ap Ok is ∙ sym same, sym (still_stays s t call (outcome_of s t call) none));
  fault = λ fault. refl;
  stops = refl;
}
