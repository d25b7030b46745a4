-- When an event is the next one, and the state that it leads to.
use Rattle.std.proofs.Common.{◌≡◌, ◌≢◌, ◌≤◌, ◌⊎◌, inl, inr, ℕ, nat_le, Bool, true, false, cond, ◌&&◌, not, Option, Some, None, Result, Ok, Err, refl, arith}
use Rattle.std.specs.Bool.{MatchBool}
use Rattle.std.specs.Prelude.{IfOk}
use Rattle.std.proofs.lemmas.Bool.Decides.{nat_tests}
use Rattle.sb_machine.specs.Answers.{answer_in, state_in, state_of, is_change, max_moment}
use Rattle.sb_machine.specs.Due.{is_due}
use Rattle.sb_machine.specs.History.{advanced, is_spent}
use Rattle.sb_machine.specs.Repeats.{Outcome, refused, repeated, acted, forgot, client_of, outcome_of}
use Rattle.sb_machine.specs.declared.call.Call.{Call}
use Rattle.sb_machine.specs.declared.call.By.{By}
use Rattle.sb_machine.specs.declared.call.Event.TheVariants.{Tick, Called}
use Rattle.sb_machine.specs.declared.reply.Refusal.{Refusal}
use Rattle.sb_machine.specs.declared.reply.Refusal.TheVariants.{OutOfMemory}
use Rattle.sb_machine.specs.declared.state.State.{State}
use Rattle.sb_machine.proofs.Passed.{both}
use Rattle.sb_node.specs.Recovery.{is_in_time, is_next_tick, is_next_call, next_state}

pub in_time : (now t : ℕ) → now ≤ t → t ≤ max_moment → (nat_le now t && nat_le t max_moment) ≡ true
in_time now t later counts = grind (arith, nat_tests)

not_in_time : (now t : ℕ) → (nat_le now t && nat_le t max_moment) ≡ true → (now ≤ t) × (t ≤ max_moment)
not_in_time now t is = (grind (arith, nat_tests), grind (arith, nat_tests))

-- ---- ticks

pub tick_taken : (s : State) (t : ℕ) → s.now ≤ t → t ≤ max_moment → is_due t s.space ≡ true → is_spent s t ≡ false → next_state s (Some (Tick t)) ≡ Some (advanced s t)
tick_taken s t later counts due left = rw (in_time s.now t later counts, due, left) refl

-- time before now, or past the last moment
pub tick_late : (s : State) (t : ℕ) → is_in_time s t ≡ false → next_state s (Some (Tick t)) ≡ None
tick_late s t late = rw late refl

pub tick_idle : (s : State) (t : ℕ) → is_due t s.space ≡ false → next_state s (Some (Tick t)) ≡ None
tick_idle s t idle = by_time (is_in_time s t)
  where
    by_time : (b : Bool) → cond (b && is_due t s.space && not (is_spent s t)) (Some (advanced s t)) None ≡ None
    by_time true = rw idle refl
    by_time false = refl

pub tick_spent : (s : State) (t : ℕ) → is_spent s t ≡ true → next_state s (Some (Tick t)) ≡ None
tick_spent s t spent = by_tests (is_in_time s t) (is_due t s.space)
  where
    by_tests : (b c : Bool) → cond (b && c && not (is_spent s t)) (Some (advanced s t)) None ≡ None
    by_tests true true = rw spent refl
    by_tests true false = refl
    by_tests false c = refl

-- ---- calls

pub call_taken : (s : State) (t : ℕ) (call : Call) → s.now ≤ t → t ≤ max_moment → is_due t s.space ≡ false → is_change (client_of call) (outcome_of s t call) ≡ true → next_state s (Some (Called t call)) ≡ Some (state_of s t call)
call_taken s t call later counts calm changing = rw (in_time s.now t later counts, calm, changing) refl

pub call_late : (s : State) (t : ℕ) (call : Call) → is_in_time s t ≡ false → next_state s (Some (Called t call)) ≡ None
call_late s t call late = rw late refl

pub call_due : (s : State) (t : ℕ) (call : Call) → is_due t s.space ≡ true → next_state s (Some (Called t call)) ≡ None
call_due s t call due = by_time (is_in_time s t)
  where
    by_time : (b : Bool) → cond (b && not (is_due t s.space) && is_change (client_of call) (outcome_of s t call)) (Some (state_of s t call)) None ≡ None
    by_time true = rw due refl
    by_time false = refl

pub call_still : (s : State) (t : ℕ) (call : Call) → is_change (client_of call) (outcome_of s t call) ≡ false → next_state s (Some (Called t call)) ≡ None
call_still s t call still = by_tests (is_in_time s t) (is_due t s.space)
  where
    by_tests : (b c : Bool) → cond (b && not c && is_change (client_of call) (outcome_of s t call)) (Some (state_of s t call)) None ≡ None
    by_tests true true = refl
    by_tests true false = rw still refl
    by_tests false c = refl

-- what is refused changes nothing
pub refused_still : (by : Option By) (o : Outcome) (r : Refusal) → answer_in o ≡ Err r → is_change by o ≡ false
refused_still by (refused x) r e = refl
refused_still by (repeated reply) r e = absurd cc
refused_still by (acted reply cs) r e = absurd cc
refused_still by (forgot name) r e = absurd cc

-- where nothing changes, the state stays
pub still_stays : (s : State) (t : ℕ) (call : Call) (o : Outcome) → is_change (client_of call) o ≡ false → state_in s t call o ≡ s
still_stays s t call (refused r) still = refl
still_stays s t call (repeated reply) still = refl
still_stays s t call (acted reply cs) still = rw still refl
still_stays s t call (forgot name) still = absurd cc

-- ---- what an event that was taken says

pub record IsTaken (s : State) (t : ℕ) (next : State) (passed : Bool) (after : State) : Type 0 where
  pub later : s.now ≤ t
  pub counts : t ≤ max_moment
  pub passes : passed ≡ true
  pub leads : after ≡ next

pub when : {X : Type 0} (b : Bool) (x y : X) → cond b (Some x) None ≡ Some y → (b ≡ true) × (x ≡ y)
when true x y e = (refl, cc)
when false x y e = absurd cc

pub tick_says : (s : State) (t : ℕ) (next : State) → next_state s (Some (Tick t)) ≡ Some next → IsTaken s t next (not (is_spent s t)) (advanced s t)
tick_says s t next e =
    let is = when (is_next_tick s t) (advanced s t) next e in
    let outer = both (is_in_time s t && is_due t s.space) (not (is_spent s t)) is.0 in
    let inner = both (is_in_time s t) (is_due t s.space) outer.0 in
    let time = not_in_time s.now t inner.0 in
    record { later = time.0; counts = time.1; passes = outer.1; leads = is.1 }

pub call_says : (s : State) (t : ℕ) (call : Call) (next : State) → next_state s (Some (Called t call)) ≡ Some next → IsTaken s t next (is_change (client_of call) (outcome_of s t call)) (state_of s t call)
call_says s t call next e =
    let is = when (is_next_call s t call) (state_of s t call) next e in
    let outer = both (is_in_time s t && not (is_due t s.space)) (is_change (client_of call) (outcome_of s t call)) is.0 in
    let inner = both (is_in_time s t) (not (is_due t s.space)) outer.0 in
    let time = not_in_time s.now t inner.0 in
    record { later = time.0; counts = time.1; passes = outer.1; leads = is.1 }

-- ---- the states of a step

-- ---- what was refused

pub refused_none : {E : Type 0} (r : Result Bool E) (refusal : Refusal) (Taken None_is : Type 0) → IfOk r (λ b. (b ≡ false) × (refusal ≢ OutOfMemory)) → (refusal ≢ OutOfMemory → None_is) → IfOk r (λ b. MatchBool b Taken None_is)
refused_none (Ok true) refusal Taken None_is given is = let never = given.0 in absurd cc
refused_none (Ok false) refusal Taken None_is given is = is given.1
refused_none (Err e) refusal Taken None_is given is = tt

pub not_memory : (refusal : Refusal) (A : Type 0) → (refusal ≡ OutOfMemory) ⊎ A → refusal ≢ OutOfMemory → A
not_memory refusal A (inl is) other = absurd (other is)
not_memory refusal A (inr a) other = a

pub when_true : (b : Bool) (A B : Type 0) → b ≡ true → MatchBool b A B → A
when_true true A B is given = given
when_true false A B is given = absurd cc

pub when_false : (b : Bool) (A B : Type 0) → b ≡ false → MatchBool b A B → B
when_false false A B is given = given
when_false true A B is given = absurd cc
