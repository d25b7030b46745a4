-- The events of a call that was made: where they lead, and that a failing disk may leave them.
use Rattle.std.proofs.Common.{◌≡◌, ◌⊎◌, inl, inr, ℕ, List, [], ◌∷◌, ◌++◌, Bool, true, false, Option, Some, None, Result, refl, sym, ◌∙◌, ap, subst}
use Rattle.std.proofs.lemmas.List.{append-nil}
use Rattle.sb_machine.specs.Answers.{is_change, moment_of, state_of}
use Rattle.sb_machine.specs.Due.{is_due}
use Rattle.sb_machine.specs.Events.{after_event, replayed, tick_at, IsMade}
use Rattle.sb_machine.specs.History.{advanced, is_fault}
use Rattle.sb_machine.specs.Repeats.{client_of, outcome_of}
use Rattle.sb_machine.specs.declared.call.Call.{Call}
use Rattle.sb_machine.specs.declared.call.Event.{Event}
use Rattle.sb_machine.specs.declared.call.Event.TheVariants.{Tick, Called}
use Rattle.sb_machine.specs.declared.reply.Answered.{Answered}
use Rattle.sb_machine.specs.declared.reply.Refusal.{Refusal}
use Rattle.sb_machine.specs.declared.state.State.{State}
use Rattle.sb_node.specs.Ahead.{made_events, IsMadeBy}
use Rattle.sb_node.specs.Steps.{call_events, tick_events, IsAnswered, IsTicked}
use Rattle.sb_node.proofs.Histories.{call_fault, call_still, step_changing}
use Rattle.sb_node.proofs.Stepping.{still_answered}

-- events behind others
pub replayed_on : (s : State) (first second : List Event) → replayed s (first ++ second) ≡ replayed (replayed s first) second
replayed_on s [] second = refl
replayed_on s (e ∷ es) second = replayed_on (after_event s e) es second

-- ---- a tick

ticks_are : (tick : Option ℕ) (t : ℕ) (s0 s1 : State) → IsTicked tick t s0 s1 → tick_at s0 t ≡ tick_events tick
ticks_are None t s0 s1 went = let idle = went.0 in rw idle refl
ticks_are (Some m) t s0 s1 went = let due = went.1 in let left = went.2 in rw (due, left) (ap (λ (n : ℕ). Tick n ∷ []) (sym went.0))

ticks_lead : (tick : Option ℕ) (t : ℕ) (s0 s1 : State) → IsTicked tick t s0 s1 → replayed s0 (tick_events tick) ≡ s1
ticks_lead None t s0 s1 went = sym went.1
ticks_lead (Some m) t s0 s1 went = ap (advanced s0) went.0 ∙ sym went.3

-- ---- its call, where nothing is due

-- it changed nothing and has no event, or it changed the state and has one
abbrev IsCalled : ℕ → Call → (s1 s2 : State) → List Event → Type 0
IsCalled t call s1 s2 events = ((events ≡ []) × (s2 ≡ s1)) ⊎ ((events ≡ Called t call ∷ []) × (s2 ≡ state_of s1 t call) × (is_change (client_of call) (outcome_of s1 t call) ≡ true))

called_is : (t : ℕ) (call : Call) (s1 s2 : State) (answer : Result Answered Refusal) → IsAnswered t call s1 answer None s2 → IsCalled t call s1 s2 (call_events t call s1 answer)
called_is t call s1 s2 answer is = by_tests (is_fault answer) (is_change (client_of call) (outcome_of s1 t call)) refl refl
  where
    by_tests : (fault change : Bool) → is_fault answer ≡ fault → is_change (client_of call) (outcome_of s1 t call) ≡ change → IsCalled t call s1 s2 (call_events t call s1 answer)
    by_tests true change fault changes = inl (call_fault t call s1 answer fault, is.fault fault)
    by_tests false false sound still = inl (call_still t call s1 answer still, still_answered t call s1 s2 answer None is still)
    by_tests false true sound changes = inr (rw (sound, changes) refl, (is.machine sound).1, changes)

-- ---- both

module _ (s0 s1 s2 : State) (reading : ℕ) (call : Call) (ticks events : List Event) (ticks_is : tick_at s0 (moment_of s0 reading) ≡ ticks) (lead : replayed s0 ticks ≡ s1) (calm : is_due (moment_of s0 reading) s1.space ≡ false) where
  both_made : IsCalled (moment_of s0 reading) call s1 s2 events → IsMadeBy s0 reading call (ticks ++ events) s2
  both_made (inl none) = record {
    leads = none.1 ∙ sym lead ∙ sym (ap (replayed s0) alone);
    may = inr (inl (alone ∙ sym ticks_is));
  }
    where
      alone : ticks ++ events ≡ ticks
      alone = ap (λ (l : List Event). ticks ++ l) none.0 ∙ append-nil ticks
  both_made (inr one) = record {
    leads = one.1 ∙ ap (λ (s : State). state_of s (moment_of s0 reading) call) (sym lead) ∙ sym (replayed_on s0 ticks (Called (moment_of s0 reading) call ∷ [])) ∙ ap (λ (l : List Event). replayed s0 (ticks ++ l)) (sym one.0);
    may = inr (inr (subst (λ (s : State). IsMade s (moment_of s0 reading) call) there (calm, one.2), ap (λ (l : List Event). ticks ++ l) one.0 ∙ ap (λ (l : List Event). l ++ Called (moment_of s0 reading) call ∷ []) (sym ticks_is)));
  }
    where
      there : s1 ≡ replayed s0 (tick_at s0 (moment_of s0 reading))
      there = sym lead ∙ ap (replayed s0) (sym ticks_is)

-- a whole step
pub step_made : (tick : Option ℕ) (seat reading t : ℕ) (call : Call) (answer : Result Answered Refusal) (s0 s1 s2 : State) → t ≡ moment_of s0 reading → IsTicked tick t s0 s1 → is_due t s1.space ≡ false → IsAnswered t call s1 answer None s2
    → IsMadeBy s0 reading call (made_events s0 tick seat reading call answer) s2
step_made tick seat reading t call answer s0 s1 s2 at went calm is =
    subst (λ (l : List Event). IsMadeBy s0 reading call l s2) (sym (step_changing tick seat reading t s0 s1 None call answer at went calm))
    (both_made s0 s1 s2 reading call (tick_events tick) (call_events t call s1 answer) (ap (tick_at s0) (sym at) ∙ ticks_are tick t s0 s1 went) (ticks_lead tick t s0 s1 went) (ap (λ (m : ℕ). is_due m s1.space) (sym at) ∙ calm)
    (subst (λ (m : ℕ). IsCalled m call s1 s2 (call_events t call s1 answer)) at (called_is t call s1 s2 answer is)))

-- a call that left the state
pub none_made : (s after : State) (reading : ℕ) (call : Call) (events : List Event) → events ≡ [] → after ≡ s → IsMadeBy s reading call events after
none_made s after reading call events none same = record { leads = same ∙ ap (replayed s) (sym none); may = inl none }

-- ---- where a step has no event

no_tick : (tick : Option ℕ) → tick_events tick ≡ [] → tick ≡ None
no_tick None none = refl
no_tick (Some t) none = absurd cc

neither : (first second : List Event) → first ++ second ≡ [] → (first ≡ []) × (second ≡ [])
neither [] second none = (refl, none)
neither (e ∷ es) second none = absurd cc

pub nothing_made : (tick : Option ℕ) (seat reading t : ℕ) (call : Call) (answer : Result Answered Refusal) (s0 s1 : State) → t ≡ moment_of s0 reading → IsTicked tick t s0 s1 → is_due t s1.space ≡ false → made_events s0 tick seat reading call answer ≡ [] → (tick ≡ None) × (call_events t call s1 answer ≡ [])
nothing_made tick seat reading t call answer s0 s1 at went calm none =
    let parts = neither (tick_events tick) (call_events t call s1 answer) (sym (step_changing tick seat reading t s0 s1 None call answer at went calm) ∙ none) in
    (no_tick tick parts.0, parts.1)
