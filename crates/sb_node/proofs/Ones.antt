-- What the entries of one call say of it: where it is refused, and where nothing changes.
use Rattle.std.proofs.Common.{◌≡◌, ◌≢◌, ℕ, [], Bool, true, false, true≢false, Option, Some, None, Result, Ok, Err, refl, sym, ◌∙◌, ap}
use Rattle.std.specs.Prelude.{IfErr, IfSome}
use Rattle.sb_machine.specs.Accounts.{changing}
use Rattle.sb_machine.specs.Answers.{answer_of, is_change, moment_of}
use Rattle.sb_machine.specs.Due.{is_due}
use Rattle.sb_machine.specs.History.{Log, IsAnswer, after_call, after_entries, advanced, is_fault, is_spent, stops}
use Rattle.sb_machine.specs.Repeats.{client_of, outcome_of}
use Rattle.sb_machine.specs.declared.call.Call.{Call}
use Rattle.sb_machine.specs.declared.reply.Answered.{Answered}
use Rattle.sb_machine.specs.declared.reply.Refusal.{Refusal}
use Rattle.sb_machine.specs.declared.reply.Refusal.TheVariants.{DiskFault, Exhausted, Stopped}
use Rattle.sb_machine.specs.declared.state.State.{State}
use Rattle.sb_node.specs.Steps.{entries_with, is_still, log_of, ticked_to, IsStep}
use Rattle.sb_node.proofs.Stepping.{still_calm, still_spent}
use Rattle.sb_node.proofs.Taking.{refused_still, still_stays, when_false}

-- ---- a call that was refused

module _ (s : State) (reading : ℕ) (call : Call) (answer : Result Answered Refusal) (e : Refusal) (is : answer ≡ Err e) (answers : is_fault answer ≡ false → IsAnswer s (moment_of s reading) call answer) where
  -- by the machine, where nothing is due
  no_change : is_fault answer ≡ false → is_due (moment_of s reading) s.space ≡ false → is_change (client_of call) (outcome_of s (moment_of s reading) call) ≡ false
  no_change sound calm =
      let t = moment_of s reading in
      let said : answer ≡ answer_of s t call = when_false (is_due t s.space) ((is_spent s t ≡ true) × (answer ≡ Err Exhausted)) (answer ≡ answer_of s t call) calm (answers sound) in
      refused_still (client_of call) (outcome_of s t call) e (sym said ∙ is)

  -- it leaves its state
  refused_state : after_call s reading call answer ≡ s
  refused_state = by_tests (is_fault answer) (is_due (moment_of s reading) s.space) refl refl
    where
      by_tests : (f d : Bool) → is_fault answer ≡ f → is_due (moment_of s reading) s.space ≡ d → after_call s reading call answer ≡ s
      by_tests true d fault due = rw fault refl
      by_tests false true sound due = rw (sound, due) refl
      by_tests false false sound due = rw (sound, due) (still_stays s (moment_of s reading) call (outcome_of s (moment_of s reading) call) (no_change sound due))

-- behind its tick
pub refused_leads : (tick : Option ℕ) (s after : State) (seat reading : ℕ) (call : Call) (answer : Result Answered Refusal) → IsStep (log_of s None) (entries_with tick seat reading call answer) (log_of after None) → IfErr answer (λ e. after ≡ ticked_to tick s)
refused_leads tick s after seat reading call (Ok reply) step = tt
refused_leads None s after seat reading call (Err e) step = ap (λ (l : Log). l.state) step.leads ∙ refused_state s reading call (Err e) e refl step.legal.0.1
refused_leads (Some t) s after seat reading call (Err e) step = ap (λ (l : Log). l.state) step.leads ∙ refused_state (advanced s t) reading call (Err e) e refl step.legal.1.0.1

-- ---- a call that changes nothing

still_one : (s : State) (seat reading : ℕ) (call : Call) (answer : Result Answered Refusal) → (is_fault answer ≡ false → is_due (moment_of s reading) s.space ≡ false → is_change (client_of call) (outcome_of s (moment_of s reading) call) ≡ false)
    → changing (log_of s None) (entries_with None seat reading call answer) ≡ []
still_one s seat reading call answer still = by_tests (is_fault answer) (is_due (moment_of s reading) s.space) refl refl
  where
    by_tests : (f d : Bool) → is_fault answer ≡ f → is_due (moment_of s reading) s.space ≡ d → changing (log_of s None) (entries_with None seat reading call answer) ≡ []
    by_tests true d fault due = rw fault refl
    by_tests false true sound due = rw (sound, due) refl
    by_tests false false sound due = let none = still sound due in rw (sound, due, none) refl

pub refused_made : (tick : Option ℕ) (s after : State) (seat reading : ℕ) (call : Call) (answer : Result Answered Refusal) → IsStep (log_of s None) (entries_with tick seat reading call answer) (log_of after None)
    → IfErr answer (λ e. tick ≡ None → changing (log_of s None) (entries_with tick seat reading call answer) ≡ [])
refused_made tick s after seat reading call (Ok reply) step = tt
refused_made None s after seat reading call (Err e) step = λ none. still_one s seat reading call (Err e) (no_change s reading call (Err e) e refl step.legal.0.1)
refused_made (Some t) s after seat reading call (Err e) step = λ none. absurd cc

-- where neither time nor the machine changes anything
pub still_made : (tick : Option ℕ) (s after : State) (seat reading : ℕ) (call : Call) (answer : Result Answered Refusal) → IsStep (log_of s None) (entries_with tick seat reading call answer) (log_of after None) → IfSome tick (λ t. t ≡ moment_of s reading)
    → is_still (moment_of s reading) call s ≡ true → changing (log_of s None) (entries_with tick seat reading call answer) ≡ []
still_made None s after seat reading call answer step at still = still_one s seat reading call answer (λ sound calm. still_calm (moment_of s reading) call s calm still)
still_made (Some t) s after seat reading call answer step at still =
    let there = step.legal.0.2 in
    let due : is_due (moment_of s reading) s.space ≡ true = ap (λ (m : ℕ). is_due m s.space) (sym at) ∙ there.2 in
    let left : is_spent s (moment_of s reading) ≡ false = ap (is_spent s) (sym at) ∙ there.3 in
    absurd (true≢false (sym (still_spent (moment_of s reading) call s due still) ∙ left))

-- ---- and more

-- where it runs on, its answer isn't that it has stopped
stops_by : (tick : Option ℕ) (s : State) (seat reading : ℕ) (call : Call) (answer : Result Answered Refusal) → (after_entries (log_of s None) (entries_with tick seat reading call answer)).stopped ≡ stops answer
stops_by None s seat reading call answer = refl
stops_by (Some t) s seat reading call answer = refl

pub runs_on_by : (tick : Option ℕ) (s after : State) (seat n reading : ℕ) (call : Call) (answer : Result Answered Refusal) → IsStep (log_of s None) (entries_with tick seat reading call answer) (log_of after None) → answer ≡ Err (Stopped n) → ⊥
runs_on_by tick s after seat n reading call answer step is =
    true≢false (sym (stops_by tick s seat reading call answer ∙ ap stops is) ∙ ap (λ (l : Log). l.stopped) (sym step.leads))

pub untouched_one : (tick : Option ℕ) (answer : Result Answered Refusal) (Nothing Same : Type 0) → IfErr answer (λ e. tick ≡ None → Nothing) → (Nothing → Same) → IfErr answer (λ e. e ≢ DiskFault → tick ≡ None → Same)
untouched_one tick (Ok reply) Nothing Same made still = tt
untouched_one tick (Err e) Nothing Same made still = λ other none. still (made none)

-- a disk that failed as its events were sealed failed for some
pub sealed_busy : (tick : Option ℕ) (s after : State) (staged : ℕ) (seat reading : ℕ) (call : Call) (answer : Result Answered Refusal) → IsStep (log_of s None) (entries_with tick seat reading call answer) (log_of after None) → IfSome tick (λ t. t ≡ moment_of s reading)
    → (changing (log_of s None) (entries_with tick seat reading call answer) ≡ [] → staged ≡ 0) → (staged ≡ 0 → ⊥) → is_still (moment_of s reading) call s ≡ false
sealed_busy tick s after staged seat reading call answer step at none some = by_flag (is_still (moment_of s reading) call s) refl
  where
    by_flag : (b : Bool) → is_still (moment_of s reading) call s ≡ b → is_still (moment_of s reading) call s ≡ false
    by_flag false is = is
    by_flag true still = absurd (some (none (still_made tick s after seat reading call answer step at still)))
