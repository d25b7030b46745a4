-- What a step of a running node says of the machine.
use Rattle.std.proofs.Common.{◌≡◌, ◌⊎◌, inl, inr, ℕ, List, [], ◌∷◌, ◌++◌, Bool, true, false, true≢false, Option, Some, None, Result, Ok, Err, refl, sym, ◌∙◌, ap, subst, arith, max, min}
use Rattle.std.specs.Prelude.{is_some, is_err, IfErr, IfSome}
use Rattle.std.proofs.lemmas.List.{append-nil}
use Rattle.std.specs.Bool.{MatchBool}
use Rattle.sb_outside.specs.Streams.{Gains}
use Rattle.sb_machine.specs.Answers.{answer_of, moment_of, max_moment}
use Rattle.sb_machine.specs.Consistent.{IsConsistent}
use Rattle.sb_machine.specs.Due.{is_due}
use Rattle.sb_machine.specs.Events.{replayed, tick_at, whole_step, IsMade, MayLeave}
use Rattle.sb_machine.specs.History.{Log, IsAnswer, IsLegal, advanced, after_entries, entries_at, fresh_log, is_disk_fault, is_fault, is_spent, state_after, stops}
use Rattle.sb_machine.specs.declared.call.Call.{Call}
use Rattle.sb_machine.specs.declared.call.Event.{Event}
use Rattle.sb_machine.specs.declared.call.Event.TheVariants.{Tick}
use Rattle.sb_machine.specs.declared.call.TimedCall.{TimedCall}
use Rattle.sb_machine.specs.declared.history.Entry.TheVariants.{Ticked, Answered as Replied}
use Rattle.sb_machine.specs.declared.reply.Answered.{Answered}
use Rattle.sb_machine.specs.declared.reply.Refusal.{Refusal}
use Rattle.sb_machine.specs.declared.reply.Refusal.TheVariants.{DiskFault, Stopped, OutOfMemory, Exhausted}
use Rattle.sb_machine.specs.declared.state.State.{State}
use Rattle.sb_laws.proofs.Consistency.{consistent_is_sweepable}
use Rattle.sb_laws.proofs.Outcomes.{answers_no_fault}
use Rattle.sb_laws.proofs.Sweeps.{nothing_due_after}
use Rattle.sb_journal.specs.Disks.{Disks}
use Rattle.sb_journal.proofs.Pairs.{weaker_pair}
use Rattle.sb_node.specs.Groups.{FollowGroups}
use Rattle.sb_node.specs.Nodes.{LeadsTo, LeadsToOneOf, StayOneOf}
use Rattle.sb_node.specs.Steps.{IsStep, entries_with, log_of, ticked_to}
use Rattle.sb_app.specs.Outside.{Output}
use Rattle.sb_lines.specs.Replies.{answer_line}
use Rattle.sb_lines.specs.declared.form.Form.{Form}
use Rattle.sb_app.specs.declared.script_line.ScriptLine.TheVariants.{Request}
use Rattle.sb_app.specs.declared.dispatch.AnswerKind.TheVariants.{Accepted, Refused}
use Rattle.sb_app.specs.Runs.{answer_at, kind_of, state_by, states_left, states_of, IsAnswered}

refused_kind : (r : Refusal) → kind_of (Err r) ≡ Refused → is_fault (Err r) ≡ false
refused_kind DiskFault is = absurd cc
refused_kind (Stopped n) is = absurd cc
refused_kind OutOfMemory is = absurd cc
refused_kind _ is = refl

not_accepted : (r : Refusal) → kind_of (Err r) ≡ Accepted → ⊥
not_accepted DiskFault is = absurd cc
not_accepted (Stopped n) is = absurd cc
not_accepted OutOfMemory is = absurd cc
not_accepted _ is = absurd cc

pub accepted_answer : (a : Result Answered Refusal) → kind_of a ≡ Accepted → (is_fault a ≡ false) × (is_err a ≡ false)
accepted_answer (Ok reply) is = (refl, refl)
accepted_answer (Err r) is = absurd (not_accepted r is)

pub refused_answer : (a : Result Answered Refusal) → kind_of a ≡ Refused → (is_fault a ≡ false) × (is_err a ≡ true)
refused_answer (Ok reply) is = absurd cc
refused_answer (Err r) is = (refused_kind r is, refl)

pub going_on : (a : Result Answered Refusal) → is_fault a ≡ false → stops a ≡ false
going_on (Ok reply) e = refl
going_on (Err r) e = by_refusal r e
  where
    by_refusal : (r : Refusal) → is_fault (Err r) ≡ false → stops (Err r) ≡ false
    by_refusal DiskFault e = absurd cc
    by_refusal (Stopped n) e = absurd cc
    by_refusal _ e = refl

pub no_disk_fault : (a : Result Answered Refusal) → is_fault a ≡ false → is_disk_fault a ≡ false
no_disk_fault (Ok reply) e = refl
no_disk_fault (Err r) e = by_refusal r e
  where
    by_refusal : (r : Refusal) → is_fault (Err r) ≡ false → is_disk_fault (Err r) ≡ false
    by_refusal DiskFault e = absurd cc
    by_refusal _ e = refl

none_of : (o : Option ℕ) → is_some o ≡ false → o ≡ None
none_of None e = refl
none_of (Some n) e = absurd cc

-- ---- the entries of a step

-- time that has come up to the moment of a reading stays there
there : (a now t : ℕ) → t ≡ max a now → max a t ≡ t
there a now t is = omega (arith, is)

-- with no tick
called_entries : (s : State) (reading : ℕ) (call : Call) (a : Result Answered Refusal) → IsAnswer s (moment_of s reading) call a → (a ≡ answer_at s reading call) × (entries_with None 0 reading call a ≡ entries_at 0 s reading call)
called_entries s reading call a is = by_due (is_due (moment_of s reading) s.space) refl is
  where
    by_due : (b : Bool) → is_due (moment_of s reading) s.space ≡ b → MatchBool b ((is_spent s (moment_of s reading) ≡ true) × (a ≡ Err Exhausted)) (a ≡ answer_of s (moment_of s reading) call) → (a ≡ answer_at s reading call) × (entries_with None 0 reading call a ≡ entries_at 0 s reading call)
    by_due true due is = (rw (due, is.0) is.1, rw (due, is.0) (ap (λ (x : Result Answered Refusal). Replied 0 reading call x ∷ []) is.1))
    by_due false calm is = (rw calm is, rw calm (ap (λ (x : Result Answered Refusal). Replied 0 reading call x ∷ []) is))

-- behind a tick
ticked_entries : (s : State) (reading : ℕ) (call : Call) (a : Result Answered Refusal) → is_due (moment_of s reading) s.space ≡ true → is_spent s (moment_of s reading) ≡ false → a ≡ answer_of (advanced s (moment_of s reading)) (moment_of s reading) call
    → (a ≡ answer_at s reading call) × (entries_with (Some (moment_of s reading)) 0 reading call a ≡ entries_at 0 s reading call)
ticked_entries s reading call a due goes is = (rw (due, goes) is, rw (due, goes) (ap (λ (x : Result Answered Refusal). Ticked 0 (moment_of s reading) ∷ Replied 0 reading call x ∷ []) is))

-- behind a tick nothing is due
calm_answer : (s : State) (m t : ℕ) (call : Call) (a : Result Answered Refusal) → m ≡ t → is_due t s.space ≡ false → IsAnswer s m call a → a ≡ answer_of s t call
calm_answer s m t call a same calm is =
    let is' : IsAnswer s t call a = subst (λ (n : ℕ). IsAnswer s n call a) same is in
    subst (λ (b : Bool). MatchBool b ((is_spent s t ≡ true) × (a ≡ Err Exhausted)) (a ≡ answer_of s t call)) calm is'

-- what a step adds is what the machine adds
step_entries : (s : State) (tick : Option ℕ) (reading : ℕ) (call : Call) (a : Result Answered Refusal) → IsConsistent s → IfSome tick (λ t. t ≡ moment_of s reading) → IsLegal s (entries_with tick 0 reading call a) → is_fault a ≡ false
    → (a ≡ answer_at s reading call) × (entries_with tick 0 reading call a ≡ entries_at 0 s reading call)
step_entries s None reading call a consistent at legal sound = called_entries s reading call a (legal.0.1 sound)
step_entries s (Some m) reading call a consistent at legal sound =
    subst (λ (n : ℕ). (a ≡ answer_at s reading call) × (entries_with (Some n) 0 reading call a ≡ entries_at 0 s reading call)) (sym at) (at_moment (subst (λ (n : ℕ). IsLegal s (entries_with (Some n) 0 reading call a)) at legal))
  where
    t : ℕ
    t = moment_of s reading

    at_moment : IsLegal s (entries_with (Some t) 0 reading call a) → (a ≡ answer_at s reading call) × (entries_with (Some t) 0 reading call a ≡ entries_at 0 s reading call)
    at_moment legal' =
        let calm : is_due t (advanced s t).space ≡ false = nothing_due_after s t (consistent_is_sweepable s consistent) in
        ticked_entries s reading call a legal'.0.2.2 legal'.0.2.3 (calm_answer (advanced s t) (moment_of (advanced s t) reading) t call a legal'.1.0.0.1 calm (legal'.1.0.1 sound))

-- ---- the step

pub record Stepped (s : State) (reading : ℕ) (call : Call) (answer : Result Answered Refusal) (stopped : Option ℕ) (after : State) : Type 0 where
  pub says : answer ≡ answer_at s reading call
  pub leads : after ≡ state_after s (entries_at 0 s reading call)
  pub runs : stopped ≡ None

stops_by : (s : State) (tick : Option ℕ) (reading : ℕ) (call : Call) (a : Result Answered Refusal) → (after_entries (fresh_log s) (entries_with tick 0 reading call a)).stopped ≡ stops a
stops_by s None reading call a = refl
stops_by s (Some t) reading call a = refl

running_step : (s after : State) (before stopped tick : Option ℕ) (reading : ℕ) (call : Call) (a : Result Answered Refusal) → before ≡ None → IsStep (log_of s before) (entries_with tick 0 reading call a) (log_of after stopped) → IsStep (fresh_log s) (entries_with tick 0 reading call a) (log_of after stopped)
running_step s after before stopped tick reading call a running step = subst (λ (o : Option ℕ). IsStep (log_of s o) (entries_with tick 0 reading call a) (log_of after stopped)) running step

pub stepped : (s after : State) (before stopped tick : Option ℕ) (reading : ℕ) (call : Call) (a : Result Answered Refusal) → IsConsistent s → before ≡ None → IfSome tick (λ t. t ≡ moment_of s reading)
    → IsStep (log_of s before) (entries_with tick 0 reading call a) (log_of after stopped) → is_fault a ≡ false → Stepped s reading call a stopped after
stepped s after before stopped tick reading call a consistent running at step sound =
    let step' = running_step s after before stopped tick reading call a running step in
    let is = step_entries s tick reading call a consistent at step'.legal sound in
    record {
      says = is.0;
      leads = ap (λ (l : Log). l.state) step'.leads ∙ ap (state_after s) is.1;
      runs = none_of stopped (ap (λ (l : Log). l.stopped) step'.leads ∙ stops_by s tick reading call a ∙ going_on a sound);
    }

-- what the step added is what the machine adds
pub stepped_entries : (s after : State) (before stopped tick : Option ℕ) (reading : ℕ) (call : Call) (a : Result Answered Refusal) → IsConsistent s → before ≡ None → IfSome tick (λ t. t ≡ moment_of s reading)
    → IsStep (log_of s before) (entries_with tick 0 reading call a) (log_of after stopped) → is_fault a ≡ false → entries_with tick 0 reading call a ≡ entries_at 0 s reading call
stepped_entries s after before stopped tick reading call a consistent running at step sound =
    (step_entries s tick reading call a consistent at (running_step s after before stopped tick reading call a running step).legal sound).1

pub answered_call : (s after : State) (asked : TimedCall) (form : Form) (a : Result Answered Refusal) (stopped : Option ℕ) (was now : Output) (refused : Bool) → Stepped s asked.reading asked.call a stopped after → Gains was.given now.given (answer_line form a) → is_err a ≡ refused
    → IsAnswered s (Request asked form) was now after refused
answered_call s after asked form a stopped was now refused step gains is = record {
  written = subst (λ (x : Result Answered Refusal). Gains was.given now.given (answer_line form x)) step.says gains;
  leads = step.leads;
  says = sym is ∙ ap is_err step.says;
}

-- want of memory doesn't stop a node
pub still_runs_wanting : (s after : State) (before stopped tick : Option ℕ) (reading : ℕ) (call : Call) (a : Result Answered Refusal) → before ≡ None → IsStep (log_of s before) (entries_with tick 0 reading call a) (log_of after stopped) → a ≡ Err OutOfMemory → stopped ≡ None
still_runs_wanting s after before stopped tick reading call a running step wants =
    let step' = running_step s after before stopped tick reading call a running step in
    none_of stopped (ap (λ (l : Log). l.stopped) step'.leads ∙ stops_by s tick reading call a ∙ ap stops wants)

-- ---- what a crash leaves

-- all that a call leaves leads to the state after its line
whole_after : (s : State) (asked : TimedCall) (form : Form) → IsMade (replayed s (tick_at s (moment_of s asked.reading))) (moment_of s asked.reading) asked.call → replayed s (whole_step s asked.reading asked.call) ≡ state_by s (Request asked form)
whole_after s asked form made = by_tests (is_due (moment_of s asked.reading) s.space) (is_spent s (moment_of s asked.reading)) refl refl
  where
    by_tests : (b c : Bool) → is_due (moment_of s asked.reading) s.space ≡ b → is_spent s (moment_of s asked.reading) ≡ c → replayed s (whole_step s asked.reading asked.call) ≡ state_by s (Request asked form)
    by_tests false c calm any = rw (calm, answers_no_fault s (moment_of s asked.reading) asked.call, calm) refl
    by_tests true true due spent =
        let none : tick_at s (moment_of s asked.reading) ≡ [] = rw (due, spent) refl in
        let calm : is_due (moment_of s asked.reading) s.space ≡ false = subst (λ (events : List Event). is_due (moment_of s asked.reading) (replayed s events).space ≡ false) none made.0 in
        absurd (true≢false (sym due ∙ calm))
    by_tests true false due goes =
        let same : moment_of (advanced s (moment_of s asked.reading)) asked.reading ≡ moment_of s asked.reading = there (min asked.reading max_moment) s.now (moment_of s asked.reading) refl in
        let own : tick_at s (moment_of s asked.reading) ≡ Tick (moment_of s asked.reading) ∷ [] = rw (due, goes) refl in
        let after : is_due (moment_of s asked.reading) (advanced s (moment_of s asked.reading)).space ≡ false = subst (λ (events : List Event). is_due (moment_of s asked.reading) (replayed s events).space ≡ false) own made.0 in
        rw (due, goes, answers_no_fault (advanced s (moment_of s asked.reading)) (moment_of s asked.reading) asked.call, same, after) refl

-- of two states, among which the second may be any of those that are left
among_left : (s x : State) (asked : TimedCall) (form : Form) (was now : Disks) → ((x ≡ s) ⊎ (x ≡ replayed s (tick_at s (moment_of s asked.reading)))) ⊎ (x ≡ state_by s (Request asked form)) → StayOneOf was now (s ∷ x ∷ []) → StayOneOf was now (states_left s (Request asked form))
among_left s x asked form was now which run = weaker_pair was now (LeadsToOneOf (s ∷ x ∷ [])) (LeadsToOneOf (states_left s (Request asked form))) each run
  where
    each : (a b : List ℕ) → LeadsToOneOf (s ∷ x ∷ []) a b → LeadsToOneOf (states_left s (Request asked form)) a b
    each a b (inl is) = inl is
    each a b (inr (inr none)) = absurd none
    each a b (inr (inl is)) = by_which which
      where
        by_which : ((x ≡ s) ⊎ (x ≡ replayed s (tick_at s (moment_of s asked.reading)))) ⊎ (x ≡ state_by s (Request asked form)) → LeadsToOneOf (states_left s (Request asked form)) a b
        by_which (inl (inl same)) = inl (subst (λ (y : State). LeadsTo y a b) same is)
        by_which (inl (inr same)) = inr (inl (subst (λ (y : State). LeadsTo y a b) same is))
        by_which (inr same) = inr (inr (inl (subst (λ (y : State). LeadsTo y a b) same is)))

-- a call that was answered by the machine
pub called_moments : (s after : State) (asked : TimedCall) (form : Form) (was now : Disks) → after ≡ state_by s (Request asked form) → StayOneOf was now (s ∷ after ∷ []) → StayOneOf was now (states_of s (Request asked form))
called_moments s after asked form was now same run = subst (λ (x : State). StayOneOf was now (s ∷ x ∷ [])) same run

pub called_left : (s after : State) (asked : TimedCall) (form : Form) (was now : Disks) → after ≡ state_by s (Request asked form) → StayOneOf was now (s ∷ after ∷ []) → StayOneOf was now (states_left s (Request asked form))
called_left s after asked form was now same run = among_left s after asked form was now (inr same) run

-- the tick of a step is that which was due
due_tick : (s : State) (t reading : ℕ) (call : Call) (a : Result Answered Refusal) (after : State) (stopped : Option ℕ) → t ≡ moment_of s reading → IsStep (fresh_log s) (entries_with (Some t) 0 reading call a) (log_of after stopped) → advanced s t ≡ replayed s (tick_at s (moment_of s reading))
due_tick s t reading call a after stopped at step =
    let m = moment_of s reading in
    let due : is_due m s.space ≡ true = ap (λ (n : ℕ). is_due n s.space) (sym at) ∙ step.legal.0.2.2 in
    let goes : is_spent s m ≡ false = ap (is_spent s) (sym at) ∙ step.legal.0.2.3 in
    rw (due, goes) (ap (advanced s) at)

-- one to which memory was wanting
pub wanting_left : (s after : State) (asked : TimedCall) (form : Form) (a : Result Answered Refusal) (before stopped tick : Option ℕ) (was now : Disks) → before ≡ None → a ≡ Err OutOfMemory → IfSome tick (λ t. t ≡ moment_of s asked.reading) → IsStep (log_of s before) (entries_with tick 0 asked.reading asked.call a) (log_of after stopped)
    → IfErr a (λ e. after ≡ ticked_to tick s) → StayOneOf was now (s ∷ after ∷ []) → StayOneOf was now (states_left s (Request asked form))
wanting_left s after asked form (Ok reply) before stopped tick was now running wants at step left run = absurd cc
wanting_left s after asked form (Err e) before stopped None was now running wants at step left run = among_left s after asked form was now (inl (inl left)) run
wanting_left s after asked form (Err e) before stopped (Some t) was now running wants at step left run =
    among_left s after asked form was now (inl (inr (left ∙ due_tick s t asked.reading asked.call (Err e) after stopped at (running_step s after before stopped (Some t) asked.reading asked.call (Err e) running step)))) run

-- one that a disk failed
pub failed_left : (s : State) (asked : TimedCall) (form : Form) (before tick : Option ℕ) (a : Result Answered Refusal) (was now : Disks) → a ≡ Err DiskFault → tick ≡ None → FollowGroups false (log_of s before) (entries_with tick 0 asked.reading asked.call a ∷ []) was now → StayOneOf was now (states_left s (Request asked form))
failed_left s asked form before tick a was now failed none follows =
    at_fault (subst (λ (x : Result Answered Refusal). FollowGroups false (log_of s before) (entries_with None 0 asked.reading asked.call x ∷ []) was now) failed
    (subst (λ (o : Option ℕ). FollowGroups false (log_of s before) (entries_with o 0 asked.reading asked.call a ∷ []) was now) none follows))
  where
    by_left : (events : List Event) → MayLeave s asked.reading asked.call events → ((replayed s events ≡ s) ⊎ (replayed s events ≡ replayed s (tick_at s (moment_of s asked.reading)))) ⊎ (replayed s events ≡ state_by s (Request asked form))
    by_left events (inl is) = inl (inl (ap (replayed s) is))
    by_left events (inr (inl is)) = inl (inr (ap (replayed s) is))
    by_left events (inr (inr is)) = inr (ap (replayed s) is.1 ∙ whole_after s asked form is.0)

    at_fault : FollowGroups false (log_of s before) (entries_with None 0 asked.reading asked.call (Err DiskFault) ∷ []) was now → StayOneOf was now (states_left s (Request asked form))
    at_fault is =
        let own = is.4 in
        let all : is.2 ≡ own.0 = own.2 ∙ ap (λ (es : List Event). own.0 ++ es) own.4 ∙ append-nil own.0 in
        among_left s (replayed s is.2) asked form was now (by_left is.2 (subst (MayLeave s asked.reading asked.call) (sym all) own.3))
        (subst (λ (d : Disks). StayOneOf was d (s ∷ replayed s is.2 ∷ [])) (sym is.6) (subst (λ (d : Disks). StayOneOf d is.1 (s ∷ replayed s is.2 ∷ [])) is.3 is.5))
