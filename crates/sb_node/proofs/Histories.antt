-- The events on the disks, before and after a step.
use Rattle.std.proofs.Common.{◌≡◌, ℕ, List, [], ◌∷◌, ◌++◌, map, Bool, true, false, Option, Some, None, Result, Ok, Err, refl, sym, ◌∙◌, ap, max, min, arith}
use Rattle.std.specs.Prelude.{◌&&◌, not, if◌then◌else◌, is_some}
use Rattle.sb_outside.specs.declared.disk.Disk.{Ghosts}
use Rattle.sb_codec.specs.EventBytes.{read_event}
use Rattle.sb_journal.specs.declared.journal.Journal.{Journal}
use Rattle.sb_journal.specs.Journals.{journal_disks, HoldsFile}
use Rattle.sb_journal.specs.Text.{File}
use Rattle.sb_machine.specs.Accounts.{changing}
use Rattle.sb_machine.specs.Answers.{is_change, moment_of, max_moment}
use Rattle.sb_machine.specs.Due.{is_due}
use Rattle.sb_machine.specs.History.{advanced, is_fault}
use Rattle.sb_machine.specs.Repeats.{client_of, outcome_of}
use Rattle.sb_machine.specs.declared.call.Call.{Call}
use Rattle.sb_machine.specs.declared.call.Event.{Event}
use Rattle.sb_machine.specs.declared.call.Event.TheVariants.{Tick, Called}
use Rattle.sb_machine.specs.declared.history.Entry.TheVariants.{Answered as Replied}
use Rattle.sb_machine.specs.declared.reply.Answered.{Answered}
use Rattle.sb_machine.specs.declared.reply.Refusal.{Refusal}
use Rattle.sb_machine.specs.declared.reply.Refusal.TheVariants.{DiskFault, OutOfMemory, Exhausted}
use Rattle.sb_machine.specs.declared.state.State.{State}
use Rattle.sb_node.specs.Nodes.{events_of, events_on}
use Rattle.sb_node.specs.Steps.{log_of, entries_with, tick_events, call_events, IsTicked, IsTickFault}

pub held_events : {D : Type 0} {B : Ghosts D} (j : Journal D B) (file : File) (salt : ℕ) → HoldsFile j file → events_on (journal_disks j) salt ≡ map read_event file.payloads
held_events j file salt holds = ap events_of (holds.reads salt).1

-- ---- the events of a call

still : (fault : Bool) → (not fault && false) ≡ false
still true = refl
still false = refl

pub call_still : (t : ℕ) (call : Call) (s : State) (answer : Result Answered Refusal) → is_change (client_of call) (outcome_of s t call) ≡ false → call_events t call s answer ≡ []
call_still t call s answer none = ap (λ (b : Bool). if not (is_fault answer) && b then Called t call ∷ [] else []) none ∙ ap (λ (b : Bool). if b then Called t call ∷ [] else []) (still (is_fault answer))

pub call_fault : (t : ℕ) (call : Call) (s : State) (answer : Result Answered Refusal) → is_fault answer ≡ true → call_events t call s answer ≡ []
call_fault t call s answer fault = ap (λ (b : Bool). if not b && is_change (client_of call) (outcome_of s t call) then Called t call ∷ [] else []) fault

pub call_changed : (t : ℕ) (call : Call) (s : State) (answered : Answered) → is_change (client_of call) (outcome_of s t call) ≡ true → call_events t call s (Ok answered) ≡ Called t call ∷ []
call_changed t call s answered changing = ap (λ (b : Bool). if b then Called t call ∷ [] else []) changing

-- ---- the events of a step

-- of its call, where nothing is due
call_changing : (seat reading t : ℕ) (s : State) (stopped : Bool) (tick : Option (ℕ × ℕ)) (call : Call) (answer : Result Answered Refusal) → t ≡ moment_of s reading → is_due t s.space ≡ false
    → changing (record { state = s; stopped = stopped; failing = false; tick = tick }) (Replied seat reading call answer ∷ []) ≡ call_events t call s answer
call_changing seat reading t s stopped tick call answer at calm = by_tests (is_fault answer) (is_change (client_of call) (outcome_of s (moment_of s reading) call)) refl refl
  where
    calm' : is_due (moment_of s reading) s.space ≡ false
    calm' = ap (λ (m : ℕ). is_due m s.space) (sym at) ∙ calm

    by_tests : (f b : Bool) → is_fault answer ≡ f → is_change (client_of call) (outcome_of s (moment_of s reading) call) ≡ b
        → changing (record { state = s; stopped = stopped; failing = false; tick = tick }) (Replied seat reading call answer ∷ []) ≡ call_events t call s answer
    by_tests true b fault is = rw (fault) refl
    by_tests false true fault is = rw (fault, calm', at, is) refl
    by_tests false false fault is = rw (fault, calm', at, is) refl

-- of a step that was stopped already, or whose tick failed
pub no_changing : (seat reading t : ℕ) (s : State) (stopped stopped_after : Option ℕ) (call : Call) (e : Refusal) → t ≡ moment_of s reading → IsTickFault t s stopped_after e → changing (log_of s stopped) (Replied seat reading call (Err e) ∷ []) ≡ []
no_changing seat reading t s stopped stopped_after call OutOfMemory at is = refl
no_changing seat reading t s stopped stopped_after call DiskFault at is = refl
no_changing seat reading t s stopped stopped_after call Exhausted at is =
    let due : is_due (moment_of s reading) s.space ≡ true = ap (λ (m : ℕ). is_due m s.space) (sym at) ∙ is.1 in
    rw due refl
no_changing seat reading t s stopped stopped_after call _ at is = absurd is

-- time goes on once for a step
pub later_on : (a now t : ℕ) → t ≡ max a now → max a t ≡ t
later_on a now t is = omega (arith, is)

pub step_changing : (tick : Option ℕ) (seat reading t : ℕ) (s0 s1 : State) (stopped : Option ℕ) (call : Call) (answer : Result Answered Refusal) → t ≡ moment_of s0 reading → IsTicked tick t s0 s1 → is_due t s1.space ≡ false
    → changing (log_of s0 stopped) (entries_with tick seat reading call answer) ≡ tick_events tick ++ call_events t call s1 answer
step_changing None seat reading t s0 s1 stopped call answer at went calm =
    call_changing seat reading t s0 (is_some stopped) None call answer at went.0 ∙ ap (λ (s : State). call_events t call s answer) (sym went.1)
step_changing (Some m) seat reading t s0 s1 stopped call answer at went calm = rw went.0 from_moment
  where
    new : is_due t (advanced s0 t).space ≡ false
    new = ap (λ (s : State). is_due t s.space) (sym went.3) ∙ calm

    there : t ≡ moment_of (advanced s0 t) reading
    there = sym (later_on (min reading max_moment) s0.now t at)

    from_moment : changing (log_of s0 stopped) (entries_with (Some t) seat reading call answer) ≡ tick_events (Some t) ++ call_events t call s1 answer
    from_moment =
        ap (λ (l : List Event). Tick t ∷ l) (call_changing seat reading t (advanced s0 t) (is_some stopped) (Some (seat, t)) call answer there new
        ∙ ap (λ (s : State). call_events t call s answer) (sym went.3))
