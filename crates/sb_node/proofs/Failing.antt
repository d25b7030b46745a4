-- Whether a disk failed in a call of a history, and what that left undecided.
use Rattle.std.proofs.Common.{◌≡◌, ℕ, List, [], ◌∷◌, ◌++◌, Bool, true, false, true≢false, Result, Err, refl, sym, ◌∙◌, subst}
use Rattle.std.specs.Bool.{MatchBool}
use Rattle.std.specs.Prelude.{◌||◌, if◌then◌else◌}
use Rattle.sb_journal.specs.Disks.{Disks}
use Rattle.sb_machine.specs.Events.{replayed, AreUndecided, MayLeave}
use Rattle.sb_machine.specs.History.{Log, after_entry, after_entries, is_disk_fault, state_after, stops}
use Rattle.sb_machine.specs.declared.call.Call.{Call}
use Rattle.sb_machine.specs.declared.call.Event.{Event}
use Rattle.sb_machine.specs.declared.history.Entry.{Entry}
use Rattle.sb_machine.specs.declared.history.Entry.TheVariants.{Ticked, Answered as Replied}
use Rattle.sb_machine.specs.declared.reply.Answered.{Answered}
use Rattle.sb_machine.specs.declared.reply.Refusal.{Refusal}
use Rattle.sb_machine.specs.declared.reply.Refusal.TheVariants.{DiskFault}
use Rattle.sb_machine.specs.declared.state.State.{State}
use Rattle.sb_node.specs.Groups.{has_fault}
use Rattle.sb_node.specs.Serving.{IsLeft, IsWithOrNot}
use Rattle.sb_node.proofs.ByGroups.{by_bool, none_undecided}

-- what is undecided of a call that the disk failed, and of those behind it
abbrev pub own_left : State → ℕ → Call → List Entry → List Event → Type 0
own_left s reading call es events = (own others : List Event) × (events ≡ own ++ others) × MayLeave s reading call own × AreUndecided (replayed s own) es others

-- ---- tests

by_either : (b c : Bool) (P : Type 0) → (b ≡ true → P) → (c ≡ true → P) → (b || c) ≡ true → P
by_either true c P here later is = here refl
by_either false c P here later is = later is

match_other : (b c : Bool) (A B : Type 0) → (b || c) ≡ false → (c ≡ false → B) → MatchBool b A B
match_other true c A B none made = absurd (true≢false none)
match_other false c A B none made = made none

from_other : (b c : Bool) (A B P : Type 0) → (b || c) ≡ false → (c ≡ false → B → P) → MatchBool b A B → P
from_other true c A B P none made is = absurd (true≢false none)
from_other false c A B P none made is = made none is

stops_now : (b c : Bool) → c ≡ true → (if b then true else c) ≡ true
stops_now true c is = refl
stops_now false c is = is

still_stopped : (b c : Bool) → b ≡ true → (if b then true else c) ≡ true
still_stopped true c is = refl
still_stopped false c is = absurd cc

-- ---- it stops the namespace

stays_stopped : (l : Log) (h : List Entry) → l.stopped ≡ true → (after_entries l h).stopped ≡ true
stays_stopped l [] is = is
stays_stopped l (Ticked seat t ∷ h) is = stays_stopped (after_entry l (Ticked seat t)) h is
stays_stopped l (Replied seat reading call answer ∷ h) is = stays_stopped (after_entry l (Replied seat reading call answer)) h (still_stopped l.stopped (stops answer) is)

fault_stops : (answer : Result Answered Refusal) → is_disk_fault answer ≡ true → stops answer ≡ true
fault_stops (Err DiskFault) is = refl
fault_stops _ is = absurd cc

pub failed_stops : (l : Log) (h : List Entry) → has_fault h ≡ true → (after_entries l h).stopped ≡ true
failed_stops l [] failed = absurd cc
failed_stops l (Ticked seat t ∷ h) failed = failed_stops (after_entry l (Ticked seat t)) h failed
failed_stops l (Replied seat reading call answer ∷ h) failed =
    let next = after_entry l (Replied seat reading call answer) in
    by_either (is_disk_fault answer) (has_fault h) ((after_entries next h).stopped ≡ true) (λ fault. stays_stopped next h (stops_now l.stopped (stops answer) (fault_stops answer fault))) (failed_stops next h) failed

-- where it runs, none did
pub none_failed : (l : Log) (h : List Entry) → (after_entries l h).stopped ≡ false → has_fault h ≡ false
none_failed l h runs = by_flag (has_fault h) refl
  where
    by_flag : (b : Bool) → has_fault h ≡ b → has_fault h ≡ false
    by_flag false is = is
    by_flag true is = absurd (true≢false (sym (failed_stops l h is) ∙ runs))

-- ---- what is undecided

only_none : (s : State) (h : List Entry) (events : List Event) → has_fault h ≡ false → AreUndecided s h events → events ≡ []
only_none s [] events none is = is
only_none s (Ticked seat t ∷ h) events none is = only_none s h events none is
only_none s (Replied seat reading call answer ∷ h) events none is = from_other (is_disk_fault answer) (has_fault h) (own_left s reading call h events) (AreUndecided s h events) (events ≡ []) none (only_none s h events) is

-- it stays, where none fails any more
undecided_on : (s : State) (h es : List Entry) (events : List Event) → has_fault es ≡ false → AreUndecided s h events → AreUndecided s (h ++ es) events
undecided_on s [] es events none is = subst (λ (x : List Event). AreUndecided s es x) (sym is) (none_undecided s es)
undecided_on s (Ticked seat t ∷ h) es events none is = undecided_on s h es events none is
undecided_on s (Replied seat reading call answer ∷ h) es events none is =
    by_bool (is_disk_fault answer) (own_left s reading call h events) (AreUndecided s h events) (own_left s reading call (h ++ es) events) (AreUndecided s (h ++ es) events) is
    (λ failed more. (more.0, more.1, more.2, more.3, undecided_on (replayed s more.0) h es more.1 none more.4))
    (λ sound more. undecided_on s h es events none more)

-- where none did before, it is that of what comes
undecided_then : (s : State) (h es : List Entry) (events : List Event) → has_fault h ≡ false → AreUndecided s es events → AreUndecided s (h ++ es) events
undecided_then s [] es events none is = is
undecided_then s (Ticked seat t ∷ h) es events none is = undecided_then s h es events none is
undecided_then s (Replied seat reading call answer ∷ h) es events none is =
    match_other (is_disk_fault answer) (has_fault h) (own_left s reading call (h ++ es) events) (AreUndecided s (h ++ es) events) none (λ later. undecided_then s h es events later is)

-- ---- what a crash leaves then

-- behind a group whose disk failed, where none did before
pub failed_left : (disks : Disks) (start s : State) (h es : List Entry) → state_after start (h ++ es) ≡ s → has_fault h ≡ false → (events : List Event) × AreUndecided s es events × IsWithOrNot disks s events → IsLeft disks start (h ++ es)
failed_left disks start s h es same none left = (
  left.0,
  subst (λ (x : State). AreUndecided x (h ++ es) left.0) (sym same) (undecided_then s h es left.0 none left.1),
  subst (λ (x : State). IsWithOrNot disks x left.0) (sym same) left.2,
)

-- behind one of a namespace that had stopped
pub stopped_left : (disks : Disks) (start : State) (h es : List Entry) → has_fault es ≡ false → state_after start (h ++ es) ≡ state_after start h → IsLeft disks start h → IsLeft disks start (h ++ es)
stopped_left disks start h es none same left = (
  left.0,
  subst (λ (s : State). AreUndecided s (h ++ es) left.0) (sym same) (undecided_on (state_after start h) h es left.0 none left.1),
  subst (λ (s : State). IsWithOrNot disks s left.0) (sym same) left.2,
)

-- where no disk failed, to the state behind the history
pub none_left : (disks : Disks) (start : State) (h : List Entry) → has_fault h ≡ false → IsLeft disks start h → IsWithOrNot disks (state_after start h) []
none_left disks start h none left = subst (λ (events : List Event). IsWithOrNot disks (state_after start h) events) (only_none (state_after start h) h left.0 none left.1) left.2
