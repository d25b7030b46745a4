-- One call that was made and sealed: what its disks hold, and its moments.
use Rattle.std.proofs.Common.{◌≡◌, ℕ, List, [], ◌∷◌, ◌++◌, map, false, Option, Some, None, Result, Err, refl, sym, ◌∙◌, ap, subst}
use Rattle.std.proofs.lemmas.List.{append-nil}
use Rattle.sb_outside.specs.declared.disk.Disk.{Ghosts}
use Rattle.sb_journal.specs.declared.journal.Journal.{Journal}
use Rattle.sb_journal.specs.Disks.{Disks}
use Rattle.sb_journal.specs.Journals.{journal_disks}
use Rattle.sb_machine.specs.History.{is_disk_fault}
use Rattle.sb_machine.specs.declared.call.Call.{Call}
use Rattle.sb_machine.specs.declared.call.Event.{Event}
use Rattle.sb_machine.specs.declared.history.Entry.{Entry}
use Rattle.sb_machine.specs.declared.reply.Answered.{Answered}
use Rattle.sb_machine.specs.declared.reply.Refusal.{Refusal}
use Rattle.sb_machine.specs.declared.reply.Refusal.TheVariants.{DiskFault}
use Rattle.sb_machine.specs.declared.state.State.{State}
use Rattle.sb_node.specs.Ahead.{made_events, IsMadeBy, IsSealed}
use Rattle.sb_node.specs.Groups.{failed, has_fault, FollowGroups, HaveRun}
use Rattle.sb_node.specs.Nodes.{events_on, HoldsState, StayOneOf}
use Rattle.sb_node.specs.Steps.{entries_with, log_of, IsStep}
use Rattle.sb_node.proofs.Histories.{held_events}
use Rattle.sb_node.proofs.Together.{failed_follows, failed_one, fault_one, none_runs, runs_on, sealed_follows}

-- the events on the disks, behind those that were there
pub sealed_events : {D : Type 0} {B : Ghosts D} (was j : Journal D B) (before last salt : ℕ) (s after : State) (events : List Event) (kept : HoldsState was before s) → IsSealed j last kept.file events after
    → events_on (journal_disks j) salt ≡ events_on (journal_disks was) salt ++ map Some events
sealed_events was j before last salt s after events kept sealed =
    held_events j sealed.kept.file salt sealed.kept.holds ∙ sealed.reads ∙ ap (λ (l : List (Option Event)). l ++ map Some events) (sym (held_events was kept.file salt kept.holds))

-- a call as a group of one
pub one_runs : (s after : State) (tick : Option ℕ) (seat reading : ℕ) (call : Call) (answer : Result Answered Refusal) → IsStep (log_of s None) (entries_with tick seat reading call answer) (log_of after None) → IsMadeBy s reading call (made_events s tick seat reading call answer) after
    → HaveRun s (entries_with tick seat reading call answer) after
one_runs s after tick seat reading call answer step made = runs_on s s after [] tick seat reading call answer (none_runs s) step made

pub one_follows : (s after : State) (tick : Option ℕ) (seat reading : ℕ) (call : Call) (answer : Result Answered Refusal) (was now : Disks) → IsStep (log_of s None) (entries_with tick seat reading call answer) (log_of after None) → IsMadeBy s reading call (made_events s tick seat reading call answer) after
    → is_disk_fault answer ≡ false → StayOneOf was now (s ∷ after ∷ []) → FollowGroups false (log_of s None) (entries_with tick seat reading call answer ∷ []) was now
one_follows s after tick seat reading call answer was now step made none stay =
    sealed_follows false s after (entries_with tick seat reading call answer) was was now (one_runs s after tick seat reading call answer step made) (fault_one tick seat reading call answer none) refl stay

-- its disk failed before it was staged
pub fault_early : (s : State) (seat reading : ℕ) (call : Call) (was now : Disks) → StayOneOf was now (s ∷ s ∷ []) → FollowGroups false (log_of s None) (entries_with None seat reading call (Err DiskFault) ∷ []) was now
fault_early s seat reading call was now stay = failed_follows false s s [] (entries_with None seat reading call (Err DiskFault)) was was now (none_runs s) refl refl stay

-- or before it was sealed
pub fault_late : (s after : State) (tick : Option ℕ) (seat reading : ℕ) (call : Call) (answer : Result Answered Refusal) (was now : Disks) → IsStep (log_of s None) (entries_with tick seat reading call answer) (log_of after None) → IsMadeBy s reading call (made_events s tick seat reading call answer) after
    → StayOneOf was now (s ∷ after ∷ []) → FollowGroups false (log_of s None) (entries_with None seat reading call (Err DiskFault) ∷ []) was now
fault_late s after tick seat reading call answer was now step made stay =
    let entries = entries_with tick seat reading call answer in
    let all : failed (entries ++ []) ≡ entries_with None seat reading call (Err DiskFault) = ap failed (append-nil entries) ∙ failed_one tick seat reading call answer in
    subst (λ (es : List Entry). FollowGroups false (log_of s None) (es ∷ []) was now) all
    (failed_follows false s after entries [] was was now (one_runs s after tick seat reading call answer step made) (ap has_fault all) refl stay)
