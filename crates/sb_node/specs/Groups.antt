-- A history by groups of calls whose records are synced together: what a crash leaves while a group is carried out, and what a failed disk leaves of it.
use Rattle.std.specs.Prelude.{◌≡◌, ◌⊎◌, ◌||◌, ℕ, List, [], ◌∷◌, ◌++◌, Bool, true, false, Option, Some, None, Result, Err}
use Rattle.std.specs.Bool.{MatchBool}
use Rattle.sb_journal.specs.Disks.{Disks}
use Rattle.sb_journal.specs.declared.found.Side.{Side}
use Rattle.sb_machine.specs.Accounts.{changing}
use Rattle.sb_machine.specs.Events.{replayed, AreUndecided}
use Rattle.sb_machine.specs.History.{Log, after_entries, fresh_log, is_disk_fault}
use Rattle.sb_machine.specs.declared.call.Call.{Call}
use Rattle.sb_machine.specs.declared.call.Event.{Event}
use Rattle.sb_machine.specs.declared.history.Entry.{Entry}
use Rattle.sb_machine.specs.declared.history.Entry.TheVariants.{Ticked, Answered as Replied}
use Rattle.sb_machine.specs.declared.reply.Answered.{Answered}
use Rattle.sb_machine.specs.declared.reply.Refusal.{Refusal}
use Rattle.sb_machine.specs.declared.reply.Refusal.TheVariants.{DiskFault}
use Rattle.sb_machine.specs.declared.state.State.{State}
use Rattle.sb_node.specs.Ahead.{made_events, IsMadeBy}
use Rattle.sb_node.specs.Nodes.{StayOneOf, TurnOneOf}
use Rattle.sb_node.specs.Steps.{entries_with, log_of, IsStep}

-- whether a disk failed in these entries
abbrev pub has_fault : List Entry → Bool
has_fault [] = false
has_fault (Ticked seat t ∷ es) = has_fault es
has_fault (Replied seat reading call answer ∷ es) = is_disk_fault answer || has_fault es

-- or in one of these groups
abbrev pub have_fault : List (List Entry) → Bool
have_fault [] = false
have_fault (es ∷ rest) = has_fault es || have_fault rest

-- the events that are written for a group: those of its entries that changed the state; where a disk failed in it, some that this may leave
abbrev pub AreWritten : Log → List Entry → List Event → Type 0
AreWritten l es events = MatchBool (has_fault es) (AreUndecided l.state es events) (events ≡ changing l es)

-- the entries of groups, one behind another
abbrev pub flattened : List (List Entry) → List Entry
flattened [] = []
flattened (es ∷ rest) = es ++ flattened rest

-- the history's end after groups
abbrev pub after_groups : Log → List (List Entry) → Log
after_groups l [] = l
after_groups l (es ∷ rest) = after_groups (after_entries l es) rest

-- Between two groups nothing is done to the disks; or, where a node goes on with new files by itself, its journal may go on with one: a
-- crash at any moment of that leads to this state.
abbrev pub Rests : (goes_on : Bool) → State → (was now : Disks) → Type 0
Rests false s was now = now ≡ was
Rests true s was now = (now ≡ was) ⊎ ((side : Side) × TurnOneOf side was now (s ∷ []))

-- The moments of a history, cut at the answers of its groups: before a group the node rests, and until the group is answered a crash at any moment leads to
-- the state before it or to that after all the events that are written for it, to none between. So what was answered stays. Behind a group
-- in which a disk failed the disks are left alone, and calls are answered that it had.
abbrev pub FollowGroups : (goes_on : Bool) → Log → List (List Entry) → (was now : Disks) → Type 0
FollowGroups goes_on l [] was now = now ≡ was
FollowGroups goes_on l (es ∷ rest) was now =
    (turned answered : Disks) × (events : List Event) × Rests goes_on l.state was turned × AreWritten l es events × StayOneOf turned answered (l.state ∷ replayed l.state events ∷ [])
    × MatchBool (has_fault es) (now ≡ answered) (FollowGroups goes_on (after_entries l es) rest answered now)

-- none of these groups is empty
abbrev pub AreSome : List (List Entry) → Type 0
AreSome [] = Unit {0}
AreSome ([] ∷ rest) = ⊥
AreSome ((e ∷ es) ∷ rest) = AreSome rest

-- the moments of a history from a state, cut into groups
abbrev pub FollowByGroups : (goes_on : Bool) → State → List Entry → (was now : Disks) → Type 0
FollowByGroups goes_on start h was now = (groups : List (List Entry)) × AreSome groups × (flattened groups ≡ h) × FollowGroups goes_on (fresh_log start) groups was now

-- one group more behind those before it: carried out where no disk has failed, and else the disks stay
abbrev pub GroupsGoOn : Type 0
GroupsGoOn = (goes_on : Bool) (l : Log) (groups : List (List Entry)) (group : List Entry) (was mid now : Disks) → FollowGroups goes_on l groups was mid
    → (have_fault groups ≡ true → now ≡ mid) → (have_fault groups ≡ false → FollowGroups goes_on (after_groups l groups) (group ∷ []) mid now) → FollowGroups goes_on l (groups ++ group ∷ []) was now

-- ---- calls that are carried out together

-- the calls of these entries, each answered that the disk failed
abbrev pub failed : List Entry → List Entry
failed [] = []
failed (Ticked seat t ∷ es) = failed es
failed (Replied seat reading call answer ∷ es) = Replied seat reading call (Err DiskFault) ∷ failed es

-- Calls were carried out one behind another: their entries are legal and lead from one state to the other, their events do too, and a disk that fails
-- before those are safe may leave them.
pub record HaveRun (old : State) (made : List Entry) (new : State) : Type 0 where
  pub step : IsStep (log_of old None) made (log_of new None)
  pub leads : new ≡ replayed old (changing (log_of old None) made)
  pub may : AreUndecided old (failed made) (changing (log_of old None) made)

-- none were
abbrev pub NoneRuns : Type 0
NoneRuns = (s : State) → HaveRun s [] s

-- one more, on the state to which those before it lead
abbrev pub RunsOn : Type 0
RunsOn = (old mid new : State) (made : List Entry) (tick : Option ℕ) (seat reading : ℕ) (call : Call) (answer : Result Answered Refusal) → HaveRun old made mid → IsStep (log_of mid None) (entries_with tick seat reading call answer) (log_of new None)
    → IsMadeBy mid reading call (made_events mid tick seat reading call answer) new → HaveRun old (made ++ entries_with tick seat reading call answer) new

-- The disk failed before they were safe, with others that weren't carried out yet: each is answered so, which is legal and leaves the state.
abbrev pub FailTogether : Type 0
FailTogether = (old new : State) (made others : List Entry) (faults : ℕ) → HaveRun old made new → has_fault (failed (made ++ others)) ≡ true → IsStep (log_of old None) (failed (made ++ others)) (log_of old (Some faults))

-- a group whose moments lead to the state before it or to that behind it, answered as it was carried out
abbrev pub SealedFollows : Type 0
SealedFollows = (goes_on : Bool) (old new : State) (made : List Entry) (was turned now : Disks) → HaveRun old made new → has_fault made ≡ false → Rests goes_on old was turned → StayOneOf turned now (old ∷ new ∷ []) → FollowGroups goes_on (log_of old None) (made ∷ []) was now

-- or answered that the disk failed
abbrev pub FailedFollows : Type 0
FailedFollows = (goes_on : Bool) (old new : State) (made others : List Entry) (was turned now : Disks) → HaveRun old made new → has_fault (failed (made ++ others)) ≡ true → Rests goes_on old was turned → StayOneOf turned now (old ∷ new ∷ [])
    → FollowGroups goes_on (log_of old None) (failed (made ++ others) ∷ []) was now
