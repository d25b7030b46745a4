-- A node as what a desk serves: its numbers, what it found on its disks as it was opened and how it uses them, and the history that it stands for.
use Rattle.std.specs.Prelude.{◌≡◌, ℕ, zero, suc, ◌+◌, List, [], ◌∷◌, map, length, filter, Bool, true, nat_lt, None, is_some, Result, Ok, Err}
use Rattle.sb_desk.specs.Entries.{counted, is_refused, IsReport}
use Rattle.sb_desk.specs.Spared.{Spares}
use Rattle.sb_desk.specs.declared.report.DiskMoment.{DiskMoment}
use Rattle.sb_desk.specs.declared.report.DiskOrigin.{DiskOrigin}
use Rattle.sb_desk.specs.declared.report.Origin.{Origin}
use Rattle.sb_desk.specs.declared.report.Report.{Report}
use Rattle.sb_journal.specs.Disks.{Disks, OneDisk, AreHonest, AreQuiet, HaveFailed, NoneFell, SameHonesty}
use Rattle.sb_journal.specs.Journals.{journal_disks}
use Rattle.sb_machine.specs.Accounts.{changing}
use Rattle.sb_machine.specs.Consistent.{IsConsistent}
use Rattle.sb_machine.specs.Events.{replayed, AreUndecided, MayLeave}
use Rattle.sb_machine.specs.History.{Log, IsLegal, after_entries, fresh_log, settled, state_after}
use Rattle.sb_machine.specs.declared.call.Call.{Call}
use Rattle.sb_machine.specs.declared.call.Event.{Event}
use Rattle.sb_machine.specs.declared.history.Entry.{Entry}
use Rattle.sb_machine.specs.declared.reply.Answered.{Answered}
use Rattle.sb_machine.specs.declared.reply.Refusal.{Refusal}
use Rattle.sb_machine.specs.declared.state.State.{State}
use Rattle.sb_outside.specs.Held.{Held}
use Rattle.sb_outside.specs.declared.disk.Disk.{Ghosts}
use Rattle.sb_node.specs.declared.node.Node.{Node}
use Rattle.sb_node.specs.Nodes.{node_disks, node_log, node_stopped, IsDurable, IsKept, IsOneOf}
use Rattle.sb_node.specs.Groups.{FollowByGroups}
use Rattle.sb_node.specs.Steps.{is_spared}

-- ---- numbers

-- of its steps since it was opened
abbrev pub node_report : {D : Type 0} {B : Ghosts D} → Node D B → Report
node_report n = n.numbers

-- a count, and so many more
abbrev pub raised : ℕ → ℕ → ℕ
raised n zero = n
raised n (suc k) = counted (n + suc k)

-- 1 for a refusal, else 0
abbrev pub refusals : Result Answered Refusal → ℕ
refusals (Ok reply) = 0
refusals (Err refusal) = 1

-- with the numbers of these entries, which stand behind that place of a history
abbrev pub with_entries : Report → Log → List Entry → Report
with_entries r l entries = record {
  entries = raised r.entries (length entries);
  changing = raised r.changing (length (changing l entries));
  refused = raised r.refused (length (filter is_refused entries));
}

-- ---- how its disks were

-- as it was opened
abbrev pub opened_disks : {D : Type 0} {B : Ghosts D} → Node D B → Disks
opened_disks n = journal_disks n.opened.value

-- as an origin keeps it
abbrev pub disk_moment : Held → DiskMoment
disk_moment held = record { seen = held.seen; synced = held.synced; ranges = held.ranges; least = held.least; greatest = held.greatest }

-- what a disk told as the node was opened
abbrev pub disk_origin : OneDisk → DiskOrigin
disk_origin disk = record { faults = disk.faults; honest = disk.honest; held = disk_moment disk.held; past = map disk_moment disk.past }

-- what both disks told as the node was opened, and whether it goes on with new files by itself
abbrev pub origin_of : (goes_on : Bool) → Disks → Origin
origin_of goes_on disks = record { disk_a = disk_origin disks.a; disk_b = disk_origin disks.b; goes_on = goes_on }

-- whether it does: once its journal has grown by so many bytes; by none never
abbrev pub node_goes_on : {D : Type 0} {B : Ghosts D} → Node D B → Bool
node_goes_on n = nat_lt 0 n.growth.checkpoint_after

-- what a node found, and whether it goes on
abbrev pub node_origin : {D : Type 0} {B : Ghosts D} → Node D B → Origin
node_origin n = origin_of (node_goes_on n) (opened_disks n)

-- ---- the history

-- whatever a crash now leaves leads to this state, or to the one with these events, which are there as a whole or not at all
abbrev pub IsWithOrNot : Disks → State → List Event → Type 0
IsWithOrNot disks s events = IsOneOf disks (s ∷ replayed s events ∷ [])

-- a disk failed in the step of a call: it leads to this state, or to that with what may be left of the step
abbrev pub IsUndecided : Disks → State → (reading : ℕ) → Call → Type 0
IsUndecided disks s reading call = (events : List Event) × MayLeave s reading call events × IsWithOrNot disks s events

-- behind a history it leads to the state after that, or to the one with what may be left of the calls that a disk failed
abbrev pub IsLeft : Disks → State → List Entry → Type 0
IsLeft disks start h = (events : List Event) × AreUndecided (state_after start h) h events × IsWithOrNot disks (state_after start h) events

-- A node stands for a history from a state: it holds the state to which that leads, and its numbers, and has stopped where the history
-- has. No spared call of it was answered with want of memory. Where its disks are honest, a crash as it was opened led to the first state,
-- a crash at any moment since leads on, group by group, as `FollowByGroups` says, and one now to the last state or to the one with what a
-- failed disk left undecided.
pub record StandsFor {D : Type 0} {B : Ghosts D} (n : Node D B) (start : State) (h : List Entry) : Type 0 where
  pub consistent : IsConsistent start
  pub legal : IsLegal start h
  pub spares : Spares is_spared start h
  pub leads : node_log n ≡ settled (after_entries (fresh_log start) h)
  pub numbers : IsReport start h (node_report n)
  pub honesty : SameHonesty (opened_disks n) (node_disks n)
  -- since it was opened no count fell; it has stopped only where one call of one disk failed, and none failed where it runs
  pub later : NoneFell (opened_disks n) (node_disks n)
  pub cause : is_some (node_stopped n) ≡ true → HaveFailed (opened_disks n) (node_disks n)
  pub quiet : node_stopped n ≡ None → AreQuiet (opened_disks n) (node_disks n)
  pub kept : AreHonest (node_disks n) → node_stopped n ≡ None → IsKept n
  pub began : AreHonest (node_disks n) → IsDurable (opened_disks n) start
  pub follows : AreHonest (node_disks n) → FollowByGroups (node_goes_on n) start h (opened_disks n) (node_disks n)
  pub left : AreHonest (node_disks n) → IsLeft (node_disks n) start h
