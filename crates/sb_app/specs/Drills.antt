-- What a drill makes of a namespace: calls that are drawn by a seed, and the counts that are told of their history.
use Rattle.std.specs.Prelude.{◌≡◌, ◌≢◌, ◌⊎◌, ◌<◌, ℕ, zero, suc, ◌+◌, ◌-◌, List, [], ◌++◌, codes, filter, length, Bool, true, false, Option, Some, None, Result, Ok, Err}
use Rattle.std.specs.Fmt.{decimal}
use Rattle.sb_outside.specs.declared.disk.Disk.{Ghosts}
use Rattle.sb_machine.specs.Accounts.{ends_of}
use Rattle.sb_machine.specs.Consistent.{IsConsistent}
use Rattle.sb_machine.specs.History.{IsFaultless, entries_at, fresh_log, state_after}
use Rattle.sb_machine.specs.Namespace.{empty_state, live, made}
use Rattle.sb_machine.specs.declared.call.TimedCall.{TimedCall}
use Rattle.sb_machine.specs.declared.history.Entry.{Entry}
use Rattle.sb_machine.specs.declared.history.Entry.TheVariants.{Ticked, Answered as Replied}
use Rattle.sb_machine.specs.declared.reply.Answered.{Answered}
use Rattle.sb_machine.specs.declared.reply.Refusal.{Refusal}
use Rattle.sb_machine.specs.declared.reply.Refusal.TheVariants.{DiskFault as FailedDisk, OutOfMemory as WantsMemory}
use Rattle.sb_machine.specs.declared.state.State.{State}
use Rattle.sb_journal.specs.Disks.{Disks, AreHonest, KeepFound, HaveFailed}
use Rattle.sb_desk.specs.Entries.{is_refused}
use Rattle.sb_desk.specs.Spared.{Spares}
use Rattle.sb_node.specs.declared.node.Node.{Node}
use Rattle.sb_node.specs.Nodes.{IsDurable, node_disks, node_state, node_stopped}
use Rattle.sb_node.specs.Groups.{FollowByGroups}
use Rattle.sb_node.specs.Serving.{opened_disks, IsLeft, StandsFor}
use Rattle.sb_node.specs.Steps.{entries_with, is_spared}
use Rattle.sb_drill.specs.Calls.{call_at}
use Rattle.sb_drill.specs.Memories.{heard, no_memory}
use Rattle.sb_drill.specs.declared.memory.Memory.{Memory}
use Rattle.sb_app.specs.Backing.{IsBacked, IsChronicle, IsFound}
use Rattle.sb_app.specs.Checks.{IsLineTold}
use Rattle.sb_app.specs.Outside.{Output, Outside}
use Rattle.sb_app.specs.Runs.{answer_at}
use Rattle.sb_app.specs.declared.drilling.Counts.{Counts}
use Rattle.sb_app.specs.declared.drilling.Drilled.{Drilled}
use Rattle.sb_app.specs.declared.ending.RunEnd.{RunEnd}
use Rattle.sb_app.specs.declared.ending.RunEnd.TheVariants.{DiskFault, OutOfMemory}

-- ---- the calls and their history

-- where a drill stands: the state of the namespace, and what is remembered of the answers
pub record Reached : Type 0 where
  pub state : State
  pub memory : Memory

-- behind the call of this number, which the machine answers
abbrev pub reached_by : (seed n : ℕ) → Reached → Reached
reached_by seed n r =
    let a = call_at seed n r.memory in
    record {
      state = state_after r.state (entries_at 0 r.state a.reading a.call);
      memory = heard seed n r.memory (answer_at r.state a.reading a.call);
    }

-- behind so many calls on a namespace in this state
abbrev pub reached : (seed : ℕ) → State → ℕ → Reached
reached seed s zero = record { state = s; memory = no_memory }
reached seed s (suc n) = reached_by seed n (reached seed s n)

-- the call behind so many
abbrev pub drill_call : (seed : ℕ) → State → ℕ → TimedCall
drill_call seed s n = call_at seed n (reached seed s n).memory

-- The history of so many calls: of each the tick, where something is due, and the call with the machine's answer.
abbrev pub drill_history : (seed : ℕ) → State → ℕ → List Entry
drill_history seed s zero = []
drill_history seed s (suc n) = drill_history seed s n ++ entries_at 0 (reached seed s n).state (drill_call seed s n).reading (drill_call seed s n).call

-- ---- the counts

-- whether an entry is a call that was accepted
abbrev pub is_accepted : Entry → Bool
is_accepted (Ticked seat t) = false
is_accepted (Replied seat reading call (Ok reply)) = true
is_accepted (Replied seat reading call (Err refusal)) = false

-- The counts of a history: its accepted and its refused calls, and of the namespace behind it the live copies, the copy numbers of which
-- no copy lives any more, and all that were ever given.
abbrev pub counts_of_drill : State → List Entry → Counts
counts_of_drill s h = record {
  accepted = length (filter is_accepted h);
  refused = length (filter is_refused h);
  copies = live (state_after s h).space;
  ended = made (state_after s h).space - live (state_after s h).space;
  made = made (state_after s h).space;
}

-- as a line, keys in byte order
abbrev pub drill_line : Counts → List ℕ
drill_line c =
    codes "{\"accepted\":" ++ (decimal c.accepted
    ++ (codes ",\"copies\":" ++ (decimal c.copies
    ++ (codes ",\"ended\":" ++ (decimal c.ended
    ++ (codes ",\"made\":" ++ (decimal c.made
    ++ (codes ",\"ok\":\"drill\",\"refused\":" ++ (decimal c.refused ++ codes "}\n")))))))))

-- ---- how a drill ends

-- the call at which a drill ended: the moment of its tick, if it made one, and its answer, which isn't the machine's
pub record LastCall : Type 0 where
  pub tick : Option ℕ
  pub answer : Result Answered Refusal

-- the history of so many calls, and of the one at which the drill ended, if it ended at one
abbrev pub drill_history_to : (seed : ℕ) → State → ℕ → Option LastCall → List Entry
drill_history_to seed s n None = drill_history seed s n
drill_history_to seed s n (Some last) = drill_history seed s n ++ entries_with last.tick 0 (drill_call seed s n).reading (drill_call seed s n).call last.answer

-- How it ended, behind so many calls and at one more or at none: all were answered, and the line of their counts was told, at 0, 4 or 7; or,
-- with nothing written, memory was wanting to make the next call, at 7, or in it, at 7 too, or a disk failed in it, at 5.
abbrev pub EndsDrill : (count seed : ℕ) → State → ℕ → Option LastCall → (was now : Output) → (status : ℕ) → Type 0
EndsDrill count seed s n None was now status =
    ((n ≡ count + 5) × IsLineTold (drill_line (counts_of_drill s (drill_history seed s n))) was now status)
    ⊎ ((n < count + 5) × (status ≡ 7) × (now ≡ was))
EndsDrill count seed s n (Some last) was now status =
    (n < count + 5) × (now ≡ was) × (((status ≡ 5) × (last.answer ≡ Err FailedDisk)) ⊎ ((status ≡ 7) × (last.answer ≡ Err WantsMemory)))

-- each of so many calls was accepted or refused
abbrev pub IsEachCounted : (seed : ℕ) → State → ℕ → Type 0
IsEachCounted seed s n = length (filter is_accepted (drill_history seed s n)) + length (filter is_refused (drill_history seed s n)) ≡ n

-- The calls of a drill were made from the state that the disks stood for, a consistent one: five that set the namespace up, and `count` that
-- the seed draws. Their history is legal, so it has the laws; all of it but the call at which the drill ended is the machine's; none of its calls that is spared was answered with
-- want of memory; and the counts that were told are those of all calls. What a crash leaves of the disks leads on as it does of a server.
pub record IsDrilled (count seed salt : ℕ) (was now : Outside) (status : ℕ) : Type 0 where
  pub start : State
  pub found : IsFound salt was.disks start
  pub answered : ℕ
  pub last : Option LastCall
  pub ends : EndsDrill count seed start answered last was.output now.output status
  pub chronicle : IsChronicle start (drill_history_to seed start answered last)
  pub faultless : IsFaultless (drill_history seed start answered)
  pub spares : Spares is_spared start (drill_history_to seed start answered last)
  pub each : IsEachCounted seed start answered
  -- on an empty namespace the numbers that ended are those that ended in this history, and with the live ones they are all that were made
  pub sum : start ≡ empty_state salt
      → ((counts_of_drill start (drill_history_to seed start answered last)).ended ≡ length (ends_of (fresh_log start) (drill_history_to seed start answered last)))
      × ((counts_of_drill start (drill_history_to seed start answered last)).made ≡ (counts_of_drill start (drill_history_to seed start answered last)).copies + (counts_of_drill start (drill_history_to seed start answered last)).ended)
  -- nothing is read
  pub unread : now.input ≡ was.input
  -- what stood there when the journal was open, which leads to the first state; a crash before that leaves what was found
  pub ready : Disks
  pub opens : AreHonest was.disks → KeepFound salt was.disks ready
  pub holds : AreHonest was.disks → IsDurable ready start
  -- a crash at any moment since leads to the state after a front of the history, which has all that was answered by then
  pub follows : AreHonest was.disks → FollowByGroups false start (drill_history_to seed start answered last) ready now.disks
  -- unless a disk failed, the disks stand for the state behind the history, also after a crash
  pub backed : AreHonest was.disks → status ≢ 5 → IsBacked salt now.disks (state_after start (drill_history_to seed start answered last))
  -- whatever the status
  pub left : AreHonest was.disks → IsLeft now.disks start (drill_history_to seed start answered last)

-- ---- as its calls are made

-- a node stands for the first calls of a drill, each answered by the machine, and this is where it stands
pub record DrillsSoFar {D : Type 0} {B : Ghosts D} (seed : ℕ) (start : State) (n : ℕ) (node : Node D B) (so_far : Drilled) : Type 0 where
  pub stands : StandsFor node start (drill_history seed start n)
  pub running : node_stopped node ≡ None
  pub consistent : IsConsistent (node_state node)
  pub leads : node_state node ≡ (reached seed start n).state
  pub memory : so_far.memory ≡ (reached seed start n).memory
  pub accepted : so_far.accepted ≡ length (filter is_accepted (drill_history seed start n))
  pub refused : so_far.refused ≡ length (filter is_refused (drill_history seed start n))
  pub all : so_far.accepted + so_far.refused ≡ n

-- it ended so at a call, or for want of memory before one
abbrev pub IsDrillCause : Option LastCall → RunEnd → Type 0
IsDrillCause None OutOfMemory = Unit {0}
IsDrillCause (Some last) DiskFault = last.answer ≡ Err FailedDisk
IsDrillCause (Some last) OutOfMemory = last.answer ≡ Err WantsMemory
IsDrillCause _ _ = ⊥

-- behind so many calls it ended for this reason
pub record DrillIsCut {D : Type 0} {B : Ghosts D} (seed : ℕ) (start : State) (n : ℕ) (node : Node D B) (end : RunEnd) : Type 0 where
  pub last : Option LastCall
  pub cause : IsDrillCause last end
  pub stands : StandsFor node start (drill_history_to seed start n last)
  pub each : IsEachCounted seed start n
  pub failed : end ≡ DiskFault → HaveFailed (opened_disks node) (node_disks node)
  pub runs : end ≢ DiskFault → node_stopped node ≡ None

-- a drill ended with this status, and the node stands for its history
pub record IsDrillOver {D : Type 0} {B : Ghosts D} (count seed : ℕ) (start : State) (was now : Output) (node : Node D B) (status : ℕ) : Type 0 where
  pub answered : ℕ
  pub last : Option LastCall
  pub ends : EndsDrill count seed start answered last was now status
  pub stands : StandsFor node start (drill_history_to seed start answered last)
  pub each : IsEachCounted seed start answered
  pub failed : status ≡ 5 → HaveFailed (opened_disks node) (node_disks node)
  pub runs : status ≢ 5 → node_stopped node ≡ None
