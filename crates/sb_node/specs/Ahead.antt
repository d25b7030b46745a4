-- What contracts say of a namespace that is ahead of its journal's end: the state that it holds, and the events that are staged and don't count yet.
use Rattle.std.specs.Prelude.{◌≡◌, ℕ, ◌+◌, List, ◌++◌, length, map, Bool, Option, Some, None, false, Result, Ok, Err}
use Rattle.sb_outside.specs.declared.disk.Disk.{Ghosts}
use Rattle.sb_codec.specs.EventBytes.{read_event}
use Rattle.sb_journal.specs.declared.journal.Journal.{Journal}
use Rattle.sb_journal.specs.Text.{File, with_payloads}
use Rattle.sb_journal.specs.Disks.{Disks}
use Rattle.sb_journal.specs.Journals.{journal_disks, HoldsStaged}
use Rattle.sb_machine.specs.Accounts.{changing}
use Rattle.sb_machine.specs.Events.{replayed, MayLeave}
use Rattle.sb_machine.specs.History.{is_disk_fault}
use Rattle.sb_machine.specs.declared.call.Call.{Call}
use Rattle.sb_machine.specs.declared.call.Event.{Event}
use Rattle.sb_machine.specs.declared.reply.Answered.{Answered}
use Rattle.sb_machine.specs.declared.reply.Refusal.{Refusal}
use Rattle.sb_machine.specs.declared.state.State.{State}
use Rattle.sb_engine.specs.Engines.{engine_state}
use Rattle.sb_recorder.specs.Recorders.{recorder_journal}
use Rattle.sb_node.specs.declared.ahead.Ahead.{Ahead}
use Rattle.sb_node.specs.Nodes.{HoldsState}
use Rattle.sb_node.specs.Recovery.{replay_file, reaches}
use Rattle.sb_node.specs.Steps.{entries_with, log_of}

-- the state with all that is staged
abbrev pub ahead_state : {D : Type 0} {B : Ghosts D} → Ahead D B → State
ahead_state a = engine_state a.engine

-- its journal
abbrev pub ahead_journal : {D : Type 0} {B : Ghosts D} → Ahead D B → Journal D B
ahead_journal a = recorder_journal a.recorder

-- both disks as one value
abbrev pub ahead_disks : {D : Type 0} {B : Ghosts D} → Ahead D B → Disks
ahead_disks a = journal_disks (ahead_journal a)

-- the number of the last record that counts
abbrev pub ahead_last : {D : Type 0} {B : Ghosts D} → Ahead D B → ℕ
ahead_last a = a.last

-- how many events are staged
abbrev pub ahead_staged : {D : Type 0} {B : Ghosts D} → Ahead D B → ℕ
ahead_staged a = a.staged

-- The journal, on honest disks, holds this file, whose last event is in the record of this number; behind it so many events are staged, these, and
-- with them it leads to this state.
pub record StagesEvents {D : Type 0} {B : Ghosts D} (j : Journal D B) (last count : ℕ) (file : File) (events : List Event) (s : State) : Type 0 where
  pub staged : List (List ℕ)
  pub holds : HoldsStaged j file staged
  pub reads : map read_event staged ≡ map Some events
  pub leads : replay_file (with_payloads file staged) ≡ reaches s
  pub number : last + 1 ≡ file.first + length file.payloads
  pub count_is : count ≡ length staged

-- its journal holds this file and these events staged behind it, which lead to its state
abbrev pub IsAhead : {D : Type 0} {B : Ghosts D} → Ahead D B → File → List Event → Type 0
IsAhead a file events = StagesEvents (ahead_journal a) a.last a.staged file events (ahead_state a)

-- What was staged behind a file is sealed: the journal holds this state, by the events of that file and these behind them.
pub record IsSealed {D : Type 0} {B : Ghosts D} (j : Journal D B) (last : ℕ) (file : File) (events : List Event) (s : State) : Type 0 where
  pub kept : HoldsState j last s
  pub reads : map read_event kept.file.payloads ≡ map read_event file.payloads ++ map Some events

-- nothing was staged, and the state is the one before
pub record IsUnmoved {D : Type 0} {B : Ghosts D} (old new : Ahead D B) : Type 0 where
  pub journal : ahead_journal new ≡ ahead_journal old
  pub staged : new.staged ≡ old.staged
  pub state : ahead_state new ≡ ahead_state old

-- whether it is answered that a disk failed
abbrev pub tells_fault : {T : Type 0} → Result T Refusal → Bool
tells_fault (Ok done) = false
tells_fault (Err refusal) = is_disk_fault (Err refusal)

-- the events of a call and its tick, where it changed the state
abbrev pub made_events : State → Option ℕ → (seat reading : ℕ) → Call → Result Answered Refusal → List Event
made_events s tick seat reading call answer = changing (log_of s None) (entries_with tick seat reading call answer)

-- A call led from one state to another by these events, and they are what a disk may leave of it that fails before they are safe.
pub record IsMadeBy (old : State) (reading : ℕ) (call : Call) (events : List Event) (new : State) : Type 0 where
  pub leads : new ≡ replayed old events
  pub may : MayLeave old reading call events
