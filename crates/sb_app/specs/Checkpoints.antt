-- A checkpoint at the end of a run or a server: the journal goes on with a new file on the other disk, which begins with the state to which
-- that led.
use Rattle.std.specs.Prelude.{◌≡◌, ◌≢◌, ◌⊎◌, ℕ, ◌+◌, [], ◌∷◌, length, Bool, false, Some}
use Rattle.sb_machine.specs.declared.reply.Refusal.{Refusal}
use Rattle.sb_machine.specs.declared.reply.Refusal.TheVariants.{OutOfMemory}
use Rattle.sb_machine.specs.declared.state.State.{State}
use Rattle.sb_journal.specs.declared.found.Side.{Side}
use Rattle.sb_journal.specs.Choosing.{turned}
use Rattle.sb_journal.specs.Disks.{Disks, opened_on, AreHonest, AreQuiet, HaveFailed, KeepsAside, SameHonesty}
use Rattle.sb_journal.specs.Opened.{Stands}
use Rattle.sb_journal.specs.Text.{File, may_go_on, next_file}
use Rattle.sb_snapshot.specs.Base.{base_of}
use Rattle.sb_node.specs.Recovery.{reaches, recovered_on, replay_file}
use Rattle.sb_node.specs.Nodes.{IsDurable, TurnOneOf}
use Rattle.sb_app.specs.Outside.{Outside}
use Rattle.sb_app.specs.Runs.{status_by}
use Rattle.sb_app.specs.Tops.{IsCarriedOut}
use Rattle.sb_app.specs.declared.task.Task.TheVariants.{Run}

-- ---- the files

-- this file counts, on the disk of this side, and leads to this state
pub record StandsAt (salt : ℕ) (disks : Disks) (side : Side) (file : File) (state : State) : Type 0 where
  pub counts : opened_on disks salt ≡ Stands side file
  pub leads : replay_file file ≡ reaches state

-- the number of the next event behind a file
abbrev pub number_behind : File → ℕ
number_behind file = file.first + length file.payloads

-- The file that goes on from this one counts, on the other disk: its base is this state, and it has no events yet.
abbrev pub HasGoneOn : (salt : ℕ) → Side → File → State → (now : Disks) → Type 0
HasGoneOn salt side file state now = StandsAt salt now (turned side) (next_file file (number_behind file) (base_of state)) state

-- no file may go on from this one with this state: there would be too many generations, numbers or bytes
abbrev pub HasNoNext : File → State → Type 0
HasNoNext file state = may_go_on file.generation (number_behind file) (number_behind file) (length (base_of state)) ≡ false

-- ---- a checkpoint

-- the status where one was refused: for want of memory, or for a disk that failed
abbrev pub status_of_refusal : Refusal → ℕ
status_of_refusal OutOfMemory = 7
status_of_refusal _ = 5

-- How it ended: with the status that it had before, with 5 for a disk that failed, or with 7 for want of memory.
abbrev pub EndsCheckpoint : (ran now : Disks) → (run_status status : ℕ) → Type 0
EndsCheckpoint ran now run_status status =
    ((status ≡ run_status) × AreQuiet ran now)
    ⊎ (((status ≡ 5) × HaveFailed ran now)
    ⊎ ((status ≡ 7) × AreQuiet ran now))

-- What it made of honest disks, as a run or a server left them. The state is the one that they stood for, to which that led.
pub record HasCheckpoint (salt : ℕ) (ran now : Disks) (run_status status : ℕ) : Type 0 where
  pub side : Side
  pub file : File
  pub state : State
  pub stood : StandsAt salt ran side file state
  -- a crash at any moment of it leads to that state, and so does one after it
  pub moments : TurnOneOf side ran now (state ∷ [])
  pub durable : IsDurable now state
  -- with that status the journal went on with that state, or nothing was done, as it may not
  pub made : status ≡ run_status → HasGoneOn salt side file state now ⊎ (HasNoNext file state × (now ≡ ran))
  -- unless a disk failed, they stand for the same state, and for the same number of its last event
  pub same : status ≢ 5 → recovered_on now salt ≡ recovered_on ran salt

-- a checkpoint was made behind a run or a server with this status, as far as it came
pub record IsCheckpointed (salt : ℕ) (ran now : Disks) (run_status status : ℕ) : Type 0 where
  pub ends : EndsCheckpoint ran now run_status status
  pub has : AreHonest ran → HasCheckpoint salt ran now run_status status
  pub honesty : SameHonesty ran now

-- ---- a run with a checkpoint at its end

-- The run was carried out as any is, and left the disks so, with this status. Then, where it had answered all its lines, a checkpoint was
-- made, and nothing more was read or written.
pub record IsCheckpointRun (reads : ℕ → Type 0) (days salt : ℕ) (was now : Outside) (status : ℕ) : Type 0 where
  pub ran : Disks
  pub run_status : ℕ
  pub run : IsCarriedOut reads days (Some Run) salt was (record now { disks = ran }) run_status
  pub whole : (refused : Bool) → run_status ≡ status_by refused → IsCheckpointed salt ran now.disks run_status status
  pub early : ((refused : Bool) → run_status ≢ status_by refused) → (status ≡ run_status) × (now.disks ≡ ran)
  -- until then the disk that doesn't count was kept, as by any run
  pub aside : AreHonest was.disks → KeepsAside salt was.disks ran
