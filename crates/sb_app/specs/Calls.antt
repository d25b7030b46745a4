-- What a whole call of the program does that waits for nobody: over its journal, or with a server.
use Rattle.std.specs.Prelude.{◌≡◌, ◌≢◌, ℕ, List, Bool, true, false, Option, Some, None, Result, Ok, Err, option_and_then}
use Rattle.sb_words.specs.Words.{checkpoint_in, command_in, count_in, look_in, seed_in}
use Rattle.sb_words.specs.declared.command.Command.{Command}
use Rattle.sb_words.specs.declared.command.Command.TheVariants.{Run as RunCommand, Check as CheckCommand, Client as ClientCommand, Serve, Drill as DrillCommand}
use Rattle.sb_words.specs.declared.command.WordsFault.{WordsFault}
use Rattle.sb_words.specs.declared.command.WordsFault.TheVariants.{BadWords, OutOfMemory}
use Rattle.sb_app.specs.Outside.{Outside}
use Rattle.sb_app.specs.declared.task.Named.{Named}
use Rattle.sb_app.specs.declared.task.Task.{Task}
use Rattle.sb_app.specs.declared.task.Task.TheVariants.{Run, RunThenCheckpoint, Check, Look, Client, Drill}
use Rattle.sb_app.specs.Tops.{IsCarriedOut}
use Rattle.sb_app.specs.Checkpoints.{IsCheckpointRun}
use Rattle.sb_app.specs.Looks.{IsLooked}
use Rattle.sb_app.specs.Clients.{Exchanges, IsClientCall}

-- a run, or one with a checkpoint at its end
abbrev pub run_task : (checkpoint : Bool) → Task
run_task true = RunThenCheckpoint
run_task false = Run

-- a check, or a look alone
abbrev pub check_task : (look : Bool) → Task
check_task true = Look
check_task false = Check

-- the task of a command, which waits for nobody; a server has none
abbrev pub task_of : (checkpoint look : Bool) (count seed : ℕ) → Command → Option Task
task_of checkpoint look count seed RunCommand = Some (run_task checkpoint)
task_of checkpoint look count seed CheckCommand = Some (check_task look)
task_of checkpoint look count seed ClientCommand = Some Client
task_of checkpoint look count seed Serve = None
task_of checkpoint look count seed DrillCommand = Some (Drill count seed)

-- the task that the words name, if they name one
abbrev pub task_in : List (List ℕ) → Option Task
task_in words = option_and_then (task_of (checkpoint_in words) (look_in words) (count_in words) (seed_in words)) (command_in words)

-- this came of reading words that name this task, with so many days, or none; for want of memory nothing is known of them
abbrev pub IsNamed : Option Task → (days : ℕ) → Result Named WordsFault → Type 0
IsNamed task days (Ok named) = (task ≡ Some named.task) × (days ≡ named.max_jump)
IsNamed task days (Err BadWords) = task ≡ None
IsNamed task days (Err OutOfMemory) = Unit {0}

-- A call that waits for nobody did what its task is, and ended with this status.
pub record IsCall (reads : ℕ → Type 0) (days : ℕ) (task : Option Task) (salt : ℕ) (was now : Outside) (link link_now : Exchanges) (status : ℕ) : Type 0 where
  -- a run, a check, a drill, and words that name no task
  pub carried_out : task ≢ Some Client → task ≢ Some Look → task ≢ Some RunThenCheckpoint → IsCarriedOut reads days task salt was now status
  pub checkpointed : task ≡ Some RunThenCheckpoint → IsCheckpointRun reads days salt was now status
  pub looked : task ≡ Some Look → IsLooked salt was now status
  pub client : task ≡ Some Client → IsClientCall was now link link_now status
