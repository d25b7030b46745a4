-- What comes of a journal that is to go on with a file whose base is the state's.
use Rattle.std.specs.Prelude.{◌≡◌, ◌⊎◌, ℕ, Bool, true, false, Result, Ok, Err}
use Rattle.sb_outside.specs.declared.disk.Disk.{Ghosts}
use Rattle.sb_journal.specs.declared.journal.Journal.{Journal}
use Rattle.sb_journal.specs.Text.{File}
use Rattle.sb_machine.specs.declared.reply.Refusal.{Refusal}
use Rattle.sb_machine.specs.declared.reply.Refusal.TheVariants.{DiskFault, OutOfMemory, Stopped}
use Rattle.sb_machine.specs.declared.state.State.{State}
use Rattle.sb_snapshot.specs.Base.{base_of, HasSpelling}
use Rattle.sb_checkpoint.specs.declared.pieces.Unput.{Unput}
use Rattle.sb_checkpoint.specs.declared.pieces.Unput.TheVariants.{Memory, Refused}
use Rattle.sb_recorder.specs.Recorders.{CountsStill, HasTurned, LeavesEither}

-- a call of the journal failed exactly where it was refused
abbrev pub FailsAs : {T : Type 0} → Bool → Result T Unput → Type 0
FailsAs failed (Ok done) = failed ≡ false
FailsAs failed (Err Memory) = failed ≡ false
FailsAs failed (Err Refused) = failed ≡ true

-- A crash at any moment since left the file, or the next one, whose base is the state's and is read back.
abbrev pub LeavesState : {D : Type 0} {B : Ghosts D} → State → (first : ℕ) → File → (was now : Journal D B) → Type 0
LeavesState s first file was now = HasSpelling s × LeavesEither file was now first (base_of s)

-- It went on with the next file, whose base is the state's; or the file still counts. Where a disk failed, either may be.
abbrev pub Turns : {D : Type 0} {B : Ghosts D} → State → (first : ℕ) → File → (was now : Journal D B) → Result (Unit {0}) Unput → Type 0
Turns s first file was now (Ok done) = HasTurned file was now first (base_of s) × LeavesState s first file was now
Turns s first file was now (Err Memory) = CountsStill file was now
Turns s first file was now (Err Refused) = CountsStill file was now ⊎ LeavesState s first file was now

-- why a node has no checkpoint: it has stopped, or memory was wanting, or a disk failed
abbrev pub IsCheckpointFault : Refusal → Type 0
IsCheckpointFault OutOfMemory = Unit {0}
IsCheckpointFault DiskFault = Unit {0}
IsCheckpointFault (Stopped n) = Unit {0}
IsCheckpointFault _ = ⊥
