-- What a look at a namespace does: it tells what a check would, from what is read of the disks, and leaves them as they are.
use Rattle.std.specs.Prelude.{◌≡◌, ◌≢◌, ◌⊎◌, ℕ}
use Rattle.sb_machine.specs.Consistent.{IsConsistent}
use Rattle.sb_machine.specs.declared.state.State.{State}
use Rattle.sb_engine.specs.Engines.{summary_of}
use Rattle.sb_journal.specs.Disks.{AreHonest, AreStill, AreQuiet, HaveFailed, SameHonesty}
use Rattle.sb_journal.specs.declared.found.Side.{Side}
use Rattle.sb_node.specs.Recovery.{recovers, damaged, recovered_on}
use Rattle.sb_app.specs.Outside.{Outside}
use Rattle.sb_app.specs.Endings.{IsLineWritten}
use Rattle.sb_app.specs.Checks.{check_line, IsLineTold}
use Rattle.sb_app.specs.Tops.{damage_line, IsBroken, IsQuiet}

-- The line of the namespace's numbers was written: those of the state that the disks stand for, a consistent one, and of their last
-- journal record. Where no journal was made that is the empty namespace.
pub record IsShown (salt : ℕ) (was now : Outside) (status : ℕ) : Type 0 where
  pub start : State
  pub last : ℕ
  pub found : AreHonest was.disks → recovered_on was.disks salt ≡ recovers start last
  pub consistent : IsConsistent start
  pub told : IsLineTold (check_line (summary_of start last)) was.output now.output status

-- The journal can't be trusted: the line that says where was written.
pub record IsDamageShown (salt : ℕ) (was now : Outside) : Type 0 where
  pub side : Side
  pub place : ℕ
  pub broken : AreHonest was.disks → recovered_on was.disks salt ≡ damaged side place
  pub reported : IsLineWritten (damage_line side place) was.output now.output

-- a look told the numbers, at 0, 4 or 7; or the damage, at 6; or a disk failed or memory was wanting, and nothing was written
abbrev pub IsLook : ℕ → (was now : Outside) → ℕ → Type 0
IsLook salt was now status =
    IsShown salt was now status
    ⊎ (((status ≡ 6) × IsDamageShown salt was now)
    ⊎ (((status ≡ 5) ⊎ (status ≡ 7)) × (now.output ≡ was.output)))

-- all that makes a look tell the numbers, but for memory
pub record IsFreeLook (salt : ℕ) (was now : Outside) : Type 0 where
  pub sound : IsBroken (recovered_on was.disks salt) → ⊥
  pub disk_quiet : HaveFailed was.disks now.disks → ⊥
  pub output_quiet : IsQuiet was.output.faults now.output.faults

-- the statuses of a look
abbrev pub IsLookStatus : ℕ → Type 0
IsLookStatus status = (status ≡ 0) ⊎ ((status ≡ 4) ⊎ ((status ≡ 5) ⊎ ((status ≡ 6) ⊎ (status ≡ 7))))

-- A look, with this status: nothing was done to the disks, not even a sync, and nothing read of the input. A disk's fault is counted at 5
-- and at no other status.
pub record IsLooked (salt : ℕ) (was now : Outside) (status : ℕ) : Type 0 where
  pub look : IsLook salt was now status
  pub known : IsLookStatus status
  pub still : AreHonest was.disks → AreStill was.disks now.disks
  pub unread : now.input ≡ was.input
  pub disk_fault : status ≡ 5 → HaveFailed was.disks now.disks
  pub disk_quiet : status ≢ 5 → AreQuiet was.disks now.disks
  pub complete : AreHonest was.disks → IsFreeLook salt was now → (status ≡ 0) ⊎ (status ≡ 7)
  pub honesty : SameHonesty was.disks now.disks
