-- What an opening of the namespace comes to, for the layers above it.
use Rattle.std.specs.Prelude.{◌≡◌, ◌≢◌, ◌⊎◌, ℕ}
use Rattle.sb_journal.specs.Disks.{Disks, AreHonest, AreUnwritten, IsAtRest, KeepFound, HaveFailed, AreQuiet, SameHonesty}
use Rattle.sb_journal.specs.declared.found.OpenWhy.{OpenWhy}
use Rattle.sb_journal.specs.declared.found.OpenWhy.TheVariants.{Damaged, DiskFault as FailedDisk}
use Rattle.sb_journal.specs.declared.found.Side.{Side}
use Rattle.sb_machine.specs.Consistent.{IsConsistent}
use Rattle.sb_machine.specs.declared.state.State.{State}
use Rattle.sb_node.specs.Nodes.{IsDurable}
use Rattle.sb_node.specs.Recovery.{damaged, Recovers, recovered_on}
use Rattle.sb_app.specs.Outside.{Output}
use Rattle.sb_app.specs.Tops.{IsDamageReported}

-- It succeeded: this state is what the disks stood for, and what they now hold leads to it.
pub record IsOpened (Safe : Type 0) (salt : ℕ) (was ready : Disks) (start : State) : Type 0 where
  pub found : AreHonest was → Recovers (recovered_on was salt) start
  pub opens : AreHonest was → KeepFound salt was ready
  pub holds : AreHonest was → IsDurable ready start
  pub safe : AreHonest was → Safe
  pub consistent : IsConsistent start
  pub quiet : AreQuiet was ready
  pub honesty : SameHonesty was ready

-- the statuses that a failed one may have
abbrev pub IsFailedStatus : ℕ → Type 0
IsFailedStatus status = (status ≡ 5) ⊎ ((status ≡ 6) ⊎ (status ≡ 7))

-- It failed, for this reason.
pub record IsFailed (salt : ℕ) (was : Disks) (now : Disks) (out out_after : Output) (why : OpenWhy) (status : ℕ) : Type 0 where
  pub known : IsFailedStatus status
  pub damage : status ≡ 6 → IsDamageReported why out out_after
  pub silent : status ≢ 6 → out_after ≡ out
  pub failed : status ≡ 5 → why ≡ FailedDisk
  pub other : status ≢ 5 → why ≢ FailedDisk
  pub broken : AreHonest was → (side : Side) (place : ℕ) → why ≡ Damaged side place → recovered_on was salt ≡ damaged side place
  pub untouched : AreHonest was → why ≢ FailedDisk → AreUnwritten was now
  pub rests : AreHonest was → (side : Side) (place : ℕ) → why ≡ Damaged side place → IsAtRest side was now
  pub keeps : AreHonest was → KeepFound salt was now
  pub cause : why ≡ FailedDisk → HaveFailed was now
  pub quiet : why ≢ FailedDisk → AreQuiet was now
  pub honesty : SameHonesty was now

-- for some reason
abbrev pub HasFailed : ℕ → (was now : Disks) → (out out_after : Output) → (status : ℕ) → Type 0
HasFailed salt was now out out_after status = (why : OpenWhy) × IsFailed salt was now out out_after why status
