-- What a look at two disks tells of the namespace that stands there.
use Rattle.std.specs.Prelude.{◌≡◌, ℕ}
use Rattle.sb_machine.specs.Consistent.{IsConsistent}
use Rattle.sb_machine.specs.declared.state.State.{State}
use Rattle.sb_engine.specs.Engines.{summary_of}
use Rattle.sb_engine.specs.declared.summary.Summary.{Summary}
use Rattle.sb_journal.specs.Disks.{Disks, AreHonest}
use Rattle.sb_node.specs.Recovery.{recovers, recovered_on}

-- These are the numbers of the state that the disks stand for, a consistent one, and of their last journal record.
pub record IsSeen (salt : ℕ) (disks : Disks) (summary : Summary) : Type 0 where
  pub start : State
  pub last : ℕ
  pub found : AreHonest disks → recovered_on disks salt ≡ recovers start last
  pub consistent : IsConsistent start
  pub numbers : summary ≡ summary_of start last
