-- What a check tells of a namespace.
use Rattle.std.specs.Prelude.{◌≡◌, ◌⊎◌, ℕ, List, [], ◌++◌, codes}
use Rattle.std.specs.Fmt.{decimal}
use Rattle.sb_outside.specs.Causes.{RoseByOne}
use Rattle.sb_outside.specs.Streams.{Gains}
use Rattle.sb_machine.specs.declared.state.State.{State}
use Rattle.sb_engine.specs.Engines.{summary_of}
use Rattle.sb_engine.specs.declared.summary.Summary.{Summary}
use Rattle.sb_journal.specs.Disks.{AreHonest, KeepFound}
use Rattle.sb_node.specs.Recovery.{recovers, recovered_on}
use Rattle.sb_node.specs.Nodes.{IsDurable}
use Rattle.sb_app.specs.Backing.{IsFound}
use Rattle.sb_app.specs.Outside.{Output, Outside}
use Rattle.sb_app.specs.Endings.{IsFront}

-- the numbers of a namespace, keys in byte order
abbrev pub check_line : Summary → List ℕ
check_line s =
    codes "{\"copies\":" ++ (decimal s.copies
    ++ (codes ",\"entities\":" ++ (decimal s.entities
    ++ (codes ",\"events\":" ++ (decimal s.events
    ++ (codes ",\"made\":" ++ (decimal s.made
    ++ (codes ",\"now\":" ++ (decimal s.now ++ codes ",\"ok\":\"check\"}\n")))))))))

-- All of a line was written; at 4 a front of it, for one fault of the output; at 7 nothing, for want of memory.
abbrev pub IsTold : (line part : List ℕ) → (before now : ℕ) → (status : ℕ) → Type 0
IsTold line part before now status =
    ((status ≡ 0) × (part ≡ line) × (now ≡ before))
    ⊎ ((status ≡ 4) × IsFront part line × RoseByOne before now)
    ⊎ ((status ≡ 7) × (part ≡ []) × (now ≡ before))

-- so much of a line was written, where the output tells
pub record IsLineTold (line : List ℕ) (was now : Output) (status : ℕ) : Type 0 where
  pub part : List ℕ
  pub is : IsTold line part was.faults now.faults status
  pub written : Gains was.given now.given part

-- The journal was opened, nothing was read of the input, and the line of the namespace's numbers was written: those of the state that
-- the disks stand for, a consistent one, and of their last journal record.
pub record IsChecked (salt : ℕ) (was now : Outside) (status : ℕ) : Type 0 where
  pub start : State
  pub last : ℕ
  pub found : IsFound salt was.disks start
  pub told : IsLineTold (check_line (summary_of start last)) was.output now.output status
  pub unread : now.input ≡ was.input
  pub kept : AreHonest was.disks → recovered_on now.disks salt ≡ recovers start last
  pub durable : AreHonest was.disks → IsDurable now.disks start
  -- a crash while it was opened leaves what was found
  pub moments : AreHonest was.disks → KeepFound salt was.disks now.disks
