-- The stages of a server's call: what opens a namespace and holds it back, what serves the doors over a desk, and what ends it.
use Rattle.std.specs.Prelude.{◌≡◌, ◌≢◌, ◌⊎◌, ℕ, List, [], length, map, Bool, true, false, is_some}
use Rattle.sb_outside.specs.declared.disk.Disk.{Ghosts as Disk}
use Rattle.sb_machine.specs.declared.history.Entry.{Entry}
use Rattle.sb_machine.specs.declared.state.State.{State}
use Rattle.sb_journal.specs.Disks.{Disks, SameHonesty}
use Rattle.sb_node.specs.declared.node.Node.{Node}
use Rattle.sb_node.specs.Nodes.{node_disks, node_state, node_stopped, IsKept}
use Rattle.sb_node.specs.Recovery.{Recovers, recovered_on}
use Rattle.sb_node.specs.Serving.{node_origin, opened_disks, StandsFor}
use Rattle.sb_desk.specs.Desks.{IsKeptIn, IsNew, Open, Sitting, below}
use Rattle.sb_desk.specs.Entries.{IsReport}
use Rattle.sb_desk.specs.Lists.{Each, HaveSeatsBelow}
use Rattle.sb_desk.specs.declared.report.Report.{Report}
use Rattle.sb_server.specs.Serves.{AllServedOrNone, Worker}
use Rattle.sb_server.specs.declared.ending.ServeEnding.{ServeEnding}
use Rattle.sb_app.specs.Checkpoints.{EndsCheckpoint, HasCheckpoint}
use Rattle.sb_app.specs.Checks.{IsLineTold}
use Rattle.sb_app.specs.Held.{IsJumpStatus, IsOvertaken}
use Rattle.sb_app.specs.Jumps.{IsSettled}
use Rattle.sb_app.specs.Openings.{IsOpened, HasFailed}
use Rattle.sb_app.specs.Outside.{Output}
use Rattle.sb_app.specs.Servings.{passes_for, report_line, serve_status}
use Rattle.sb_app.specs.declared.jump.Jump.{Jump}

-- ---- opened

-- A node may serve: it was opened over disks that were so, has answered nothing yet, and the clock wasn't too far ahead of its moment.
pub record MayServe {D : Type 0} {B : Disk D} (reads : ℕ → Type 0) (days salt : ℕ) (was : Disks) (n : Node D B) : Type 0 where
  pub opened : IsOpened (IsKept n) salt was (node_disks n) (node_state n)
  pub stands : StandsFor n (node_state n) []
  pub origin : opened_disks n ≡ node_disks n
  pub settled : IsSettled reads days (node_state n).now

-- It was opened, and may not, as the clock is too far ahead; so much was told of it.
pub record IsHeldBack (reads : ℕ → Type 0) (days salt : ℕ) (was now : Disks) (out out_after : Output) (status : ℕ) : Type 0 where
  pub start : State
  pub opened : IsOpened (Recovers (recovered_on now salt) start) salt was now start
  pub jump : Jump
  pub far : IsOvertaken reads days start.now jump
  pub told : IsJumpStatus jump out out_after status

-- none may: the opening failed, or the clock is too far ahead
abbrev pub MayNotServe : (reads : ℕ → Type 0) → (days salt : ℕ) → (was now : Disks) → (out out_after : Output) → (status : ℕ) → Type 0
MayNotServe reads days salt was now out out_after status = HasFailed salt was now out out_after status ⊎ IsHeldBack reads days salt was now out out_after status

-- ---- served

-- what is known of a desk and of its workers
pub record IsWorked {R : Type 0} (Works : Open → Worker R → Type 0) (h : List Entry) (desk : Open) (passes passes_now : List Sitting) (doors doors_now : List R) (ending : ServeEnding) : Type 0 where
  pub many : desk.passes ≡ passes_for (length doors)
  pub fresh : Each (IsNew desk) passes
  pub seats : map (λ p. p.seat) passes ≡ below desk.passes
  pub seen : Each (IsKeptIn h) passes_now
  pub seated : HaveSeatsBelow desk.passes h
  pub serves : AllServedOrNone (Works desk) passes passes_now doors doors_now ending

-- The doors were served by a desk over the first node, from its state on; the last one is what came of it, with the numbers of the history.
pub record DeskServed {R D : Type 0} {B : Disk D} (Works : Open → Worker R → Type 0) (first last : Node D B) (doors doors_now : List R) (report : Report) (ending : ServeEnding) : Type 0 where
  pub desk : Open
  pub start : desk.start ≡ node_state first
  pub origin : desk.origin ≡ node_origin first
  pub passes : List Sitting
  pub passes_now : List Sitting
  pub history : List Entry
  pub worked : IsWorked Works history desk passes passes_now doors doors_now ending
  pub stands : StandsFor last desk.start history
  pub same : node_origin last ≡ node_origin first
  pub counts : IsReport desk.start history report

-- ---- ended

-- The numbers were told, and a checkpoint was made where one is asked for and the server came to 0; what it is without one is `served`.
pub record ServerEnded {D : Type 0} {B : Disk D} (checkpoint : Bool) (ending : ServeEnding) (report : Report) (last : Node D B) (now : Disks) (out out_after : Output) (status : ℕ) : Type 0 where
  pub told : ℕ
  pub line : IsLineTold (report_line report) out out_after told
  pub served : ℕ
  pub says : served ≡ serve_status (is_some (node_stopped last)) ending told
  pub unasked : checkpoint ≡ false → (status ≡ served) × (now ≡ node_disks last)
  pub early : served ≢ 0 → (status ≡ served) × (now ≡ node_disks last)
  pub ends : checkpoint ≡ true → served ≡ 0 → EndsCheckpoint (node_disks last) now served status
  pub has : checkpoint ≡ true → served ≡ 0 → IsKept last → (salt : ℕ) → HasCheckpoint salt (node_disks last) now served status
  pub honesty : SameHonesty (node_disks last) now
