-- What a whole call of the program does, by its words and the status that it gives.
use Rattle.std.specs.Prelude.{◌≡◌, ◌≢◌, ◌⊎◌, ◌<◌, ℕ, List, ◌++◌, length, Bool, codes, Option, Some, None, IsSome}
use Rattle.std.specs.Fmt.{decimal}
use Rattle.sb_outside.specs.Causes.{Rose, RoseByOne}
use Rattle.sb_outside.specs.Streams.{Gains}
use Rattle.sb_machine.specs.History.{IsFaultless, state_after}
use Rattle.sb_machine.specs.declared.state.State.{State}
use Rattle.sb_journal.specs.Disks.{Disks, AreHonest, AreUnwritten, IsAtRest, KeepFound, HaveFailed, AreQuiet, SameHonesty}
use Rattle.sb_node.specs.Recovery.{Recovered, damaged, recovered_on}
use Rattle.sb_node.specs.Nodes.{IsDurable}
use Rattle.sb_node.specs.Steps.{is_spared}
use Rattle.sb_desk.specs.Spared.{Spares}
use Rattle.sb_app.specs.Outside.{Output, Outside}
use Rattle.sb_journal.specs.declared.found.Side.{Side}
use Rattle.sb_journal.specs.declared.found.Side.TheVariants.{A, B}
use Rattle.sb_journal.specs.declared.found.OpenWhy.{OpenWhy}
use Rattle.sb_journal.specs.declared.found.OpenWhy.TheVariants.{Damaged}
use Rattle.sb_app.specs.declared.script_line.ScriptLine.{ScriptLine}
use Rattle.sb_app.specs.declared.ending.RunEnd.{RunEnd}
use Rattle.sb_app.specs.declared.ending.RunEnd.TheVariants.{DiskFault, OutOfMemory, LongInput, TimeJump}
use Rattle.sb_app.specs.declared.task.Task.{Task}
use Rattle.sb_app.specs.declared.task.Task.TheVariants.{Run, Check, Drill}
use Rattle.sb_input.specs.Limits.{max_input}
use Rattle.sb_app.specs.Lines.{script_lines}
use Rattle.sb_app.specs.Jumps.{AllWithin}
use Rattle.sb_input.specs.Taking.{Took, HasEnded, IsLong}
use Rattle.sb_app.specs.Taking.{IsTaken}
use Rattle.sb_app.specs.Runs.{FollowLines, FollowTo, replies_to, history_of, any_refused, status_by, state_after_all}
use Rattle.sb_app.specs.Backing.{IsBacked, IsChronicle, IsFound}
use Rattle.sb_app.specs.Checks.{IsChecked}
use Rattle.sb_app.specs.Drills.{IsDrilled}
use Rattle.sb_app.specs.Endings.{IsLineWritten, IsUndecided, LastLine, line_of_last, EndsAt, AreFirst, IsTimeJump, history_to, status_of_end}

-- ---- a run that took all its input, or ended before

-- The moments of the disks in a whole call: those of the opening, which leave what was found; what stood there when it was ready, which
-- leads to this state; and those of the lines, as `Follows` says.
pub record HasMoments (salt : ℕ) (start : State) (Follows : (was now : Disks) → Type 0) (was now : Disks) : Type 0 where
  pub ready : Disks
  pub opens : KeepFound salt was ready
  pub holds : IsDurable ready start
  pub follows : Follows ready now

-- A run that took all its input: from the state that the disks stood for, a consistent one, each line was answered by the machine, in
-- order and no other, as none was too far ahead of the clock; the history of its calls is legal, and its last state is what the disks stand for, also after a crash.
pub record IsWholeRun (reads : ℕ → Type 0) (days salt : ℕ) (was now : Outside) (status : ℕ) : Type 0 where
  pub start : State
  pub found : IsFound salt was.disks start
  pub input : List ℕ
  pub took : Took was.input.left now.input.left input
  pub ended : HasEnded was.input.left now.input.left
  pub within : AllWithin reads days (script_lines input)
  pub written : Gains was.output.given now.output.given (replies_to start (script_lines input))
  pub chronicle : IsChronicle start (history_of start (script_lines input))
  pub faultless : IsFaultless (history_of start (script_lines input))
  pub backed : AreHonest was.disks → IsBacked salt now.disks (state_after start (history_of start (script_lines input)))
  pub says : status ≡ status_by (any_refused start (script_lines input))
  -- a crash at any moment of the run leads to the state after its first lines, and to no earlier one than at the moment before
  pub moments : AreHonest was.disks → HasMoments salt start (FollowLines start (script_lines input)) was.disks now.disks

-- A run that ended before its input did, by 14 before a line that is too far ahead of the clock: from the state that the disks stood for, a consistent one, the first lines of the input were
-- answered, in order; the history of its calls is legal, memory was wanting for none that is spared, and unless a disk failed its last state is what the disks stand for, also
-- after a crash.
pub record IsEarlyRun (reads : ℕ → Type 0) (days salt : ℕ) (was now : Outside) (end : RunEnd) : Type 0 where
  pub start : State
  pub found : IsFound salt was.disks start
  pub lines : List ScriptLine
  pub last : Option LastLine
  pub first : AreFirst was.input.left (lines ++ line_of_last last)
  pub taken : IsTaken was.input now.input (lines ++ line_of_last last) end
  pub within : AllWithin reads days (lines ++ line_of_last last)
  pub long : end ≡ LongInput → IsLong was.input.left now.input.left
  pub part : List ℕ
  pub ends : EndsAt (state_after_all start lines) last part was.output.faults now.output.faults end
  pub jump : end ≡ TimeJump → IsTimeJump reads days was.input.left lines part was.output.faults now.output.faults
  pub written : Gains was.output.given now.output.given (replies_to start lines ++ part)
  pub chronicle : IsChronicle start (history_to start lines last)
  pub spares : Spares is_spared start (history_to start lines last)
  pub backed : AreHonest was.disks → end ≢ DiskFault → IsBacked salt now.disks (state_after start (history_to start lines last))
  -- the call that was answered by a failed disk is there or not
  pub undecided : AreHonest was.disks → end ≡ DiskFault → IsUndecided now.disks (state_after start (history_of start lines)) last
  pub moments : AreHonest was.disks → HasMoments salt start (FollowTo start lines (line_of_last last)) was.disks now.disks

-- The journal wasn't opened: nothing was read of the input and nothing written.
pub record IsUnopened (salt : ℕ) (was now : Outside) (end : RunEnd) : Type 0 where
  pub why : (end ≡ DiskFault) ⊎ (end ≡ OutOfMemory)
  pub unread : now.input ≡ was.input
  pub unsaid : now.output ≡ was.output
  -- where memory was wanting, nothing was written on the disks either
  pub untouched : AreHonest was.disks → end ≡ OutOfMemory → AreUnwritten was.disks now.disks
  -- where a disk failed, a crash at any moment leaves what was found
  pub kept : AreHonest was.disks → KeepFound salt was.disks now.disks

-- a run that ended early, or none because the journal wasn't opened
abbrev pub IsEarly : (reads : ℕ → Type 0) → (days salt : ℕ) → (was now : Outside) → RunEnd → Type 0
IsEarly reads days salt was now end = IsUnopened salt was now end ⊎ IsEarlyRun reads days salt was now end

-- ---- the lines of the statuses 2 and 6

abbrev pub usage_line : List ℕ
usage_line = codes "usage: bus COMMAND (run, serve, client, check, drill)\n"

-- how a disk is named
abbrev pub letter_of : Side → List ℕ
letter_of A = codes "a"
letter_of B = codes "b"

-- the line that tells of damage: the disk and the place
abbrev pub damage_line : Side → ℕ → List ℕ
damage_line side place = codes "{\"disk\":\"" ++ (letter_of side ++ (codes "\",\"place\":" ++ (decimal place ++ codes ",\"refused\":\"Damaged\"}\n")))

-- an opening found damage, and the line that says where was written
abbrev pub IsDamageReported : OpenWhy → (was now : Output) → Type 0
IsDamageReported (Damaged side place) was now = IsLineWritten (damage_line side place) was now
IsDamageReported _ was now = ⊥

-- a journal that is damaged somewhere
abbrev pub IsBroken : Recovered → Type 0
IsBroken r = (side : Side) × (place : ℕ) × (r ≡ damaged side place)

-- The journal can't be trusted: the line that says where was written, nothing was read of the input, and the disks are as they were
-- read.
pub record IsRefused (salt : ℕ) (was now : Outside) : Type 0 where
  pub side : Side
  pub place : ℕ
  pub broken : AreHonest was.disks → recovered_on was.disks salt ≡ damaged side place
  pub reported : IsLineWritten (damage_line side place) was.output now.output
  pub unread : now.input ≡ was.input
  pub untouched : AreHonest was.disks → AreUnwritten was.disks now.disks
  pub at_rest : AreHonest was.disks → IsAtRest side was.disks now.disks

-- ---- which statuses there are

-- of a run that took all its input, or of one that ended early
abbrev pub IsRunStatus : ℕ → Type 0
IsRunStatus status = ((refused : Bool) × (status ≡ status_by refused)) ⊎ ((end : RunEnd) × (status ≡ status_of_end end))

-- of a run, of words that name nothing, or of a damaged journal
abbrev pub IsStatus : ℕ → Type 0
IsStatus status = IsRunStatus status ⊎ ((status ≡ 2) ⊎ (status ≡ 6))

-- a count of faults didn't rise
abbrev pub IsQuiet : (before now : ℕ) → Type 0
IsQuiet before now = Rose before now → ⊥

-- fewer bytes are left than end a run
abbrev pub IsShort : Option (List ℕ) → Type 0
IsShort None = ⊥
IsShort (Some left) = length left < max_input

-- all that makes a run take its whole input, but for memory, and for a line whose moment is too far ahead of the clock
pub record IsFree (salt : ℕ) (was now : Outside) : Type 0 where
  pub sound : IsBroken (recovered_on was.disks salt) → ⊥
  pub short : IsShort was.input.left
  pub input_quiet : IsQuiet was.input.faults now.input.faults
  pub output_quiet : IsQuiet was.output.faults now.output.faults
  pub disk_quiet : HaveFailed was.disks now.disks → ⊥

-- all lines were answered, or memory was wanting
abbrev pub IsComplete : ℕ → Type 0
IsComplete status = ((refused : Bool) × (status ≡ status_by refused)) ⊎ (status ≡ 7)

-- ---- the program

-- A check told the numbers; or the journal wasn't opened, for a disk or for memory, or is damaged.
abbrev pub IsCheck : ℕ → (was now : Outside) → ℕ → Type 0
IsCheck salt was now status = IsChecked salt was now status ⊎ (((end : RunEnd) × (status ≡ status_of_end end) × IsUnopened salt was now end) ⊎ (status ≡ 6))

-- A drill made its calls, up to the status that it ends with; or the journal wasn't opened, for a disk or for memory, or is damaged.
abbrev pub IsDrill : (count seed salt : ℕ) → (was now : Outside) → ℕ → Type 0
IsDrill count seed salt was now status = IsDrilled count seed salt was now status ⊎ (((end : RunEnd) × (status ≡ status_of_end end) × IsUnopened salt was now end) ⊎ (status ≡ 6))

-- The task that the words name was carried out, or they name none, and this is the status. A fault that was met is told: a count rises by
-- one with its status, and with no other.
pub record IsCarriedOut (reads : ℕ → Type 0) (days : ℕ) (task : Option Task) (salt : ℕ) (was now : Outside) (status : ℕ) : Type 0 where
  -- a run at 0 and 1
  pub whole : task ≡ Some Run → (refused : Bool) → status ≡ status_by refused → IsWholeRun reads days salt was now status
  -- a run at 3, 4, 5, 7, 10 and 14
  pub early : task ≡ Some Run → (end : RunEnd) → status ≡ status_of_end end → IsEarly reads days salt was now end
  pub long : status ≡ 10 → IsLong was.input.left now.input.left
  -- 14
  pub jump : status ≡ 14 → (task ≡ Some Run) × IsEarlyRun reads days salt was now TimeJump
  -- a check at 0, 4, 5, 6 and 7
  pub checked : task ≡ Some Check → IsCheck salt was now status
  -- a drill at 0, 4, 5, 6 and 7
  pub drilled : (count seed : ℕ) → task ≡ Some (Drill count seed) → IsDrill count seed salt was now status
  -- 6
  pub broken : status ≡ 6 → IsRefused salt was now
  -- 2
  pub usage : status ≡ 2 → task ≡ None
  -- words that name none end so, or memory was wanting to read them, and then nothing was done
  pub unnamed : task ≡ None → (status ≡ 2) ⊎ ((status ≡ 7) × (now ≡ was))
  pub usage_written : status ≡ 2 → IsLineWritten usage_line was.output now.output
  pub known : IsStatus status
  pub read_fault : status ≡ 3 → RoseByOne was.input.faults now.input.faults
  pub read_quiet : status ≢ 3 → now.input.faults ≡ was.input.faults
  pub write_fault : status ≡ 4 → RoseByOne was.output.faults now.output.faults
  pub write_quiet : (refused : Bool) → status ≡ status_by refused → now.output.faults ≡ was.output.faults
  pub disk_fault : status ≡ 5 → HaveFailed was.disks now.disks
  pub disk_quiet : status ≢ 5 → AreQuiet was.disks now.disks
  pub complete : IsSome task → AreHonest was.disks → IsFree salt was now → IsComplete status ⊎ (status ≡ 14)
  pub honesty : SameHonesty was.disks now.disks
