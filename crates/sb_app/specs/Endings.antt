-- How a run ends before its input does: what was answered, and what was written of the last line.
use Rattle.std.specs.Prelude.{◌≡◌, ◌⊎◌, ℕ, List, [], ◌∷◌, ◌++◌, true, false, Option, Some, None, IfSome, Result, Err}
use Rattle.sb_outside.specs.Causes.{RoseByOne}
use Rattle.sb_outside.specs.Streams.{Gains}
use Rattle.sb_machine.specs.History.{IsLegal, is_fault, state_after}
use Rattle.sb_machine.specs.Answers.{moment_of}
use Rattle.sb_machine.specs.Parts.{at_part_or_whole}
use Rattle.sb_machine.specs.declared.call.TimedCall.{TimedCall}
use Rattle.sb_machine.specs.declared.history.Entry.{Entry}
use Rattle.sb_machine.specs.declared.reply.Answered.{Answered}
use Rattle.sb_machine.specs.declared.reply.Refusal.{Refusal}
use Rattle.sb_machine.specs.declared.reply.Refusal.TheVariants.{BadCall, DiskFault as FailedDisk, OutOfMemory as WantsMemory}
use Rattle.sb_machine.specs.declared.state.State.{State}
use Rattle.sb_lines.specs.Replies.{answer_line}
use Rattle.sb_lines.specs.declared.form.Form.{Form}
use Rattle.sb_app.specs.declared.script_line.ScriptLine.{ScriptLine}
use Rattle.sb_app.specs.declared.script_line.ScriptLine.TheVariants.{Blank, Malformed, Request}
use Rattle.sb_app.specs.declared.ending.RunEnd.{RunEnd}
use Rattle.sb_app.specs.declared.ending.RunEnd.TheVariants.{ReadFault, WriteFault, DiskFault, OutOfMemory, LongInput, TimeJump}
use Rattle.sb_journal.specs.Disks.{Disks}
use Rattle.sb_node.specs.Nodes.{IsOneOf}
use Rattle.sb_node.specs.Steps.{entries_with, is_spared}
use Rattle.sb_desk.specs.Spared.{Spares}
use Rattle.sb_app.specs.Outside.{Output, Outside}
use Rattle.sb_app.specs.Runs.{replies_to, state_after_all, states_left, history_of, FollowTo}
use Rattle.sb_app.specs.Jumps.{is_far_ahead, jump_line, AllWithin}
use Rattle.sb_app.specs.Lines.{form_of, script_lines}
use Rattle.sb_input.specs.Taking.{IsLong}
use Rattle.sb_app.specs.Taking.{IsTaken}

-- ---- what is written of a line

-- these bytes are a front of those
abbrev pub IsFront : List ℕ → List ℕ → Type 0
IsFront part line = (rest : List ℕ) × (line ≡ part ++ rest)

-- the whole line, with no fault, or a front of it and one fault more of the output
abbrev pub IsWritten : (line part : List ℕ) → (before now : ℕ) → Type 0
IsWritten line part before now = ((part ≡ line) × (now ≡ before)) ⊎ (IsFront part line × RoseByOne before now)

-- so much of a line was written, where the output tells
pub record IsLineWritten (line : List ℕ) (was now : Output) : Type 0 where
  pub part : List ℕ
  pub is : IsWritten line part was.faults now.faults
  pub written : Gains was.given now.given part

-- a reply's line was written in part, for the output's fault, or not at all, for want of memory
abbrev pub IsReplyCut : List ℕ → (was now : Output) → RunEnd → Type 0
IsReplyCut line was now ReadFault = ⊥
IsReplyCut line was now WriteFault = (part : List ℕ) × IsFront part line × Gains was.given now.given part × RoseByOne was.faults now.faults
IsReplyCut line was now DiskFault = ⊥
IsReplyCut line was now OutOfMemory = Gains was.given now.given [] × (now.faults ≡ was.faults)
IsReplyCut line was now LongInput = ⊥
IsReplyCut line was now TimeJump = ⊥

-- ---- the line at which a run ends

-- the line that a run ended at, and how its call was answered
pub record LastLine : Type 0 where
  pub line : ScriptLine
  -- the moment of the tick that its call made first, if it did
  pub tick : Option ℕ
  pub answer : Result Answered Refusal

-- what a line with this tick and this answer adds to a history
abbrev pub entries_by : ScriptLine → Option ℕ → Result Answered Refusal → List Entry
entries_by Blank tick answer = []
entries_by (Malformed part key) tick answer = []
entries_by (Request a form) tick answer = entries_with tick 0 a.reading a.call answer

-- A line got this answer, behind this tick: a call the machine's, or a fault, but want of memory only where the call isn't spared; what is
-- no call the key at fault.
abbrev pub IsAnswer : State → ScriptLine → Option ℕ → Result Answered Refusal → Type 0
IsAnswer s Blank tick answer = ⊥
IsAnswer s (Malformed part key) tick answer = (tick ≡ None) × (answer ≡ Err (at_part_or_whole part (BadCall key)))
IsAnswer s (Request a form) tick answer = IfSome tick (λ t. t ≡ moment_of s a.reading) × IsLegal s (entries_with tick 0 a.reading a.call answer) × Spares is_spared s (entries_with tick 0 a.reading a.call answer)

-- A run ends at a line for this answer and so much of its line in the form that was asked for. After a failed disk, or want of memory in the call, the line of
-- that answer is written; where an answer's line found no memory nothing of it is.
abbrev pub IsCause : Form → RunEnd → Result Answered Refusal → (part : List ℕ) → (before now : ℕ) → Type 0
IsCause form ReadFault answer part before now = ⊥
IsCause form WriteFault answer part before now = (is_fault answer ≡ false) × IsFront part (answer_line form answer) × RoseByOne before now
IsCause form DiskFault answer part before now = (answer ≡ Err FailedDisk) × IsWritten (answer_line form answer) part before now
IsCause form OutOfMemory answer part before now = ((answer ≡ Err WantsMemory) × IsWritten (answer_line form answer) part before now) ⊎ ((is_fault answer ≡ false) × (part ≡ []) × (now ≡ before))
IsCause form LongInput answer part before now = ⊥
IsCause form TimeJump answer part before now = ⊥

-- A run may end between two lines so, and nothing was written; what is where time would jump, `IsTimeJump` says.
abbrev pub IsBetween : RunEnd → (part : List ℕ) → (before now : ℕ) → Type 0
IsBetween ReadFault part before now = (part ≡ []) × (now ≡ before)
IsBetween WriteFault part before now = ⊥
IsBetween DiskFault part before now = ⊥
IsBetween OutOfMemory part before now = (part ≡ []) × (now ≡ before)
IsBetween LongInput part before now = (part ≡ []) × (now ≡ before)
IsBetween TimeJump part before now = Unit {0}

-- the run ended at this line
pub record IsCutAt (s : State) (line : ScriptLine) (was now : Output) (after : State) (end : RunEnd) : Type 0 where
  pub tick : Option ℕ
  pub answer : Result Answered Refusal
  pub is : IsAnswer s line tick answer
  pub part : List ℕ
  pub cause : IsCause (form_of line) end answer part was.faults now.faults
  pub written : Gains was.given now.given part
  pub leads : after ≡ state_after s (entries_by line tick answer)

-- ---- a run that ended early

-- that line, if there is one
abbrev pub line_of_last : Option LastLine → List ScriptLine
line_of_last None = []
line_of_last (Some last) = last.line ∷ []

-- the entries of its call, if there is one
abbrev pub entries_of_last : Option LastLine → List Entry
entries_of_last None = []
entries_of_last (Some last) = entries_by last.line last.tick last.answer

-- it ended at this line, or between two lines, for this reason
abbrev pub EndsAt : State → Option LastLine → (part : List ℕ) → (before now : ℕ) → RunEnd → Type 0
EndsAt s None part before now end = IsBetween end part before now
EndsAt s (Some last) part before now end = IsAnswer s last.line last.tick last.answer × IsCause (form_of last.line) end last.answer part before now

-- these are the first lines of what a source has left, where it tells
abbrev pub AreFirst : Option (List ℕ) → List ScriptLine → Type 0
AreFirst None lines = Unit {0}
AreFirst (Some left) lines = (more : List ScriptLine) × (script_lines left ≡ lines ++ more)

-- The next line behind these asks for a call at a moment that is too far ahead of what the clock read; so much of the line that says so
-- was written, and the call wasn't made.
pub record IsTimeJump (reads : ℕ → Type 0) (days : ℕ) (left : Option (List ℕ)) (lines : List ScriptLine) (part : List ℕ) (before now : ℕ) : Type 0 where
  pub asked : TimedCall
  pub form : Form
  pub next : AreFirst left (lines ++ Request asked form ∷ [])
  pub reading : ℕ
  pub read : reads reading
  pub far : is_far_ahead days reading asked.reading ≡ true
  pub told : IsWritten (jump_line asked.reading reading) part before now

-- whatever a crash leaves leads to this state, to that with the tick of this line, or to the one after what it asks
abbrev pub IsUndecided : Disks → State → Option LastLine → Type 0
IsUndecided disks s None = Unit {0}
IsUndecided disks s (Some last) = IsOneOf disks (states_left s last.line)

-- Of the first lines each was answered by the machine and its reply written; then the run ended, at one more line or at none. The
-- disks are spoken of where they were safe at the start.
pub record IsCutRun (reads : ℕ → Type 0) (days : ℕ) (Safe : Type 0) (s : State) (was now : Outside) (after : State) (end : RunEnd) : Type 0 where
  pub lines : List ScriptLine
  pub last : Option LastLine
  pub first : AreFirst was.input.left (lines ++ line_of_last last)
  pub taken : IsTaken was.input now.input (lines ++ line_of_last last) end
  pub within : AllWithin reads days (lines ++ line_of_last last)
  pub long : end ≡ LongInput → IsLong was.input.left now.input.left
  pub part : List ℕ
  pub ends : EndsAt (state_after_all s lines) last part was.output.faults now.output.faults end
  pub jump : end ≡ TimeJump → IsTimeJump reads days was.input.left lines part was.output.faults now.output.faults
  pub written : Gains was.output.given now.output.given (replies_to s lines ++ part)
  pub leads : after ≡ state_after (state_after_all s lines) (entries_of_last last)
  pub undecided : Safe → end ≡ DiskFault → IsUndecided now.disks (state_after_all s lines) last
  pub moments : Safe → FollowTo s lines (line_of_last last) was.disks now.disks

-- the history of such a run
abbrev pub history_to : State → List ScriptLine → Option LastLine → List Entry
history_to s lines last = history_of s lines ++ entries_of_last last

-- the status of a run that ended early
abbrev pub status_of_end : RunEnd → ℕ
status_of_end ReadFault = 3
status_of_end WriteFault = 4
status_of_end DiskFault = 5
status_of_end OutOfMemory = 7
status_of_end LongInput = 10
status_of_end TimeJump = 14
