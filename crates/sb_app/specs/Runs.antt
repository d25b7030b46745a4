-- A run over lines: what is written, the calls that are made, and the state that they lead to.
use Rattle.std.specs.Prelude.{◌≡◌, ℕ, List, [], ◌∷◌, ◌++◌, Bool, true, false, ◌||◌, if◌then◌else◌, is_err, Option, Result, Ok, Err}
use Rattle.sb_machine.specs.Answers.{answer_of, moment_of}
use Rattle.sb_machine.specs.Due.{is_due}
use Rattle.sb_machine.specs.Events.{replayed, tick_at}
use Rattle.sb_machine.specs.History.{advanced, is_spent, entries_at, entries_of, state_after}
use Rattle.sb_machine.specs.Parts.{at_part_or_whole}
use Rattle.sb_machine.specs.declared.call.Call.{Call}
use Rattle.sb_machine.specs.declared.call.TimedCall.{TimedCall}
use Rattle.sb_machine.specs.declared.history.Entry.{Entry}
use Rattle.sb_machine.specs.declared.reply.Refusal.TheVariants.{BadCall, DiskFault, Stopped, OutOfMemory, Exhausted}
use Rattle.sb_machine.specs.declared.reply.Answered.{Answered}
use Rattle.sb_machine.specs.declared.reply.Refusal.{Refusal}
use Rattle.sb_machine.specs.declared.state.State.{State}
use Rattle.sb_outside.specs.Streams.{Gains}
use Rattle.sb_lines.specs.Replies.{answer_line}
use Rattle.sb_lines.specs.declared.form.Form.TheVariants.{Plain}
use Rattle.sb_app.specs.declared.dispatch.AnswerKind.{AnswerKind}
use Rattle.sb_app.specs.declared.dispatch.AnswerKind.TheVariants.{Accepted, Refused, Failed, Wanting}
use Rattle.sb_app.specs.declared.script_line.ScriptLine.{ScriptLine}
use Rattle.sb_app.specs.declared.script_line.ScriptLine.TheVariants.{Blank, Malformed, Request}
use Rattle.sb_input.specs.declared.reader.Reader.{Reader}
use Rattle.sb_input.specs.Lines.{AreWhole}
use Rattle.sb_app.specs.Lines.{script_lines}
use Rattle.sb_app.specs.Jumps.{AllWithin}
use Rattle.sb_journal.specs.Disks.{Disks}
use Rattle.sb_node.specs.Nodes.{StayOneOf}
use Rattle.sb_app.specs.Outside.{Output, Outside}
use Rattle.sb_input.specs.Readers.{pending_of, IsAt}
use Rattle.sb_input.specs.Taking.{Took, HasEnded}

-- accepted, refused by the machine, failed for the disk, or wanting memory
abbrev pub kind_of : Result Answered Refusal → AnswerKind
kind_of (Ok reply) = Accepted
kind_of (Err DiskFault) = Failed
kind_of (Err (Stopped n)) = Failed
kind_of (Err OutOfMemory) = Wanting
kind_of (Err _) = Refused

-- ---- one line

-- the machine's answer to a call at a reading of the clock: where something is due it comes behind the tick, and where time can't go
-- on it is the refusal that says so
abbrev pub answer_at : State → ℕ → Call → Result Answered Refusal
answer_at s reading call =
    let t = moment_of s reading in
    if is_due t s.space then (if is_spent s t then Err Exhausted else answer_of (advanced s t) t call) else answer_of s t call

-- the reply line to a line, if it has one
abbrev pub reply_to : State → ScriptLine → List ℕ
reply_to s Blank = []
reply_to s (Malformed part key) = answer_line Plain (Err (at_part_or_whole part (BadCall key)))
reply_to s (Request a form) = answer_line form (answer_at s a.reading a.call)

-- the state after a line: a call's, behind the tick that is due first
abbrev pub state_by : State → ScriptLine → State
state_by s Blank = s
state_by s (Malformed part key) = s
state_by s (Request a form) = state_after s (entries_at 0 s a.reading a.call)

-- whether a line is refused; a blank one never is
abbrev pub refuses_it : State → ScriptLine → Bool
refuses_it s Blank = false
refuses_it s (Malformed part key) = true
refuses_it s (Request a form) = is_err (answer_at s a.reading a.call)

-- the states to which a crash may lead while a line is answered: the one before it and the one after it
abbrev pub states_of : State → ScriptLine → List State
states_of s Blank = s ∷ []
states_of s (Malformed part key) = s ∷ []
states_of s (Request a form) = s ∷ state_by s (Request a form) ∷ []

-- where the run ends at the line also that with the tick which is due first, since a disk may fail or memory be wanting behind it
abbrev pub states_left : State → ScriptLine → List State
states_left s Blank = s ∷ []
states_left s (Malformed part key) = s ∷ []
states_left s (Request a form) = s ∷ replayed s (tick_at s (moment_of s a.reading)) ∷ state_by s (Request a form) ∷ []

-- the line was answered: its reply was written, and the state is the one after it
pub record IsAnswered (s : State) (line : ScriptLine) (was now : Output) (after : State) (refused : Bool) : Type 0 where
  pub written : Gains was.given now.given (reply_to s line)
  pub leads : after ≡ state_by s line
  pub says : refused ≡ refuses_it s line

-- ---- all lines, one after another

-- what is written for lines, one after another
abbrev pub replies_to : State → List ScriptLine → List ℕ
replies_to s [] = []
replies_to s (l ∷ ls) = reply_to s l ++ replies_to (state_by s l) ls

-- the state after lines
abbrev pub state_after_all : State → List ScriptLine → State
state_after_all s [] = s
state_after_all s (l ∷ ls) = state_after_all (state_by s l) ls

-- whether one of the lines is refused
abbrev pub any_refused : State → List ScriptLine → Bool
any_refused s [] = false
any_refused s (l ∷ ls) = refuses_it s l || any_refused (state_by s l) ls

-- the calls among them
abbrev pub calls_in : List ScriptLine → List TimedCall
calls_in [] = []
calls_in (Blank ∷ ls) = calls_in ls
calls_in (Malformed part key ∷ ls) = calls_in ls
calls_in (Request a form ∷ ls) = a ∷ calls_in ls

-- what they add to a history: for each call an entry of seat 0 with the machine's answer, and before it a tick where one is due
abbrev pub history_of : State → List ScriptLine → List Entry
history_of s lines = entries_of 0 s (calls_in lines)

-- The moments of a run over these lines, cut at the lines: until a line was answered a crash at any moment leads to the state before it
-- or to the one after it. So what was answered stays, and no moment leads further back than one before it.
abbrev pub FollowLines : State → List ScriptLine → (was now : Disks) → Type 0
FollowLines s [] was now = now ≡ was
FollowLines s (l ∷ ls) was now = (answered : Disks) × StayOneOf was answered (states_of s l) × FollowLines (state_by s l) ls answered now

-- those of a run that ended at the first of these lines, or where there is none between two lines
abbrev pub FollowLast : State → List ScriptLine → (was now : Disks) → Type 0
FollowLast s [] was now = now ≡ was
FollowLast s (l ∷ ls) was now = StayOneOf was now (states_left s l)

-- behind the lines that were answered before
abbrev pub FollowTo : State → (lines last : List ScriptLine) → (was now : Disks) → Type 0
FollowTo s lines last was now = (answered : Disks) × FollowLines s lines was answered × FollowLast (state_after_all s lines) last answered now

-- ---- a run that took all its input

-- All input was taken, and each of its lines was answered by the machine, one after another; none was too far ahead of the clock. The
-- moments are spoken of where the disks were safe at the start.
pub record IsScriptRun (reads : ℕ → Type 0) (days : ℕ) (Safe : Type 0) (s : State) (was now : Outside) (after : State) (refused : Bool) : Type 0 where
  pub input : List ℕ
  pub took : Took was.input.left now.input.left input
  pub ended : HasEnded was.input.left now.input.left
  pub within : AllWithin reads days (script_lines input)
  pub written : Gains was.output.given now.output.given (replies_to s (script_lines input))
  pub leads : after ≡ state_after_all s (script_lines input)
  pub says : refused ≡ any_refused s (script_lines input)
  pub moments : Safe → FollowLines s (script_lines input) was.disks now.disks

-- The lines of a front of what was taken were answered, and the rest is pending.
pub record RunsSoFar (s : State) (start left told told_after : Option (List ℕ)) (r : Reader) (now : State) (refused : Bool) : Type 0 where
  pub input : List ℕ
  pub done : List ℕ
  pub at : IsAt start input left r
  pub split : input ≡ done ++ pending_of r
  pub whole : AreWhole done
  pub written : Gains told told_after (replies_to s (script_lines done))
  pub leads : now ≡ state_after_all s (script_lines done)
  pub says : refused ≡ any_refused s (script_lines done)

-- the status of such a run
abbrev pub status_by : Bool → ℕ
status_by false = 0
status_by true = 1
