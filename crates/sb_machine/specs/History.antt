-- Histories: the entries of a namespace, which of them are legal, and the state that they lead to.
use Rattle.std.specs.Prelude.{◌≡◌, ℕ, ◌≤◌, List, [], ◌∷◌, ◌++◌, Bool, true, false, not, if◌then◌else◌, Option, Some, None, Result, Err}
use Rattle.std.specs.Bool.{MatchBool}
use Rattle.sb_machine.specs.Answers.{max_moment, moment_of, answer_of, state_of}
use Rattle.sb_machine.specs.Changes.{after_all, is_numbered}
use Rattle.sb_machine.specs.Due.{is_due, tick_changes}
use Rattle.sb_machine.specs.declared.call.Call.{Call}
use Rattle.sb_machine.specs.declared.call.TimedCall.{TimedCall}
use Rattle.sb_machine.specs.declared.history.Entry.{Entry}
use Rattle.sb_machine.specs.declared.history.Entry.TheVariants.{Ticked, Answered as Replied}
use Rattle.sb_machine.specs.declared.reply.Answered.{Answered}
use Rattle.sb_machine.specs.declared.reply.Refusal.{Refusal}
use Rattle.sb_machine.specs.declared.reply.Refusal.TheVariants.{DiskFault, Stopped, OutOfMemory, Exhausted}
use Rattle.sb_machine.specs.declared.state.State.{State}

-- an answer that isn't the machine's: the disk failed, it had failed, or memory was wanting
abbrev pub is_fault : Result Answered Refusal → Bool
is_fault (Err DiskFault) = true
is_fault (Err (Stopped n)) = true
is_fault (Err OutOfMemory) = true
is_fault _ = false

-- whether a call was answered with a failure of the disk
abbrev pub is_disk_fault : Result Answered Refusal → Bool
is_disk_fault (Err DiskFault) = true
is_disk_fault _ = false

-- whether a call was refused since the namespace has stopped
abbrev pub is_stopped : Result Answered Refusal → Bool
is_stopped (Err (Stopped n)) = true
is_stopped _ = false

-- after this answer the namespace acts no more
abbrev pub stops : Result Answered Refusal → Bool
stops (Err DiskFault) = true
stops (Err (Stopped n)) = true
stops _ = false

-- ---- time goes on

-- the state as time has come up to a moment
abbrev pub advanced : State → ℕ → State
advanced s t = record s { now = t; space = after_all t (tick_changes t s.space) s.space }

-- time can't go on to a moment: a number would pass the greatest
abbrev pub is_spent : State → ℕ → Bool
is_spent s t = not (is_numbered t (tick_changes t s.space) s.space)

-- ---- the state after entries

-- What stands behind some entries: the state, whether the namespace has stopped, whether the last call was answered that the disk failed, and the
-- seat and the moment of a tick whose call hasn't come yet.
pub record Log : Type 0 where
  pub state : State
  pub stopped : Bool
  pub failing : Bool
  pub tick : Option (ℕ × ℕ)

-- a history without entries yet, which begins at this state
abbrev pub fresh_log : State → Log
fresh_log s = record { state = s; stopped = false; failing = false; tick = None }

-- the same, where calls that come have no part in the disk's failure
abbrev pub settled : Log → Log
settled l = record l { failing = false }

-- where something is due, the call isn't made
abbrev pub after_call : State → ℕ → Call → Result Answered Refusal → State
after_call s reading call answer = if is_fault answer then s else (if is_due (moment_of s reading) s.space then s else state_of s (moment_of s reading) call)

-- the history's end after one entry more
abbrev pub after_entry : Log → Entry → Log
after_entry l (Ticked seat t) = record l { state = advanced l.state t; failing = false; tick = Some (seat, t) }
after_entry l (Replied seat reading call answer) = record { state = after_call l.state reading call answer; stopped = (if l.stopped then true else stops answer); failing = is_disk_fault answer; tick = None }

-- the history's end after entries
abbrev pub after_entries : Log → List Entry → Log
after_entries l [] = l
after_entries l (e ∷ es) = after_entries (after_entry l e) es

-- the state that entries lead to
abbrev pub state_after : State → List Entry → State
state_after s entries = (after_entries (fresh_log s) entries).state

-- ---- legal histories

-- time may go on to this moment
abbrev pub IsTick : State → ℕ → Type 0
IsTick s t = (s.now ≤ t) × (t ≤ max_moment) × (is_due t s.space ≡ true) × (is_spent s t ≡ false)

-- The machine's answer. Where something is due and no tick was made, it is because none can be.
abbrev pub IsAnswer : State → ℕ → Call → Result Answered Refusal → Type 0
IsAnswer s t call answer = MatchBool (is_due t s.space) ((is_spent s t ≡ true) × (answer ≡ Err Exhausted)) (answer ≡ answer_of s t call)

-- a tick's call comes next, of its seat and at its moment
abbrev pub Follows : Option (ℕ × ℕ) → ℕ → ℕ → Type 0
Follows None seat t = Unit {0}
Follows (Some tick) seat t = (seat ≡ tick.0) × (t ≡ tick.1)

-- What a call is answered once the namespace has stopped: that it has. Calls whose records are synced together fail together: each of them, one
-- right behind another, is answered that the disk failed.
abbrev pub is_end : Bool → Result Answered Refusal → Bool
is_end failing answer = if failing then stops answer else is_stopped answer

-- this entry may stand behind those
abbrev pub IsAllowed : Log → Entry → Type 0
IsAllowed l (Ticked seat t) = (l.stopped ≡ false) × (l.tick ≡ None) × IsTick l.state t
IsAllowed l (Replied seat reading call answer) =
    Follows l.tick seat (moment_of l.state reading) × MatchBool l.stopped (is_end l.failing answer ≡ true) (is_fault answer ≡ false → IsAnswer l.state (moment_of l.state reading) call answer)

-- each entry may stand there, and no tick is left without its call
abbrev pub IsLegalFrom : Log → List Entry → Type 0
IsLegalFrom l [] = l.tick ≡ None
IsLegalFrom l (e ∷ es) = IsAllowed l e × IsLegalFrom (after_entry l e) es

-- a history is legal from a state
abbrev pub IsLegal : State → List Entry → Type 0
IsLegal s entries = IsLegalFrom (fresh_log s) entries

-- ---- the entries of one seat's calls: a tick where something is due and time can go on, then the machine's answer

-- the entries that a call makes where nothing else is in the way: a time step first, where something is due
abbrev pub entries_at : ℕ → State → ℕ → Call → List Entry
entries_at seat s reading call =
    let t = moment_of s reading in
    if is_due t s.space
    then (if is_spent s t then Replied seat reading call (Err Exhausted) ∷ [] else Ticked seat t ∷ Replied seat reading call (answer_of (advanced s t) t call) ∷ [])
    else Replied seat reading call (answer_of s t call) ∷ []

-- the entries that calls make one after another
abbrev pub entries_of : ℕ → State → List TimedCall → List Entry
entries_of seat s [] = []
entries_of seat s (a ∷ as') = entries_at seat s a.reading a.call ++ entries_of seat (state_after s (entries_at seat s a.reading a.call)) as'

-- no entry is answered by a fault
abbrev pub IsFaultless : List Entry → Type 0
IsFaultless [] = Unit {0}
IsFaultless (Ticked seat t ∷ es) = IsFaultless es
IsFaultless (Replied seat reading call answer ∷ es) = (is_fault answer ≡ false) × IsFaultless es
