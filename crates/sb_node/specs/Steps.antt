-- What a step adds to a history.
use Rattle.std.specs.Prelude.{◌≡◌, ℕ, ◌&&◌, not, Bool, true, false, List, [], ◌∷◌, if◌then◌else◌, Option, Some, None, is_some, Result}
use Rattle.sb_machine.specs.Answers.{answer_of, state_of, is_change}
use Rattle.sb_machine.specs.Due.{is_due}
use Rattle.sb_machine.specs.History.{Log, IsLegalFrom, after_entries, advanced, is_fault, is_spent, settled, stops}
use Rattle.sb_machine.specs.Repeats.{client_of, outcome_of}
use Rattle.sb_machine.specs.declared.call.Call.{Call}
use Rattle.sb_machine.specs.declared.call.Event.{Event}
use Rattle.sb_machine.specs.declared.call.Event.TheVariants.{Tick, Called}
use Rattle.sb_machine.specs.declared.history.Entry.{Entry}
use Rattle.sb_machine.specs.declared.reply.Answered.{Answered}
use Rattle.sb_machine.specs.declared.reply.Refusal.{Refusal}
use Rattle.sb_machine.specs.declared.reply.Refusal.TheVariants.{DiskFault, OutOfMemory, Exhausted}
use Rattle.sb_machine.specs.declared.state.State.{State}
use Rattle.sb_engine.specs.Small.{takes_no_memory}
use Rattle.sb_desk.specs.Entries.{made_by}

-- ---- the entries of a step

-- the place of a namespace in its history, between two steps
abbrev pub log_of : State → Option ℕ → Log
log_of s stopped = record { state = s; stopped = is_some stopped; failing = false; tick = None }

-- the call of a step, and before it the tick, if time went on
abbrev pub entries_with : Option ℕ → ℕ → ℕ → Call → Result Answered Refusal → List Entry
entries_with tick seat reading call answer = made_by seat tick reading call answer

-- Entries that are legal behind this place led to that one. What comes has no part in a disk's failure: no other call is answered so.
pub record IsStep (before : Log) (entries : List Entry) (after : Log) : Type 0 where
  pub legal : IsLegalFrom before entries
  pub leads : after ≡ settled (after_entries before entries)

-- ---- the states of a step

-- the state with the tick of a step, if there was one
abbrev pub ticked_to : Option ℕ → State → State
ticked_to None s = s
ticked_to (Some t) s = advanced s t

-- neither time nor the call changes anything at a moment
abbrev pub is_still : ℕ → Call → State → Bool
is_still t call s = if is_due t s.space then is_spent s t else not (is_change (client_of call) (outcome_of s t call))

-- ---- the parts of a step

-- time went on to a moment, or nothing was due there
abbrev pub IsTicked : Option ℕ → ℕ → State → State → Type 0
IsTicked None t old new = (is_due t old.space ≡ false) × (new ≡ old)
IsTicked (Some moment) t old new = (moment ≡ t) × (is_due t old.space ≡ true) × (is_spent old t ≡ false) × (new ≡ advanced old t)

-- time couldn't go on
abbrev pub IsTickFault : ℕ → State → Option ℕ → Refusal → Type 0
IsTickFault t s stopped OutOfMemory = is_some stopped ≡ false
IsTickFault t s stopped DiskFault = (is_some stopped ≡ true) × (is_due t s.space ≡ true) × (is_spent s t ≡ false)
IsTickFault t s stopped Exhausted = (is_some stopped ≡ false) × (is_due t s.space ≡ true) × (is_spent s t ≡ true)
IsTickFault t s stopped _ = ⊥

-- a call was answered where nothing is due: by the machine, or by a fault, and then all stays
pub record IsAnswered (t : ℕ) (call : Call) (old : State) (answer : Result Answered Refusal) (stopped : Option ℕ) (new : State) : Type 0 where
  pub machine : is_fault answer ≡ false → (answer ≡ answer_of old t call) × (new ≡ state_of old t call)
  pub fault : is_fault answer ≡ true → new ≡ old
  pub stops : is_some stopped ≡ stops answer

-- whether nothing is due at a moment, and the call takes no memory: then it isn't refused for want of it
abbrev pub is_spared : ℕ → Call → State → Bool
is_spared t call s = not (is_due t s.space) && takes_no_memory s.space call

-- ---- the events of the parts

-- the event of a time step, if there was one
abbrev pub tick_events : Option ℕ → List Event
tick_events None = []
tick_events (Some t) = Tick t ∷ []

-- the event of a call, if it changed the state
abbrev pub call_events : ℕ → Call → State → Result Answered Refusal → List Event
call_events t call s answer = if not (is_fault answer) && is_change (client_of call) (outcome_of s t call) then Called t call ∷ [] else []
