-- The histories of two runs join: what a crash or a failed disk leaves is the state after a legal history, and each legal history
-- from there goes on behind that one.
use Rattle.std.specs.Prelude.{◌≡◌, ℕ, List, [], ◌∷◌, ◌++◌, Bool, true, false, if◌then◌else◌, Err}
use Rattle.std.specs.Bool.{MatchBool}
use Rattle.sb_machine.specs.Consistent.{IsConsistent}
use Rattle.sb_machine.specs.Events.{AreUndecided, MayLeave, replayed}
use Rattle.sb_machine.specs.History.{IsLegal, after_entries, entries_at, fresh_log, is_disk_fault, is_stopped, state_after}
use Rattle.sb_machine.specs.declared.call.Call.{Call}
use Rattle.sb_machine.specs.declared.call.Event.{Event}
use Rattle.sb_machine.specs.declared.call.Event.TheVariants.{Tick, Called}
use Rattle.sb_machine.specs.declared.history.Entry.{Entry}
use Rattle.sb_machine.specs.declared.history.Entry.TheVariants.{Ticked, Answered as Replied}
use Rattle.sb_machine.specs.declared.reply.Refusal.TheVariants.{OutOfMemory}
use Rattle.sb_machine.specs.declared.state.State.{State}

-- ---- joining

-- Entries that are a legal history from a state to that one: it runs there, no tick waits for its call, and so each legal history from
-- there goes on behind them.
pub record Joins (start : State) (entries : List Entry) (found : State) : Type 0 where
  pub legal : IsLegal start entries
  pub leads : after_entries (fresh_log start) entries ≡ fresh_log found
  pub joins : (more : List Entry) → IsLegal found more → IsLegal start (entries ++ more)
  pub ends : (more : List Entry) → state_after start (entries ++ more) ≡ state_after found more

-- behind these entries it runs, and no tick waits for its call
abbrev pub IsRunning : State → List Entry → Type 0
IsRunning start h = after_entries (fresh_log start) h ≡ fresh_log (state_after start h)

-- ---- a call that nobody saw answered

-- the entry of a call that had no effect: it stands as one for which memory was wanting
abbrev pub without_effect : ℕ → ℕ → Call → Entry
without_effect seat reading call = Replied seat reading call (Err OutOfMemory)

-- the ticks among events, as entries of a seat
abbrev pub ticked : ℕ → List Event → List Entry
ticked seat [] = []
ticked seat (Tick t ∷ es) = Ticked seat t ∷ ticked seat es
ticked seat (Called t call ∷ es) = ticked seat es

-- whether a call is among events
abbrev pub has_call : List Event → Bool
has_call [] = false
has_call (Tick t ∷ es) = has_call es
has_call (Called t call ∷ es) = true

-- the entries of a call of which these events are found: those of the whole step, or its tick at most, behind which the call had no effect
abbrev pub entries_left : ℕ → State → ℕ → Call → List Event → List Entry
entries_left seat s reading call events = if has_call events then entries_at seat s reading call else ticked seat events ++ without_effect seat reading call ∷ []

-- While a call is made behind a history a crash leaves nothing of it, its tick, or its tick and the call: each is the state after a legal
-- history, which begins with that one.
pub record StepJoins (start : State) (h : List Entry) (seat reading : ℕ) (call : Call) : Type 0 where
  pub none : Joins start h (state_after start h)
  pub left : (events : List Event) → MayLeave (state_after start h) reading call events
      → Joins start (h ++ entries_left seat (state_after start h) reading call events) (replayed (state_after start h) events)
  pub whole : Joins start (h ++ entries_at seat (state_after start h) reading call) (state_after (state_after start h) (entries_at seat (state_after start h) reading call))

-- a front of a legal history, cut at an answer while it runs, is a legal history, and so it is with each call that is made behind it
abbrev pub FrontsJoin : Type 0
FrontsJoin = (start : State) (h more : List Entry) (seat reading : ℕ) (call : Call) → IsConsistent start → IsLegal start (h ++ more) → IsRunning start h → StepJoins start h seat reading call

-- ---- the calls that a disk failed

-- A history as it is found, where these events of the calls that the disk failed are: each of those calls stands with what is left of it, and
-- one that found the namespace stopped had no effect. The state is the one behind the history, with what was found so far.
abbrev pub AreFound : State → List Entry → List Event → List Entry → Type 0
AreFound s [] events found = found ≡ []
AreFound s (Ticked seat t ∷ es) events found = (rest : List Entry) × (found ≡ Ticked seat t ∷ rest) × AreFound s es events rest
AreFound s (Replied seat reading call answer ∷ es) events found =
    MatchBool (is_disk_fault answer)
    ((own others : List Event) × (rest : List Entry) × (events ≡ own ++ others) × MayLeave s reading call own
    × (found ≡ entries_left seat s reading call own ++ rest) × AreFound (replayed s own) es others rest)
    ((rest : List Entry) × (found ≡ (if is_stopped answer then without_effect seat reading call else Replied seat reading call answer) ∷ rest) × AreFound s es events rest)

-- Whichever events are found that a failed disk left undecided, what is found is the state after a legal history: that one, each failed call with
-- what is found of it.
abbrev pub UndecidedJoins : Type 0
UndecidedJoins = (start : State) (h : List Entry) (events : List Event) → IsConsistent start → IsLegal start h → AreUndecided (state_after start h) h events
    → (found : List Entry) × AreFound (state_after start h) h events found × Joins start found (replayed (state_after start h) events)
