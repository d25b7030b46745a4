-- What is read off a history, call by call: numbers that ended, locks that were used up, ids, numbered calls, events.
use Rattle.std.specs.Prelude.{ℕ, List, [], ◌∷◌, ◌++◌, Bool, ◌&&◌, not, if◌then◌else◌, Option, Some, None, Result}
use Rattle.sb_machine.specs.Answers.{changes_of, is_change, moment_of}
use Rattle.sb_machine.specs.Changes.{along}
use Rattle.sb_machine.specs.Due.{is_due, tick_changes}
use Rattle.sb_machine.specs.History.{Log, after_entry, is_fault}
use Rattle.sb_machine.specs.declared.call.By.{By}
use Rattle.sb_machine.specs.declared.call.Call.{Call}
use Rattle.sb_machine.specs.declared.call.Event.{Event}
use Rattle.sb_machine.specs.declared.call.Event.TheVariants.{Tick, Called}
use Rattle.sb_machine.specs.declared.change.Change.{Change}
use Rattle.sb_machine.specs.declared.history.Entry.{Entry}
use Rattle.sb_machine.specs.declared.history.Entry.TheVariants.{Ticked, Answered as Replied}
use Rattle.sb_machine.specs.declared.reply.Answered.{Answered}
use Rattle.sb_machine.specs.declared.reply.Refusal.{Refusal}
use Rattle.sb_machine.specs.declared.state.Space.{Space}
use Rattle.sb_machine.specs.Ends.{End, ends_in, spends_in, Noted, notes_in}
use Rattle.sb_machine.specs.Repeats.{refused, repeated, acted, forgot, Outcome, outcome_of, client_of}

-- ---- along a history

-- the moment at which an entry acted
abbrev pub moment_in : Log → Entry → ℕ
moment_in l (Ticked seat t) = t
moment_in l (Replied seat reading call answer) = moment_of l.state reading

-- the machine answered, and not for want of numbers in a tick
abbrev pub is_machine : Log → ℕ → Result Answered Refusal → Bool
is_machine l reading answer = not (is_fault answer) && not (is_due (moment_of l.state reading) l.state.space)

-- the changes that an entry made: those of its time step, or those of its call where the machine answered it
abbrev pub entry_changes : Log → Entry → List Change
entry_changes l (Ticked seat t) = tick_changes t l.state.space
entry_changes l (Replied seat reading call answer) = if is_machine l reading answer then changes_of (outcome_of l.state (moment_of l.state reading) call) else []

-- what f reads off each change of a history, in order, with the moment and the namespace before that change
abbrev pub over : {X : Type 0} → (ℕ → Change → Space → List X) → Log → List Entry → List X
over f l [] = []
over f l (e ∷ es) = along f (moment_in l e) (entry_changes l e) l.state.space ++ over f (after_entry l e) es

-- the numbers that ended in a history, each with its place and cause
abbrev pub ends_of : Log → List Entry → List End
ends_of l h = over ends_in l h

-- the locks that settlements used up in a history
abbrev pub spent_locks : Log → List Entry → List ℕ
spent_locks l h = over spends_in l h

-- the message ids that were accepted in a history
abbrev pub noted_ids : Log → List Entry → List Noted
noted_ids l h = over notes_in l h

-- ---- by the outcome of each entry

-- f of what a call came to, for each entry; g of each tick
abbrev pub each_outcome : {X : Type 0} → (ℕ → Call → Result Answered Refusal → Outcome → List X) → (ℕ → List X) → Log → List Entry → List X
each_outcome f g l [] = []
each_outcome f g l (Ticked seat t ∷ es) = g t ++ each_outcome f g (after_entry l (Ticked seat t)) es
each_outcome f g l (Replied seat reading call answer ∷ es) =
    (if is_machine l reading answer then f (moment_of l.state reading) call answer (outcome_of l.state (moment_of l.state reading) call) else [])
    ++ each_outcome f g (after_entry l (Replied seat reading call answer)) es

-- a client and its number
pub record Numbered : Type 0 where
  pub client : List ℕ
  pub number : ℕ

-- what bears on a client's numbers: a call acts with one, or what is remembered of a client is forgotten
pub data NumberUse : Type 0 where
  acts : Numbered → NumberUse
  forgets : List ℕ → NumberUse

-- the client and number of a call that acted, where it has them
abbrev pub acted_with : Option By → List NumberUse
acted_with (Some by) = acts (record { client = by.client; number = by.number }) ∷ []
acted_with None = []

-- what a call's outcome does to clients' numbers
abbrev pub uses_in : Option By → Outcome → List NumberUse
uses_in by (refused r) = []
uses_in by (repeated reply) = []
uses_in by (acted reply cs) = acted_with by
uses_in by (forgot name) = forgets name ∷ acted_with by

-- the numbered calls of a history that acted, and the clients that it forgot, in order
abbrev pub number_uses : Log → List Entry → List NumberUse
number_uses l h = each_outcome (λ t call answer o. uses_in (client_of call) o) (λ t. []) l h

-- the event of a call that changed the state
abbrev pub event_of : ℕ → Call → Outcome → List Event
event_of t call o = if is_change (client_of call) o then Called t call ∷ [] else []

-- the events of a history that changed the state: time steps, and calls that did
abbrev pub changing : Log → List Entry → List Event
changing l h = each_outcome (λ t call answer o. event_of t call o) (λ t. Tick t ∷ []) l h
