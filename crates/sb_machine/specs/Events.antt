-- Events: without duplicates, replayed, and those that a failing disk leaves open.
use Rattle.std.specs.Prelude.{◌≡◌, ◌⊎◌, ℕ, List, [], ◌∷◌, ◌++◌, Bool, true, false, if◌then◌else◌, None, Result, Ok, Err}
use Rattle.std.specs.Bool.{MatchBool}
use Rattle.sb_machine.specs.Answers.{is_change, moment_of, state_of}
use Rattle.sb_machine.specs.Due.{is_due}
use Rattle.sb_machine.specs.History.{Log, advanced, is_disk_fault, is_spent}
use Rattle.sb_machine.specs.Repeats.{client_of, outcome_of}
use Rattle.sb_machine.specs.declared.call.Act.{Act}
use Rattle.sb_machine.specs.declared.call.Act.TheVariants.{Send}
use Rattle.sb_machine.specs.declared.call.Call.{Call}
use Rattle.sb_machine.specs.declared.call.Event.{Event}
use Rattle.sb_machine.specs.declared.call.Event.TheVariants.{Tick, Called}
use Rattle.sb_machine.specs.declared.history.Entry.{Entry}
use Rattle.sb_machine.specs.declared.history.Entry.TheVariants.{Ticked, Answered as Replied}
use Rattle.sb_model.specs.declared.message.Message.{Message}
use Rattle.sb_machine.specs.declared.reply.Answered.{Answered}
use Rattle.sb_machine.specs.declared.reply.Answered.TheVariants.{New}
use Rattle.sb_machine.specs.declared.reply.Receipt.{Receipt}
use Rattle.sb_machine.specs.declared.reply.Receipt.TheVariants.{Number, Duplicate}
use Rattle.sb_machine.specs.declared.reply.Refusal.{Refusal}
use Rattle.sb_machine.specs.declared.reply.Reply.{Reply}
use Rattle.sb_machine.specs.declared.reply.Reply.TheVariants.{Sent}
use Rattle.sb_machine.specs.declared.state.State.{State}
use Rattle.sb_machine.specs.Accounts.{each_outcome, event_of}

-- ---- without the messages that were answered as duplicates

-- the messages of a send without those that were dropped as duplicates
abbrev pub thin_messages : List Receipt → List Message → List Message
thin_messages rs [] = []
thin_messages [] (m ∷ ms) = m ∷ ms
thin_messages (Duplicate ∷ rs) (m ∷ ms) = thin_messages rs ms
thin_messages (Number n ∷ rs) (m ∷ ms) = m ∷ thin_messages rs ms

-- the receipts of a reply, if it is one of a send
abbrev pub receipts_in : Reply → List Receipt
receipts_in (Sent rs) = rs
receipts_in _ = []

-- an operation without its duplicates; what is queued in a transaction keeps them
abbrev pub thin_act : Reply → Act → Act
thin_act reply (Send to ms None) = Send to (thin_messages (receipts_in reply) ms) None
thin_act reply act = act

-- a call without its duplicates, where it acted
abbrev pub thin_call : Result Answered Refusal → Call → Call
thin_call (Ok (New reply)) call = record call { act = thin_act reply call.act }
thin_call _ call = call

-- the events of a history that changed the state, without duplicates
abbrev pub thinned : Log → List Entry → List Event
thinned l h = each_outcome (λ t call answer o. event_of t (thin_call answer call) o) (λ t. Tick t ∷ []) l h

-- ---- events

-- the state after an event, and after many
abbrev pub after_event : State → Event → State
after_event s (Tick t) = advanced s t
after_event s (Called t call) = state_of s t call

-- the state after events
abbrev pub replayed : State → List Event → State
replayed s [] = s
replayed s (e ∷ es) = replayed (after_event s e) es

-- the first event of a call's step: its tick where something is due, else the call
abbrev pub event_at : State → ℕ → Call → Event
event_at s reading call = if is_due (moment_of s reading) s.space then Tick (moment_of s reading) else Called (moment_of s reading) call

-- the tick of a call, where something is due and time can go on
abbrev pub tick_at : State → ℕ → List Event
tick_at s t = if is_due t s.space then (if is_spent s t then [] else Tick t ∷ []) else []

-- ---- what a failing disk leaves open

-- the events of a whole step: a call's tick, if one is due, and the call
abbrev pub whole_step : State → ℕ → Call → List Event
whole_step s reading call = tick_at s (moment_of s reading) ++ Called (moment_of s reading) call ∷ []

-- a call changes something at a moment, and nothing is due there
abbrev pub IsMade : State → ℕ → Call → Type 0
IsMade s t call = (is_due t s.space ≡ false) × (is_change (client_of call) (outcome_of s t call) ≡ true)

-- What may be on a disk of a call at this reading, whose record wasn't safe as the disk failed: nothing, its tick, or that and the call.
abbrev pub MayLeave : State → ℕ → Call → List Event → Type 0
MayLeave s reading call events =
    (events ≡ []) ⊎ (events ≡ tick_at s (moment_of s reading))
    ⊎ (IsMade (replayed s (tick_at s (moment_of s reading))) (moment_of s reading) call × (events ≡ whole_step s reading call))

-- Events that a failing disk left open, in the state behind a history: of each call that was answered so, one behind another.
abbrev pub AreUndecided : State → List Entry → List Event → Type 0
AreUndecided s [] events = events ≡ []
AreUndecided s (Ticked seat t ∷ es) events = AreUndecided s es events
AreUndecided s (Replied seat reading call answer ∷ es) events =
    MatchBool (is_disk_fault answer)
    ((own others : List Event) × (events ≡ own ++ others) × MayLeave s reading call own × AreUndecided (replayed s own) es others)
    (AreUndecided s es events)
