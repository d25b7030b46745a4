-- The machine: what each call is answered, and what it leaves.
use Rattle.std.specs.Prelude.{ℕ, Bool, false, true, List, [], ◌∷◌, min, max, if◌then◌else◌, Option, Some, None, is_some, Result, Ok, Err}
use Rattle.sb_machine.specs.Changes.{after_all}
use Rattle.sb_machine.specs.Keyed.{changed, with_sorted}
use Rattle.sb_machine.specs.Names.{is_before}
use Rattle.sb_machine.specs.declared.call.Act.{Act}
use Rattle.sb_machine.specs.declared.call.By.{By}
use Rattle.sb_machine.specs.declared.call.Call.{Call}
use Rattle.sb_machine.specs.declared.change.Change.{Change}
use Rattle.sb_machine.specs.declared.reply.Answered.{Answered}
use Rattle.sb_machine.specs.declared.reply.Answered.TheVariants.{New, Kept as Repeated}
use Rattle.sb_machine.specs.declared.reply.Refusal.{Refusal}
use Rattle.sb_machine.specs.declared.reply.Reply.{Reply}
use Rattle.sb_machine.specs.declared.state.Kept.{Kept}
use Rattle.sb_machine.specs.declared.state.State.{State}
use Rattle.sb_machine.specs.declared.reply.Reply.TheVariants.{Done}
use Rattle.sb_machine.specs.Repeats.{refused, repeated, acted, forgot, Outcome, is_client, kept_for, client_of, outcome_of}

-- the last moment that counts, in ms since 1970: the begin of the last day of the year 9999
abbrev pub max_moment : ℕ
max_moment = 253402214400000

-- a reading of the clock, as far as it counts
abbrev pub moment_of : State → ℕ → ℕ
moment_of s reading = max (min reading max_moment) s.now

-- ---- what is answered, and the state after it

-- the answer that an outcome is told as
abbrev pub answer_in : Outcome → Result Answered Refusal
answer_in (refused r) = Err r
answer_in (repeated reply) = Ok (Repeated reply)
answer_in (acted reply cs) = Ok (New reply)
answer_in (forgot name) = Ok (New Done)

-- what is remembered of a client: the number of its last call, that call and its reply
abbrev pub kept_as : By → Act → Reply → Kept
kept_as by act reply = record { client = by.client; number = by.number; act = act; reply = reply }

-- the clients with this one remembered anew, in the order of their names
abbrev pub with_kept : Kept → List Kept → List Kept
with_kept k clients = if is_some (kept_for k.client clients) then changed (is_client k.client) (λ x. k ∷ []) clients else with_sorted (λ x. is_before x.client k.client) k clients

-- the clients behind a call: with its client's number and reply where it has one
abbrev pub keeping : Option By → Act → Reply → List Kept → List Kept
keeping None act reply clients = clients
keeping (Some by) act reply clients = with_kept (kept_as by act reply) clients

-- the clients without this one
abbrev pub without_client : List ℕ → List Kept → List Kept
without_client name clients = changed (is_client name) (λ x. []) clients

-- an accepted call with a client's number is kept; else what has no changes changes nothing
abbrev pub is_change : Option By → Outcome → Bool
is_change by (refused r) = false
is_change by (repeated reply) = false
is_change (Some by) (acted reply cs) = true
is_change None (acted reply []) = false
is_change None (acted reply (c ∷ cs)) = true
is_change by (forgot name) = true

-- the changes of an outcome to entities and transactions; only one that acted has any
abbrev pub changes_of : Outcome → List Change
changes_of (refused r) = []
changes_of (repeated reply) = []
changes_of (acted reply cs) = cs
changes_of (forgot name) = []

-- the state behind an outcome: the changes carried out and the reply remembered, where the call changed anything
abbrev pub state_in : State → ℕ → Call → Outcome → State
state_in s t call (refused r) = s
state_in s t call (repeated reply) = s
state_in s t call (acted reply cs) =
    if is_change (client_of call) (acted reply cs)
    then record { now = t; clients = keeping (client_of call) call.act reply s.clients; space = after_all t cs s.space }
    else s
state_in s t call (forgot name) = record { now = t; clients = keeping (client_of call) call.act Done (without_client name s.clients); space = s.space }

-- what a call is answered in a state, at t
abbrev pub answer_of : State → ℕ → Call → Result Answered Refusal
answer_of s t call = answer_in (outcome_of s t call)

-- the state that a call leaves
abbrev pub state_of : State → ℕ → Call → State
state_of s t call = state_in s t call (outcome_of s t call)
