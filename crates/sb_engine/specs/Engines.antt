-- The state that an engine in memory is, and what its plans come to.
use Rattle.std.specs.Prelude.{◌≡◌, ◌⊎◌, ◌≤◌, List, ℕ, Bool, true, false, ◌||◌, not, [], length, Option, Some, None, is_some, option_map, Result, Ok, Err}
use Rattle.std.specs.List.{list_any}
use Rattle.sb_entities.specs.Places.{place_of}
use Rattle.sb_entities.specs.Stocks.{Stock}
use Rattle.sb_entities.specs.Stores.{space_in, stock_in, IsRoomFor}
use Rattle.sb_machine.specs.Answers.{answer_of, state_of, is_change, with_kept, kept_as, without_client}
use Rattle.sb_machine.specs.Changes.{after_all, is_numbered}
use Rattle.sb_machine.specs.Due.{is_none_in}
use Rattle.sb_machine.specs.Namespace.{live, made}
use Rattle.sb_machine.specs.Repeats.{Outcome, refused, repeated, acted, forgot, client_of, outcome_of}
use Rattle.sb_machine.specs.declared.call.Act.{Act}
use Rattle.sb_machine.specs.declared.call.By.{By}
use Rattle.sb_machine.specs.declared.call.Call.{Call}
use Rattle.sb_machine.specs.declared.change.Change.{Change}
use Rattle.sb_machine.specs.declared.reply.Answered.TheVariants.{New, Kept as Repeated}
use Rattle.sb_machine.specs.declared.reply.Refusal.{Refusal}
use Rattle.sb_machine.specs.declared.reply.Refusal.TheVariants.{OutOfMemory}
use Rattle.sb_machine.specs.declared.reply.Reply.TheVariants.{Done}
use Rattle.sb_machine.specs.declared.state.Kept.{Kept}
use Rattle.sb_machine.specs.declared.state.State.{State}
use Rattle.sb_engine.specs.Planned.{Planned}
use Rattle.sb_engine.specs.declared.engine.Engine.{Engine}
use Rattle.sb_engine.specs.declared.summary.Summary.{Summary}

-- the state that an engine is
abbrev pub engine_state : Engine → State
engine_state e = record { now = e.moment; clients = e.clients.clients; space = space_in e.space }

-- the namespace of an engine, with the slots that it promises
abbrev pub engine_stock : Engine → Stock
engine_stock e = stock_in e.space

-- ---- plans

-- the plan changes something
abbrev pub is_changing : Planned → Bool
is_changing p = is_some p.kept || is_some p.forgets || not (is_none_in p.changes)

-- clients behind what a plan forgets
abbrev pub without : Option (List ℕ) → List Kept → List Kept
without forgets clients = elim forgets [ Some name ↦ without_client name clients | None ↦ clients ]

-- clients behind what a plan keeps
abbrev pub with_call : Option Kept → List Kept → List Kept
with_call kept clients = elim kept [ Some k ↦ with_kept k clients | None ↦ clients ]

-- the state after a plan at a moment: what is forgotten goes first
abbrev pub carried_out : ℕ → Planned → State → State
carried_out t p s = record { now = t; clients = with_call p.kept (without p.forgets s.clients); space = after_all t p.changes s.space }

-- what the machine makes of a call
pub record IsPlanOf (s : State) (t : ℕ) (call : Call) (p : Planned) : Type 0 where
  pub answer : answer_of s t call ≡ Ok p.answered
  pub change : is_change (client_of call) (outcome_of s t call) ≡ is_changing p
  pub state : is_changing p ≡ true → state_of s t call ≡ carried_out t p s

-- no number that its changes give passes the greatest
abbrev pub IsSound : State → ℕ → Planned → Type 0
IsSound s t p = is_none_in p.changes ≡ false → is_numbered t p.changes s.space ≡ true

-- none of these changes adds to a list
abbrev pub adds_nothing : List Change → Bool
adds_nothing cs = not (list_any (λ c. is_some (place_of c)) cs)

-- there is room for what a plan adds
pub record HasRoom (e : Engine) (t : ℕ) (p : Planned) : Type 0 where
  pub sound : IsSound (engine_state e) t p
  pub space : IsRoomFor p.changes e.space
  pub clients : is_some p.kept ≡ true → 1 ≤ e.clients.spare

-- ---- what a call comes to, as a plan

-- what a plan has to be for an outcome: nothing for a refusal or a repetition, else the changes or the client that is forgotten, and what is
-- kept for the client that asked
abbrev pub planned_of : Option By → Act → Outcome → Result Planned Refusal
planned_of by act (refused r) = Err r
planned_of by act (repeated reply) = Ok (record { changes = []; answered = Repeated reply; forgets = None; kept = None })
planned_of by act (acted reply cs) = Ok (record { changes = cs; answered = New reply; forgets = None; kept = option_map (λ b. kept_as b act reply) by })
planned_of by act (forgot name) = Ok (record { changes = []; answered = New Done; forgets = Some name; kept = option_map (λ b. kept_as b act Done) by })

-- this plan, or this refusal; want of memory may come in place of each
abbrev pub PlansAs : Result Planned Refusal → Result Planned Refusal → Type 0
PlansAs (Ok p) said = said ≡ Ok p
PlansAs (Err r) said = (r ≡ OutOfMemory) ⊎ (said ≡ Err r)

-- ---- numbers

-- the counts that are told of a state after so many events
abbrev pub summary_of : State → ℕ → Summary
summary_of s events = record { copies = live s.space; entities = length s.space.entities; events = events; made = made s.space; now = s.now }
