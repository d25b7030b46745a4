-- What a call comes to, carried over to plans.
use Rattle.std.proofs.Common.{◌≡◌, ◌⊎◌, ℕ, true, List, [], ◌∷◌, Option, Some, None, option_map, Result, Ok, Err, refl, subst, inl, inr}
use Rattle.std.specs.Result.{IfOk, IfErr}
use Rattle.sb_machine.specs.Answers.{answer_in, state_in, answer_of, is_change, keeping, kept_as, without_client}
use Rattle.sb_machine.specs.Repeats.{Outcome, refused, repeated, acted, forgot, client_of, outcome_of}
use Rattle.sb_machine.specs.declared.call.Act.{Act}
use Rattle.sb_machine.specs.declared.call.By.{By}
use Rattle.sb_machine.specs.declared.call.Call.{Call}
use Rattle.sb_machine.specs.declared.change.Change.{Change}
use Rattle.sb_machine.specs.declared.reply.Answered.TheVariants.{New}
use Rattle.sb_machine.specs.declared.reply.Refusal.{Refusal}
use Rattle.sb_machine.specs.declared.reply.Refusal.TheVariants.{OutOfMemory}
use Rattle.sb_machine.specs.declared.reply.Reply.{Reply}
use Rattle.sb_machine.specs.declared.reply.Reply.TheVariants.{Done}
use Rattle.sb_machine.specs.declared.state.Kept.{Kept}
use Rattle.sb_machine.specs.declared.state.State.{State}
use Rattle.sb_engine.specs.Engines.{is_changing, carried_out, planned_of, with_call, IsPlanOf, IsSound, PlansAs}
use Rattle.sb_engine.specs.Planned.{Planned}

-- the plan of a call that acts
abbrev acting : Option By → Act → Reply → List Change → Planned
acting by act reply cs = record { changes = cs; answered = New reply; forgets = None; kept = option_map (λ b. kept_as b act reply) by }

-- the plan of a call that makes the namespace forget a client
abbrev forgetting : Option By → Act → List ℕ → Planned
forgetting by act name = record { changes = []; answered = New Done; forgets = Some name; kept = option_map (λ b. kept_as b act Done) by }

changes_alike : (by : Option By) (act : Act) (reply : Reply) (cs : List Change) → is_change by (acted reply cs) ≡ is_changing (acting by act reply cs)
changes_alike (Some b) act reply cs = refl
changes_alike None act reply [] = refl
changes_alike None act reply (c ∷ cs) = refl

keeps_alike : (by : Option By) (act : Act) (reply : Reply) (cs : List Change) (t : ℕ) (s : State) → keeping by act reply s.clients ≡ (carried_out t (acting by act reply cs) s).clients
keeps_alike (Some b) act reply cs t s = refl
keeps_alike None act reply cs t s = refl

leads_alike : (s : State) (t : ℕ) (call : Call) (reply : Reply) (cs : List Change) → is_changing (acting (client_of call) call.act reply cs) ≡ true
    → state_in s t call (acted reply cs) ≡ carried_out t (acting (client_of call) call.act reply cs) s
leads_alike s t call reply cs is =
    rw (changes_alike (client_of call) call.act reply cs, is, keeps_alike (client_of call) call.act reply cs t s) refl

forgets_changing : (by : Option By) (act : Act) (name : List ℕ) → is_change by (forgot name) ≡ is_changing (forgetting by act name)
forgets_changing (Some b) act name = refl
forgets_changing None act name = refl

keeps_behind : (by : Option By) (act : Act) (clients : List Kept) → keeping by act Done clients ≡ with_call (option_map (λ b. kept_as b act Done) by) clients
keeps_behind (Some b) act clients = refl
keeps_behind None act clients = refl

forgets_alike : (s : State) (t : ℕ) (call : Call) (name : List ℕ) → state_in s t call (forgot name) ≡ carried_out t (forgetting (client_of call) call.act name) s
forgets_alike s t call name = rw (keeps_behind (client_of call) call.act (without_client name s.clients)) refl

abbrev Leads : State → ℕ → Call → Outcome → Planned → Type 0
Leads s t call o p = (answer_in o ≡ Ok p.answered) × (is_change (client_of call) o ≡ is_changing p) × (is_changing p ≡ true → state_in s t call o ≡ carried_out t p s)

abbrev IsSame : Result Planned Refusal → Result Planned Refusal → Type 0
IsSame a b = a ≡ b

inside : (x y : Planned) → IsSame (Ok x) (Ok y) → x ≡ y
inside x y e = cc

leads : (s : State) (t : ℕ) (call : Call) (o : Outcome) (p : Planned) → planned_of (client_of call) call.act o ≡ Ok p → Leads s t call o p
leads s t call (refused r) p e = absurd cc
leads s t call (repeated reply) p e = subst (λ (q : Planned). Leads s t call (repeated reply) q) (inside _ p e) (refl, refl, λ is. absurd cc)
leads s t call (acted reply cs) p e = subst (λ (q : Planned). Leads s t call (acted reply cs) q) (inside _ p e) (refl, changes_alike (client_of call) call.act reply cs, leads_alike s t call reply cs)
leads s t call (forgot name) p e = subst (λ (q : Planned). Leads s t call (forgot name) q) (inside _ p e) (refl, forgets_changing (client_of call) call.act name, λ is. forgets_alike s t call name)

pub is_plan : (s : State) (t : ℕ) (call : Call) (p : Planned) → planned_of (client_of call) call.act (outcome_of s t call) ≡ Ok p → IsPlanOf s t call p
is_plan s t call p e = let l = leads s t call (outcome_of s t call) p e in record { answer = l.0; change = l.1; state = l.2 }

pub refuses_in : (by : Option By) (act : Act) (o : Outcome) (r : Refusal) → planned_of by act o ≡ Err r → answer_in o ≡ Err r
refuses_in by act (refused x) r e = cc
refuses_in by act (repeated reply) r e = absurd cc
refuses_in by act (acted reply cs) r e = absurd cc
refuses_in by act (forgot name) r e = absurd cc

-- refused as the plan is
pub is_refused : (s : State) (t : ℕ) (call : Call) (r : Refusal) → (r ≡ OutOfMemory) ⊎ (planned_of (client_of call) call.act (outcome_of s t call) ≡ Err r) → (r ≡ OutOfMemory) ⊎ (answer_of s t call ≡ Err r)
is_refused s t call r (inl e) = inl e
is_refused s t call r (inr e) = inr (refuses_in (client_of call) call.act (outcome_of s t call) r e)

-- ---- the same of what planning came to

pub plans : (s : State) (t : ℕ) (call : Call) (r : Result Planned Refusal) → PlansAs r (planned_of (client_of call) call.act (outcome_of s t call)) → IfOk r (λ p. IsSound s t p) → IfOk r (λ p. IsPlanOf s t call p × IsSound s t p)
plans s t call (Ok p) is sound = (is_plan s t call p is, sound)
plans s t call (Err r) is sound = tt

pub refused_as : (s : State) (t : ℕ) (call : Call) (r : Result Planned Refusal) → PlansAs r (planned_of (client_of call) call.act (outcome_of s t call)) → IfErr r (λ x. (x ≡ OutOfMemory) ⊎ (answer_of s t call ≡ Err x))
refused_as s t call (Ok p) is = tt
refused_as s t call (Err x) is = is_refused s t call x is
