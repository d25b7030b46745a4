-- Payloads one after another, with the places of their gates.
use Rattle.std.proofs.Common.{◌≡◌, ℕ, ◌+◌, List, [], ◌∷◌, ◌++◌, length, Bool, true, false, Option, Some, None, Result, Ok, Err, ◌∙◌, ap}
use Rattle.std.specs.Bool.{MatchBool}
use Rattle.std.specs.Prelude.{IfOk}
use Rattle.sb_journal.specs.Text.{gate_after}
use Rattle.sb_codec.specs.EventBytes.{read_event}
use Rattle.sb_machine.specs.declared.state.State.{State}
use Rattle.sb_node.specs.Recovery.{base_state, next_state, replay, replay_from, reaches, breaks, Replayed, IsReplayed, BreaksReplay}

-- the first of these payloads is none that is carried out
pub one_refused : (p : List ℕ) (ps : List (List ℕ)) (s : State) (gate : ℕ) → next_state s (read_event p) ≡ None → replay s gate (p ∷ ps) ≡ breaks gate
one_refused p ps s gate refused = ap (λ (o : Option State). elim o as (λ _. Replayed) [ Some x ↦ replay x (gate + (13 + length p)) ps | None ↦ breaks gate ]) refused

-- one payload more
pub replay-push : (s next after : State) (place : ℕ) (ps : List (List ℕ)) (p : List ℕ) → replay s place ps ≡ reaches next → next_state next (read_event p) ≡ Some after → replay s place (ps ++ p ∷ []) ≡ reaches after
replay-push s next after place [] p leads taken =
    let same : s ≡ next = cc in
    ap (λ (o : Option State). elim o as (λ _. Replayed) [ Some x ↦ reaches x | None ↦ breaks place ]) (ap (λ x. next_state x (read_event p)) same ∙ taken)
replay-push s next after place (q ∷ ps) p leads taken =
    by_next (next_state s (read_event q)) (λ x e. replay-push x next after (place + (13 + length q)) ps p e taken) leads
  where
    by_next : (o : Option State) → ((x : State) → replay x (place + (13 + length q)) ps ≡ reaches next → replay x (place + (13 + length q)) (ps ++ p ∷ []) ≡ reaches after)
        → (elim o as (λ _. Replayed) [ Some x ↦ replay x (place + (13 + length q)) ps | None ↦ breaks place ]) ≡ reaches next
        → (elim o as (λ _. Replayed) [ Some x ↦ replay x (place + (13 + length q)) (ps ++ p ∷ []) | None ↦ breaks place ]) ≡ reaches after
    by_next None on e = absurd cc
    by_next (Some x) on e = on x e

-- payloads behind those that lead to a state
pub replay-append : (s next : State) (place : ℕ) (ps qs : List (List ℕ)) → replay s place ps ≡ reaches next → replay s place (ps ++ qs) ≡ replay next (gate_after place ps) qs
replay-append s next place [] qs leads = let same : s ≡ next = cc in ap (λ (x : State). replay x place qs) same
replay-append s next place (p ∷ ps) qs leads =
    by_next (next_state s (read_event p)) (λ x e. replay-append x next (place + (13 + length p)) ps qs e) leads
  where
    by_next : (o : Option State) → ((x : State) → replay x (place + (13 + length p)) ps ≡ reaches next → replay x (place + (13 + length p)) (ps ++ qs) ≡ replay next (gate_after (place + (13 + length p)) ps) qs)
        → (elim o as (λ _. Replayed) [ Some x ↦ replay x (place + (13 + length p)) ps | None ↦ breaks place ]) ≡ reaches next
        → (elim o as (λ _. Replayed) [ Some x ↦ replay x (place + (13 + length p)) (ps ++ qs) | None ↦ breaks place ]) ≡ replay next (gate_after (place + (13 + length p)) ps) qs
    by_next None on e = absurd cc
    by_next (Some x) on e = on x e

-- ---- behind a base

pub replay_from-push : (o : Option State) (next after : State) (place : ℕ) (ps : List (List ℕ)) (p : List ℕ) → replay_from o place ps ≡ reaches next → next_state next (read_event p) ≡ Some after → replay_from o place (ps ++ p ∷ []) ≡ reaches after
replay_from-push None next after place ps p leads taken = absurd cc
replay_from-push (Some s) next after place ps p leads taken = replay-push s next after place ps p leads taken

pub replay_from-append : (o : Option State) (next : State) (place : ℕ) (ps qs : List (List ℕ)) → replay_from o place ps ≡ reaches next → replay_from o place (ps ++ qs) ≡ replay next (gate_after place ps) qs
replay_from-append None next place ps qs leads = absurd cc
replay_from-append (Some s) next place ps qs leads = replay-append s next place ps qs leads

-- a payload that was carried out behind others, or wasn't
pub taken_on : {E : Type 0} (s after : State) (salt : ℕ) (base : List ℕ) (before : List (List ℕ)) (p : List ℕ) (r : Result Bool E) → IsReplayed s salt base before
    → IfOk r (λ b. MatchBool b (next_state s (read_event p) ≡ Some after) (next_state s (read_event p) ≡ None)) → IfOk r (λ b. MatchBool b (IsReplayed after salt base (before ++ p ∷ [])) (BreaksReplay salt base before p))
taken_on s after salt base before p (Ok true) leads next = λ place. replay_from-push (base_state salt base) s after place before p (leads place) next
taken_on s after salt base before p (Ok false) leads next = λ place behind. replay_from-append (base_state salt base) s place before (p ∷ behind) (leads place) ∙ one_refused p behind s (gate_after place before) next
taken_on s after salt base before p (Err e) leads next = tt
