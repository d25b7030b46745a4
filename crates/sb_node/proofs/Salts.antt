-- A state that a file leads to has the file's salt.
use Rattle.std.proofs.Common.{◌≡◌, ℕ, ◌+◌, eqb, cond, List, [], ◌∷◌, length, Bool, true, false, Option, Some, None, refl, sym, ◌∙◌, ap}
use Rattle.std.specs.Prelude.{if◌then◌else◌}
use Rattle.sb_codec.specs.EventBytes.{read_event}
use Rattle.sb_codec.specs.Readers.{◌>>=◌}
use Rattle.sb_codec.proofs.Exact.{bind_some, some_is, when_some}
use Rattle.sb_journal.specs.Text.{File, first_gate}
use Rattle.sb_judge.specs.Decided.{is_consistent}
use Rattle.sb_machine.specs.Answers.{is_change, keeping, state_in}
use Rattle.sb_machine.specs.Changes.{after, after_all}
use Rattle.sb_machine.specs.Due.{tick_changes}
use Rattle.sb_machine.specs.History.{advanced}
use Rattle.sb_machine.specs.Namespace.{empty_state}
use Rattle.sb_machine.specs.Repeats.{Outcome, refused, repeated, acted, forgot, client_of, outcome_of}
use Rattle.sb_machine.specs.declared.call.Call.{Call}
use Rattle.sb_machine.specs.declared.call.Event.{Event}
use Rattle.sb_machine.specs.declared.call.Event.TheVariants.{Tick, Called}
use Rattle.sb_machine.specs.declared.change.Change.{Change}
use Rattle.sb_machine.specs.declared.change.Change.TheVariants.{InLeaf, Notes, Makes, Removes, AddsRule, DropsRule, Begins, Queues, Drops}
use Rattle.sb_machine.specs.declared.state.Space.{Space}
use Rattle.sb_machine.specs.declared.state.State.{State}
use Rattle.sb_snapshot.specs.Base.{base, gathered, parts, state_of}
use Rattle.sb_snapshot.proofs.Gathered.{made_of_parts}
use Rattle.sb_node.specs.Recovery.{base_state, if_consistent, next_state, replay, replay_file, replay_from, reaches, breaks, Replayed}
use Rattle.sb_node.proofs.Taking.{call_says, tick_says}

-- ---- events

change_salt : (t : ℕ) (c : Change) (s : Space) → (after t c s).salt ≡ s.salt
change_salt t (InLeaf key c) s = refl
change_salt t (Notes n id) s = refl
change_salt t (Makes kind path description rules) s = refl
change_salt t (Removes n) s = refl
change_salt t (AddsRule n rule) s = refl
change_salt t (DropsRule n name) s = refl
change_salt t (Begins n deadline) s = refl
change_salt t (Queues n deadline operation) s = refl
change_salt t (Drops n) s = refl

changes_salt : (t : ℕ) (cs : List Change) (s : Space) → (after_all t cs s).salt ≡ s.salt
changes_salt t [] s = refl
changes_salt t (c ∷ cs) s = changes_salt t cs (after t c s) ∙ change_salt t c s

tick_salt : (s : State) (t : ℕ) → (advanced s t).space.salt ≡ s.space.salt
tick_salt s t = changes_salt t (tick_changes t s.space) s.space

outcome_salt : (s : State) (t : ℕ) (call : Call) (o : Outcome) → (state_in s t call o).space.salt ≡ s.space.salt
outcome_salt s t call (refused r) = refl
outcome_salt s t call (repeated reply) = refl
outcome_salt s t call (acted reply cs) = by_change (is_change (client_of call) (acted reply cs))
  where
    by_change : (b : Bool) → (if b then record { now = t; clients = keeping (client_of call) call.act reply s.clients; space = after_all t cs s.space } else s).space.salt ≡ s.space.salt
    by_change true = changes_salt t cs s.space
    by_change false = refl
outcome_salt s t call (forgot name) = refl

event_salt : (s : State) (o : Option Event) (next : State) → next_state s o ≡ Some next → next.space.salt ≡ s.space.salt
event_salt s None next e = absurd cc
event_salt s (Some (Tick t)) next e = ap (λ (x : State). x.space.salt) (sym (tick_says s t next e).leads) ∙ tick_salt s t
event_salt s (Some (Called t call)) next e = ap (λ (x : State). x.space.salt) (sym (call_says s t call next e).leads) ∙ outcome_salt s t call (outcome_of s t call)

replay_salt : (s next : State) (place : ℕ) (ps : List (List ℕ)) → replay s place ps ≡ reaches next → next.space.salt ≡ s.space.salt
replay_salt s next place [] e = let same : next ≡ s = cc in ap (λ (x : State). x.space.salt) same
replay_salt s next place (p ∷ ps) e =
    by_next (next_state s (read_event p)) (λ x is. event_salt s (read_event p) x is) (λ x on. replay_salt x next (place + (13 + length p)) ps on) e
  where
    by_next : (o : Option State) → ((x : State) → o ≡ Some x → x.space.salt ≡ s.space.salt) → ((x : State) → replay x (place + (13 + length p)) ps ≡ reaches next → next.space.salt ≡ x.space.salt)
        → (elim o as (λ _. Replayed) [ Some x ↦ replay x (place + (13 + length p)) ps | None ↦ breaks place ]) ≡ reaches next → next.space.salt ≡ s.space.salt
    by_next None one on is = absurd cc
    by_next (Some x) one on is = on x is ∙ one x refl

-- ---- a base

-- what is read of a base has the salt that it is read with
state_salt : (salt : ℕ) (bytes : List ℕ) (s : State) → state_of salt bytes ≡ Some s → s.space.salt ≡ salt
unfolding state_of
state_salt salt bytes s e =
    let a = bind_some ((base salt).reads bytes) (λ x. cond (eqb (length x.1) 0) (Some x.0) None) s e in
    let g = when_some (eqb (length a.0.1) 0) a.0.0 s a.2 in
    let b = bind_some (parts.reads bytes) (λ x. gathered salt x.0 >>= λ v. Some (v, x.1)) a.0 a.1 in
    let m = bind_some (gathered salt b.0.0) (λ v. Some (v, b.0.1)) a.0 b.2 in
    ap (λ (v : State). v.space.salt) (sym g.1) ∙ ap (λ (p : State × List ℕ). p.0.space.salt) (sym (some_is (m.0, b.0.1) a.0 m.2)) ∙ (made_of_parts salt b.0.0 m.0 m.1).1

passed : (o : Option State) (s : State) → if_consistent o ≡ Some s → o ≡ Some s
passed None s e = absurd cc
passed (Some x) s e = by_test (is_consistent x) e
  where
    by_test : (b : Bool) → (if b then Some x else None) ≡ Some s → Some x ≡ Some s
    by_test true is = is
    by_test false is = absurd cc

base_salt : (salt : ℕ) (bytes : List ℕ) (s : State) → base_state salt bytes ≡ Some s → s.space.salt ≡ salt
base_salt salt [] s e = let same : s ≡ empty_state salt = cc in ap (λ (x : State). x.space.salt) same
base_salt salt (byte ∷ bytes) s e = state_salt salt (byte ∷ bytes) s (passed (state_of salt (byte ∷ bytes)) s e)

-- ---- a file

pub file_salt : (file : File) (s : State) → replay_file file ≡ reaches s → s.space.salt ≡ file.salt
file_salt file s leads = by_base (base_state file.salt file.base) (λ x is. base_salt file.salt file.base x is) leads
  where
    by_base : (o : Option State) → ((x : State) → o ≡ Some x → x.space.salt ≡ file.salt) → replay_from o (first_gate file) file.payloads ≡ reaches s → s.space.salt ≡ file.salt
    by_base None on is = absurd cc
    by_base (Some x) on is = replay_salt x s (first_gate file) file.payloads is ∙ on x refl
