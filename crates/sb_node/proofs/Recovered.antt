-- A state that a journal recovers is consistent.
use Rattle.std.proofs.Common.{◌≡◌, ℕ, ◌+◌, List, [], ◌∷◌, length, Bool, true, false, not, Option, Some, None, refl, subst, arith}
use Rattle.sb_journal.specs.Opened.{Opened, Stands, Damage, opened}
use Rattle.sb_journal.specs.declared.found.Side.{Side}
use Rattle.sb_journal.specs.Text.{File, first_gate}
use Rattle.sb_codec.specs.EventBytes.{read_event}
use Rattle.sb_machine.specs.Consistent.{IsConsistent}
use Rattle.sb_machine.specs.Namespace.{empty_state}
use Rattle.sb_machine.specs.declared.call.Event.{Event}
use Rattle.sb_machine.specs.declared.call.Event.TheVariants.{Tick, Called}
use Rattle.sb_machine.specs.declared.state.State.{State}
use Rattle.sb_judge.specs.Decided.{decided, is_consistent}
use Rattle.sb_snapshot.specs.Base.{state_of}
use Rattle.sb_node.specs.Recovery.{base_state, if_consistent, next_state, replay, replay_from, replay_file, reaches, breaks, Replayed, recovered, recovered_from, reached, recovers, Recovers}
use Rattle.sb_laws.proofs.StaysWhole.{stays_consistent, ticks_consistent}
use Rattle.sb_node.proofs.Order.{IsEventInOrder, read_in_order}
use Rattle.sb_node.proofs.Taking.{tick_says, call_says, when}

starts : (salt : ℕ) → IsConsistent (empty_state salt)
starts salt = record {
  now = omega arith;
  made = omega arith;
  last_entity = omega arith;
  last_lock = omega arith;
  last_txn = omega arith;
  numbers = omega arith;
  entities = tt;
  paths = tt;
  topics = tt;
  locks = tt;
  few_locks = tt;
  transactions = omega arith;
  opened = tt;
  few_open = omega arith;
  queued = tt;
  clients = tt;
  few_clients = omega arith;
  kept = tt;
}

is_off : (b : Bool) → not b ≡ true → b ≡ false
is_off true e = absurd cc
is_off false e = refl

event_consistent : (s : State) (event : Event) (next : State) → IsConsistent s → IsEventInOrder event → next_state s (Some event) ≡ Some next → IsConsistent next
event_consistent s (Tick t) next consistent order e =
    let is = tick_says s t next e in
    subst IsConsistent is.leads (ticks_consistent s t consistent is.later is.counts (is_off _ is.passes))
event_consistent s (Called t call) next consistent order e =
    let is = call_says s t call next e in
    subst IsConsistent is.leads (stays_consistent s t call consistent order is.later is.counts)

pub next_consistent : (s : State) (bytes : List ℕ) (next : State) → IsConsistent s → next_state s (read_event bytes) ≡ Some next → IsConsistent next
next_consistent s bytes next consistent e = by_event (read_event bytes) (read_in_order bytes) e
  where
    by_event : (o : Option Event) → ((x : Event) → o ≡ Some x → IsEventInOrder x) → next_state s o ≡ Some next → IsConsistent next
    by_event None order f = absurd cc
    by_event (Some x) order f = event_consistent s x next consistent (order x refl) f

replay_consistent : (s next : State) (place : ℕ) (ps : List (List ℕ)) → IsConsistent s → replay s place ps ≡ reaches next → IsConsistent next
replay_consistent s next place [] consistent e = let same : s ≡ next = cc in subst IsConsistent same consistent
replay_consistent s next place (p ∷ ps) consistent e =
    by_next (next_state s (read_event p)) (λ x is. replay_consistent x next (place + (13 + length p)) ps (next_consistent s p x consistent is)) refl e
  where
    by_next : (o : Option State) → ((x : State) → next_state s (read_event p) ≡ Some x → replay x (place + (13 + length p)) ps ≡ reaches next → IsConsistent next)
        → next_state s (read_event p) ≡ o → (elim o as (λ _. Replayed) [ Some x ↦ replay x (place + (13 + length p)) ps | None ↦ breaks place ]) ≡ reaches next → IsConsistent next
    by_next None on is x = absurd cc
    by_next (Some y) on is x = on y is x

reached_consistent : (side : Side) (file : File) (r : Replayed) (s : State) (last : ℕ) → ((x : State) → r ≡ reaches x → IsConsistent x) → reached side file r ≡ recovers s last → IsConsistent s
reached_consistent side file (breaks place) s last on e = absurd cc
reached_consistent side file (reaches x) s last on e = let same : x ≡ s = cc in subst IsConsistent same (on x refl)

-- ---- behind a base

-- what a state is judged to be
pub surely_consistent : (s : State) → is_consistent s ≡ true → IsConsistent s
surely_consistent s e = (decided s).1.0 e

pub checked_consistent : (o : Option State) (s : State) → if_consistent o ≡ Some s → IsConsistent s
checked_consistent None s e = absurd cc
checked_consistent (Some x) s e = let is = when (is_consistent x) x s e in subst IsConsistent is.1 (surely_consistent x is.0)

pub base_consistent : (salt : ℕ) (base : List ℕ) (s : State) → base_state salt base ≡ Some s → IsConsistent s
base_consistent salt [] s e = let same : empty_state salt ≡ s = cc in subst IsConsistent same (starts salt)
base_consistent salt (byte ∷ bytes) s e = checked_consistent (state_of salt (byte ∷ bytes)) s e

-- carried out behind it
pub events_consistent : (salt : ℕ) (base : List ℕ) (place : ℕ) (ps : List (List ℕ)) (s : State) → replay_from (base_state salt base) place ps ≡ reaches s → IsConsistent s
events_consistent salt base place ps s leads = by_base (base_state salt base) (base_consistent salt base) leads
  where
    by_base : (o : Option State) → ((x : State) → o ≡ Some x → IsConsistent x) → replay_from o place ps ≡ reaches s → IsConsistent s
    by_base None on e = absurd cc
    by_base (Some x) on e = replay_consistent x s place ps (on x refl) e

opened_consistent : (o : Opened) (s : State) (last : ℕ) → recovered_from o ≡ recovers s last → IsConsistent s
opened_consistent (Damage side place) s last e = absurd cc
opened_consistent (Stands side file) s last e =
    reached_consistent side file (replay_file file) s last
    (λ x leads. events_consistent file.salt file.base (first_gate file) file.payloads x leads) e

pub recovers_consistent : (a b : List ℕ) (salt : ℕ) (s : State) → Recovers (recovered a b salt) s → IsConsistent s
recovers_consistent a b salt s r = opened_consistent (opened a b salt) s r.0 r.1
