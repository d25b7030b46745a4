-- A tick's four sweeps, each on what those before it leave.
use Rattle.std.proofs.Common.{Bool, List, [], false, filter, nat_le, refl, subst, sym, true, ℕ, ◌&&◌, ◌++◌, ◌∙◌, ◌∷◌, ◌≡◌}
use Rattle.std.specs.List.{flat_map, list_any}
use Rattle.sb_laws.proofs.AfterTick.{AreRunning, all_copies, all_sessions, both_each, flat_none, is_off, no_items, no_items_in, no_sessions, no_transactions, running_at, running_behind, transactions_rise_all}
use Rattle.sb_laws.proofs.Carrying.{Carries, kept_by_all}
use Rattle.sb_laws.proofs.Closing.{AreHeldOn, SessionsApart, has_run_out, held_behind, tick_apart}
use Rattle.sb_laws.proofs.Eachs.{each_implied}
use Rattle.sb_laws.proofs.Entities.{EachLeaf, IsOrdered, stays_ordered_all}
use Rattle.sb_laws.proofs.NothingDue.{Lasts, LastsIn, carries, come_safe, expired_fine, expired_safe, lasts_travels, lock_safe, locks_fine, none_closed, not_come, not_expired, ordered, scheduled_fine, sessions_apart, sessions_on, under_no_ended}
use Rattle.sb_laws.proofs.Swept.{AreFine, IsSafe, Test, fine_behind, settles_copy}
use Rattle.sb_laws.proofs.Tick.{IsOfTick, expired_of_tick, kept_by_tick, locks_of_tick, scheduled_of_tick, transactions_of_tick}
use Rattle.sb_laws.specs.Sweepable.{IsSweepable}
use Rattle.sb_machine.specs.Changes.{after, after_all}
use Rattle.sb_machine.specs.Delivery.{is_expired, released}
use Rattle.sb_machine.specs.Due.{due_expired, due_locks, due_scheduled, due_sessions, due_transactions, is_due, items_in, sweep_expired, sweep_locks, sweep_scheduled, then_also, tick_changes}
use Rattle.sb_machine.specs.Each.{Each}
use Rattle.sb_machine.specs.History.{advanced}
use Rattle.sb_machine.specs.Leases.{has_come, has_ended, is_ready}
use Rattle.sb_machine.specs.Namespace.{leaf_of, listed}
use Rattle.sb_machine.specs.declared.call.Part.{Part}
use Rattle.sb_machine.specs.declared.call.Part.TheVariants.{Main}
use Rattle.sb_machine.specs.declared.change.Change.{Change}
use Rattle.sb_machine.specs.declared.change.LeafKey.{LeafKey}
use Rattle.sb_machine.specs.declared.state.Space.{Space}
use Rattle.sb_machine.specs.declared.state.State.{State}

pub after_append : (t : ℕ) (cs ds : List Change) (s : Space) → after_all t (cs ++ ds) s ≡ after_all t ds (after_all t cs s)
after_append t [] ds s = refl
after_append t (c ∷ cs) ds s = after_append t cs ds (after t c s)

module _ (t : ℕ) (s : Space) (may : IsSweepable s) where
  -- the namespace behind each sweep
  abbrev pub s1 : Space
  s1 = after_all t (sweep_locks t s) s

  abbrev pub s2 : Space
  s2 = after_all t (sweep_expired t s1) s1

  abbrev pub s3 : Space
  s3 = after_all t (sweep_scheduled t s2) s2

  abbrev pub s4 : Space
  s4 = after_all t (due_transactions t s3) s3

  pub behind_tick : after_all t (tick_changes t s) s ≡ s4
  behind_tick =
      after_append t (sweep_locks t s) (then_also t (sweep_expired t) (then_also t (sweep_scheduled t) (due_transactions t)) s1) s
      ∙ after_append t (sweep_expired t s1) (then_also t (sweep_scheduled t) (due_transactions t) s2) s1
      ∙ after_append t (sweep_scheduled t s2) (due_transactions t s3) s2

  carried_behind : (first_one : Bool) (cs : List Change) (now : Space) → Each (IsOfTick Lasts first_one) cs → Carries Lasts LastsIn now → Carries Lasts LastsIn (after_all t cs now)
  carried_behind first_one cs now h c = kept_by_all (IsOfTick Lasts first_one) (Carries Lasts LastsIn) t (λ c now is carried. kept_by_tick lasts_travels first_one t c now is carried) cs now h c

  apart_behind : (first_one : Bool) (cs : List Change) (now : Space) → Each (IsOfTick Lasts first_one) cs → Each (EachLeaf SessionsApart) now.entities → Each (EachLeaf SessionsApart) (after_all t cs now).entities
  apart_behind first_one cs now h c = kept_by_all (IsOfTick Lasts first_one) (λ now. Each (EachLeaf SessionsApart) now.entities) t (λ c now is apart. tick_apart Lasts first_one t c now is apart) cs now h c

  o0 : IsOrdered s
  o0 = ordered s may

  c0 : Carries Lasts LastsIn s
  c0 = carries s may

  a0 : Each (EachLeaf SessionsApart) s.entities
  a0 = sessions_apart s may

  of0 : Each (IsOfTick Lasts true) (sweep_locks t s)
  of0 = locks_of_tick lasts_travels t s c0

  o1 : IsOrdered s1
  o1 = stays_ordered_all t (sweep_locks t s) s o0

  c1 : Carries Lasts LastsIn s1
  c1 = carried_behind true (sweep_locks t s) s of0 c0

  a1 : Each (EachLeaf SessionsApart) s1.entities
  a1 = apart_behind true (sweep_locks t s) s of0 a0

  of1 : Each (IsOfTick Lasts false) (sweep_expired t s1)
  of1 = expired_of_tick lasts_travels t s1 c1

  o2 : IsOrdered s2
  o2 = stays_ordered_all t (sweep_expired t s1) s1 o1

  c2 : Carries Lasts LastsIn s2
  c2 = carried_behind false (sweep_expired t s1) s1 of1 c1

  a2 : Each (EachLeaf SessionsApart) s2.entities
  a2 = apart_behind false (sweep_expired t s1) s1 of1 a1

  of2 : Each (IsOfTick Lasts false) (sweep_scheduled t s2)
  of2 = scheduled_of_tick lasts_travels t s2 c2

  o3 : IsOrdered s3
  o3 = stays_ordered_all t (sweep_scheduled t s2) s2 o2

  a3 : Each (EachLeaf SessionsApart) s3.entities
  a3 = apart_behind false (sweep_scheduled t s2) s2 of2 a2

  of3 : Each (IsOfTick Lasts false) (due_transactions t s3)
  of3 = transactions_of_tick lasts_travels t s3

  -- what is fine stays so behind a later sweep
  fine_on : (q : Test) → ((c : Change) → IsOfTick Lasts false c → IsSafe q t c) → (key : LeafKey) (n : ℕ) (cs : List Change) (now : Space) → IsOrdered now → Each (IsOfTick Lasts false) cs → AreFine q key n now → AreFine q key n (after_all t cs now)
  fine_on q safe key n cs now o h fine = fine_behind q t key n cs now o (each_implied (IsOfTick Lasts false) (IsSafe q t) safe cs h) (λ none. fine)

  -- so is what is fine where the first sweep settles nothing of it
  pub fine_tick : (q : Test) → ((first_one : Bool) (c : Change) → IsOfTick Lasts first_one c → IsSafe q t c) → (key : LeafKey) (n : ℕ) → (list_any (settles_copy key n) (sweep_locks t s) ≡ false → AreFine q key n s) → AreFine q key n (after_all t (tick_changes t s) s)
  fine_tick q safe key n fine =
      let first_one = fine_behind q t key n (sweep_locks t s) s o0 (each_implied (IsOfTick Lasts true) (IsSafe q t) (safe true) (sweep_locks t s) of0) fine in
      subst (λ (now : Space). AreFine q key n now) (sym behind_tick)
      (fine_on q (safe false) key n (due_transactions t s3) s3 o3 of3
      (fine_on q (safe false) key n (sweep_scheduled t s2) s2 o2 of2
      (fine_on q (safe false) key n (sweep_expired t s1) s1 o1 of1 first_one)))

  locks4 : (key : LeafKey) (n : ℕ) → AreFine (under_no_ended t) key n s4
  locks4 key n = subst (λ (now : Space). AreFine (under_no_ended t) key n now) behind_tick (fine_tick (under_no_ended t) (lock_safe t) key n (locks_fine key n t s))

  expired4 : (key : LeafKey) (n : ℕ) → AreFine (not_expired t) key n s4
  expired4 key n =
      fine_on (not_expired t) (expired_safe t) key n (due_transactions t s3) s3 o3 of3
      (fine_on (not_expired t) (expired_safe t) key n (sweep_scheduled t s2) s2 o2 of2
      (fine_behind (not_expired t) t key n (sweep_expired t s1) s1 o1 (each_implied (IsOfTick Lasts false) (IsSafe (not_expired t) t) (expired_safe t) (sweep_expired t s1) of1) (expired_fine key n t s1)))

  scheduled4 : (key : LeafKey) (n : ℕ) → AreFine (not_come t) key n s4
  scheduled4 key n =
      fine_on (not_come t) (come_safe t) key n (due_transactions t s3) s3 o3 of3
      (fine_behind (not_come t) t key n (sweep_scheduled t s2) s2 o2 (each_implied (IsOfTick Lasts false) (IsSafe (not_come t) t) (come_safe t) (sweep_scheduled t s2) of2) (scheduled_fine key n t s2))

  held_on : (key : LeafKey) (l : ℕ) (cs : List Change) (now : Space) → IsOrdered now → Each (EachLeaf SessionsApart) now.entities → Each (IsOfTick Lasts false) cs → AreHeldOn t key l now → AreHeldOn t key l (after_all t cs now)
  held_on key l cs now o a h on = held_behind Lasts t t key l false cs now o a h (λ none. on)

  held4 : (key : LeafKey) (l : ℕ) → AreHeldOn t key l s4
  held4 key l =
      held_on key l (due_transactions t s3) s3 o3 a3 of3 (held_on key l (sweep_scheduled t s2) s2 o2 a2 of2 (held_on key l (sweep_expired t s1) s1 o1 a1 of1
      (held_behind Lasts t t key l true (sweep_locks t s) s o0 a0 of0 (λ none. sessions_on key l t s (none_closed key l (due_sessions t s) (flat_map (λ i. released (listed s) t i.entity i.part i.copy true false) (due_locks t s)) none).0))))

  running4 : (m : ℕ) → AreRunning t m s4
  running4 m = running_behind t m (filter (λ x. nat_le x.deadline t) s3.transactions) s3
      (transactions_rise_all t (sweep_scheduled t s2) s2 (transactions_rise_all t (sweep_expired t s1) s1 (transactions_rise_all t (sweep_locks t s) s may.transactions))) (running_at t m s3.transactions)

  out4 : (part : Part) → Each (λ e. Each (λ x. has_run_out t x ≡ false) (leaf_of part e).sessions) s4.entities
  out4 part = all_sessions t part s4 held4

  none4 : is_due t s4 ≡ false
  none4 = rw (sessions, locks, expired_none, scheduled, no_transactions t s4 running4) refl where
    sessions : due_sessions t s4 ≡ []
    sessions = no_sessions t s4.entities out4

    locks : due_locks t s4 ≡ []
    locks = no_items (λ leaf c. has_ended t leaf.sessions c.standing) s4.entities (λ part. both_each t part s4.entities (all_copies (under_no_ended t) part s4 locks4) (out4 part))

    scheduled : due_scheduled t s4 ≡ []
    scheduled = no_items (λ leaf c. has_come t c.standing) s4.entities
        (λ part. each_implied (λ e. Each (λ c. not_come t part c ≡ true) (leaf_of part e).copies) (λ e. Each (λ c. has_come t c.standing ≡ false) (leaf_of part e).copies)
        (λ e h. each_implied (λ c. not_come t part c ≡ true) (λ c. has_come t c.standing ≡ false) (λ c so. is_off (has_come t c.standing) so) (leaf_of part e).copies h) s4.entities (all_copies (not_come t) part s4 scheduled4))

    expired_none : due_expired t s4 ≡ []
    expired_none = flat_none (λ e. items_in (λ leaf c. is_ready c.standing && is_expired t c) e Main) s4.entities
        (each_implied (λ e. Each (λ c. not_expired t Main c ≡ true) e.main.copies) (λ e. items_in (λ leaf c. is_ready c.standing && is_expired t c) e Main ≡ [])
        (λ e h. no_items_in (λ leaf c. is_ready c.standing && is_expired t c) e Main (each_implied (λ c. not_expired t Main c ≡ true) (λ c. (is_ready c.standing && is_expired t c) ≡ false) (λ c so. is_off (is_ready c.standing && is_expired t c) so) e.main.copies h)) s4.entities (all_copies (not_expired t) Main s4 expired4))

  -- nothing is due behind it
  pub nothing_due : is_due t (after_all t (tick_changes t s) s) ≡ false
  nothing_due = subst (λ (now : Space). is_due t now ≡ false) (sym behind_tick) none4

pub nothing_due_after : (s : State) (t : ℕ) → IsSweepable s.space → is_due t (advanced s t).space ≡ false
nothing_due_after s t may = nothing_due t s.space may
