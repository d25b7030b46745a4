-- Something is due exactly where a tick has changes.
use Rattle.std.proofs.Common.{Bool, List, [], ap, false, map, nat_le, not, refl, subst, sym, true, ℕ, ◌&&◌, ◌++◌, ◌∷◌, ◌≡◌}
use Rattle.std.specs.List.{flat_map}
use Rattle.std.specs.Prelude.{if◌then◌else◌}
use Rattle.sb_machine.specs.Changes.{after_all, in_turn}
use Rattle.sb_machine.specs.Delivery.{back_to, dead_for, expired, in_part, is_expired, raised, released}
use Rattle.sb_machine.specs.Due.{Item, activated, due_expired, due_locks, due_scheduled, due_sessions, due_transactions, is_due, is_none_in, sweep_expired, sweep_locks, sweep_scheduled, then_also, tick_changes}
use Rattle.sb_machine.specs.Leases.{was_deferred}
use Rattle.sb_machine.specs.Names.{is_main}
use Rattle.sb_machine.specs.Namespace.{listed}
use Rattle.sb_machine.specs.declared.call.Part.{Part}
use Rattle.sb_machine.specs.declared.call.Part.TheVariants.{Main}
use Rattle.sb_machine.specs.declared.change.Change.{Change}
use Rattle.sb_machine.specs.declared.change.LeafChange.TheVariants.{Ends, Stands}
use Rattle.sb_machine.specs.declared.state.Entity.{Entity}
use Rattle.sb_machine.specs.declared.state.Listed.{Listed}
use Rattle.sb_machine.specs.declared.state.Space.{Space}
use Rattle.sb_machine.specs.declared.state.StoredCopy.{StoredCopy}
use Rattle.sb_machine.specs.declared.change.Cause.TheVariants.{Expired as ByTime}
use Rattle.sb_machine.specs.declared.reason.DeadReason.TheVariants.{Expired, TooOften}

pub found_none : {X : Type 0} (xs : List X) → is_none_in xs ≡ true → xs ≡ []
found_none [] e = refl
found_none (x ∷ xs) e = absurd cc

some_front : {Y : Type 0} (ys zs : List Y) → is_none_in ys ≡ false → is_none_in (ys ++ zs) ≡ false
some_front [] zs e = absurd cc
some_front (y ∷ ys) zs e = refl

flat_some : {X Y : Type 0} (f : X → List Y) (xs : List X) → ((x : X) → is_none_in (f x) ≡ false) → is_none_in xs ≡ false → is_none_in (flat_map f xs) ≡ false
flat_some f [] some e = absurd cc
flat_some f (x ∷ xs) some e = some_front (f x) (flat_map f xs) (some x)

some_back : {Y : Type 0} (ys zs : List Y) → is_none_in zs ≡ false → is_none_in (ys ++ zs) ≡ false
some_back [] zs e = e
some_back (y ∷ ys) zs e = refl

expired_some : (es : List Listed) (e : Entity) (c : StoredCopy) (by_settlement : Bool) → is_none_in (expired es e c by_settlement) ≡ false
expired_some es e c by_settlement = go e.about.description.dead_on_expiry where
  go : (b : Bool) → is_none_in (if b then dead_for es e c by_settlement Expired else in_part Main e (Ends c.number by_settlement ByTime) ∷ []) ≡ false
  go true = refl
  go false = refl

pub released_some : (es : List Listed) (t : ℕ) (e : Entity) (part : Part) (c : StoredCopy) (raise by_settlement : Bool) → is_none_in (released es t e part c raise by_settlement) ≡ false
released_some es t e part c raise by_settlement = go (is_main part && raise && nat_le e.about.description.max_delivery (raised raise c.count)) (is_main part && not (was_deferred c.standing) && is_expired t c) where
  go : (a b : Bool) → is_none_in (if a then dead_for es e c by_settlement TooOften else (if b then expired es e c by_settlement else in_part part e (Stands c.number by_settlement (raised raise c.count) (back_to c.standing)) ∷ [])) ≡ false
  go true b = refl
  go false true = expired_some es e c by_settlement
  go false false = refl

in_turn_some : (f : Item → Space → List Change) (t : ℕ) (items : List Item) (s : Space) → ((i : Item) (s : Space) → is_none_in (f i s) ≡ false) → is_none_in items ≡ false → is_none_in (in_turn f t items s) ≡ false
in_turn_some f t [] s some e = absurd cc
in_turn_some f t (i ∷ items) s some e = some_front (f i s) (in_turn f t items (after_all t (f i s) s)) (some i s)

mapped_some : {X Y : Type 0} (f : X → Y) (xs : List X) → is_none_in (map f xs) ≡ is_none_in xs
mapped_some f [] = refl
mapped_some f (x ∷ xs) = refl

-- what is due as the sweeps begin
locks_none : (t : ℕ) (s : Space) → due_sessions t s ≡ [] → due_locks t s ≡ [] → sweep_locks t s ≡ []
locks_none t s a b = rw (a, b) refl

pub is_due_exactly : (t : ℕ) (s : Space) → is_due t s ≡ not (is_none_in (tick_changes t s))
is_due_exactly t s = by (is_none_in (due_sessions t s)) refl (is_none_in (due_locks t s)) refl where
  due_is : Bool → Bool → Bool → Bool → Bool → Bool
  due_is a b c d e = not (a && b && c && d && e)

  rest : List Change
  rest = then_also t (sweep_expired t) (then_also t (sweep_scheduled t) (due_transactions t)) (after_all t (sweep_locks t s) s)

  ticks : (cs : List Change) → sweep_locks t s ≡ cs → is_none_in cs ≡ false → not (is_none_in (tick_changes t s)) ≡ true
  ticks cs is some = ap not (some_front (sweep_locks t s) rest (subst (λ (l : List Change). is_none_in l ≡ false) (sym is) some))

  later : due_sessions t s ≡ [] → due_locks t s ≡ [] → (c d e : Bool) → is_none_in (due_expired t s) ≡ c → is_none_in (due_scheduled t s) ≡ d → is_none_in (due_transactions t s) ≡ e → due_is true true c d e ≡ not (is_none_in (tick_changes t s))
  later none_a none_b c d e is_c is_d is_e = rw none (expired_first c is_c) where
    none : sweep_locks t s ≡ []
    none = locks_none t s none_a none_b

    expired_first : (c : Bool) → is_none_in (due_expired t s) ≡ c → due_is true true c d e ≡ not (is_none_in (then_also t (sweep_expired t) (then_also t (sweep_scheduled t) (due_transactions t)) s))
    expired_first false is_c = sym (ap not (some_front (sweep_expired t s) (then_also t (sweep_scheduled t) (due_transactions t) (after_all t (sweep_expired t s) s))
        (flat_some (λ i. expired (listed s) i.entity i.copy false) (due_expired t s) (λ i. expired_some (listed s) i.entity i.copy false) is_c)))
    expired_first true is_c = rw none_c (scheduled_next d is_d) where
      none_c : sweep_expired t s ≡ []
      none_c = rw (found_none (due_expired t s) is_c) refl

      scheduled_next : (d : Bool) → is_none_in (due_scheduled t s) ≡ d → due_is true true true d e ≡ not (is_none_in (then_also t (sweep_scheduled t) (due_transactions t) s))
      scheduled_next false is_d = sym (ap not (some_front (sweep_scheduled t s) (due_transactions t (after_all t (sweep_scheduled t s) s)) (in_turn_some activated t (due_scheduled t s) s (λ i s. refl) is_d)))
      scheduled_next true is_d = rw none_d (ap not (sym is_e)) where
        none_d : sweep_scheduled t s ≡ []
        none_d = rw (found_none (due_scheduled t s) is_d) refl

  by : (a : Bool) → is_none_in (due_sessions t s) ≡ a → (b : Bool) → is_none_in (due_locks t s) ≡ b → is_due t s ≡ not (is_none_in (tick_changes t s))
  by false is_a b is_b = rw is_a (sym (ticks (sweep_locks t s) refl (some_front (due_sessions t s) (flat_map (λ i. released (listed s) t i.entity i.part i.copy true false) (due_locks t s)) is_a)))
  by true is_a false is_b = rw (is_a, is_b) (sym (ticks (sweep_locks t s) refl (some_back (due_sessions t s) (flat_map (λ i. released (listed s) t i.entity i.part i.copy true false) (due_locks t s))
      (flat_some (λ i. released (listed s) t i.entity i.part i.copy true false) (due_locks t s) (λ i. released_some (listed s) t i.entity i.part i.copy true false) is_b))))
  by true is_a true is_b = rw (is_a, is_b) (later (found_none (due_sessions t s) is_a) (found_none (due_locks t s) is_b) (is_none_in (due_expired t s)) (is_none_in (due_scheduled t s)) (is_none_in (due_transactions t s)) refl refl refl)
