-- A number is given once and ends once.
use Rattle.std.proofs.Common.{Bool, List, None, Option, Some, [], ap, arith, false, filter, length, nat_le, not, refl, true, ℕ, ◌++◌, ◌+◌, ◌==◌, ◌∷◌, ◌≡◌, ◌≤◌}
use Rattle.std.proofs.lemmas.Bool.Decides.{nat_tests}
use Rattle.std.proofs.lemmas.List.{length-append, length-map}
use Rattle.std.proofs.lemmas.List.Filters.{sum_by-filter_both}
use Rattle.std.proofs.lemmas.List.Sums.{sum_by-append, sum_by-cons}
use Rattle.std.specs.List.{flat_map}
use Rattle.std.specs.Prelude.{find, sum_by}
use Rattle.sb_laws.proofs.Along.{kept_over}
use Rattle.sb_laws.proofs.Consistency.{consistent_is_sweepable}
use Rattle.sb_laws.proofs.Eachs.{is_equal, rising_bound}
use Rattle.sb_laws.proofs.EndCounts.{given, leaf_totals, live_number}
use Rattle.sb_laws.proofs.Ending.{counts, stand, stands, times_append}
use Rattle.sb_laws.proofs.Entities.{EachLeaf, IsOrdered, LeafRises, copy_number, entity_number, leaf_each, stays_ordered}
use Rattle.sb_laws.proofs.Lists.{sum_single}
use Rattle.sb_laws.proofs.Measures.{live_at, made_at, nowhere, sum_on}
use Rattle.sb_laws.proofs.NothingDue.{ordered}
use Rattle.sb_laws.specs.Counting.{one, times}
use Rattle.sb_laws.specs.Ended.{EndOnce, live_here, times_ended, times_live}
use Rattle.sb_machine.specs.Accounts.{ends_of}
use Rattle.sb_machine.specs.Changes.{after, noted, rule_added, rule_dropped, with_rules}
use Rattle.sb_machine.specs.Consistent.{IsConsistent}
use Rattle.sb_machine.specs.Each.{Each}
use Rattle.sb_machine.specs.Ends.{End, ends_in, leaf_ends, removed_in, removed_with}
use Rattle.sb_machine.specs.History.{fresh_log, state_after}
use Rattle.sb_machine.specs.Keyed.{AreRising}
use Rattle.sb_machine.specs.Namespace.{entity_of, is_entity, leaf_of, live, live_in, made, made_in, new_entity}
use Rattle.sb_machine.specs.declared.call.Part.TheVariants.{Dead, Main, Transfer}
use Rattle.sb_machine.specs.declared.change.Change.{Change}
use Rattle.sb_machine.specs.declared.change.Change.TheVariants.{AddsRule, Begins, Drops, DropsRule, InLeaf, Makes, Notes, Queues, Removes}
use Rattle.sb_machine.specs.declared.change.LeafKey.{LeafKey}
use Rattle.sb_machine.specs.declared.history.Entry.{Entry}
use Rattle.sb_machine.specs.declared.state.Entity.{Entity}
use Rattle.sb_machine.specs.declared.state.Space.{Space}
use Rattle.sb_machine.specs.declared.state.State.{State}

-- ---- of rising keys each stands once, up to the last

pub rising_times : {X : Type 0} (key : X → ℕ) (above last x : ℕ) (xs : List X) → AreRising key above last xs → (times (λ e. key e == x) xs ≤ given x last) × (x ≤ above → times (λ e. key e == x) xs ≡ 0)
rising_times key above last x [] h = (omega arith, λ e. refl)
rising_times key above last x (e ∷ es) h = at (key e == x) refl (rising_times key (key e) last x es h.1) (rising_bound key (key e) last es h.1) (sum_by-cons (λ d. one (key d == x)) e es) where
  here_given : (n : ℕ) → n ≤ last → n ≡ x → given x last ≡ 1
  here_given n le same = grind (arith, nat_tests)

  at : (b : Bool) → (key e == x) ≡ b → (times (λ e. key e == x) es ≤ given x last) × (x ≤ key e → times (λ e. key e == x) es ≡ 0) → key e ≤ last → times (λ e. key e == x) (e ∷ es) ≡ one (key e == x) + times (λ e. key e == x) es
      → (times (λ e. key e == x) (e ∷ es) ≤ given x last) × (x ≤ above → times (λ e. key e == x) (e ∷ es) ≡ 0)
  at true is rest most sum =
      let same = is_equal (key e) x is in
      let none = rest.1 (omega (arith, same)) in
      (omega (arith, sum, ap one is, none, here_given (key e) most same), λ le. absurd (omega (arith, h.0, le, same)))
  at false is rest most sum = (omega (arith, sum, ap one is, rest.0), λ le. omega (arith, sum, ap one is, rest.1 (omega (arith, h.0, le))))

entities_stand : (key : LeafKey) (x above last : ℕ) (es : List Entity) → AreRising entity_number above last es → Each (EachLeaf LeafRises) es
    → (sum_by (live_here key x) es ≤ stand key x last (find (is_entity key.entity) es)) × (key.entity ≤ above → sum_by (live_here key x) es ≡ 0)
entities_stand key x above last [] rises leaves = (omega arith, λ le. refl)
entities_stand key x above last (e ∷ es) rises leaves = at (is_entity key.entity e) refl (entities_stand key x e.about.number last es rises.1 leaves.1) (sum_by-cons (live_here key x) e es) where
  Stands : List Entity → ℕ → Type 0
  Stands xs low = (sum_by (live_here key x) xs ≤ stand key x last (find (is_entity key.entity) xs)) × (key.entity ≤ low → sum_by (live_here key x) xs ≡ 0)

  at : (b : Bool) → is_entity key.entity e ≡ b → (sum_by (live_here key x) es ≤ stand key x last (find (is_entity key.entity) es)) × (key.entity ≤ e.about.number → sum_by (live_here key x) es ≡ 0) → sum_by (live_here key x) (e ∷ es) ≡ live_here key x e + sum_by (live_here key x) es
      → (sum_by (live_here key x) (e ∷ es) ≤ stand key x last (find (is_entity key.entity) (e ∷ es))) × (key.entity ≤ above → sum_by (live_here key x) (e ∷ es) ≡ 0)
  at true is rest sum =
      let same = is_equal e.about.number key.entity is in
      let here : live_here key x e ≡ live_number x (leaf_of key.part e) = rw is refl in
      let found_so : stand key x last (find (is_entity key.entity) (e ∷ es)) ≡ given x (leaf_of key.part e).last = rw is refl in
      let none = rest.1 (omega (arith, same)) in
      let few = (rising_times copy_number 0 (leaf_of key.part e).last x (leaf_of key.part e).copies (leaf_each LeafRises key.part e leaves.0)).0 in
      (omega (arith, sum, here, found_so, none, few), λ le. absurd (omega (arith, rises.0, le, same)))
  at false is rest sum =
      let here : live_here key x e ≡ 0 = rw is refl in
      let found_so : stand key x last (find (is_entity key.entity) (e ∷ es)) ≡ stand key x last (find (is_entity key.entity) es) = rw is refl in
      (omega (arith, sum, here, found_so, rest.0), λ le. omega (arith, sum, here, rest.1 (omega (arith, rises.0, le))))

-- ---- the fact of a namespace and of what has ended so far: a number is live or has ended at most once, and not before it was given

pub record IsOnce (s : Space) (ends : List End) : Type 0 where
  pub ordered : IsOrdered s
  pub most : (key : LeafKey) (x : ℕ) → times_live key x s + times_ended key x ends ≤ stands key x s

keeps_once : (t : ℕ) (c : Change) (s : Space) (ends : List End) → IsOnce s ends → IsOnce (after t c s) (ends ++ ends_in t c s)
keeps_once t c s ends h = record {
  ordered = stays_ordered t c s h.ordered;
  most = λ key x. omega (arith, counts key x t c s h.ordered, times_append key x ends (ends_in t c s), h.most key x);
}

starts_once : (s : Space) → IsOrdered s → IsOnce s []
starts_once s o = record { ordered = o; most = λ key x. omega (arith, (entities_stand key x 0 s.last_entity s.entities o.entities o.copies).0) }

-- ---- what was made and isn't live grows by what ends

length_removed : (es : List Entity) → length (flat_map removed_with es) ≡ sum_by live_in es
length_removed [] = refl
length_removed (e ∷ es) =
    let a : length (removed_in e Main) ≡ length e.main.copies = length-map e.main.copies _ in
    let b : length (removed_in e Dead) ≡ length e.dead.copies = length-map e.dead.copies _ in
    let c : length (removed_in e Transfer) ≡ length e.transfer.copies = length-map e.transfer.copies _ in
    omega (arith, length-append (removed_with e) (flat_map removed_with es), length-append (removed_in e Main ++ removed_in e Dead) (removed_in e Transfer), length-append (removed_in e Main) (removed_in e Dead), a, b, c, sum_by-cons live_in e es, length_removed es)

totals : (t : ℕ) (c : Change) (s : Space) → made (after t c s) + live s ≡ made s + live (after t c s) + length (ends_in t c s)
totals t (InLeaf key c) s = at (entity_of key.entity s) refl where
  at : (o : Option Entity) → entity_of key.entity s ≡ o → made (after t (InLeaf key c) s) + live s ≡ made s + live (after t (InLeaf key c) s) + length (ends_in t (InLeaf key c) s)
  at None is =
      let none : length (ends_in t (InLeaf key c) s) ≡ 0 = rw is refl in
      let same = nowhere t key c s is in
      omega (arith, none, ap (λ (l : List Entity). sum_by made_in l) same, ap (λ (l : List Entity). sum_by live_in l) same)
  at (Some e) is =
      let ends_so : length (ends_in t (InLeaf key c) s) ≡ length (leaf_ends key c (leaf_of key.part e)) = rw is refl in
      omega (arith, ends_so, made_at t key c s e is, live_at t key c s e is, leaf_totals (s.last_lock + 1) t key c (leaf_of key.part e))
totals t (Notes n id) s = omega (arith, sum_on made_in n (λ e. record e { ids = noted e.about.description.window id t e.ids }) s.entities (λ e. refl), sum_on live_in n (λ e. record e { ids = noted e.about.description.window id t e.ids }) s.entities (λ e. refl))
totals t (Makes kind path description rs) s =
    let new = new_entity (record { number = s.last_entity + 1; kind = kind; path = path; description = description; rules = rs }) in
    omega (arith, sum_by-append made_in s.entities (new ∷ []), sum_by-append live_in s.entities (new ∷ []), sum_single made_in new, sum_single live_in new)
totals t (Removes n) s =
    omega (
      arith,
      length_removed (filter (is_entity n) s.entities),
      sum_by-filter_both (is_entity n) (λ e. not (is_entity n e)) (λ e. refl) made_in s.entities,
      sum_by-filter_both (is_entity n) (λ e. not (is_entity n e)) (λ e. refl) live_in s.entities,
    )
totals t (AddsRule n rule) s = omega (arith, sum_on made_in n (with_rules (rule_added rule)) s.entities (λ e. refl), sum_on live_in n (with_rules (rule_added rule)) s.entities (λ e. refl))
totals t (DropsRule n name) s = omega (arith, sum_on made_in n (with_rules (rule_dropped name)) s.entities (λ e. refl), sum_on live_in n (with_rules (rule_dropped name)) s.entities (λ e. refl))
totals t (Begins n deadline) s = omega arith
totals t (Queues n deadline operation) s = omega arith
totals t (Drops n) s = omega arith

abbrev Grown : Space → Space → List End → Type 0
Grown s later ends = made later + live s ≡ made s + live later + length ends

grown : (s : Space) (t : ℕ) (c : Change) (now : Space) (ends : List End) → Grown s now ends → Grown s (after t c now) (ends ++ ends_in t c now)
grown s t c now ends h = omega (arith, totals t c now, length-append ends (ends_in t c now), h)

-- ---- all histories

stand_most : (key : LeafKey) (x last : ℕ) (o : Option Entity) → stand key x last o ≤ 1
stand_most key x last None = most (nat_le key.entity last) where
  most : (b : Bool) → one b ≤ 1
  most true = omega arith
  most false = omega arith
stand_most key x last (Some e) = most (nat_le x (leaf_of key.part e).last) where
  most : (b : Bool) → one b ≤ 1
  most true = omega arith
  most false = omega arith

pub ends_once : (s : State) (h : List Entry) → IsConsistent s → EndOnce s.space (state_after s h).space (ends_of (fresh_log s) h)
ends_once s h consistent =
    let later = (state_after s h).space in
    let k : IsOnce later (ends_of (fresh_log s) h) = kept_over ends_in IsOnce keeps_once h (fresh_log s) [] (starts_once s.space (ordered s.space (consistent_is_sweepable s consistent))) in
    record {
      once = λ key x. omega (arith, k.most key x, stand_most key x later.last_entity (entity_of key.entity later));
      gone = λ key x some. omega (arith, k.most key x, stand_most key x later.last_entity (entity_of key.entity later), some);
      all = kept_over ends_in (Grown s.space) (grown s.space) h (fresh_log s) [] (omega arith);
    }
