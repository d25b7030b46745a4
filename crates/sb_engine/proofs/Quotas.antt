-- The copies that live behind changes are those before them with those that enter, less those that end.
use Rattle.std.proofs.Common.{◌≡◌, ℕ, ◌+◌, Bool, true, false, List, [], ◌∷◌, length, find, Option, Some, None, is_some, refl, ap, sym, subst, ◌⊎◌, inl, inr, sum_by, arith}
use Rattle.std.proofs.lemmas.List.{length-append}
use Rattle.std.proofs.lemmas.List.Sums.{sum_by-append, sum_by-cons}
use Rattle.sb_laws.proofs.Lists.{found_behind, sum_single}
use Rattle.sb_laws.proofs.Measures.{live_at, nowhere, sum_on}
use Rattle.sb_machine.specs.Changes.{after, after_all, noted, rule_added, rule_dropped, with_rules}
use Rattle.sb_machine.specs.Keyed.{changed}
use Rattle.sb_machine.specs.Leaves.{copy_in, has_number, is_deferred, leaf_after, prolonged_standing, stored}
use Rattle.sb_machine.specs.Namespace.{entity_of, leaf_of, live, live_in, new_entity}
use Rattle.sb_machine.specs.declared.change.Cause.{Cause}
use Rattle.sb_machine.specs.declared.change.Change.{Change}
use Rattle.sb_machine.specs.declared.change.Change.TheVariants.{AddsRule, Begins, Drops, DropsRule, InLeaf, Makes, Notes, Queues, Removes}
use Rattle.sb_machine.specs.declared.change.LeafChange.{LeafChange}
use Rattle.sb_machine.specs.declared.change.LeafChange.TheVariants.{Closes, Ends, Enters, Holds, Opens, Passes, Prolongs, Renews, Stands, Writes}
use Rattle.sb_machine.specs.declared.change.LeafKey.{LeafKey}
use Rattle.sb_machine.specs.declared.state.Entity.{Entity}
use Rattle.sb_machine.specs.declared.state.Leaf.{Leaf}
use Rattle.sb_machine.specs.declared.state.Space.{Space}
use Rattle.sb_machine.specs.declared.state.Standing.TheVariants.{Held}
use Rattle.sb_engine.specs.Quotas.{enters_in, ends_in, enters_in_leaf, ends_in_leaf, copy_where, copy_at, IsCounted, IsCountedIn, AreCounted}

-- ---- lists

one_for_one : {X : Type 0} (p : X → Bool) (f : X → X) (xs : List X) → length (changed p (λ x. f x ∷ []) xs) ≡ length xs
one_for_one p f [] = refl
one_for_one p f (x ∷ xs) = at (p x) refl (one_for_one p f xs) where
  at : (b : Bool) → p x ≡ b → length (changed p (λ y. f y ∷ []) xs) ≡ length xs → length (changed p (λ y. f y ∷ []) (x ∷ xs)) ≡ length (x ∷ xs)
  at true is ih = rw is refl
  at false is ih = rw is (omega (arith, ih))

one_less : {X : Type 0} (p : X → Bool) (xs : List X) → is_some (find p xs) ≡ true → length (changed p (λ y. []) xs) + 1 ≡ length xs
one_less {X = X} p [] found = absurd cc
one_less {X = X} p (x ∷ xs) found = at (p x) refl (one_less p xs) where
  at : (b : Bool) → p x ≡ b → (is_some (find p xs) ≡ true → length (changed p (λ y. []) xs) + 1 ≡ length xs) → length (changed p (λ y. []) (x ∷ xs)) + 1 ≡ length (x ∷ xs)
  at true is ih = rw is (omega arith)
  at false is ih = rw is (omega (arith, ih (subst (λ (o : Option X). is_some o ≡ true) (sym (found_behind p x xs (find p (x ∷ xs)) is refl)) found)))

-- ---- one part

-- where it ends a copy, that is there
leaf_counts : (lock t : ℕ) (c : LeafChange) (leaf : Leaf) → (ends_in_leaf c ≡ 0) ⊎ (length (leaf_after lock t c leaf).copies + 1 ≡ length leaf.copies) → length (leaf_after lock t c leaf).copies + ends_in_leaf c ≡ length leaf.copies + enters_in_leaf c
leaf_counts lock t (Enters fresh) leaf h = omega (arith, length-append leaf.copies (stored (leaf.last + 1) t fresh ∷ []))
leaf_counts lock t (Passes cause) leaf h = omega arith
leaf_counts lock t (Ends n settled cause) leaf (inl none) = absurd (omega (arith, none))
leaf_counts lock t (Ends n settled cause) leaf (inr one) = omega (arith, one)
leaf_counts lock t (Holds n hold) leaf h = omega (arith, one_for_one (has_number n) (λ c. record c { standing = Held lock hold (is_deferred c.standing) }) leaf.copies)
leaf_counts lock t (Stands n settled count standing) leaf h = omega (arith, one_for_one (has_number n) (λ c. record c { count = count; standing = standing }) leaf.copies)
leaf_counts lock t (Renews n until) leaf h = omega (arith, one_for_one (has_number n) (λ c. record c { standing = prolonged_standing until c.standing }) leaf.copies)
leaf_counts lock t (Opens id until) leaf h = omega arith
leaf_counts lock t (Closes l) leaf h = omega arith
leaf_counts lock t (Prolongs l until) leaf h = omega arith
leaf_counts lock t (Writes l state) leaf h = omega arith

-- ---- one change

abbrev Counts : ℕ → Change → Space → Type 0
Counts t c s = live (after t c s) + ends_in c ≡ live s + enters_in c

in_there : (t : ℕ) (key : LeafKey) (c : LeafChange) (s : Space) (e : Entity) → entity_of key.entity s ≡ Some e
    → (ends_in_leaf c ≡ 0) ⊎ (length (leaf_after (s.last_lock + 1) t c (leaf_of key.part e)).copies + 1 ≡ length (leaf_of key.part e).copies) → Counts t (InLeaf key c) s
in_there t key c s e there h = omega (arith, live_at t key c s e there, leaf_counts (s.last_lock + 1) t c (leaf_of key.part e) h)

-- neither enters nor ends
in_any : (t : ℕ) (key : LeafKey) (c : LeafChange) (s : Space) → ends_in_leaf c ≡ 0 → enters_in_leaf c ≡ 0 → Counts t (InLeaf key c) s
in_any t key c s no_end no_enter = at (entity_of key.entity s) refl where
  at : (o : Option Entity) → entity_of key.entity s ≡ o → Counts t (InLeaf key c) s
  at None is = omega (arith, no_end, no_enter, ap (λ (l : List Entity). sum_by live_in l) (nowhere t key c s is))
  at (Some e) is = in_there t key c s e is (inl no_end)

entering : (t : ℕ) (key : LeafKey) (c : LeafChange) (s : Space) → ends_in_leaf c ≡ 0 → is_some (entity_of key.entity s) ≡ true → Counts t (InLeaf key c) s
entering t key c s no_end there = at (entity_of key.entity s) refl where
  at : (o : Option Entity) → entity_of key.entity s ≡ o → Counts t (InLeaf key c) s
  at None is = absurd cc
  at (Some e) is = in_there t key c s e is (inl no_end)

ending : (t : ℕ) (key : LeafKey) (n : ℕ) (settled : Bool) (cause : Cause) (s : Space) → is_some (copy_at key n s) ≡ true → Counts t (InLeaf key (Ends n settled cause)) s
ending t key n settled cause s there = at (entity_of key.entity s) refl where
  at : (o : Option Entity) → entity_of key.entity s ≡ o → Counts t (InLeaf key (Ends n settled cause)) s
  at None is = absurd cc
  at (Some e) is =
      let found : is_some (copy_in n (leaf_of key.part e)) ≡ true = subst (λ (o : Option Entity). is_some (copy_where key n o) ≡ true) is there in
      in_there t key (Ends n settled cause) s e is (inr (one_less (has_number n) (leaf_of key.part e).copies found))

in_leaf : (t : ℕ) (key : LeafKey) (c : LeafChange) (s : Space) → IsCountedIn key c s → Counts t (InLeaf key c) s
in_leaf t key (Enters fresh) s h = entering t key (Enters fresh) s refl h
in_leaf t key (Passes cause) s h = in_any t key (Passes cause) s refl refl
in_leaf t key (Ends n settled cause) s h = ending t key n settled cause s h
in_leaf t key (Holds n hold) s h = in_any t key (Holds n hold) s refl refl
in_leaf t key (Stands n settled count standing) s h = in_any t key (Stands n settled count standing) s refl refl
in_leaf t key (Renews n until) s h = in_any t key (Renews n until) s refl refl
in_leaf t key (Opens id until) s h = in_any t key (Opens id until) s refl refl
in_leaf t key (Closes l) s h = in_any t key (Closes l) s refl refl
in_leaf t key (Prolongs l until) s h = in_any t key (Prolongs l until) s refl refl
in_leaf t key (Writes l state) s h = in_any t key (Writes l state) s refl refl

counts : (t : ℕ) (c : Change) (s : Space) → IsCounted c s → Counts t c s
counts t (InLeaf key c) s h = in_leaf t key c s h
counts t (Notes n id) s h = omega (arith, sum_on live_in n (λ e. record e { ids = noted e.about.description.window id t e.ids }) s.entities (λ e. refl))
counts t (Makes kind path description rules) s h =
    let new = new_entity (record { number = s.last_entity + 1; kind = kind; path = path; description = description; rules = rules }) in
    omega (arith, sum_by-append live_in s.entities (new ∷ []), sum_single live_in new)
counts t (Removes n) s h = absurd h
counts t (AddsRule n rule) s h = omega (arith, sum_on live_in n (with_rules (rule_added rule)) s.entities (λ e. refl))
counts t (DropsRule n name) s h = omega (arith, sum_on live_in n (with_rules (rule_dropped name)) s.entities (λ e. refl))
counts t (Begins n deadline) s h = omega arith
counts t (Queues n deadline operation) s h = omega arith
counts t (Drops n) s h = omega arith

-- ---- all of them

pub live_behind : (t : ℕ) (cs : List Change) (s : Space) → AreCounted t cs s → live (after_all t cs s) + sum_by ends_in cs ≡ live s + sum_by enters_in cs
live_behind t [] s h = omega arith
live_behind t (c ∷ cs) s h = omega (arith, counts t c s h.0, live_behind t cs (after t c s) h.1, sum_by-cons ends_in c cs, sum_by-cons enters_in c cs)
