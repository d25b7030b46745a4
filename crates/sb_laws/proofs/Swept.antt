-- Copies that a sweep takes up: behind it no copy is as it looked for.
use Rattle.std.proofs.Common.{Bool, List, [], false, refl, rules, subst, sym, true, ℕ, ◌&&◌, ◌+◌, ◌==◌, ◌∷◌, ◌≡◌}
use Rattle.std.specs.List.{list_any}
use Rattle.sb_laws.proofs.Eachs.{each_append, each_changed, each_found, each_settled, is_equal}
use Rattle.sb_laws.proofs.Entities.{EachLeaf, IsOrdered, LeafRises, about_with_leaf, copy_number, entities_keep, entity_number, leaf_each, stays_ordered}
use Rattle.sb_machine.specs.Changes.{after, after_all}
use Rattle.sb_machine.specs.Each.{Each}
use Rattle.sb_machine.specs.Keyed.{changed}
use Rattle.sb_machine.specs.Leaves.{has_number, leaf_after, stored}
use Rattle.sb_machine.specs.Names.{is_same_part}
use Rattle.sb_machine.specs.Namespace.{is_entity, leaf_of, with_leaf}
use Rattle.sb_machine.specs.declared.call.Part.{Part}
use Rattle.sb_machine.specs.declared.call.Part.TheVariants.{Dead, Main, Transfer}
use Rattle.sb_machine.specs.declared.change.Change.{Change}
use Rattle.sb_machine.specs.declared.change.Change.TheVariants.{AddsRule, Begins, Drops, DropsRule, InLeaf, Makes, Notes, Queues, Removes}
use Rattle.sb_machine.specs.declared.change.LeafChange.{LeafChange}
use Rattle.sb_machine.specs.declared.change.LeafChange.TheVariants.{Closes, Ends, Enters, Holds, Opens, Passes, Prolongs, Renews, Stands, Writes}
use Rattle.sb_machine.specs.declared.change.LeafKey.{LeafKey}
use Rattle.sb_machine.specs.declared.state.Entity.{Entity}
use Rattle.sb_machine.specs.declared.state.Leaf.{Leaf}
use Rattle.sb_machine.specs.declared.state.Listed.{Listed}
use Rattle.sb_machine.specs.declared.state.Space.{Space}
use Rattle.sb_machine.specs.declared.state.StoredCopy.{StoredCopy}

-- what a copy of a part is to be
abbrev pub Test : Type 0
Test = Part → StoredCopy → Bool

-- all copies of this number in this part are fine
abbrev pub AreFine : Test → LeafKey → ℕ → Space → Type 0
AreFine q key n s = Each (λ e. e.about.number ≡ key.entity → Each (λ c. c.number ≡ n → q key.part c ≡ true) (leaf_of key.part e).copies) s.entities

-- ---- changes that make no copy that isn't fine

abbrev pub IsSafe : Test → ℕ → Change → Type 0
IsSafe q t (InLeaf key (Enters fresh)) = (n : ℕ) → q key.part (stored n t fresh) ≡ true
IsSafe q t (InLeaf key (Stands n settled count standing)) = (c : StoredCopy) → q key.part (record c { count = count; standing = standing }) ≡ true
IsSafe q t (InLeaf key (Passes cause)) = Unit {0}
IsSafe q t (InLeaf key (Ends n settled cause)) = Unit {0}
IsSafe q t (InLeaf key (Closes l)) = Unit {0}
IsSafe q t (Drops n) = Unit {0}
IsSafe q t _ = ⊥

-- ---- changes that settle the copy of a number: it goes, or stands otherwise

abbrev pub settles_copy : LeafKey → ℕ → Change → Bool
settles_copy key n (InLeaf of (Ends m settled cause)) = (of.entity == key.entity) && is_same_part of.part key.part && (m == n)
settles_copy key n (InLeaf of (Stands m settled count standing)) = (of.entity == key.entity) && is_same_part of.part key.part && (m == n)
settles_copy key n _ = false

pub same_part : (a b : Part) → is_same_part a b ≡ true → a ≡ b
same_part Main Main e = refl
same_part Dead Dead e = refl
same_part Transfer Transfer e = refl
same_part Main Dead e = absurd cc
same_part Main Transfer e = absurd cc
same_part Dead Main e = absurd cc
same_part Dead Transfer e = absurd cc
same_part Transfer Main e = absurd cc
same_part Transfer Dead e = absurd cc

pub three : (a b c : Bool) → (a && b && c) ≡ true → (a ≡ true) × (b ≡ true) × (c ≡ true)
three true true c e = (refl, refl, e)
three true false c e = absurd cc
three false b c e = absurd cc

-- the other parts stay
pub leaf_of_with : (part other : Part) (leaf : Leaf) (e : Entity) → is_same_part part other ≡ false → leaf_of other (with_leaf part leaf e) ≡ leaf_of other e
leaf_of_with Main Main leaf e is = absurd cc
leaf_of_with Main Dead leaf e is = refl
leaf_of_with Main Transfer leaf e is = refl
leaf_of_with Dead Main leaf e is = refl
leaf_of_with Dead Dead leaf e is = absurd cc
leaf_of_with Dead Transfer leaf e is = refl
leaf_of_with Transfer Main leaf e is = refl
leaf_of_with Transfer Dead leaf e is = refl
leaf_of_with Transfer Transfer leaf e is = absurd cc

pub leaf_of_own : (part : Part) (leaf : Leaf) (e : Entity) → leaf_of part (with_leaf part leaf e) ≡ leaf
leaf_of_own Main leaf e = refl
leaf_of_own Dead leaf e = refl
leaf_of_own Transfer leaf e = refl

module _ (q : Test) (t : ℕ) (key : LeafKey) (n : ℕ) where
  abbrev FineIn : List StoredCopy → Type 0
  FineIn cs = Each (λ c. c.number ≡ n → q key.part c ≡ true) cs

  -- one in the place of another is fine where it passes at all
  fine_changed : (m : ℕ) (g : StoredCopy → List StoredCopy) (cs : List StoredCopy) → ((c : StoredCopy) → FineIn (g c)) → FineIn cs → FineIn (changed (has_number m) g cs)
  fine_changed m g cs does h = each_changed (λ c. c.number ≡ n → q key.part c ≡ true) (has_number m) g cs (λ c there is. does c) h

  leaf_fine : (lock : ℕ) (c : LeafChange) (leaf : Leaf) → IsSafe q t (InLeaf key c) → FineIn leaf.copies → FineIn (leaf_after lock t c leaf).copies
  leaf_fine lock (Enters fresh) leaf safe h = each_append (λ c. c.number ≡ n → q key.part c ≡ true) leaf.copies (stored (leaf.last + 1) t fresh ∷ []) h ((λ same. safe (leaf.last + 1)), tt)
  leaf_fine lock (Passes cause) leaf safe h = h
  leaf_fine lock (Ends m settled cause) leaf safe h = fine_changed m (λ c. []) leaf.copies (λ c. tt) h
  leaf_fine lock (Stands m settled count standing) leaf safe h = fine_changed m (λ c. record c { count = count; standing = standing } ∷ []) leaf.copies (λ c. ((λ same. safe c), tt)) h
  leaf_fine lock (Closes l) leaf safe h = h
  leaf_fine lock (Holds m hold) leaf safe h = absurd safe
  leaf_fine lock (Renews m until) leaf safe h = absurd safe
  leaf_fine lock (Opens id until) leaf safe h = absurd safe
  leaf_fine lock (Prolongs l until) leaf safe h = absurd safe
  leaf_fine lock (Writes l state) leaf safe h = absurd safe

  fine_kept : (c : Change) (s : Space) → IsSafe q t c → AreFine q key n s → AreFine q key n (after t c s)
  fine_kept (InLeaf of c) s safe h = entities_keep (λ e. e.about.number ≡ key.entity → FineIn (leaf_of key.part e).copies) t (InLeaf of c) s (λ e there is same. at e is (subst (λ (about : Listed). about.number ≡ key.entity) (about_with_leaf of.part (leaf_after (s.last_lock + 1) t c (leaf_of of.part e)) e) same)) h where
    at : (e : Entity) → (e.about.number ≡ key.entity → FineIn (leaf_of key.part e).copies) → e.about.number ≡ key.entity → FineIn (leaf_of key.part (with_leaf of.part (leaf_after (s.last_lock + 1) t c (leaf_of of.part e)) e)).copies
    at e is same = go (is_same_part of.part key.part) refl where
      go : (b : Bool) → is_same_part of.part key.part ≡ b → FineIn (leaf_of key.part (with_leaf of.part (leaf_after (s.last_lock + 1) t c (leaf_of of.part e)) e)).copies
      go false other = subst (λ (leaf : Leaf). FineIn leaf.copies) (sym (leaf_of_with of.part key.part (leaf_after (s.last_lock + 1) t c (leaf_of of.part e)) e other)) (is same)
      go true own = here of.part (same_part of.part key.part own) safe where
        safe_at : (p : Part) → p ≡ key.part → IsSafe q t (InLeaf (record { entity = of.entity; part = p }) c) → IsSafe q t (InLeaf key c)
        safe_at p same' safe = moved c (subst (λ (x : Part). IsSafe q t (InLeaf (record { entity = of.entity; part = x }) c)) same' safe) where
          moved : (d : LeafChange) → IsSafe q t (InLeaf (record { entity = of.entity; part = key.part }) d) → IsSafe q t (InLeaf key d)
          moved (Enters fresh) h = h
          moved (Passes cause) h = h
          moved (Ends m settled cause) h = h
          moved (Stands m settled count standing) h = h
          moved (Closes l) h = h
          moved (Holds m hold) h = absurd h
          moved (Renews m until) h = absurd h
          moved (Opens id until) h = absurd h
          moved (Prolongs l until) h = absurd h
          moved (Writes l state) h = absurd h

        here : (p : Part) → p ≡ key.part → IsSafe q t (InLeaf of c) → FineIn (leaf_of key.part (with_leaf of.part (leaf_after (s.last_lock + 1) t c (leaf_of of.part e)) e)).copies
        here p own' safe =
            let good : IsSafe q t (InLeaf key c) = safe_at of.part (same_part of.part key.part own) safe in
            subst (λ (p : Part). FineIn (leaf_of key.part (with_leaf p (leaf_after (s.last_lock + 1) t c (leaf_of p e)) e)).copies) (sym (same_part of.part key.part own))
            (subst (λ (leaf : Leaf). FineIn leaf.copies) (sym (leaf_of_own key.part (leaf_after (s.last_lock + 1) t c (leaf_of key.part e)) e)) (leaf_fine (s.last_lock + 1) c (leaf_of key.part e) good (is same)))
  fine_kept (Drops m) s safe h = h
  fine_kept (Notes m id) s safe h = absurd safe
  fine_kept (Makes kind path description rules) s safe h = absurd safe
  fine_kept (Removes m) s safe h = absurd safe
  fine_kept (AddsRule m rule) s safe h = absurd safe
  fine_kept (DropsRule m name) s safe h = absurd safe
  fine_kept (Begins m deadline) s safe h = absurd safe
  fine_kept (Queues m deadline operation) s safe h = absurd safe

  -- where numbers rise, the copy that is settled was the only one of its number
  settled_in_leaf : (part : Part) (m : ℕ) (g : StoredCopy → List StoredCopy) (leaf : Leaf) → m ≡ n → LeafRises part leaf → ((c : StoredCopy) → FineIn (g c)) → FineIn (changed (has_number m) g leaf.copies)
  settled_in_leaf part m g leaf is rises does =
      subst (λ (k : ℕ). FineIn (changed (has_number k) g leaf.copies)) (sym is) (each_settled (λ c. q key.part c ≡ true) copy_number n g 0 leaf.last leaf.copies rises (λ c there. does c))

  leaf_settled : (lock : ℕ) (c : LeafChange) (leaf : Leaf) → settles_copy key n (InLeaf key c) ≡ true → IsSafe q t (InLeaf key c) → LeafRises key.part leaf → FineIn (leaf_after lock t c leaf).copies
  leaf_settled lock (Ends m settled cause) leaf is safe rises = settled_in_leaf key.part m (λ c. []) leaf (is_equal m n (three (key.entity == key.entity) (is_same_part key.part key.part) (m == n) is).2) rises (λ c. tt)
  leaf_settled lock (Stands m settled count standing) leaf is safe rises =
      settled_in_leaf key.part m (λ c. record c { count = count; standing = standing } ∷ []) leaf (is_equal m n (three (key.entity == key.entity) (is_same_part key.part key.part) (m == n) is).2) rises (λ c. ((λ same. safe c), tt))
  leaf_settled lock (Enters fresh) leaf is safe rises = absurd cc
  leaf_settled lock (Passes cause) leaf is safe rises = absurd cc
  leaf_settled lock (Closes l) leaf is safe rises = absurd cc
  leaf_settled lock (Holds m hold) leaf is safe rises = absurd cc
  leaf_settled lock (Renews m until) leaf is safe rises = absurd cc
  leaf_settled lock (Opens id until) leaf is safe rises = absurd cc
  leaf_settled lock (Prolongs l until) leaf is safe rises = absurd cc
  leaf_settled lock (Writes l state) leaf is safe rises = absurd cc

  pub settled_at : (c : LeafChange) (s : Space) → IsOrdered s → settles_copy key n (InLeaf key c) ≡ true → IsSafe q t (InLeaf key c) → AreFine q key n (after t (InLeaf key c) s)
  settled_at c s ordered is safe = each_settled (λ e. FineIn (leaf_of key.part e).copies) entity_number key.entity (λ e. with_leaf key.part (leaf_after (s.last_lock + 1) t c (leaf_of key.part e)) e ∷ []) 0 s.last_entity s.entities ordered.entities
      (λ e there. (
        (λ own. subst (λ (leaf : Leaf). FineIn leaf.copies) (sym (leaf_of_own key.part (leaf_after (s.last_lock + 1) t c (leaf_of key.part e)) e))
            (leaf_settled (s.last_lock + 1) c (leaf_of key.part e) is safe (leaf_each LeafRises key.part e (each_found (EachLeaf LeafRises) (is_entity key.entity) e s.entities ordered.copies there)))),
        tt,
      ))

  -- a change that settles the copy, of whatever part it is said
  fine_settled : (c : Change) (s : Space) → IsOrdered s → settles_copy key n c ≡ true → IsSafe q t c → AreFine q key n (after t c s)
  fine_settled (InLeaf of c) s ordered is safe =
      let here : of ≡ key = same_key c is in
      subst (λ (k : LeafKey). settles_copy key n (InLeaf k c) ≡ true → IsSafe q t (InLeaf k c) → AreFine q key n (after t (InLeaf k c) s)) (sym here) (settled_at c s ordered) is safe
    where
      keys : (e f : ℕ) (p r : Part) → e ≡ f → p ≡ r → ◌≡◌ {A = LeafKey} (record { entity = e; part = p }) (record { entity = f; part = r })
      keys e f p r same own = cc

      by : (b : Bool) → ((of.entity == key.entity) && is_same_part of.part key.part && b) ≡ true → of ≡ key
      by b is = let so = three (of.entity == key.entity) (is_same_part of.part key.part) b is in keys of.entity key.entity of.part key.part (is_equal of.entity key.entity so.0) (same_part of.part key.part so.1)

      same_key : (c : LeafChange) → settles_copy key n (InLeaf of c) ≡ true → of ≡ key
      same_key (Ends m settled cause) is = by (m == n) is
      same_key (Stands m settled count standing) is = by (m == n) is
      same_key (Enters fresh) is = absurd cc
      same_key (Passes cause) is = absurd cc
      same_key (Closes l) is = absurd cc
      same_key (Holds m hold) is = absurd cc
      same_key (Renews m until) is = absurd cc
      same_key (Opens id until) is = absurd cc
      same_key (Prolongs l until) is = absurd cc
      same_key (Writes l state) is = absurd cc
  fine_settled _ s ordered is safe = absurd cc

  -- What is settled by none of the changes was fine before: then all is fine behind them.
  pub fine_behind : (cs : List Change) (s : Space) → IsOrdered s → Each (IsSafe q t) cs → (list_any (settles_copy key n) cs ≡ false → AreFine q key n s) → AreFine q key n (after_all t cs s)
  fine_behind [] s ordered safe h = h refl
  fine_behind (c ∷ cs) s ordered safe h = fine_behind cs (after t c s) (stays_ordered t c s ordered) safe.1 (at (settles_copy key n c) refl) where
    at : (b : Bool) → settles_copy key n c ≡ b → list_any (settles_copy key n) cs ≡ false → AreFine q key n (after t c s)
    at true is none = fine_settled c s ordered is safe.0
    at false is none = fine_kept c s safe.0 (h (rw is none))
