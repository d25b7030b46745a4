-- How the counts of numbers given and of live copies grow with each change.
use Rattle.std.proofs.Common.{Bool, List, None, Option, Some, [], ap, arith, false, length, not, refl, rules, true, ℕ, ◌++◌, ◌+◌, ◌∷◌, ◌≡◌, ◌≤◌}
use Rattle.std.proofs.lemmas.List.{length-append}
use Rattle.std.proofs.lemmas.List.Filters.{sum_by-filter_both}
use Rattle.std.proofs.lemmas.List.Sums.{sum_by-append, sum_by-cons}
use Rattle.std.specs.Prelude.{find, sum_by}
use Rattle.sb_laws.proofs.Lists.{changed_none, changed_sum, found_behind, sum_single}
use Rattle.sb_laws.proofs.Rows.{found}
use Rattle.sb_machine.specs.Changes.{after, after_all, noted, numbers_given, numbers_in, rule_added, rule_dropped, with_rules}
use Rattle.sb_machine.specs.Keyed.{changed}
use Rattle.sb_machine.specs.Leaves.{copies_given, copy_in, has_number, is_deferred, leaf_after, prolonged_standing, stored}
use Rattle.sb_machine.specs.Namespace.{entity_of, is_entity, leaf_of, live, live_in, made, made_in, new_entity, with_leaf}
use Rattle.sb_machine.specs.declared.call.Part.{Part}
use Rattle.sb_machine.specs.declared.call.Part.TheVariants.{Dead, Main, Transfer}
use Rattle.sb_machine.specs.declared.change.Cause.{Cause}
use Rattle.sb_machine.specs.declared.change.Change.{Change}
use Rattle.sb_machine.specs.declared.change.Change.TheVariants.{AddsRule, Begins, Drops, DropsRule, InLeaf, Makes, Notes, Queues, Removes}
use Rattle.sb_machine.specs.declared.change.LeafChange.{LeafChange}
use Rattle.sb_machine.specs.declared.change.LeafChange.TheVariants.{Closes, Ends, Enters, Holds, Opens, Passes, Prolongs, Renews, Stands, Writes}
use Rattle.sb_machine.specs.declared.change.LeafKey.{LeafKey}
use Rattle.sb_machine.specs.declared.state.Entity.{Entity}
use Rattle.sb_machine.specs.declared.state.Leaf.{Leaf}
use Rattle.sb_machine.specs.declared.state.Space.{Space}
use Rattle.sb_machine.specs.declared.state.Standing.TheVariants.{Held}
use Rattle.sb_machine.specs.declared.state.StoredCopy.{StoredCopy}

pub leaf_last : (lock t : ℕ) (c : LeafChange) (leaf : Leaf) → (leaf_after lock t c leaf).last ≡ leaf.last + copies_given c
leaf_last lock t (Enters fresh) leaf = refl
leaf_last lock t (Passes cause) leaf = refl
leaf_last lock t (Ends n by_settlement cause) leaf = omega arith
leaf_last lock t (Holds n hold) leaf = omega arith
leaf_last lock t (Stands n by_settlement count standing) leaf = omega arith
leaf_last lock t (Renews n until) leaf = omega arith
leaf_last lock t (Opens id until) leaf = omega arith
leaf_last lock t (Closes l) leaf = omega arith
leaf_last lock t (Prolongs l until) leaf = omega arith
leaf_last lock t (Writes l state) leaf = omega arith

pub shorter_changed : {X : Type 0} (p : X → Bool) (g : X → List X) (xs : List X) → ((x : X) → length (g x) ≤ 1) → length (changed p g xs) ≤ length xs
shorter_changed p g [] few = omega arith
shorter_changed p g (x ∷ xs) few = at (p x) refl (shorter_changed p g xs few) where
  at : (b : Bool) → p x ≡ b → length (changed p g xs) ≤ length xs → length (changed p g (x ∷ xs)) ≤ length (x ∷ xs)
  at true is ih = rw is (omega (arith, length-append (g x) xs, few x))
  at false is ih = rw is (omega (arith, ih))

leaf_live : (lock t : ℕ) (c : LeafChange) (leaf : Leaf) → length (leaf_after lock t c leaf).copies ≤ length leaf.copies + copies_given c
leaf_live lock t (Enters fresh) leaf = omega (arith, length-append leaf.copies (stored (leaf.last + 1) t fresh ∷ []))
leaf_live lock t (Passes cause) leaf = omega arith
leaf_live lock t (Ends n by_settlement cause) leaf = omega (arith, shorter_changed (has_number n) (λ c. []) leaf.copies (λ c. omega arith))
leaf_live lock t (Holds n hold) leaf = omega (arith, shorter_changed (has_number n) (λ c. record c { standing = Held lock hold (is_deferred c.standing) } ∷ []) leaf.copies (λ c. omega arith))
leaf_live lock t (Stands n by_settlement count standing) leaf = omega (arith, shorter_changed (has_number n) (λ c. record c { count = count; standing = standing } ∷ []) leaf.copies (λ c. omega arith))
leaf_live lock t (Renews n until) leaf = omega (arith, shorter_changed (has_number n) (λ c. record c { standing = prolonged_standing until c.standing } ∷ []) leaf.copies (λ c. omega arith))
leaf_live lock t (Opens id until) leaf = omega arith
leaf_live lock t (Closes l) leaf = omega arith
leaf_live lock t (Prolongs l until) leaf = omega arith
leaf_live lock t (Writes l state) leaf = omega arith

made_with : (part : Part) (leaf : Leaf) (e : Entity) → made_in (with_leaf part leaf e) + (leaf_of part e).last ≡ made_in e + leaf.last
made_with Main leaf e = omega arith
made_with Dead leaf e = omega arith
made_with Transfer leaf e = omega arith

live_with : (part : Part) (leaf : Leaf) (e : Entity) → live_in (with_leaf part leaf e) + length (leaf_of part e).copies ≡ live_in e + length leaf.copies
live_with Main leaf e = omega arith
live_with Dead leaf e = omega arith
live_with Transfer leaf e = omega arith

-- ---- a change in a part

abbrev moved : LeafKey → ℕ → ℕ → LeafChange → Entity → Entity
moved key lock t c e = with_leaf key.part (leaf_after lock t c (leaf_of key.part e)) e

pub made_at : (t : ℕ) (key : LeafKey) (c : LeafChange) (s : Space) (e : Entity) → entity_of key.entity s ≡ Some e → made (after t (InLeaf key c) s) ≡ made s + copies_given c
made_at t key c s e there =
    let new = leaf_after (s.last_lock + 1) t c (leaf_of key.part e) in
    omega (arith, changed_sum made_in (is_entity key.entity) (λ d. moved key (s.last_lock + 1) t c d ∷ []) e s.entities there, sum_single made_in (moved key (s.last_lock + 1) t c e), made_with key.part new e, leaf_last (s.last_lock + 1) t c (leaf_of key.part e))

pub live_at : (t : ℕ) (key : LeafKey) (c : LeafChange) (s : Space) (e : Entity) → entity_of key.entity s ≡ Some e
    → live (after t (InLeaf key c) s) + length (leaf_of key.part e).copies ≡ live s + length (leaf_after (s.last_lock + 1) t c (leaf_of key.part e)).copies
live_at t key c s e there =
    let new = leaf_after (s.last_lock + 1) t c (leaf_of key.part e) in
    omega (arith, changed_sum live_in (is_entity key.entity) (λ d. moved key (s.last_lock + 1) t c d ∷ []) e s.entities there, sum_single live_in (moved key (s.last_lock + 1) t c e), live_with key.part new e)

pub nowhere : (t : ℕ) (key : LeafKey) (c : LeafChange) (s : Space) → entity_of key.entity s ≡ None → (after t (InLeaf key c) s).entities ≡ s.entities
nowhere t key c s none = changed_none (is_entity key.entity) (λ d. moved key (s.last_lock + 1) t c d ∷ []) s.entities none

-- a copy that is there and ends lives no more
pub dead_at : (t : ℕ) (key : LeafKey) (n : ℕ) (by_settlement : Bool) (cause : Cause) (s : Space) (e : Entity) (c : StoredCopy) → entity_of key.entity s ≡ Some e → copy_in n (leaf_of key.part e) ≡ Some c
    → made s + live (after t (InLeaf key (Ends n by_settlement cause)) s) + 1 ≡ made (after t (InLeaf key (Ends n by_settlement cause)) s) + live s
dead_at t key n by_settlement cause s e c there found =
    omega (arith, made_at t key (Ends n by_settlement cause) s e there, live_at t key (Ends n by_settlement cause) s e there, one_less (leaf_of key.part e).copies found) where
      one_less : (cs : List StoredCopy) → find (has_number n) cs ≡ Some c → length (changed (has_number n) (λ d. []) cs) + 1 ≡ length cs
      one_less [] found = absurd cc
      one_less (d ∷ ds) found = at (has_number n d) refl (one_less ds) where
        at : (b : Bool) → has_number n d ≡ b → (find (has_number n) ds ≡ Some c → length (changed (has_number n) (λ d. []) ds) + 1 ≡ length ds) → length (changed (has_number n) (λ d. []) (d ∷ ds)) + 1 ≡ length (d ∷ ds)
        at true is ih = rw is (omega arith)
        at false is ih = rw is (omega (arith, ih (found_behind (has_number n) d ds (Some c) is found)))

-- ---- any change

pub record Grows (t : ℕ) (cs : List Change) (s : Space) : Type 0 where
  pub made_more : made s ≤ made (after_all t cs s)
  pub made_most : made (after_all t cs s) ≤ made s + numbers_given cs
  pub dead_more : made s + live (after_all t cs s) ≤ made (after_all t cs s) + live s

pub sum_on : (f : Entity → ℕ) (n : ℕ) (g : Entity → Entity) (es : List Entity) → ((e : Entity) → f (g e) ≡ f e) → sum_by f (changed (is_entity n) (λ e. g e ∷ []) es) ≡ sum_by f es
sum_on f n g es same = at (find (is_entity n) es) refl where
  at : (o : Option Entity) → find (is_entity n) es ≡ o → sum_by f (changed (is_entity n) (λ e. g e ∷ []) es) ≡ sum_by f es
  at None is = ap (λ (l : List Entity). sum_by f l) (changed_none (is_entity n) (λ e. g e ∷ []) es is)
  at (Some e) is = omega (arith, changed_sum f (is_entity n) (λ e. g e ∷ []) e es is, sum_single f (g e), same e)

pub grows : (t : ℕ) (c : Change) (s : Space) → (made s ≤ made (after t c s)) × (made (after t c s) ≤ made s + numbers_in c) × (made s + live (after t c s) ≤ made (after t c s) + live s)
grows t (InLeaf key c) s = at (entity_of key.entity s) refl where
  at : (o : Option Entity) → entity_of key.entity s ≡ o → (made s ≤ made (after t (InLeaf key c) s)) × (made (after t (InLeaf key c) s) ≤ made s + copies_given c) × (made s + live (after t (InLeaf key c) s) ≤ made (after t (InLeaf key c) s) + live s)
  at None is =
      let same_made = ap (λ (l : List Entity). sum_by made_in l) (nowhere t key c s is) in
      let same_live = ap (λ (l : List Entity). sum_by live_in l) (nowhere t key c s is) in
      (omega (arith, same_made), omega (arith, same_made), omega (arith, same_made, same_live))
  at (Some e) is =
      let m = made_at t key c s e is in
      (omega (arith, m), omega (arith, m), omega (arith, m, live_at t key c s e is, leaf_live (s.last_lock + 1) t c (leaf_of key.part e)))
grows t (Notes n id) s =
    let m = sum_on made_in n (λ e. record e { ids = noted e.about.description.window id t e.ids }) s.entities (λ e. refl) in
    let l = sum_on live_in n (λ e. record e { ids = noted e.about.description.window id t e.ids }) s.entities (λ e. refl) in
    (omega (arith, m), omega (arith, m), omega (arith, m, l))
grows t (Makes kind path description rules) s =
    let new = new_entity (record { number = s.last_entity + 1; kind = kind; path = path; description = description; rules = rules }) in
    let m : sum_by made_in (s.entities ++ new ∷ []) ≡ sum_by made_in s.entities + 0 = omega (arith, sum_by-append made_in s.entities (new ∷ []), sum_single made_in new) in
    let l : sum_by live_in (s.entities ++ new ∷ []) ≡ sum_by live_in s.entities + 0 = omega (arith, sum_by-append live_in s.entities (new ∷ []), sum_single live_in new) in
    (omega (arith, m), omega (arith, m), omega (arith, m, l))
grows t (Removes n) s =
    let m = sum_by-filter_both (is_entity n) (λ e. not (is_entity n e)) (λ e. refl) made_in s.entities in
    let l = sum_by-filter_both (is_entity n) (λ e. not (is_entity n e)) (λ e. refl) live_in s.entities in
    (omega (arith, m), omega (arith, m), omega (arith, m, l))
grows t (AddsRule n rule) s =
    let m = sum_on made_in n (with_rules (rule_added rule)) s.entities (λ e. refl) in
    let l = sum_on live_in n (with_rules (rule_added rule)) s.entities (λ e. refl) in
    (omega (arith, m), omega (arith, m), omega (arith, m, l))
grows t (DropsRule n name) s =
    let m = sum_on made_in n (with_rules (rule_dropped name)) s.entities (λ e. refl) in
    let l = sum_on live_in n (with_rules (rule_dropped name)) s.entities (λ e. refl) in
    (omega (arith, m), omega (arith, m), omega (arith, m, l))
grows t (Begins n deadline) s = (omega arith, omega arith, omega arith)
grows t (Queues n deadline operation) s = (omega arith, omega arith, omega arith)
grows t (Drops n) s = (omega arith, omega arith, omega arith)

pub all_grow : (t : ℕ) (cs : List Change) (s : Space) → Grows t cs s
all_grow t [] s = record { made_more = omega arith; made_most = omega arith; dead_more = omega arith }
all_grow t (c ∷ cs) s =
    let here = grows t c s in
    let rest = all_grow t cs (after t c s) in
    record {
      made_more = omega (arith, here.0, rest.made_more);
      made_most = omega (arith, here.1, rest.made_most, sum_by-cons numbers_in c cs);
      dead_more = omega (arith, here.2, rest.dead_more);
    }
