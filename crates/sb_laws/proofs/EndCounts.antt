-- In one part: what a change makes live, ends and gives.
use Rattle.std.proofs.Common.{List, None, Option, Some, [], ap, arith, false, length, nat_le, refl, true, ℕ, ◌&&◌, ◌+◌, ◌==◌, ◌∙◌, ◌∷◌, ◌≡◌, ◌≤◌, Bool}
use Rattle.std.proofs.lemmas.Bool.Decides.{nat_tests}
use Rattle.std.proofs.lemmas.List.{length-append}
use Rattle.std.proofs.lemmas.List.Sums.{sum_by-append}
use Rattle.std.specs.Prelude.{find}
use Rattle.sb_laws.proofs.Lists.{changed_none, changed_sum, found_behind, found_here, sum_single}
use Rattle.sb_laws.proofs.Sameness.{numbers_equal, part_same}
use Rattle.sb_laws.specs.Counting.{one, times}
use Rattle.sb_laws.specs.Ended.{is_end, is_leaf, times_ended}
use Rattle.sb_machine.specs.Ends.{ended, ended_copy, leaf_ends}
use Rattle.sb_machine.specs.Keyed.{changed}
use Rattle.sb_machine.specs.Leaves.{copies_given, copy_in, has_number, is_deferred, leaf_after, prolonged_standing, stored}
use Rattle.sb_machine.specs.declared.change.Cause.{Cause}
use Rattle.sb_machine.specs.declared.change.LeafChange.{LeafChange}
use Rattle.sb_machine.specs.declared.change.LeafChange.TheVariants.{Closes, Ends, Enters, Holds, Opens, Passes, Prolongs, Renews, Stands, Writes}
use Rattle.sb_machine.specs.declared.change.LeafKey.{LeafKey}
use Rattle.sb_machine.specs.declared.state.Leaf.{Leaf}
use Rattle.sb_machine.specs.declared.state.Standing.TheVariants.{Held}
use Rattle.sb_machine.specs.declared.state.StoredCopy.{StoredCopy}

abbrev pub live_number : ℕ → Leaf → ℕ
live_number x leaf = times (has_number x) leaf.copies

-- 1 where a number up to the last may have been given
abbrev pub given : ℕ → ℕ → ℕ
given x last = one (nat_le x last)

pub itself : (key : LeafKey) → is_leaf key key ≡ true
itself key = rw (numbers_equal key.entity, part_same key.part) refl

ended_once : (key : LeafKey) (cause : Cause) (n x : ℕ) → times_ended key x (ended key cause n ∷ []) ≡ one (n == x)
ended_once key cause n x = sum_single (λ d. one (is_end key x d)) (ended key cause n) ∙ ap (λ (b : Bool). one (b && (n == x))) (itself key)

given_next : (x last : ℕ) → one (last + 1 == x) + given x last ≡ given x (last + 1)
given_next x last = grind (arith, nat_tests)

-- a copy changed that keeps its number
kept_number : (x n : ℕ) (g : StoredCopy → StoredCopy) → ((c : StoredCopy) → (g c).number ≡ c.number) → (cs : List StoredCopy) → times (has_number x) (changed (has_number n) (λ c. g c ∷ []) cs) ≡ times (has_number x) cs
kept_number x n g same cs = at (find (has_number n) cs) refl where
  at : (o : Option StoredCopy) → find (has_number n) cs ≡ o → times (has_number x) (changed (has_number n) (λ c. g c ∷ []) cs) ≡ times (has_number x) cs
  at None is = ap (λ (l : List StoredCopy). times (has_number x) l) (changed_none (has_number n) (λ c. g c ∷ []) cs is)
  at (Some c) is =
      let f : StoredCopy → ℕ = λ d. one (has_number x d) in
      let eq : f (g c) ≡ f c = ap (λ (m : ℕ). one (m == x)) (same c) in
      omega (arith, changed_sum f (has_number n) (λ d. g d ∷ []) c cs is, sum_single f (g c), eq)

-- a number that is live or ends is given
pub leaf_counts : (lock t x : ℕ) (key : LeafKey) (c : LeafChange) (leaf : Leaf) → live_number x (leaf_after lock t c leaf) + times_ended key x (leaf_ends key c leaf) + given x leaf.last ≤ live_number x leaf + given x (leaf_after lock t c leaf).last
leaf_counts lock t x key (Enters fresh) leaf =
    let new = stored (leaf.last + 1) t fresh in
    let f : StoredCopy → ℕ = λ d. one (has_number x d) in
    omega (arith, sum_by-append f leaf.copies (new ∷ []), sum_single f new, given_next x leaf.last)
leaf_counts lock t x key (Passes cause) leaf = omega (arith, ended_once key cause (leaf.last + 1) x, given_next x leaf.last)
leaf_counts lock t x key (Ends n settled cause) leaf = at (copy_in n leaf) refl where
  at : (o : Option StoredCopy) → copy_in n leaf ≡ o → live_number x (leaf_after lock t (Ends n settled cause) leaf) + times_ended key x (ended_copy key cause (copy_in n leaf)) + given x leaf.last ≤ live_number x leaf + given x leaf.last
  at None is =
      let same : times (has_number x) (changed (has_number n) (λ c. []) leaf.copies) ≡ times (has_number x) leaf.copies = ap (λ (l : List StoredCopy). times (has_number x) l) (changed_none (has_number n) (λ c. []) leaf.copies is) in
      let none : times_ended key x (ended_copy key cause (copy_in n leaf)) ≡ 0 = ap (λ (o : Option StoredCopy). times_ended key x (ended_copy key cause o)) is in
      omega (arith, same, none)
  at (Some c) is =
      let f : StoredCopy → ℕ = λ d. one (has_number x d) in
      let gone : times_ended key x (ended_copy key cause (copy_in n leaf)) ≡ one (c.number == x) = ap (λ (o : Option StoredCopy). times_ended key x (ended_copy key cause o)) is ∙ ended_once key cause c.number x in
      omega (arith, changed_sum f (has_number n) (λ d. []) c leaf.copies is, gone)
leaf_counts lock t x key (Holds n hold) leaf = omega (arith, kept_number x n (λ c. record c { standing = Held lock hold (is_deferred c.standing) }) (λ c. refl) leaf.copies)
leaf_counts lock t x key (Stands n settled count standing) leaf = omega (arith, kept_number x n (λ c. record c { count = count; standing = standing }) (λ c. refl) leaf.copies)
leaf_counts lock t x key (Renews n until) leaf = omega (arith, kept_number x n (λ c. record c { standing = prolonged_standing until c.standing }) (λ c. refl) leaf.copies)
leaf_counts lock t x key (Opens id until) leaf = omega arith
leaf_counts lock t x key (Closes l) leaf = omega arith
leaf_counts lock t x key (Prolongs l until) leaf = omega arith
leaf_counts lock t x key (Writes l state) leaf = omega arith

-- what ends in one part, seen from another
pub ended_elsewhere : (key other : LeafKey) (x : ℕ) (c : LeafChange) (leaf : Leaf) → is_leaf other key ≡ false → times_ended key x (leaf_ends other c leaf) ≡ 0
ended_elsewhere key other x c leaf apart = by c where
  one_away : (cause : Cause) (n : ℕ) → times_ended key x (ended other cause n ∷ []) ≡ 0
  one_away cause n = sum_single (λ d. one (is_end key x d)) (ended other cause n) ∙ ap (λ (b : Bool). one (b && (n == x))) apart

  by : (c : LeafChange) → times_ended key x (leaf_ends other c leaf) ≡ 0
  by (Enters fresh) = refl
  by (Passes cause) = one_away cause (leaf.last + 1)
  by (Ends n settled cause) = at (copy_in n leaf) where
    at : (o : Option StoredCopy) → times_ended key x (ended_copy other cause o) ≡ 0
    at None = refl
    at (Some c) = one_away cause c.number
  by (Holds n hold) = refl
  by (Stands n settled count standing) = refl
  by (Renews n until) = refl
  by (Opens id until) = refl
  by (Closes l) = refl
  by (Prolongs l until) = refl
  by (Writes l state) = refl

-- ---- how many

changed_length : {X : Type 0} (p : X → Bool) (g : X → List X) (e : X) (xs : List X) → find p xs ≡ Some e → length (changed p g xs) + 1 ≡ length xs + length (g e)
changed_length p g e [] found = absurd cc
changed_length p g e (x ∷ xs) found = at (p x) refl (λ later. changed_length p g e xs later) where
  at : (b : Bool) → p x ≡ b → (find p xs ≡ Some e → length (changed p g xs) + 1 ≡ length xs + length (g e)) → length (changed p g (x ∷ xs)) + 1 ≡ length (x ∷ xs) + length (g e)
  at true is ih =
      let same : length (g x) ≡ length (g e) = ap (λ y. length (g y)) (found_here p x e xs is found) in
      rw is (omega (arith, length-append (g x) xs, same))
  at false is ih = let rest = ih (found_behind p x xs (Some e) is found) in rw is (omega (arith, rest))

kept_length : {X : Type 0} (p : X → Bool) (g : X → X) (xs : List X) → length (changed p (λ x. g x ∷ []) xs) ≡ length xs
kept_length {X = X} p g xs = at (find p xs) refl where
  at : (o : Option X) → find p xs ≡ o → length (changed p (λ x. g x ∷ []) xs) ≡ length xs
  at None is = ap length (changed_none p (λ x. g x ∷ []) xs is)
  at (Some e) is = omega (arith, changed_length p (λ x. g x ∷ []) e xs is)

pub leaf_totals : (lock t : ℕ) (key : LeafKey) (c : LeafChange) (leaf : Leaf) → copies_given c + length leaf.copies ≡ length (leaf_after lock t c leaf).copies + length (leaf_ends key c leaf)
leaf_totals lock t key (Enters fresh) leaf = omega (arith, length-append leaf.copies (stored (leaf.last + 1) t fresh ∷ []))
leaf_totals lock t key (Passes cause) leaf = omega arith
leaf_totals lock t key (Ends n settled cause) leaf = at (copy_in n leaf) refl where
  at : (o : Option StoredCopy) → copy_in n leaf ≡ o → copies_given (Ends n settled cause) + length leaf.copies ≡ length (changed (has_number n) (λ c. []) leaf.copies) + length (ended_copy key cause (copy_in n leaf))
  at None is =
      let same : length (changed (has_number n) (λ c. []) leaf.copies) ≡ length leaf.copies = ap length (changed_none (has_number n) (λ c. []) leaf.copies is) in
      let none : length (ended_copy key cause (copy_in n leaf)) ≡ 0 = ap (λ (o : Option StoredCopy). length (ended_copy key cause o)) is in
      omega (arith, same, none)
  at (Some c) is =
      let gone : length (ended_copy key cause (copy_in n leaf)) ≡ 1 = ap (λ (o : Option StoredCopy). length (ended_copy key cause o)) is in
      omega (arith, changed_length (has_number n) (λ d. []) c leaf.copies is, gone)
leaf_totals lock t key (Holds n hold) leaf = omega (arith, kept_length (has_number n) (λ c. record c { standing = Held lock hold (is_deferred c.standing) }) leaf.copies)
leaf_totals lock t key (Stands n settled count standing) leaf = omega (arith, kept_length (has_number n) (λ c. record c { count = count; standing = standing }) leaf.copies)
leaf_totals lock t key (Renews n until) leaf = omega (arith, kept_length (has_number n) (λ c. record c { standing = prolonged_standing until c.standing }) leaf.copies)
leaf_totals lock t key (Opens id until) leaf = omega arith
leaf_totals lock t key (Closes l) leaf = omega arith
leaf_totals lock t key (Prolongs l until) leaf = omega arith
leaf_totals lock t key (Writes l state) leaf = omega arith
