-- Numbers of which no two are the same: by how often each is there, in any order.
use Rattle.std.proofs.Common.{◌≡◌, ◌≢◌, ℕ, suc, ◌+◌, ◌<◌, ◌≤◌, refl, sym, ap, ◌∙◌, Bool, true, false, not, ◌&&◌, ◌==◌, nat_lt, nat_le, List, [], ◌∷◌, ◌++◌, get_or, sum_by, subst, arith}
use Rattle.std.proofs.lemmas.Bool.Decides.{nat_tests, same_from_decides}
use Rattle.std.proofs.lemmas.List.Folds.{list_all-append}
use Rattle.std.proofs.lemmas.List.Sorted.{sum_by-IsPermutation}
use Rattle.std.proofs.lemmas.List.Sums.{sum_by-cons}
use Rattle.std.specs.List.{list_all}
use Rattle.std.specs.List.Sorted.{IsPermutation, IsSorted}
use Rattle.std.specs.Ordering.{nat_cmp, is_lt}
use Rattle.sb_machine.specs.Each.{Each, Pairs}
use Rattle.sb_judge.specs.Orders.{is_on, is_on_from}
use Rattle.sb_judge.specs.Verdicts.{differ, pairs}

abbrev one_if : Bool → ℕ
one_if true = 1
one_if false = 0

-- ---- tests of each

-- how many don't pass
missed : {X : Type 0} → (X → Bool) → List X → ℕ
missed p xs = sum_by (λ x. one_if (not (p x))) xs

missed_more : {X : Type 0} (p : X → Bool) (x : X) (xs : List X) → missed p (x ∷ xs) ≡ one_if (not (p x)) + missed p xs
unfolding missed
missed_more p x xs = sum_by-cons (λ y. one_if (not (p y))) x xs

not_none : (n : ℕ) → false ≡ (1 + n == 0)
not_none n = grind (arith, nat_tests)

all_none : {X : Type 0} (p : X → Bool) (xs : List X) → list_all p xs ≡ (missed p xs == 0)
unfolding missed
all_none p [] = refl
all_none p (x ∷ xs) = at (p x) refl (all_none p xs) (missed_more p x xs) where
  at : (b : Bool) → p x ≡ b → list_all p xs ≡ (missed p xs == 0) → missed p (x ∷ xs) ≡ one_if (not (p x)) + missed p xs → list_all p (x ∷ xs) ≡ (missed p (x ∷ xs) == 0)
  at true e ih sums =
      let none : one_if (not (p x)) ≡ 0 = ap (λ b. one_if (not b)) e in
      let same : missed p (x ∷ xs) ≡ missed p xs = omega (arith, sums, none) in
      ap (λ b. b && list_all p xs) e ∙ ih ∙ sym (ap (λ n. n == 0) same)
  at false e ih sums =
      let one : one_if (not (p x)) ≡ 1 = ap (λ b. one_if (not b)) e in
      let same : missed p (x ∷ xs) ≡ 1 + missed p xs = omega (arith, sums, one) in
      ap (λ b. b && list_all p xs) e ∙ not_none (missed p xs) ∙ sym (ap (λ n. n == 0) same)

-- tests of each hold in any order
pub all_moved : {X : Type 0} (p : X → Bool) (xs ys : List X) → IsPermutation xs ys → list_all p ys ≡ list_all p xs
unfolding missed
all_moved p xs ys moves = all_none p ys ∙ ap (λ n. n == 0) (sum_by-IsPermutation (λ x. one_if (not (p x))) xs ys moves) ∙ sym (all_none p xs)

pub all_of_both : (last : ℕ) (xs ys : List ℕ) → list_all (λ l. nat_lt 0 l && nat_le l last) (xs ++ ys) ≡ (list_all (λ l. nat_lt 0 l && nat_le l last) xs && list_all (λ l. nat_lt 0 l && nat_le l last) ys)
all_of_both last xs ys = list_all-append (λ l. nat_lt 0 l && nat_le l last) xs ys

-- ---- none is there twice

-- how often a number is there
times : ℕ → List ℕ → ℕ
times n xs = sum_by (λ x. one_if (x == n)) xs

more : (n x : ℕ) (xs : List ℕ) → times n (x ∷ xs) ≡ one_if (x == n) + times n xs
unfolding times
more n x xs = sum_by-cons (λ y. one_if (y == n)) x xs

none_of : (n : ℕ) (xs : List ℕ) → Each (λ x. n ≢ x) xs → times n xs ≡ 0
unfolding times
none_of n [] h = refl
none_of n (x ∷ xs) h = at (x == n) refl (none_of n xs h.1) where
  at : (b : Bool) → (x == n) ≡ b → times n xs ≡ 0 → times n (x ∷ xs) ≡ 0
  at true e ih = let same : n ≡ x = grind (arith, nat_tests) in absurd (h.0 same)
  at false e ih = let one : one_if (x == n) ≡ 0 = ap one_if e in omega (arith, ih, one, more n x xs)

each_other : (n : ℕ) (xs : List ℕ) → times n xs ≡ 0 → Each (λ x. n ≢ x) xs
each_other n [] e = tt
each_other n (x ∷ xs) e = at (x == n) refl (each_other n xs) where
  at : (b : Bool) → (x == n) ≡ b → (times n xs ≡ 0 → Each (λ y. n ≢ y) xs) → Each (λ y. n ≢ y) (x ∷ xs)
  at true is ih = let one : one_if (x == n) ≡ 1 = ap one_if is in absurd (omega (arith, e, one, more n x xs))
  at false is ih = let one : one_if (x == n) ≡ 0 = ap one_if is in ((λ same. off x n is same), ih (omega (arith, e, one, more n x xs))) where
    off : (x n : ℕ) → (x == n) ≡ false → n ≡ x → ⊥
    off x n is same = grind (arith, nat_tests)

once : (n : ℕ) (xs : List ℕ) → Pairs (λ a b. a ≢ b) xs → times n xs ≤ 1
unfolding times
once n [] h = omega arith
once n (x ∷ xs) h = at (x == n) refl (once n xs h.1) where
  at : (b : Bool) → (x == n) ≡ b → times n xs ≤ 1 → times n (x ∷ xs) ≤ 1
  at true e ih =
      let same : x ≡ n = grind (arith, nat_tests) in
      let none : times n xs ≡ 0 = none_of n xs (subst (λ (m : ℕ). Each (λ y. m ≢ y) xs) same h.0) in
      let one : one_if (x == n) ≡ 1 = ap one_if e in
      omega (arith, none, one, more n x xs)
  at false e ih = let one : one_if (x == n) ≡ 0 = ap one_if e in omega (arith, ih, one, more n x xs)

self : (x : ℕ) → (x == x) ≡ true
self x = grind (arith, nat_tests)

differ_from : (xs : List ℕ) → ((n : ℕ) → times n xs ≤ 1) → Pairs (λ a b. a ≢ b) xs
differ_from [] h = tt
differ_from (x ∷ xs) h =
    let one : one_if (x == x) ≡ 1 = ap one_if (self x) in
    (each_other x xs (omega (arith, h x, one, more x x xs)), differ_from xs (λ n. omega (arith, h n, more n x xs)))

same_times : (n : ℕ) (xs ys : List ℕ) → IsPermutation xs ys → times n ys ≡ times n xs
unfolding times
same_times n xs ys p = sum_by-IsPermutation (λ x. one_if (x == n)) xs ys p

moved : (xs ys : List ℕ) → IsPermutation xs ys → Pairs (λ a b. a ≢ b) xs → Pairs (λ a b. a ≢ b) ys
moved xs ys p h = differ_from ys (λ n. omega (arith, once n xs h, same_times n xs ys p))

back : (xs ys : List ℕ) → IsPermutation xs ys → Pairs (λ a b. a ≢ b) ys → Pairs (λ a b. a ≢ b) xs
back xs ys p h = differ_from xs (λ n. omega (arith, once n ys h, same_times n xs ys p))

-- ---- in order

rest_sorted : (x : ℕ) (xs : List ℕ) → IsSorted nat_cmp (x ∷ xs) → IsSorted nat_cmp xs
rest_sorted x xs s k d low high =
    let next : is_lt (nat_cmp (get_or (x ∷ xs) (suc k + 1) d) (get_or xs k d)) ≡ false = s (suc k) d (omega arith) (omega (arith, high)) in
    let place : suc k + 1 ≡ suc (k + 1) = omega arith in
    rw place at next

no_less : (x y : ℕ) → is_lt (nat_cmp y x) ≡ false → x ≤ y
no_less x y e = at (nat_lt y x) refl where
  at : (b : Bool) → nat_lt y x ≡ b → x ≤ y
  at true is = let bad : true ≡ false = rw is at e in absurd cc
  at false is = grind (arith, nat_tests)

less_of : (x y : ℕ) → x ≤ y → x ≢ y → nat_lt x y ≡ true
less_of x y le off = at (nat_lt x y) refl where
  at : (b : Bool) → nat_lt x y ≡ b → nat_lt x y ≡ true
  at true is = is
  at false is = let same : x ≡ y = grind (arith, nat_tests) in absurd (off same)

on_from : (x : ℕ) (xs : List ℕ) → IsSorted nat_cmp (x ∷ xs) → Pairs (λ a b. a ≢ b) (x ∷ xs) → is_on_from (λ a b. nat_lt a b) x xs ≡ true
on_from x [] s h = refl
on_from x (y ∷ ys) s h =
    rw (less_of x y (no_less x y (s 0 x (omega arith) (omega arith))) h.0.0) (on_from y ys (rest_sorted x (y ∷ ys) s) h.1)

strict_on : (xs : List ℕ) → IsSorted nat_cmp xs → Pairs (λ a b. a ≢ b) xs → is_on (λ a b. nat_lt a b) xs ≡ true
strict_on [] s h = refl
strict_on (x ∷ xs) s h = on_from x xs s h

above : (x y : ℕ) (ys : List ℕ) → x < y → is_on_from (λ a b. nat_lt a b) y ys ≡ true → Each (λ z. x ≢ z) ys
above x y [] lt e = tt
above x y (z ∷ zs) lt e = at (nat_lt y z) refl (above x z zs) where
  at : (b : Bool) → nat_lt y z ≡ b → (x < z → is_on_from (λ a b. nat_lt a b) z zs ≡ true → Each (λ w. x ≢ w) zs) → Each (λ w. x ≢ w) (z ∷ zs)
  at false is ih = let bad : false ≡ true = rw is at e in absurd cc
  at true is ih =
      let rest : is_on_from (λ a b. nat_lt a b) z zs ≡ true = rw is at e in
      let next : y < z = grind (arith, nat_tests) in
      let far : x < z = omega (arith, lt, next) in
      ((λ same. omega (arith, same, far)), ih far rest)

other_above : (x : ℕ) (xs : List ℕ) → is_on_from (λ a b. nat_lt a b) x xs ≡ true → Each (λ y. x ≢ y) xs
other_above x [] e = tt
other_above x (y ∷ ys) e = at (nat_lt x y) refl where
  at : (b : Bool) → nat_lt x y ≡ b → Each (λ z. x ≢ z) (y ∷ ys)
  at false is = let bad : false ≡ true = rw is at e in absurd cc
  at true is =
      let rest : is_on_from (λ a b. nat_lt a b) y ys ≡ true = rw is at e in
      let lt : x < y = grind (arith, nat_tests) in
      ((λ same. omega (arith, same, lt)), above x y ys lt rest)

apart_from : (x : ℕ) (xs : List ℕ) → is_on_from (λ a b. nat_lt a b) x xs ≡ true → Pairs (λ a b. a ≢ b) (x ∷ xs)
apart_from x [] e = (tt, tt)
apart_from x (y ∷ ys) e = at (nat_lt x y) refl (apart_from y ys) where
  at : (b : Bool) → nat_lt x y ≡ b → (is_on_from (λ a b. nat_lt a b) y ys ≡ true → Pairs (λ a b. a ≢ b) (y ∷ ys)) → Pairs (λ a b. a ≢ b) (x ∷ y ∷ ys)
  at false is ih = let bad : false ≡ true = rw is at e in absurd cc
  at true is ih = let rest : is_on_from (λ a b. nat_lt a b) y ys ≡ true = rw is at e in (other_above x (y ∷ ys) e, ih rest)

apart : (xs : List ℕ) → is_on (λ a b. nat_lt a b) xs ≡ true → Pairs (λ a b. a ≢ b) xs
apart [] e = tt
apart (x ∷ xs) e = apart_from x xs e

-- sorted, each is below the next exactly where no two are the same
pub strict : (xs ys : List ℕ) → IsPermutation xs ys → IsSorted nat_cmp ys → is_on (λ a b. nat_lt a b) ys ≡ (pairs xs differ).0
strict xs ys p s =
    same_from_decides (is_on (λ a b. nat_lt a b) ys) (pairs xs differ).0
    ((λ e. back xs ys p (apart ys e)), (λ h. strict_on ys s (moved xs ys p h)))
    (pairs xs differ).1
