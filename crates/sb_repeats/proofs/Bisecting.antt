-- Places in lists that are in order, and the order of texts.
use Rattle.std.proofs.Common.{◌≡◌, ℕ, zero, suc, ◌<◌, ◌≤◌, refl, sym, ap, ◌∙◌, Bool, true, false, List, [], ◌∷◌, ◌++◌, length, get_or, take, drop, subst, arith, one-add}
use Rattle.std.specs.Prelude.{bytes_eq}
use Rattle.std.specs.Cmp.Lexicographic.{slice_cmp}
use Rattle.std.specs.List.{prefix_len}
use Rattle.std.specs.List.Sorted.{IsPartitionedBy, IsPartitionPoint}
use Rattle.std.specs.Ordering.{nat_cmp, is_lt, is_eq, ordering_reverse}
use Rattle.std.specs.declared.cmp.Ordering.{Ordering}
use Rattle.std.specs.declared.cmp.Ordering.TheVariants.{Less, Equal, Greater}
use Rattle.std.proofs.lemmas.Cmp.{nat_list_cmp_total}
use Rattle.std.proofs.lemmas.List.{take-append-drop}
use Rattle.std.proofs.lemmas.List.Sums.{prefix_len_is}
use Rattle.std.proofs.lemmas.Map.Text.{is_eq-slice_cmp}
use Rattle.std.proofs.lemmas.Slice.Eq.{bytes_eq-Decides}
use Rattle.sb_machine.specs.Each.{Each, IsSorted}
use Rattle.sb_machine.specs.Keyed.{with_sorted}
use Rattle.sb_machine.specs.Names.{is_before}

-- ---- texts in byte order

less_is : (o : Ordering) → is_lt o ≡ true → o ≡ Less
less_is Less e = refl
less_is Equal e = absurd cc
less_is Greater e = absurd cc

pub before_later : (a b c : List ℕ) → is_before a b ≡ true → is_before b c ≡ true → is_before a c ≡ true
before_later a b c p q = ap is_lt (nat_list_cmp_total.trans a b c (less_is (slice_cmp nat_cmp a b) p) (less_is (slice_cmp nat_cmp b c) q))

pub before_other : (a b : List ℕ) → is_before a b ≡ false → bytes_eq a b ≡ false → is_before b a ≡ true
before_other a b after_so differs_so = at (slice_cmp nat_cmp a b) after_so (is_eq-slice_cmp a b ∙ differs_so) (nat_list_cmp_total.antisymm b a) where
  at : (o : Ordering) → is_lt o ≡ false → is_eq o ≡ false → slice_cmp nat_cmp b a ≡ ordering_reverse o → is_before b a ≡ true
  at Less p q e = absurd cc
  at Equal p q e = absurd cc
  at Greater p q e = ap is_lt e

pub bytes_same : (a b : List ℕ) → bytes_eq a b ≡ true → a ≡ b
bytes_same a b e = (bytes_eq-Decides a b).0 e

-- what stands before a text is another, and so is what stands behind it
pub before_differs : (a b : List ℕ) → is_before a b ≡ true → bytes_eq a b ≡ false
before_differs a b p = sym (is_eq-slice_cmp a b) ∙ ap is_eq (less_is (slice_cmp nat_cmp a b) p)

pub behind_differs : (a b : List ℕ) → is_before b a ≡ true → bytes_eq a b ≡ false
behind_differs a b p = sym (is_eq-slice_cmp a b) ∙ ap is_eq (nat_list_cmp_total.antisymm a b ∙ ap ordering_reverse (less_is (slice_cmp nat_cmp b a) p))

module _ {X : Type 0} where
  -- ---- what holds of each

  pub each_implied : (P Q : X → Type 0) → ((x : X) → P x → Q x) → (xs : List X) → Each P xs → Each Q xs
  each_implied P Q more [] h = tt
  each_implied P Q more (x ∷ xs) h = (more x h.0, each_implied P Q more xs h.1)

  each_at : (P : X → Type 0) (xs : List X) (k : ℕ) (d : X) → Each P xs → k < length xs → P (get_or xs k d)
  each_at P [] k d h lt = absurd (omega (arith, lt))
  each_at P (x ∷ xs) zero d h lt = h.0
  each_at P (x ∷ xs) (suc k) d h lt = each_at P xs k d h.1 (omega (arith, lt))

  pub each_append : (P : X → Type 0) (xs ys : List X) → Each P xs → Each P ys → Each P (xs ++ ys)
  each_append P [] ys h k = k
  each_append P (x ∷ xs) ys h k = (h.0, each_append P xs ys h.1 k)

  each_front : (P : X → Type 0) (xs ys : List X) → Each P (xs ++ ys) → Each P xs
  each_front P [] ys h = tt
  each_front P (x ∷ xs) ys h = (h.0, each_front P xs ys h.1)

  each_back : (P : X → Type 0) (xs ys : List X) → Each P (xs ++ ys) → Each P ys
  each_back P [] ys h = h
  each_back P (x ∷ xs) ys h = each_back P xs ys h.1

  pub each_inserted : (P : X → Type 0) (before : X → Bool) (x : X) (xs : List X) → P x → Each P xs → Each P (with_sorted before x xs)
  each_inserted P before x xs new h =
      let n = prefix_len before xs in
      let parts : Each P (take n xs ++ drop n xs) = subst (Each P) (sym (take-append-drop n xs)) h in
      each_append P (take n xs) (x ∷ drop n xs) (each_front P (take n xs) (drop n xs) parts) (new, each_back P (take n xs) (drop n xs) parts)

  -- ---- lists in order

  -- what stands before one that passes passes too, so a bisection finds how many pass
  pub parted : (before : X → X → Bool) (p : X → Bool) → ((x y : X) → before x y ≡ true → p y ≡ true → p x ≡ true) → (xs : List X) → IsSorted before xs → IsPartitionedBy p xs
  parted before p down [] sorted i j d le lt passes = absurd (omega (arith, lt))
  parted before p down (x ∷ xs) sorted zero zero d le lt passes = passes
  parted before p down (x ∷ xs) sorted zero (suc j) d le lt passes = down x (get_or xs j d) (each_at (λ y. before x y ≡ true) xs j d sorted.0 (omega (arith, lt))) passes
  parted before p down (x ∷ xs) sorted (suc i) zero d le lt passes = absurd (omega (arith, le))
  parted before p down (x ∷ xs) sorted (suc i) (suc j) d le lt passes = parted before p down xs sorted.1 i j d (omega (arith, le)) (omega (arith, lt)) passes

  pub point_is : (p : X → Bool) (xs : List X) (i : ℕ) → i ≤ length xs → IsPartitionPoint (λ y. p y ≡ true) (λ y. p y ≡ false) xs i → i ≡ prefix_len p xs
  point_is p [] i le point = omega (arith, le)
  point_is p (x ∷ xs) i le point = sym (prefix_len_is p (x ∷ xs) i x le (λ k lt. point.0 k x (omega arith) lt) (λ lt. point.1 i x (omega arith) lt))

  -- one more, which stands nowhere yet
  pub sorted_with : (before : X → X → Bool) (x : X) (later : (y z : X) → before x y ≡ true → before y z ≡ true → before x z ≡ true) (xs : List X) → Each (λ y. before y x ≡ false → before x y ≡ true) xs → IsSorted before xs → IsSorted before (with_sorted (λ y. before y x) x xs)
  sorted_with before x later [] others sorted = (tt, tt)
  sorted_with before x later (y ∷ ys) others sorted = at (before y x) refl (sorted_with before x later ys others.1 sorted.1) where
    at : (b : Bool) → before y x ≡ b → IsSorted before (with_sorted (λ z. before z x) x ys) → IsSorted before (with_sorted (λ z. before z x) x (y ∷ ys))
    at true is ih = rw (is, one-add) (each_inserted (λ z. before y z ≡ true) (λ z. before z x) x ys is sorted.0, ih)
    at false is ih =
        let here : before x y ≡ true = others.0 is in
        rw is ((here, each_implied (λ z. before y z ≡ true) (λ z. before x z ≡ true) (λ z behind. later y z here behind) ys sorted.0), sorted)

  -- the front of a list in which some stand before a place
  pub prefix_on : (p : X → Bool) (x : X) (xs : List X) → p x ≡ true → prefix_len p (x ∷ xs) ≡ suc (prefix_len p xs)
  prefix_on p x xs e = rw (e, one-add) refl

  pub prefix_off : (p : X → Bool) (x : X) (xs : List X) → p x ≡ false → prefix_len p (x ∷ xs) ≡ 0
  prefix_off p x xs e = rw e refl
