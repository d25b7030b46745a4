-- A number looked for among rising ones.
use Rattle.std.proofs.Common.{◌≡◌, ℕ, zero, suc, ◌+◌, ◌<◌, ◌≤◌, ◌==◌, nat_lt, Bool, true, false, List, [], ◌∷◌, length, get_or, map, position, Option, Some, None, refl, sym, ap, ◌∙◌, arith, one-add}
use Rattle.std.specs.List.{position_or_len, prefix_len, slice_get}
use Rattle.std.specs.List.Sorted.{IsPartitionedBy, IsPartitionPoint}
use Rattle.std.specs.Prelude.{if◌then◌else◌}
use Rattle.std.proofs.lemmas.Bool.Decides.{nat_tests}
use Rattle.std.proofs.lemmas.List.Sums.{prefix_len_is}
use Rattle.std.proofs.lemmas.Option.{slice_get_within}
use Rattle.sb_machine.specs.Each.{Each, IsSorted}
use Rattle.sb_machine.specs.Keyed.{AreRising}

above_is : (m n : ℕ) → m < n → nat_lt m n ≡ true
above_is m n h = grind (arith, nat_tests)

above_later : (m n l : ℕ) → nat_lt m n ≡ true → nat_lt n l ≡ true → nat_lt m l ≡ true
above_later m n l h k = grind (arith, nat_tests)

below_differs : (m n : ℕ) → nat_lt m n ≡ true → (m == n) ≡ false
below_differs m n h = grind (arith, nat_tests)

above_differs : (m n : ℕ) → nat_lt n m ≡ true → (m == n) ≡ false
above_differs m n h = grind (arith, nat_tests)

other_above : (m n : ℕ) → nat_lt m n ≡ false → (m == n) ≡ false → nat_lt n m ≡ true
other_above m n h k = grind (arith, nat_tests)

same_below : (m n : ℕ) → (m == n) ≡ true → nat_lt m n ≡ false
same_below m n h = grind (arith, nat_tests)

-- rows whose numbers rise as they are seen stand in order
module _ {X Y : Type 0} (f : X → Y) (key : Y → ℕ) where
  all_above : (low above last : ℕ) (xs : List X) → low ≤ above → AreRising key above last (map f xs) → Each (λ x. nat_lt low (key (f x)) ≡ true) xs
  all_above low above last [] le h = tt
  all_above low above last (x ∷ xs) le h = (above_is low (key (f x)) (omega (arith, le, h.0)), all_above low (key (f x)) last xs (omega (arith, le, h.0)) h.1)

  pub in_order : (above last : ℕ) (xs : List X) → AreRising key above last (map f xs) → IsSorted (λ x y. nat_lt (key (f x)) (key (f y))) xs
  in_order above last [] h = tt
  in_order above last (x ∷ xs) h = (all_above (key (f x)) (key (f x)) last xs (omega arith) h.1, in_order (key (f x)) last xs h.1)

module _ {X : Type 0} (key : X → ℕ) (n : ℕ) where
  abbrev is_before : X → X → Bool
  is_before x y = nat_lt (key x) (key y)

  abbrev is_lower : X → Bool
  is_lower x = nat_lt (key x) n

  abbrev is_it : X → Bool
  is_it x = key x == n

  each_at : (P : X → Type 0) (xs : List X) (i : ℕ) (d : X) → Each P xs → i < length xs → P (get_or xs i d)
  each_at P [] i d h lt = absurd (omega (arith, lt))
  each_at P (x ∷ xs) zero d h lt = h.0
  each_at P (x ∷ xs) (suc i) d h lt = each_at P xs i d h.1 (omega (arith, lt))

  pub parted : (xs : List X) → IsSorted is_before xs → IsPartitionedBy is_lower xs
  parted [] sorted i j d le lt passes = absurd (omega (arith, lt))
  parted (x ∷ xs) sorted zero zero d le lt passes = passes
  parted (x ∷ xs) sorted zero (suc j) d le lt passes = above_later (key x) (key (get_or xs j d)) n (each_at (λ y. is_before x y ≡ true) xs j d sorted.0 (omega (arith, lt))) passes
  parted (x ∷ xs) sorted (suc i) zero d le lt passes = absurd (omega (arith, le))
  parted (x ∷ xs) sorted (suc i) (suc j) d le lt passes = parted xs sorted.1 i j d (omega (arith, le)) (omega (arith, lt)) passes

  pub point_is : (xs : List X) (i : ℕ) → i ≤ length xs → IsPartitionPoint (λ y. is_lower y ≡ true) (λ y. is_lower y ≡ false) xs i → i ≡ prefix_len is_lower xs
  point_is [] i le point = omega (arith, le)
  point_is (x ∷ xs) i le point = sym (prefix_len_is is_lower (x ∷ xs) i x le (λ k lt. point.0 k x (omega arith) lt) (λ lt. point.1 i x (omega arith) lt))

  none_behind : (x : X) (xs : List X) → nat_lt n (key x) ≡ true → Each (λ y. is_before x y ≡ true) xs → position_or_len is_it xs ≡ length xs
  none_behind x [] above h = refl
  none_behind x (y ∷ ys) above h =
      let other : is_it y ≡ false = above_differs (key y) n (above_later n (key x) (key y) above h.0) in
      let rest = none_behind x ys above h.1 in
      rw other (omega (arith, rest))

  -- where it is, as the first that isn't lower tells: there, or nowhere
  abbrev place_told : Option X → ℕ → ℕ → ℕ
  place_told None i none = none
  place_told (Some x) i none = if is_it x then i else none

  one_on : (o : Option X) (i none : ℕ) → 1 + place_told o i none ≡ place_told o (suc i) (suc none)
  one_on None i none = omega arith
  one_on (Some x) i none = at (is_it x) refl where
    at : (b : Bool) → is_it x ≡ b → 1 + (if is_it x then i else none) ≡ (if is_it x then suc i else suc none)
    at true is = rw is (omega arith)
    at false is = rw is (omega arith)

  -- one more in front
  before : (p : X → Bool) (x : X) (xs : List X) → p x ≡ true → prefix_len p (x ∷ xs) ≡ suc (prefix_len p xs)
  before p x xs e = rw (e, one-add) refl

  behind : (p : X → Bool) (x : X) (xs : List X) → p x ≡ false → position_or_len p (x ∷ xs) ≡ 1 + position_or_len p xs
  behind p x xs e = rw e refl

  told : (xs : List X) → IsSorted is_before xs → position_or_len is_it xs ≡ place_told (slice_get xs (prefix_len is_lower xs)) (prefix_len is_lower xs) (length xs)
  told [] sorted = refl
  told (x ∷ xs) sorted = at (is_lower x) refl (is_it x) refl (told xs sorted.1) where
    at : (b : Bool) → is_lower x ≡ b → (d : Bool) → is_it x ≡ d → position_or_len is_it xs ≡ place_told (slice_get xs (prefix_len is_lower xs)) (prefix_len is_lower xs) (length xs)
        → position_or_len is_it (x ∷ xs) ≡ place_told (slice_get (x ∷ xs) (prefix_len is_lower (x ∷ xs))) (prefix_len is_lower (x ∷ xs)) (length (x ∷ xs))
    at true low true it ih = absurd (let bad : true ≡ false = sym low ∙ same_below (key x) n it in cc)
    at true low false it ih =
        let i = prefix_len is_lower xs in
        behind is_it x xs it ∙ ap (λ k. 1 + k) ih ∙ one_on (slice_get xs i) i (length xs) ∙ ap (λ k. place_told (slice_get (x ∷ xs) k) k (suc (length xs))) (sym (before is_lower x xs low))
    at false low true it ih = rw (low, it) refl
    at false low false it ih = rw (low, it) (omega (arith, none_behind x xs (other_above (key x) n low it) sorted.0))

  pub place_hit : (xs : List X) (i : ℕ) (x : X) → IsSorted is_before xs → i ≡ prefix_len is_lower xs → Some x ≡ slice_get xs i → is_it x ≡ true → Some i ≡ position is_it xs
  place_hit xs i x sorted is found it =
      let there : position_or_len is_it xs ≡ i = told xs sorted ∙ ap (λ k. place_told (slice_get xs k) k (length xs)) (sym is) ∙ ap (λ o. place_told o i (length xs)) (sym found) ∙ (rw it refl) in
      let within : i < length xs = slice_get_within xs i x (sym found) in
      rw (there, above_is i (length xs) within) refl

  pub place_miss : (xs : List X) (i : ℕ) (o : Option X) → IsSorted is_before xs → i ≡ prefix_len is_lower xs → o ≡ slice_get xs i → place_told o i (length xs) ≡ length xs → None ≡ position is_it xs
  place_miss xs i o sorted is found none =
      let there : position_or_len is_it xs ≡ length xs = told xs sorted ∙ ap (λ k. place_told (slice_get xs k) k (length xs)) (sym is) ∙ ap (λ o. place_told o i (length xs)) (sym found) ∙ none in
      rw (there, not_below (length xs)) refl where
        not_below : (m : ℕ) → nat_lt m m ≡ false
        not_below m = grind (arith, nat_tests)
