-- In a list in order, the place behind those that stand before is that of the one that is looked for, if it is there.
use Rattle.std.proofs.Common.{◌≡◌, ℕ, zero, suc, ◌+◌, ◌≤◌, ◌<◌, refl, sym, ap, ◌∙◌, Bool, true, false, nat_lt, List, [], ◌∷◌, position, length, get_or, Some, None, cond, arith, one-add}
use Rattle.std.specs.List.Sorted.{IsPartitionedBy}
use Rattle.std.proofs.lemmas.Bool.Decides.{nat_tests}
use Rattle.std.specs.List.{position_or_len, prefix_len, slice_get}
use Rattle.sb_machine.specs.Each.{Each, Pairs}

module _ {X : Type 0} where
  at_place : (has : X → Bool) (xs : List X) (i : ℕ) → position_or_len has xs ≡ i → i < length xs → Some i ≡ position has xs
  at_place has xs i e lt = sym (by_test (position_or_len has xs) (length xs) i e lt) where
    by_test : (a b i : ℕ) → a ≡ i → i < b → cond (nat_lt a b) (Some a) None ≡ Some i
    by_test a b i e lt = let t : nat_lt a b ≡ true = grind (arith, nat_tests) in rw t (ap (λ n. Some n) e)

  no_place : (has : X → Bool) (xs : List X) → length xs ≤ position_or_len has xs → None ≡ position has xs
  no_place has xs le = sym (by_test (position_or_len has xs) (length xs) le) where
    by_test : (a b : ℕ) → b ≤ a → cond (nat_lt a b) (Some a) None ≡ None
    by_test a b le = let t : nat_lt a b ≡ false = grind (arith, nat_tests) in rw t refl

  none_has : (has : X → Bool) (xs : List X) → Each (λ x. has x ≡ false) xs → length xs ≤ position_or_len has xs
  none_has has [] h = omega arith
  none_has has (x ∷ xs) h = let it = none_has has xs h.1 in rw h.0 (omega (arith, it))

  implied : (P Q : X → Type 0) → ((x : X) → P x → Q x) → (xs : List X) → Each P xs → Each Q xs
  implied P Q f [] h = tt
  implied P Q f (x ∷ xs) h = (f x h.0, implied P Q f xs h.1)

  behind : (x : X) (xs : List X) (n : ℕ) → slice_get xs n ≡ slice_get (x ∷ xs) (1 + n)
  behind x xs n = sym (ap (slice_get (x ∷ xs)) (one-add n))

module _ {X : Type 0} (R : X → X → Type 0) (before has : X → Bool) (earlier : (x : X) → before x ≡ true → has x ≡ false) (later : (x y : X) → R x y → before x ≡ false → has y ≡ false) where
  here_is : (xs : List X) (x : X) → slice_get xs (prefix_len before xs) ≡ Some x → has x ≡ true → (position_or_len has xs ≡ prefix_len before xs) × (prefix_len before xs < length xs)
  here_is [] x e is = absurd cc
  here_is (y ∷ ys) x e is = at (before y) refl (here_is ys x) where
    at : (b : Bool) → before y ≡ b → (slice_get ys (prefix_len before ys) ≡ Some x → has x ≡ true → (position_or_len has ys ≡ prefix_len before ys) × (prefix_len before ys < length ys))
        → (position_or_len has (y ∷ ys) ≡ prefix_len before (y ∷ ys)) × (prefix_len before (y ∷ ys) < length (y ∷ ys))
    at true so ih =
        let rest : slice_get (y ∷ ys) (1 + prefix_len before ys) ≡ Some x = rw so at e in
        let it = ih (behind y ys (prefix_len before ys) ∙ rest) is in
        rw (so, earlier y so) (ap (λ n. 1 + n) it.0, omega (arith, it.1))
    at false so ih =
        let first : Some y ≡ Some x = rw so at e in
        let same : y ≡ x = cc in
        let own : has y ≡ true = ap has same ∙ is in
        rw (so, own) (refl, omega arith)

  pub placed_here : (xs : List X) → Pairs R xs → (x : X) → slice_get xs (prefix_len before xs) ≡ Some x → has x ≡ true → Some (prefix_len before xs) ≡ position has xs
  placed_here xs order x e is = let it = here_is xs x e is in at_place has xs (prefix_len before xs) it.0 it.1

  other_is : (xs : List X) → Pairs R xs → (x : X) → slice_get xs (prefix_len before xs) ≡ Some x → has x ≡ false → Each (λ y. has y ≡ false) xs
  other_is [] order x e is = tt
  other_is (y ∷ ys) order x e is = at (before y) refl (other_is ys order.1 x) where
    at : (b : Bool) → before y ≡ b → (slice_get ys (prefix_len before ys) ≡ Some x → has x ≡ false → Each (λ z. has z ≡ false) ys) → Each (λ z. has z ≡ false) (y ∷ ys)
    at true so ih =
        let rest : slice_get (y ∷ ys) (1 + prefix_len before ys) ≡ Some x = rw so at e in
        (earlier y so, ih (behind y ys (prefix_len before ys) ∙ rest) is)
    at false so ih =
        let first : Some y ≡ Some x = rw so at e in
        let same : y ≡ x = cc in
        (ap has same ∙ is, implied (R y) (λ z. has z ≡ false) (λ z r. later y z r so) ys order.0)

  pub placed_other : (xs : List X) → Pairs R xs → (x : X) → slice_get xs (prefix_len before xs) ≡ Some x → has x ≡ false → None ≡ position has xs
  placed_other xs order x e is = no_place has xs (none_has has xs (other_is xs order x e is))

  past_is : (xs : List X) → slice_get xs (prefix_len before xs) ≡ None → Each (λ y. has y ≡ false) xs
  past_is [] e = tt
  past_is (y ∷ ys) e = at (before y) refl (past_is ys) where
    at : (b : Bool) → before y ≡ b → (slice_get ys (prefix_len before ys) ≡ None → Each (λ z. has z ≡ false) ys) → Each (λ z. has z ≡ false) (y ∷ ys)
    at true so ih =
        let rest : slice_get (y ∷ ys) (1 + prefix_len before ys) ≡ None = rw so at e in
        (earlier y so, ih (behind y ys (prefix_len before ys) ∙ rest))
    at false so ih = let bad : Some y ≡ None = rw so at e in absurd cc

  pub placed_past : (xs : List X) → Pairs R xs → slice_get xs (prefix_len before xs) ≡ None → None ≡ position has xs
  placed_past xs order e = no_place has xs (none_has has xs (past_is xs e))

-- what stands before stands in front
module _ {X : Type 0} (R : X → X → Type 0) (before : X → Bool) (down : (x y : X) → R x y → before y ≡ true → before x ≡ true) where
  lower : (x : X) (xs : List X) (j : ℕ) (d : X) → Each (R x) xs → j < length xs → before (get_or xs j d) ≡ true → before x ≡ true
  lower x [] j d h lt e = absurd (omega (arith, lt))
  lower x (y ∷ ys) zero d h lt e = down x y h.0 e
  lower x (y ∷ ys) (suc j) d h lt e = lower x ys j d h.1 (omega (arith, lt)) e

  pub parted : (xs : List X) → Pairs R xs → IsPartitionedBy before xs
  parted [] h i j d le lt e = absurd (omega (arith, lt))
  parted (x ∷ xs) h zero zero d le lt e = e
  parted (x ∷ xs) h zero (suc j) d le lt e = lower x xs j d h.0 (omega (arith, lt)) e
  parted (x ∷ xs) h (suc i) zero d le lt e = absurd (omega (arith, le))
  parted (x ∷ xs) h (suc i) (suc j) d le lt e = parted xs h.1 i j d (omega (arith, le)) (omega (arith, lt)) e
