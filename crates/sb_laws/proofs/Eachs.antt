-- What holds of each element, of each pair and of rising keys, as a list is changed.
use Rattle.std.proofs.Common.{Bool, List, Some, [], arith, drop, false, filter, refl, subst, sym, take, true, ℕ, ◌++◌, ◌+◌, ◌<◌, ◌==◌, ◌∷◌, ◌≡◌, ◌≤◌}
use Rattle.std.proofs.lemmas.Bool.Decides.{nat_tests}
use Rattle.std.proofs.lemmas.List.{take-append-drop}
use Rattle.std.specs.List.{prefix_len}
use Rattle.std.specs.Prelude.{find}
use Rattle.sb_laws.proofs.Lists.{found_behind, found_here}
use Rattle.sb_machine.specs.Each.{Each, Pairs}
use Rattle.sb_machine.specs.Keyed.{AreRising, changed, with_sorted}

pub is_equal : (m n : ℕ) → (m == n) ≡ true → m ≡ n
is_equal m n e = grind (arith, nat_tests)

pub differs : (m n : ℕ) → (m == n) ≡ false → m ≡ n → ⊥
differs m n e is = grind (arith, nat_tests)

beyond : (k m n : ℕ) → (k == n) ≡ true → k < m → m ≡ n → ⊥
beyond k m n e lt same = grind (arith, nat_tests)

module _ {X : Type 0} where
  -- ---- each

  pub each_implied : (P Q : X → Type 0) → ((x : X) → P x → Q x) → (xs : List X) → Each P xs → Each Q xs
  each_implied P Q more [] h = tt
  each_implied P Q more (x ∷ xs) h = (more x h.0, each_implied P Q more xs h.1)

  pub each_of_all : (P : X → Type 0) → ((x : X) → P x) → (xs : List X) → Each P xs
  each_of_all P all [] = tt
  each_of_all P all (x ∷ xs) = (all x, each_of_all P all xs)

  pub each_both : (P Q : X → Type 0) (xs : List X) → Each P xs → Each Q xs → Each (λ x. P x × Q x) xs
  each_both P Q [] h k = tt
  each_both P Q (x ∷ xs) h k = ((h.0, k.0), each_both P Q xs h.1 k.1)

  pub each_append : (P : X → Type 0) (xs ys : List X) → Each P xs → Each P ys → Each P (xs ++ ys)
  each_append P [] ys h k = k
  each_append P (x ∷ xs) ys h k = (h.0, each_append P xs ys h.1 k)

  pub each_front : (P : X → Type 0) (xs ys : List X) → Each P (xs ++ ys) → Each P xs
  each_front P [] ys h = tt
  each_front P (x ∷ xs) ys h = (h.0, each_front P xs ys h.1)

  pub each_back : (P : X → Type 0) (xs ys : List X) → Each P (xs ++ ys) → Each P ys
  each_back P [] ys h = h
  each_back P (x ∷ xs) ys h = each_back P xs ys h.1

  pub each_found : (P : X → Type 0) (p : X → Bool) (e : X) (xs : List X) → Each P xs → find p xs ≡ Some e → P e
  each_found P p e [] h is = absurd cc
  each_found P p e (x ∷ xs) h is = at (p x) refl (each_found P p e xs h.1) where
    at : (b : Bool) → p x ≡ b → (find p xs ≡ Some e → P e) → P e
    at true passes ih = subst P (found_here p x e xs passes is) h.0
    at false passes ih = ih (found_behind p x xs (Some e) passes is)

  pub each_filter : (P : X → Type 0) (p : X → Bool) (xs : List X) → Each P xs → Each P (filter p xs)
  each_filter P p [] h = tt
  each_filter P p (x ∷ xs) h = at (p x) refl (each_filter P p xs h.1) where
    at : (b : Bool) → p x ≡ b → Each P (filter p xs) → Each P (filter p (x ∷ xs))
    at true passes ih = rw passes (h.0, ih)
    at false passes ih = rw passes ih

  -- what passed a filter passes
  pub each_passed : (p : X → Bool) (xs : List X) → Each (λ x. p x ≡ true) (filter p xs)
  each_passed p [] = tt
  each_passed p (x ∷ xs) = at (p x) refl (each_passed p xs) where
    at : (b : Bool) → p x ≡ b → Each (λ y. p y ≡ true) (filter p xs) → Each (λ y. p y ≡ true) (filter p (x ∷ xs))
    at true passes ih = rw passes (passes, ih)
    at false passes ih = rw passes ih

  -- the first that passes is the one that is found
  pub each_changed : (P : X → Type 0) (p : X → Bool) (g : X → List X) (xs : List X) → ((x : X) → find p xs ≡ Some x → P x → Each P (g x)) → Each P xs → Each P (changed p g xs)
  each_changed P p g [] keeps h = tt
  each_changed P p g (x ∷ xs) keeps h = at (p x) refl (λ k. each_changed P p g xs k h.1) where
    at : (b : Bool) → p x ≡ b → (((y : X) → find p xs ≡ Some y → P y → Each P (g y)) → Each P (changed p g xs)) → Each P (changed p g (x ∷ xs))
    at true passes ih = rw passes (each_append P (g x) xs (keeps x (rw passes refl) h.0) h.1)
    at false passes ih = rw passes (h.0, ih (λ y is. keeps y (rw passes is)))

  pub each_inserted : (P : X → Type 0) (before : X → Bool) (x : X) (xs : List X) → P x → Each P xs → Each P (with_sorted before x xs)
  each_inserted P before x xs new h =
      let parts : Each P (take (prefix_len before xs) xs ++ drop (prefix_len before xs) xs) = subst (Each P) (sym (take-append-drop (prefix_len before xs) xs)) h in
      each_append P (take (prefix_len before xs) xs) (x ∷ drop (prefix_len before xs) xs) (each_front P (take (prefix_len before xs) xs) (drop (prefix_len before xs) xs) parts)
      (new, each_back P (take (prefix_len before xs) xs) (drop (prefix_len before xs) xs) parts)

  -- ---- pairs

  pub pairs_append : (R : X → X → Type 0) (xs ys : List X) → Pairs R xs → Pairs R ys → Each (λ x. Each (R x) ys) xs → Pairs R (xs ++ ys)
  pairs_append R [] ys h k between = k
  pairs_append R (x ∷ xs) ys h k between = (each_append (R x) xs ys h.0 between.0, pairs_append R xs ys h.1 k between.1)

  pub pairs_front : (R : X → X → Type 0) (xs ys : List X) → Pairs R (xs ++ ys) → Pairs R xs
  pairs_front R [] ys h = tt
  pairs_front R (x ∷ xs) ys h = (each_front (R x) xs ys h.0, pairs_front R xs ys h.1)

  pub pairs_back : (R : X → X → Type 0) (xs ys : List X) → Pairs R (xs ++ ys) → Pairs R ys
  pairs_back R [] ys h = h
  pairs_back R (x ∷ xs) ys h = pairs_back R xs ys h.1

  pub pairs_between : (R : X → X → Type 0) (xs ys : List X) → Pairs R (xs ++ ys) → Each (λ x. Each (R x) ys) xs
  pairs_between R [] ys h = tt
  pairs_between R (x ∷ xs) ys h = (each_back (R x) xs ys h.0, pairs_between R xs ys h.1)

  pub pairs_filter : (R : X → X → Type 0) (p : X → Bool) (xs : List X) → Pairs R xs → Pairs R (filter p xs)
  pairs_filter R p [] h = tt
  pairs_filter R p (x ∷ xs) h = at (p x) refl (pairs_filter R p xs h.1) where
    at : (b : Bool) → p x ≡ b → Pairs R (filter p xs) → Pairs R (filter p (x ∷ xs))
    at true passes ih = rw passes (each_filter (R x) p xs h.0, ih)
    at false passes ih = rw passes ih

  -- ---- what stands in the place of one: nothing, or one that is like it
  pub data IsLike (R : X → X → Type 0) (x : X) : List X → Type 0 where
    like_gone : IsLike R x []
    like_one : {y : X} → R x y → IsLike R x (y ∷ [])

  -- a relation that holds of what is like the one or the other
  pub pairs_changed : (L R : X → X → Type 0) (p : X → Bool) (g : X → List X) → ((x y z : X) → L x y → R x z → R y z) → ((x y z : X) → L x y → R z x → R z y) → (xs : List X) → ((x : X) → find p xs ≡ Some x → IsLike L x (g x)) → Pairs R xs → Pairs R (changed p g xs)
  pairs_changed L R p g first second [] like h = tt
  pairs_changed L R p g first second (x ∷ xs) like h = at (p x) refl (λ k. pairs_changed L R p g first second xs k h.1) where
    here : (ys : List X) → IsLike L x ys → Pairs R (ys ++ xs)
    here [] is = h.1
    here (y ∷ ys) (like_one is) = (each_implied (R x) (R y) (λ z. first x y z is) xs h.0, h.1)

    gone : (z : X) (y : X) (ys : List X) → IsLike L y ys → R z y → Each (R z) ys
    gone z y [] is r = tt
    gone z y (w ∷ ws) (like_one is) r = (second y w z is r, tt)

    at : (b : Bool) → p x ≡ b → (((y : X) → find p xs ≡ Some y → IsLike L y (g y)) → Pairs R (changed p g xs)) → Pairs R (changed p g (x ∷ xs))
    at true passes ih = rw passes (here (g x) (like x (rw passes refl)))
    at false passes ih = rw passes (each_changed (R x) p g xs (λ y is r. gone x y (g y) (like y (rw passes is)) r) h.0, ih (λ y is. like y (rw passes is)))

  -- ---- rising keys

  abbrev pub SameKey : (X → ℕ) → X → X → Type 0
  SameKey key x y = key y ≡ key x

  pub rising_lower : (key : X → ℕ) (above low last : ℕ) (xs : List X) → above ≤ low → AreRising key low last xs → AreRising key above last xs
  rising_lower key above low last [] le h = omega arith
  rising_lower key above low last (x ∷ xs) le h = (omega (arith, h.0), h.1)

  pub rising_changed : (key : X → ℕ) (p : X → Bool) (g : X → List X) (above last : ℕ) (xs : List X) → ((x : X) → IsLike (SameKey key) x (g x)) → AreRising key above last xs → AreRising key above last (changed p g xs)
  rising_changed key p g above last [] like h = h
  rising_changed key p g above last (x ∷ xs) like h = at (p x) refl (rising_changed key p g (key x) last xs like h.1) where
    here : (ys : List X) → IsLike (SameKey key) x ys → AreRising key above last (ys ++ xs)
    here [] is = rising_lower key above (key x) last xs (omega (arith, h.0)) h.1
    here (y ∷ ys) (like_one is) = (omega (arith, is, h.0), rising_lower key (key y) (key x) last xs (omega (arith, is)) h.1)

    at : (b : Bool) → p x ≡ b → AreRising key (key x) last (changed p g xs) → AreRising key above last (changed p g (x ∷ xs))
    at true passes ih = rw passes (here (g x) (like x))
    at false passes ih = rw passes (h.0, ih)

  pub rising_append : (key : X → ℕ) (above last : ℕ) (x : X) (xs : List X) → key x ≡ last + 1 → AreRising key above last xs → AreRising key above (last + 1) (xs ++ x ∷ [])
  rising_append key above last x [] is h = (omega (arith, is, h), omega (arith, is))
  rising_append key above last x (y ∷ ys) is h = (h.0, rising_append key (key y) last x ys is h.1)

  pub rising_further : (key : X → ℕ) (above last : ℕ) (xs : List X) → AreRising key above last xs → AreRising key above (last + 1) xs
  rising_further key above last [] h = omega (arith, h)
  rising_further key above last (x ∷ xs) h = (h.0, rising_further key (key x) last xs h.1)

  pub rising_filter : (key : X → ℕ) (p : X → Bool) (above last : ℕ) (xs : List X) → AreRising key above last xs → AreRising key above last (filter p xs)
  rising_filter key p above last [] h = h
  rising_filter key p above last (x ∷ xs) h = at (p x) refl (rising_filter key p (key x) last xs h.1) where
    at : (b : Bool) → p x ≡ b → AreRising key (key x) last (filter p xs) → AreRising key above last (filter p (x ∷ xs))
    at true passes ih = rw passes (h.0, ih)
    at false passes ih = rw passes (rising_lower key above (key x) last (filter p xs) (omega (arith, h.0)) ih)

  pub rising_bound : (key : X → ℕ) (above last : ℕ) (xs : List X) → AreRising key above last xs → above ≤ last
  rising_bound key above last [] h = h
  rising_bound key above last (x ∷ xs) h = omega (arith, h.0, rising_bound key (key x) last xs h.1)

  -- all lie above
  pub rising_above : (key : X → ℕ) (above last : ℕ) (xs : List X) → AreRising key above last xs → Each (λ x. (above < key x) × (key x ≤ last)) xs
  rising_above key above last [] h = tt
  rising_above key above last (x ∷ xs) h = (
    (h.0, rising_bound key (key x) last xs h.1),
    each_implied (λ y. (key x < key y) × (key y ≤ last)) (λ y. (above < key y) × (key y ≤ last)) (λ y is. (omega (arith, is.0, h.0), is.1)) xs (rising_above key (key x) last xs h.1),
  )

  -- where keys rise, a change of the one of a key is a change of all of that key
  pub each_settled : (P : X → Type 0) (key : X → ℕ) (n : ℕ) (g : X → List X) (above last : ℕ) (xs : List X) → AreRising key above last xs
      → ((x : X) → find (λ y. key y == n) xs ≡ Some x → Each (λ y. key y ≡ n → P y) (g x)) → Each (λ y. key y ≡ n → P y) (changed (λ x. key x == n) g xs)
  each_settled P key n g above last [] rises does = tt
  each_settled P key n g above last (x ∷ xs) rises does = at (key x == n) refl (λ k. each_settled P key n g (key x) last xs rises.1 k) where
    at : (b : Bool) → (key x == n) ≡ b → (((y : X) → find (λ z. key z == n) xs ≡ Some y → Each (λ z. key z ≡ n → P z) (g y)) → Each (λ y. key y ≡ n → P y) (changed (λ x. key x == n) g xs))
        → Each (λ y. key y ≡ n → P y) (changed (λ x. key x == n) g (x ∷ xs))
    at true is ih = rw is (each_append (λ y. key y ≡ n → P y) (g x) xs (does x (rw is refl))
        (each_implied (λ y. (key x < key y) × (key y ≤ last)) (λ y. key y ≡ n → P y) (λ y up same. absurd (beyond (key x) (key y) n is up.0 same)) xs (rising_above key (key x) last xs rises.1)))
    at false is ih = rw is ((λ same. absurd (differs (key x) n is same)), ih (λ y there. does y (rw is there)))

  -- what holds of each key's element holds of each element
  pub each_by_key : (P : X → Type 0) (key : X → ℕ) (xs : List X) → ((n : ℕ) → Each (λ x. key x ≡ n → P x) xs) → Each P xs
  each_by_key P key [] h = tt
  each_by_key P key (x ∷ xs) h = ((h (key x)).0 refl, each_by_key P key xs (λ n. (h n).1))
