-- What holds of the first of a number, and of each, as a list is changed.
use Rattle.std.proofs.Common.{◌≡◌, ℕ, ◌==◌, not, Bool, true, false, List, [], ◌∷◌, ◌++◌, filter, find, Option, Some, None, refl, sym, ◌∙◌, arith}
use Rattle.std.proofs.lemmas.Bool.Decides.{nat_tests}
use Rattle.std.specs.Prelude.{IfSome}
use Rattle.sb_machine.specs.Each.{Each}
use Rattle.sb_machine.specs.Keyed.{changed}

pub is_equal : (m n : ℕ) → (m == n) ≡ true → m ≡ n
is_equal m n e = grind (arith, nat_tests)

pub same_number : (n : ℕ) → (n == n) ≡ true
same_number n = grind (arith, nat_tests)

pub equal_is : (m n : ℕ) → m ≡ n → (m == n) ≡ true
equal_is m n e = grind (arith, nat_tests)

both_same : (a n j : ℕ) → (a == j) ≡ true → (a == n) ≡ true → (n == j) ≡ true
both_same a n j h k = grind (arith, nat_tests)

one_same : (a n j : ℕ) → (a == j) ≡ true → (a == n) ≡ false → (n == j) ≡ false
one_same a n j h k = grind (arith, nat_tests)

other_same : (a n j : ℕ) → (a == j) ≡ false → (a == n) ≡ true → (n == j) ≡ false
other_same a n j h k = grind (arith, nat_tests)

pub differs : (m n : ℕ) → (m == n) ≡ false → m ≡ n → ⊥
differs m n e is = grind (arith, nat_tests)

module _ {X : Type 0} where
  pub if_some : (P Q : X → Type 0) → ((x : X) → P x → Q x) → (o : Option X) → IfSome o P → IfSome o Q
  if_some P Q more None h = tt
  if_some P Q more (Some x) h = more x h

  pub each_implied : (P Q : X → Type 0) → ((x : X) → P x → Q x) → (xs : List X) → Each P xs → Each Q xs
  each_implied P Q more [] h = tt
  each_implied P Q more (x ∷ xs) h = (more x h.0, each_implied P Q more xs h.1)

  pub each_append : (P : X → Type 0) (xs : List X) (y : X) → Each P xs → P y → Each P (xs ++ y ∷ [])
  each_append P [] y h k = (k, tt)
  each_append P (x ∷ xs) y h k = (h.0, each_append P xs y h.1 k)

  pub each_filter : (P : X → Type 0) (p : X → Bool) (xs : List X) → Each P xs → Each P (filter p xs)
  each_filter P p [] h = tt
  each_filter P p (x ∷ xs) h = at (p x) refl (each_filter P p xs h.1) where
    at : (b : Bool) → p x ≡ b → Each P (filter p xs) → Each P (filter p (x ∷ xs))
    at true passes ih = rw passes (h.0, ih)
    at false passes ih = rw passes ih

  pub each_dropped : (P : X → Type 0) (p : X → Bool) (xs : List X) → Each P xs → Each P (changed p (λ x. []) xs)
  each_dropped P p [] h = tt
  each_dropped P p (x ∷ xs) h = at (p x) refl (each_dropped P p xs h.1) where
    at : (b : Bool) → p x ≡ b → Each P (changed p (λ y. []) xs) → Each P (changed p (λ y. []) (x ∷ xs))
    at true passes ih = rw passes h.1
    at false passes ih = rw passes (h.0, ih)

  pub each_changed : (P Q : X → Type 0) (p : X → Bool) (f : X → X) → ((x : X) → p x ≡ true → P x → Q (f x)) → ((x : X) → P x → Q x) → (xs : List X) → Each P xs → Each Q (changed p (λ x. f x ∷ []) xs)
  each_changed P Q p f here there [] h = tt
  each_changed P Q p f here there (x ∷ xs) h = at (p x) refl (each_changed P Q p f here there xs h.1) where
    at : (b : Bool) → p x ≡ b → Each Q (changed p (λ y. f y ∷ []) xs) → Each Q (changed p (λ y. f y ∷ []) (x ∷ xs))
    at true passes ih = rw passes (here x passes h.0, each_implied P Q there xs h.1)
    at false passes ih = rw passes (there x h.0, ih)

  pub each_found : (P : X → Type 0) (p : X → Bool) (xs : List X) → Each P xs → IfSome (find p xs) (λ x. (p x ≡ true) × P x)
  each_found P p [] h = tt
  each_found P p (x ∷ xs) h = at (p x) refl (each_found P p xs h.1) where
    at : (b : Bool) → p x ≡ b → IfSome (find p xs) (λ y. (p y ≡ true) × P y) → IfSome (find p (x ∷ xs)) (λ y. (p y ≡ true) × P y)
    at true passes ih = rw passes (passes, h.0)
    at false passes ih = rw passes ih

  -- ---- the first of a number

  module _ (key : X → ℕ) where
    abbrev pub has_key : ℕ → X → Bool
    has_key n x = key x == n

    pub first_changed : (n j : ℕ) (f : X → X) (P Q : X → Type 0) → ((x : X) → key (f x) ≡ key x) → ((n == j) ≡ true → (x : X) → P x → Q (f x)) → ((n == j) ≡ false → (x : X) → P x → Q x)
        → (xs : List X) → IfSome (find (has_key n) xs) P → IfSome (find (has_key n) (changed (has_key j) (λ x. f x ∷ []) xs)) Q
    first_changed n j f P Q same here there [] h = tt
    first_changed n j f P Q same here there (x ∷ xs) h = at (key x == j) refl (key x == n) refl (first_changed n j f P Q same here there xs) where
      at : (b : Bool) → (key x == j) ≡ b → (d : Bool) → (key x == n) ≡ d → (IfSome (find (has_key n) xs) P → IfSome (find (has_key n) (changed (has_key j) (λ y. f y ∷ []) xs)) Q)
          → IfSome (find (has_key n) (changed (has_key j) (λ y. f y ∷ []) (x ∷ xs))) Q
      at true is true has ih = let it : P x = rw has at h in rw (is, same x, has) (here (both_same (key x) n j is has) x it)
      at true is false has ih = let it : IfSome (find (has_key n) xs) P = rw has at h in rw (is, same x, has) (if_some P Q (there (one_same (key x) n j is has)) (find (has_key n) xs) it)
      at false is true has ih = let it : P x = rw has at h in rw (is, has) (there (other_same (key x) n j is has) x it)
      at false is false has ih = let it : IfSome (find (has_key n) xs) P = rw has at h in rw (is, has) (ih it)

    pub first_filtered : (n j : ℕ) (P Q : X → Type 0) → ((x : X) → P x → Q x) → (xs : List X) → IfSome (find (has_key n) xs) P → IfSome (find (has_key n) (filter (λ x. not (has_key j x)) xs)) Q
    first_filtered n j P Q more xs h = at (n == j) refl where
      gone : (n == j) ≡ true → (ys : List X) → IfSome (find (has_key n) (filter (λ x. not (has_key j x)) ys)) Q
      gone e [] = tt
      gone e (y ∷ ys) = on (key y == j) refl (key y == n) refl (gone e ys) where
        on : (b : Bool) → (key y == j) ≡ b → (d : Bool) → (key y == n) ≡ d → IfSome (find (has_key n) (filter (λ x. not (has_key j x)) ys)) Q → IfSome (find (has_key n) (filter (λ x. not (has_key j x)) (y ∷ ys))) Q
        on true is d has ih = rw is ih
        on false is true has ih = let bad : false ≡ true = sym (other_same (key y) n j is has) ∙ e in absurd cc
        on false is false has ih = rw (is, has) ih

      stays : (n == j) ≡ false → (ys : List X) → IfSome (find (has_key n) ys) P → IfSome (find (has_key n) (filter (λ x. not (has_key j x)) ys)) Q
      stays e [] k = tt
      stays e (y ∷ ys) k = on (key y == j) refl (key y == n) refl (stays e ys) where
        on : (b : Bool) → (key y == j) ≡ b → (d : Bool) → (key y == n) ≡ d → (IfSome (find (has_key n) ys) P → IfSome (find (has_key n) (filter (λ x. not (has_key j x)) ys)) Q) → IfSome (find (has_key n) (filter (λ x. not (has_key j x)) (y ∷ ys))) Q
        on true is true has ih = let bad : true ≡ false = sym (both_same (key y) n j is has) ∙ e in absurd cc
        on true is false has ih = let it : IfSome (find (has_key n) ys) P = rw has at k in rw is (ih it)
        on false is true has ih = let it : P y = rw has at k in rw (is, has) (more y it)
        on false is false has ih = let it : IfSome (find (has_key n) ys) P = rw has at k in rw (is, has) (ih it)

      at : (b : Bool) → (n == j) ≡ b → IfSome (find (has_key n) (filter (λ x. not (has_key j x)) xs)) Q
      at true e = gone e xs
      at false e = stays e xs h

    pub first_pushed : (n : ℕ) (y : X) (P Q : X → Type 0) → ((x : X) → P x → Q x) → (key y ≡ n → Q y) → (xs : List X) → IfSome (find (has_key n) xs) P → IfSome (find (has_key n) (xs ++ y ∷ [])) Q
    first_pushed n y P Q more new [] h = on (key y == n) refl where
      on : (b : Bool) → (key y == n) ≡ b → IfSome (find (has_key n) (y ∷ [])) Q
      on true is = rw is (new (is_equal (key y) n is))
      on false is = rw is tt
    first_pushed n y P Q more new (x ∷ xs) h = on (key x == n) refl (first_pushed n y P Q more new xs) where
      on : (b : Bool) → (key x == n) ≡ b → (IfSome (find (has_key n) xs) P → IfSome (find (has_key n) (xs ++ y ∷ [])) Q) → IfSome (find (has_key n) ((x ∷ xs) ++ y ∷ [])) Q
      on true is ih = let it : P x = rw is at h in rw is (more x it)
      on false is ih = let it : IfSome (find (has_key n) xs) P = rw is at h in rw is (ih it)
