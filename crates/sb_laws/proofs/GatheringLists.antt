-- Two lists whose elements are like one another one by one, and what is read off both alike.
use Rattle.std.proofs.Common.{Bool, List, None, Option, Some, [], ap, arith, false, refl, true, ℕ, ◌++◌, ◌||◌, ◌∙◌, ◌∷◌, ◌≡◌}
use Rattle.std.proofs.lemmas.List.Folds.{list_any-append}
use Rattle.std.proofs.lemmas.List.Sums.{sum_by-cons}
use Rattle.std.specs.List.{list_any}
use Rattle.std.specs.Prelude.{find, sum_by}
use Rattle.sb_laws.proofs.Lists.{found_here}
use Rattle.sb_machine.specs.Each.{Each}
use Rattle.sb_machine.specs.Keyed.{changed}

module _ {X : Type 0} where
  -- one for one
  abbrev pub Paired : (X → X → Type 0) → List X → List X → Type 0
  Paired R [] [] = Unit {0}
  Paired R (x ∷ xs) (y ∷ ys) = R x y × Paired R xs ys
  Paired R [] (y ∷ ys) = ⊥
  Paired R (x ∷ xs) [] = ⊥

  -- both were found, or neither
  abbrev pub BothFound : (X → X → Type 0) → Option X → Option X → Type 0
  BothFound R None None = Unit {0}
  BothFound R (Some x) (Some y) = R x y
  BothFound R None (Some y) = ⊥
  BothFound R (Some x) None = ⊥

  pub paired_each : (R : X → X → Type 0) → ((x : X) → R x x) → (xs : List X) → Paired R xs xs
  paired_each R same [] = tt
  paired_each R same (x ∷ xs) = (same x, paired_each R same xs)

  pub paired_implied : (R S : X → X → Type 0) → ((x y : X) → R x y → S x y) → (xs ys : List X) → Paired R xs ys → Paired S xs ys
  paired_implied R S more [] [] h = tt
  paired_implied R S more [] (y ∷ ys) h = absurd h
  paired_implied R S more (x ∷ xs) [] h = absurd h
  paired_implied R S more (x ∷ xs) (y ∷ ys) h = (more x y h.0, paired_implied R S more xs ys h.1)

  -- each is like its own still, and so is what was put in the place of one
  pub paired_changed : (R S : X → X → Type 0) (p : X → Bool) (g : X → X) → ((x y : X) → R x y → S x y) → ((x y : X) → R x y → S x (g y)) → (xs ys : List X) → Paired R xs ys → Paired S xs (changed p (λ y. g y ∷ []) ys)
  paired_changed R S p g stays does [] [] h = tt
  paired_changed R S p g stays does [] (y ∷ ys) h = absurd h
  paired_changed R S p g stays does (x ∷ xs) [] h = absurd h
  paired_changed R S p g stays does (x ∷ xs) (y ∷ ys) h = at (p y) refl (paired_changed R S p g stays does xs ys h.1) where
    at : (b : Bool) → p y ≡ b → Paired S xs (changed p (λ y. g y ∷ []) ys) → Paired S (x ∷ xs) (changed p (λ y. g y ∷ []) (y ∷ ys))
    at true is ih = rw is (does x y h.0, paired_implied R S stays xs ys h.1)
    at false is ih = rw is (stays x y h.0, ih)

  pub found_paired : (R : X → X → Type 0) (p : X → Bool) → ((x y : X) → R x y → p y ≡ p x) → (xs ys : List X) → Paired R xs ys → BothFound R (find p xs) (find p ys)
  found_paired R p same [] [] h = tt
  found_paired R p same [] (y ∷ ys) h = absurd h
  found_paired R p same (x ∷ xs) [] h = absurd h
  found_paired R p same (x ∷ xs) (y ∷ ys) h = at (p x) refl (found_paired R p same xs ys h.1) where
    at : (b : Bool) → p x ≡ b → BothFound R (find p xs) (find p ys) → BothFound R (find p (x ∷ xs)) (find p (y ∷ ys))
    at true is ih = rw (same x y h.0, is) h.0
    at false is ih = rw (same x y h.0, is) ih

  pub sum_paired : (R : X → X → Type 0) (f : X → ℕ) → ((x y : X) → R x y → f y ≡ f x) → (xs ys : List X) → Paired R xs ys → sum_by f ys ≡ sum_by f xs
  sum_paired R f same [] [] h = refl
  sum_paired R f same [] (y ∷ ys) h = absurd h
  sum_paired R f same (x ∷ xs) [] h = absurd h
  sum_paired R f same (x ∷ xs) (y ∷ ys) h = omega (arith, sum_by-cons f x xs, sum_by-cons f y ys, same x y h.0, sum_paired R f same xs ys h.1)

  -- ---- tests that say the same of each element

  pub find_alike : (p q : X → Bool) → ((x : X) → p x ≡ q x) → (xs : List X) → find p xs ≡ find q xs
  find_alike p q same [] = refl
  find_alike p q same (x ∷ xs) = at (q x) refl (find_alike p q same xs) where
    at : (b : Bool) → q x ≡ b → find p xs ≡ find q xs → find p (x ∷ xs) ≡ find q (x ∷ xs)
    at true is ih = rw (same x, is) refl
    at false is ih = rw (same x, is) ih

  -- none of them is the first that passes
  pub find_none : (p : X → Bool) (xs : List X) → Each (λ x. p x ≡ false) xs → find p xs ≡ None
  find_none p [] h = refl
  find_none p (x ∷ xs) h = rw h.0 (find_none p xs h.1)

  -- ---- a change of one element

  -- passes the test as before
  pub any_unmoved : (p q : X → Bool) (g : X → List X) → ((x : X) → q x ≡ true → list_any p (g x) ≡ p x) → (xs : List X) → list_any p (changed q g xs) ≡ list_any p xs
  any_unmoved p q g same [] = refl
  any_unmoved p q g same (x ∷ xs) = at (q x) refl (any_unmoved p q g same xs) where
    at : (b : Bool) → q x ≡ b → list_any p (changed q g xs) ≡ list_any p xs → list_any p (changed q g (x ∷ xs)) ≡ list_any p (x ∷ xs)
    at true is ih = rw is (list_any-append p (g x) xs ∙ ap (λ (b : Bool). b || list_any p xs) (same x is))
    at false is ih = rw is (ap (λ (b : Bool). p x || b) ih)

  -- of the last, where no other passes
  pub changed_last : (p : X → Bool) (g : X → List X) (xs : List X) (x : X) → find p xs ≡ None → p x ≡ true → changed p g (xs ++ x ∷ []) ≡ xs ++ (g x ++ [])
  changed_last p g [] x none passes = rw passes refl
  changed_last p g (y ∷ ys) x none passes = at (p y) refl (λ h. changed_last p g ys x h passes) where
    at : (b : Bool) → p y ≡ b → (find p ys ≡ None → changed p g (ys ++ x ∷ []) ≡ ys ++ (g x ++ [])) → changed p g ((y ∷ ys) ++ x ∷ []) ≡ (y ∷ ys) ++ (g x ++ [])
    at true is ih = let bad : Some y ≡ None = rw is at none in absurd cc
    at false is ih = rw is (ap (λ (l : List X). y ∷ l) (ih (rw is at none)))

  -- ---- finding

  -- something passes where what was found by one test passes the other
  pub some_passes : (p q : X → Bool) (x : X) (xs : List X) → find p xs ≡ Some x → q x ≡ true → (y : X) × (find q xs ≡ Some y)
  some_passes p q x [] is ok = absurd cc
  some_passes p q x (y ∷ ys) is ok = at (p y) refl (q y) refl (λ h. some_passes p q x ys h ok) where
    at : (b : Bool) → p y ≡ b → (c : Bool) → q y ≡ c → (find p ys ≡ Some x → (z : X) × (find q ys ≡ Some z)) → (z : X) × (find q (y ∷ ys) ≡ Some z)
    at b here true passes ih = (y, rw passes refl)
    at true here false passes ih = let bad : q y ≡ true = ap q (found_here p y x ys here is) ∙ ok in absurd cc
    at false here false passes ih = let more = ih (rw here at is) in (more.0, rw passes more.1)
