-- Lists in which the first that passes was replaced.
use Rattle.std.proofs.Common.{Bool, List, None, Option, Some, [], ap, arith, false, refl, subst, true, ℕ, ◌++◌, ◌+◌, ◌∙◌, ◌∷◌, ◌≡◌}
use Rattle.std.proofs.lemmas.List.Sums.{sum_by-append, sum_by-cons}
use Rattle.std.specs.Prelude.{find, sum_by}
use Rattle.sb_laws.proofs.Rows.{found}
use Rattle.sb_machine.specs.Keyed.{changed}
use Rattle.sb_machine.specs.Selection.{fails}

module _ {X : Type 0} where
  pub found_here : (p : X → Bool) (x e : X) (xs : List X) → p x ≡ true → find p (x ∷ xs) ≡ Some e → x ≡ e
  found_here p x e xs passes found = let here : Some x ≡ Some e = rw passes at found in cc

  pub found_behind : (p : X → Bool) (x : X) (xs : List X) (r : Option X) → p x ≡ false → find p (x ∷ xs) ≡ r → find p xs ≡ r
  found_behind p x xs r fails found = rw fails at found

  pub changed_sum : (f : X → ℕ) (p : X → Bool) (g : X → List X) (e : X) (xs : List X) → find p xs ≡ Some e → sum_by f (changed p g xs) + f e ≡ sum_by f xs + sum_by f (g e)
  changed_sum f p g e [] found = absurd cc
  changed_sum f p g e (x ∷ xs) found = at (p x) refl (changed_sum f p g e xs) where
    at : (b : Bool) → p x ≡ b → (find p xs ≡ Some e → sum_by f (changed p g xs) + f e ≡ sum_by f xs + sum_by f (g e)) → sum_by f (changed p g (x ∷ xs)) + f e ≡ sum_by f (x ∷ xs) + sum_by f (g e)
    at true is ih =
        let same = found_here p x e xs is found in
        let here : sum_by f (g x ++ xs) + f x ≡ sum_by f (x ∷ xs) + sum_by f (g x) = omega (arith, sum_by-append f (g x) xs, sum_by-cons f x xs) in
        rw is (subst (λ (y : X). sum_by f (g x ++ xs) + f y ≡ sum_by f (x ∷ xs) + sum_by f (g y)) same here)
    at false is ih =
        let rest = ih (found_behind p x xs (Some e) is found) in
        rw is (omega (arith, sum_by-cons f x (changed p g xs), sum_by-cons f x xs))

  pub changed_none : (p : X → Bool) (g : X → List X) (xs : List X) → find p xs ≡ None → changed p g xs ≡ xs
  changed_none p g [] none = refl
  changed_none p g (x ∷ xs) none = at (p x) refl (changed_none p g xs) where
    at : (b : Bool) → p x ≡ b → (find p xs ≡ None → changed p g xs ≡ xs) → changed p g (x ∷ xs) ≡ x ∷ xs
    at true is ih = let bad : Some x ≡ None = rw is at none in absurd cc
    at false is ih = rw is (ap (λ (l : List X). x ∷ l) (ih (found_behind p x xs None is none)))

  -- what was found passes
  pub found_passes : (p : X → Bool) (e : X) (xs : List X) → find p xs ≡ Some e → p e ≡ true
  found_passes p e [] found = absurd cc
  found_passes p e (x ∷ xs) found = at (p x) refl (found_passes p e xs) where
    at : (b : Bool) → p x ≡ b → (find p xs ≡ Some e → p e ≡ true) → p e ≡ true
    at true is ih = subst (λ (y : X). p y ≡ true) (found_here p x e xs is found) is
    at false is ih = ih (found_behind p x xs (Some e) is found)

  -- the new one is found where it passes
  pub found_changed : (p : X → Bool) (g : X → List X) (e y : X) (xs : List X) → find p xs ≡ Some e → g e ≡ y ∷ [] → p y ≡ true → find p (changed p g xs) ≡ Some y
  found_changed p g e y [] found is passes = absurd cc
  found_changed p g e y (x ∷ xs) found is passes = at (p x) refl (found_changed p g e y xs) where
    at : (b : Bool) → p x ≡ b → (find p xs ≡ Some e → g e ≡ y ∷ [] → p y ≡ true → find p (changed p g xs) ≡ Some y) → find p (changed p g (x ∷ xs)) ≡ Some y
    at true here ih =
        let gives : g x ≡ y ∷ [] = ap g (found_here p x e xs here found) ∙ is in
        rw here (rw gives (rw passes))
    at false here ih = rw (here, here) (ih (found_behind p x xs (Some e) here found) is passes)

  -- another one is found as before, where neither the old nor the new one is it
  pub found_other : (p q : X → Bool) (g : X → List X) (xs : List X) → ((x : X) → p x ≡ true → q x ≡ false) → ((x : X) → p x ≡ true → find q (g x) ≡ None) → find q (changed p g xs) ≡ find q xs
  found_other p q g [] apart none = refl
  found_other p q g (x ∷ xs) apart none = at (p x) refl (found_other p q g xs apart none) where
    past : (ys : List X) → find q ys ≡ None → find q (ys ++ xs) ≡ find q xs
    past [] e = refl
    past (y ∷ ys) e = on (q y) refl (past ys) where
      on : (b : Bool) → q y ≡ b → (find q ys ≡ None → find q (ys ++ xs) ≡ find q xs) → find q ((y ∷ ys) ++ xs) ≡ find q xs
      on true is ih = let bad : Some y ≡ None = rw is at e in absurd cc
      on false is ih = rw is (ih (found_behind q y ys None is e))

    at : (b : Bool) → p x ≡ b → find q (changed p g xs) ≡ find q xs → find q (changed p g (x ∷ xs)) ≡ find q (x ∷ xs)
    at true here ih = rw (here, apart x here) (past (g x) (none x here))
    at false here ih = rw here (on (q x) refl) where
      on : (b : Bool) → q x ≡ b → find q (x ∷ changed p g xs) ≡ find q (x ∷ xs)
      on true is = rw is refl
      on false is = rw is ih

  pub found_append : (p : X → Bool) (xs ys : List X) → find p xs ≡ None → find p (xs ++ ys) ≡ find p ys
  found_append p [] ys none = refl
  found_append p (x ∷ xs) ys none = at (p x) refl (found_append p xs ys) where
    at : (b : Bool) → p x ≡ b → (find p xs ≡ None → find p (xs ++ ys) ≡ find p ys) → find p ((x ∷ xs) ++ ys) ≡ find p ys
    at true is ih = let bad : Some x ≡ None = rw is at none in absurd cc
    at false is ih = rw is (ih (found_behind p x xs None is none))

  pub found_first : (p : X → Bool) (e : X) (xs ys : List X) → find p xs ≡ Some e → find p (xs ++ ys) ≡ Some e
  found_first p e [] ys found = absurd cc
  found_first p e (x ∷ xs) ys found = at (p x) refl (found_first p e xs ys) where
    at : (b : Bool) → p x ≡ b → (find p xs ≡ Some e → find p (xs ++ ys) ≡ Some e) → find p ((x ∷ xs) ++ ys) ≡ Some e
    at true is ih = rw is (rw is at found)
    at false is ih = rw is (ih (found_behind p x xs (Some e) is found))

pub sum_single : {X : Type 0} (f : X → ℕ) (x : X) → sum_by f (x ∷ []) ≡ f x
sum_single f x = omega (arith, sum_by-cons f x [])
