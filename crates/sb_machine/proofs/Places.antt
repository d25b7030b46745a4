-- What is done at a place that a search gave is what `changed` says.
use Rattle.std.proofs.Common.{◌≡◌, ℕ, zero, suc, ◌+◌, ◌<◌, ◌≤◌, List, [], ◌∷◌, ◌++◌, length, get_or, Bool, true, false, Option, Some, None, find, position, refl, sym, ap, ◌∙◌, subst, arith, cond, nat_lt}
use Rattle.std.specs.Prelude.{slice_set, IfSome}
use Rattle.std.specs.List.{position_or_len, slice_get, remove}
use Rattle.std.proofs.lemmas.Option.{slice_get_past}
use Rattle.std.proofs.lemmas.List.Folds.{find_at}
use Rattle.std.proofs.lemmas.Bool.Decides.{nat_tests}
use Rattle.sb_machine.specs.Keyed.{changed}

pub there : (n m k : ℕ) → cond (nat_lt n m) (Some n) None ≡ Some k → (n < m) × (n ≡ k)
there n m k found = grind (arith, nat_tests)

pub nowhere : (n m : ℕ) → cond (nat_lt n m) (Some n) None ≡ None → m ≤ n
nowhere n m found = grind (arith, nat_tests)

module _ {X : Type 0} where
  pub at_most : (p : X → Bool) (xs : List X) → position_or_len p xs ≤ length xs
  at_most p [] = omega arith
  at_most p (x ∷ xs) = at (p x) refl (at_most p xs) where
    at : (b : Bool) → p x ≡ b → position_or_len p xs ≤ length xs → position_or_len p (x ∷ xs) ≤ length (x ∷ xs)
    at true is le = rw is (omega arith)
    at false is le = rw is (omega (arith, le))

  pub get_some : (xs : List X) (i : ℕ) (x : X) → i < length xs → x ≡ get_or xs i x → slice_get xs i ≡ Some x
  get_some [] i x lt is = absurd (omega (arith, lt))
  get_some (y ∷ ys) zero x lt is = ap (λ z. Some z) (sym is)
  get_some (y ∷ ys) (suc i) x lt is = get_some ys i x (omega (arith, lt)) is

  -- a search by any test
  pub found_at : (p : X → Bool) (cs : List X) (i : ℕ) (x : X) → Some i ≡ position p cs → x ≡ get_or cs i x → Some x ≡ find p cs
  found_at p cs i x found is =
      let t = there (position_or_len p cs) (length cs) i (sym found) in
      sym (find_at p cs ∙ ap (slice_get cs) t.1 ∙ get_some cs i x (omega (arith, t.0, t.1)) is)

  pub found_none : (p : X → Bool) (cs : List X) → None ≡ position p cs → None ≡ find p cs
  found_none p cs found = sym (find_at p cs ∙ slice_get_past cs (position_or_len p cs) (nowhere (position_or_len p cs) (length cs) (sym found)))

  -- the end, where nothing passes
  pub at_end : (p : X → Bool) (xs : List X) → None ≡ position p xs → length xs ≡ position_or_len p xs
  at_end p xs found = let le = nowhere (position_or_len p xs) (length xs) (sym found) in let ge = at_most p xs in omega (arith, le, ge)

  pub at_place : (p : X → Bool) (xs : List X) (i : ℕ) → Some i ≡ position p xs → i ≡ position_or_len p xs
  at_place p xs i found = sym (there (position_or_len p xs) (length xs) i (sym found)).1

  -- the place is behind one that fails, and here where it passes
  behind : (p : X → Bool) (x : X) (xs : List X) (i : ℕ) → p x ≡ false → position_or_len p (x ∷ xs) ≡ suc i → position_or_len p xs ≡ i
  behind p x xs i is e = let it : 1 + position_or_len p xs ≡ suc i = rw is at e in omega (arith, it)

  not_here : (p : X → Bool) (x : X) (xs : List X) → p x ≡ false → position_or_len p (x ∷ xs) ≡ 0 → ⊥
  not_here p x xs is e = let it : 1 + position_or_len p xs ≡ 0 = rw is at e in omega (arith, it)

  not_behind : (p : X → Bool) (x : X) (xs : List X) (i : ℕ) → p x ≡ true → position_or_len p (x ∷ xs) ≡ suc i → ⊥
  not_behind p x xs i is e = let it : 0 ≡ suc i = rw is at e in omega (arith, it)

  removed : (p : X → Bool) (xs : List X) (i : ℕ) → position_or_len p xs ≡ i → remove xs i ≡ changed p (λ x. []) xs
  removed p [] zero e = refl
  removed p [] (suc i) e = refl
  removed p (x ∷ xs) zero e = at (p x) refl where
    at : (b : Bool) → p x ≡ b → remove (x ∷ xs) 0 ≡ changed p (λ x. []) (x ∷ xs)
    at true is = rw is refl
    at false is = absurd (not_here p x xs is e)
  removed p (x ∷ xs) (suc i) e = at (p x) refl (removed p xs i) where
    at : (b : Bool) → p x ≡ b → (position_or_len p xs ≡ i → remove xs i ≡ changed p (λ x. []) xs) → remove (x ∷ xs) (suc i) ≡ changed p (λ x. []) (x ∷ xs)
    at true is ih = absurd (not_behind p x xs i is e)
    at false is ih = rw is (ap (λ (l : List X). x ∷ l) (ih (behind p x xs i is e)))

  changed_same : (p : X → Bool) (g : X → List X) (xs : List X) → length xs ≤ position_or_len p xs → changed p g xs ≡ xs
  changed_same p g [] le = refl
  changed_same p g (x ∷ xs) le = at (p x) refl (changed_same p g xs) where
    at : (b : Bool) → p x ≡ b → (length xs ≤ position_or_len p xs → changed p g xs ≡ xs) → changed p g (x ∷ xs) ≡ x ∷ xs
    at true is ih = let bad : suc (length xs) ≤ 0 = rw is at le in absurd (omega (arith, bad))
    at false is ih = let rest : suc (length xs) ≤ 1 + position_or_len p xs = rw is at le in rw is (ap (λ (l : List X). x ∷ l) (ih (omega (arith, rest))))

  set_first : (p : X → Bool) (f : X → X) (x : X) (xs : List X) (i : ℕ) → position_or_len p xs ≡ i → slice_get xs i ≡ Some x → slice_set xs i (f x) ≡ changed p (λ x. f x ∷ []) xs
  set_first p f x [] i e is = absurd cc
  set_first p f x (y ∷ ys) zero e is = at (p y) refl where
    at : (b : Bool) → p y ≡ b → slice_set (y ∷ ys) 0 (f x) ≡ changed p (λ x. f x ∷ []) (y ∷ ys)
    at true here = let same : y ≡ x = cc in rw here (ap (λ (z : X). f z ∷ ys) (sym same))
    at false here = absurd (not_here p y ys here e)
  set_first p f x (y ∷ ys) (suc i) e is = at (p y) refl (set_first p f x ys i) where
    at : (b : Bool) → p y ≡ b → (position_or_len p ys ≡ i → slice_get ys i ≡ Some x → slice_set ys i (f x) ≡ changed p (λ x. f x ∷ []) ys) → slice_set (y ∷ ys) (suc i) (f x) ≡ changed p (λ x. f x ∷ []) (y ∷ ys)
    at true here ih = absurd (not_behind p y ys i here e)
    at false here ih = rw here (ap (λ (l : List X). y ∷ l) (ih (behind p y ys i here e) is))

  -- for the answers of a store's calls: 'xs'' is the list as the search saw it
  pub take_is : (p : X → Bool) (i : ℕ) (xs xs' new : List X) → xs' ≡ xs → Some i ≡ position p xs' → new ≡ remove xs i → new ≡ changed p (λ x. []) xs
  take_is p i xs xs' new same found is =
      let at = at_place p xs i (subst (λ (l : List X). Some i ≡ position p l) same found) in
      is ∙ removed p xs i (sym at)

  pub nothing : (p : X → Bool) (g : X → List X) (xs xs' : List X) → xs' ≡ xs → None ≡ position p xs' → xs ≡ changed p g xs
  nothing p g xs xs' same found = sym (changed_same p g xs (nowhere (position_or_len p xs) (length xs) (sym (subst (λ (l : List X). None ≡ position p l) same found))))

  pub nothing_taken : (p : X → Bool) (xs xs' : List X) → xs' ≡ xs → None ≡ position p xs' → xs ≡ changed p (λ x. []) xs
  nothing_taken p = nothing p (λ x. [])

  pub nothing_set : (p : X → Bool) (f : X → X) (xs xs' : List X) → xs' ≡ xs → None ≡ position p xs' → xs ≡ changed p (λ x. f x ∷ []) xs
  nothing_set p f = nothing p (λ x. f x ∷ [])

  -- where the first that passes gives the same by either
  pub changed_alike : (p : X → Bool) (f g : X → List X) (x : X) (xs : List X) → find p xs ≡ Some x → f x ≡ g x → changed p f xs ≡ changed p g xs
  changed_alike p f g x [] found e = refl
  changed_alike p f g x (y ∷ ys) found e = at (p y) refl (changed_alike p f g x ys) where
    at : (b : Bool) → p y ≡ b → (find p ys ≡ Some x → f x ≡ g x → changed p f ys ≡ changed p g ys) → changed p f (y ∷ ys) ≡ changed p g (y ∷ ys)
    at true here ih = let it : Some y ≡ Some x = rw here at found in let same : y ≡ x = cc in rw here (ap (λ (l : List X). l ++ ys) (subst (λ (z : X). f z ≡ g z) (sym same) e))
    at false here ih = let rest : find p ys ≡ Some x = rw here at found in rw here (ap (λ (l : List X). y ∷ l) (ih rest e))

  pub found_is : (p : X → Bool) (xs : List X) (i : ℕ) (x : X) → Some i ≡ position p xs → slice_get xs i ≡ Some x → Some x ≡ find p xs
  found_is p xs i x found is = sym (find_at p xs ∙ ap (slice_get xs) (sym (at_place p xs i found)) ∙ is)

  pub taken_is : (p : X → Bool) (i : ℕ) (x : X) (xs xs' : List X) → xs' ≡ xs → Some i ≡ position p xs' → x ≡ get_or xs i x → Some x ≡ find p xs
  taken_is p i x xs xs' same found is = found_at p xs i x (subst (λ (l : List X). Some i ≡ position p l) same found) is

  pub taken_none : (p : X → Bool) (xs xs' : List X) → xs' ≡ xs → None ≡ position p xs' → None ≡ find p xs
  taken_none p xs xs' same found = found_none p xs (subst (λ (l : List X). None ≡ position p l) same found)

  not_past : (xs : List X) (i : ℕ) → i < length xs → slice_get xs i ≡ None → ⊥
  not_past [] i lt is = omega (arith, lt)
  not_past (x ∷ xs) zero lt is = absurd cc
  not_past (x ∷ xs) (suc i) lt is = not_past xs i (omega (arith, lt)) is

  pub set_is : (p : X → Bool) (f : X → X) (i : ℕ) (xs xs' new : List X) → xs' ≡ xs → Some i ≡ position p xs' → IfSome (slice_get xs i) (λ x. new ≡ slice_set xs i (f x)) → new ≡ changed p (λ x. f x ∷ []) xs
  set_is p f i xs xs' new same found set = at (slice_get xs i) refl where
    seen : Some i ≡ position p xs
    seen = subst (λ (l : List X). Some i ≡ position p l) same found

    where_ : i ≡ position_or_len p xs
    where_ = at_place p xs i seen

    within : i < length xs
    within = let t = there (position_or_len p xs) (length xs) i (sym seen) in omega (arith, t.0, t.1)

    at : (o : Option X) → slice_get xs i ≡ o → new ≡ changed p (λ x. f x ∷ []) xs
    at (Some x) is =
        let it : new ≡ slice_set xs i (f x) = subst (λ (o : Option X). IfSome o (λ y. new ≡ slice_set xs i (f y))) is set in
        it ∙ set_first p f x xs i (sym where_) is
    at None is = absurd (not_past xs i within is)

  -- what stands at the place that a search gave
  pub found_some : (p : X → Bool) (i : ℕ) (xs : List X) → Some i ≡ position p xs → (x : X) × (find p xs ≡ Some x) × (slice_get xs i ≡ Some x)
  found_some p i xs seen = at (slice_get xs i) refl where
    within : i < length xs
    within = let t = there (position_or_len p xs) (length xs) i (sym seen) in omega (arith, t.0, t.1)

    at : (o : Option X) → slice_get xs i ≡ o → (x : X) × (find p xs ≡ Some x) × (slice_get xs i ≡ Some x)
    at (Some x) is = (x, sym (found_is p xs i x seen is), is)
    at None is = absurd (not_past xs i within is)

  -- what is got at the place that a search gave
  pub got_is : (p : X → Bool) (i : ℕ) (r : Option X) (xs : List X) → Some i ≡ position p xs → r ≡ slice_get xs i → r ≡ find p xs
  got_is p i r xs found is = let it = found_some p i xs found in is ∙ it.2 ∙ sym it.1

  -- what a search finds passes its test
  pub found_passes : (p : X → Bool) (xs : List X) (x : X) → find p xs ≡ Some x → p x ≡ true
  found_passes p [] x found = absurd cc
  found_passes p (y ∷ ys) x found = at (p y) refl (found_passes p ys x) where
    at : (b : Bool) → p y ≡ b → (find p ys ≡ Some x → p x ≡ true) → p x ≡ true
    at true here ih = let it : Some y ≡ Some x = rw here at found in let same : y ≡ x = cc in subst (λ (z : X). p z ≡ true) same here
    at false here ih = let rest : find p ys ≡ Some x = rw here at found in ih rest
