-- What is found by two tests, and by one that is narrower than another; whose row was found.
use Rattle.std.proofs.Common.{◌≡◌, ℕ, List, [], ◌∷◌, find, ◌&&◌, Bool, true, false, Option, Some, None, cond, refl, sym, ap, ◌∙◌}
use Rattle.std.specs.List.{filter}
use Rattle.std.specs.Option.{option_map}
use Rattle.sb_index.specs.declared.row.Row.{Row}
use Rattle.sb_machine.specs.declared.state.StoredCopy.{StoredCopy}
use Rattle.sb_copies.specs.Grouped.{own_row}

module _ {X : Type 0} where
  pub find_filter : (p q : X → Bool) (xs : List X) → find (λ x. p x && q x) xs ≡ find p (filter q xs)
  find_filter p q [] = refl
  find_filter p q (x ∷ xs) = at (q x) refl (find_filter p q xs) where
    at : (b : Bool) → q x ≡ b → find (λ y. p y && q y) xs ≡ find p (filter q xs) → find (λ y. p y && q y) (x ∷ xs) ≡ find p (filter q (x ∷ xs))
    at true e ih = rw e (inner (p x)) where
      inner : (t : Bool) → cond (t && true) (Some x) (find (λ y. p y && q y) xs) ≡ cond t (Some x) (find p (filter q xs))
      inner true = refl
      inner false = ih
    at false e ih = rw e (inner (p x)) where
      inner : (t : Bool) → cond (t && false) (Some x) (find (λ y. p y && q y) xs) ≡ find p (filter q xs)
      inner true = ih
      inner false = ih

  -- by a test that only those pass which pass another
  pub narrow_found : (p q : X → Bool) (xs : List X) (x : X) → ((y : X) → p y ≡ true → q y ≡ true) → find q xs ≡ Some x → p x ≡ true → find p xs ≡ Some x
  narrow_found p q [] x all found passes = absurd cc
  narrow_found p q (y ∷ ys) x all found passes = at (q y) refl (narrow_found p q ys x all) where
    at : (b : Bool) → q y ≡ b → (find q ys ≡ Some x → p x ≡ true → find p ys ≡ Some x) → find p (y ∷ ys) ≡ Some x
    at true e ih = let it : Some y ≡ Some x = rw e at found in let same : y ≡ x = cc in rw (ap p same ∙ passes) it
    at false e ih = inner (p y) refl where
      inner : (t : Bool) → p y ≡ t → find p (y ∷ ys) ≡ Some x
      inner true f = absurd (let bad : false ≡ true = sym e ∙ all y f in cc)
      inner false f = let rest : find q ys ≡ Some x = rw e at found in rw f (ih rest passes)

  pub narrow_none : (p q : X → Bool) (xs : List X) → ((y : X) → p y ≡ true → q y ≡ true) → find q xs ≡ None → find p xs ≡ None
  narrow_none p q [] all found = refl
  narrow_none p q (y ∷ ys) all found = at (q y) refl (narrow_none p q ys all) where
    at : (b : Bool) → q y ≡ b → (find q ys ≡ None → find p ys ≡ None) → find p (y ∷ ys) ≡ None
    at true e ih = absurd (let bad : Some y ≡ None = rw e at found in cc)
    at false e ih = inner (p y) refl where
      inner : (t : Bool) → p y ≡ t → find p (y ∷ ys) ≡ None
      inner true f = absurd (let bad : false ≡ true = sym e ∙ all y f in cc)
      inner false f = let rest : find q ys ≡ None = rw e at found in rw f (ih rest)

module _ (marked : StoredCopy → Bool) (h : ℕ) where
  pub copy_of : (o : Option StoredCopy) (row : Row) → option_map (own_row marked h) o ≡ Some row → (c : StoredCopy) × (o ≡ Some c) × (row.value ≡ c.number)
  copy_of None row e = absurd cc
  copy_of (Some c) row e = let it : own_row marked h c ≡ row = cc in (c, refl, ap (λ (x : Row). x.value) (sym it))

  pub none_of : (o : Option StoredCopy) → option_map (own_row marked h) o ≡ None → o ≡ None
  none_of None e = refl
  none_of (Some c) e = absurd cc
