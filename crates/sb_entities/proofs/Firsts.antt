-- What a search finds in a list of which one element is changed, or to which one is added.
use Rattle.std.proofs.Common.{◌≡◌, ℕ, suc, ◌+◌, List, [], ◌∷◌, ◌++◌, find, Bool, true, false, Option, Some, None, cond, refl, ap, ◌∙◌, arith}
use Rattle.std.specs.List.{insert, list_any, prefix_len}
use Rattle.std.specs.Option.{option_map}
use Rattle.sb_machine.specs.Keyed.{changed, with_sorted}

one_more : (n : ℕ) → 1 + n ≡ suc n
one_more n = omega arith

module _ {X : Type 0} where
  none_before : (p : X → Bool) (xs ys : List X) → list_any p xs ≡ false → find p (xs ++ ys) ≡ find p ys
  none_before p [] ys none = refl
  none_before p (x ∷ xs) ys none = at (p x) refl (none_before p xs ys) where
    at : (b : Bool) → p x ≡ b → (list_any p xs ≡ false → find p (xs ++ ys) ≡ find p ys) → find p (x ∷ xs ++ ys) ≡ find p ys
    at true e ih = absurd (let bad : true ≡ false = rw e at none in cc)
    at false e ih = rw e (ih (rw e at none))

  -- where neither the one that was changed passes nor what stands there now
  pub other_changed : (q p : X → Bool) (g : X → List X) (xs : List X) → ((x : X) → find q xs ≡ Some x → (p x ≡ false) × (list_any p (g x) ≡ false)) → find p (changed q g xs) ≡ find p xs
  other_changed q p g [] other = refl
  other_changed q p g (x ∷ xs) other = at (q x) refl (other_changed q p g xs) where
    at : (b : Bool) → q x ≡ b → (((y : X) → find q xs ≡ Some y → (p y ≡ false) × (list_any p (g y) ≡ false)) → find p (changed q g xs) ≡ find p xs) → find p (changed q g (x ∷ xs)) ≡ find p (x ∷ xs)
    at true e ih = let it : (p x ≡ false) × (list_any p (g x) ≡ false) = other x (rw e refl) in rw (e, it.0) (none_before p (g x) xs it.1)
    at false e ih = rw e (ap (λ (o : Option X). cond (p x) (Some x) o) (ih (λ y found. other y (rw e found))))

  pub own_changed : (q : X → Bool) (f : X → X) (x : X) (xs : List X) → find q xs ≡ Some x → q (f x) ≡ true → find q (changed q (λ y. f y ∷ []) xs) ≡ Some (f x)
  own_changed q f x [] found passes = absurd cc
  own_changed q f x (y ∷ ys) found passes = at (q y) refl (own_changed q f x ys) where
    at : (b : Bool) → q y ≡ b → (find q ys ≡ Some x → q (f x) ≡ true → find q (changed q (λ z. f z ∷ []) ys) ≡ Some (f x)) → find q (changed q (λ z. f z ∷ []) (y ∷ ys)) ≡ Some (f x)
    at true e ih =
        let it : Some y ≡ Some x = rw e at found in
        let same : y ≡ x = cc in
        rw (e, ap (λ z. q (f z)) same ∙ passes) (ap (λ z. Some (f z)) same)
    at false e ih = rw e (rw e (ih (rw e at found) passes))

  pub none_changed : (q : X → Bool) (g : X → List X) (xs : List X) → find q xs ≡ None → changed q g xs ≡ xs
  none_changed q g [] none = refl
  none_changed q g (x ∷ xs) none = at (q x) refl (none_changed q g xs) where
    at : (b : Bool) → q x ≡ b → (find q xs ≡ None → changed q g xs ≡ xs) → changed q g (x ∷ xs) ≡ x ∷ xs
    at true e ih = absurd (let bad : Some x ≡ None = rw e at none in cc)
    at false e ih = rw e (ap (λ (l : List X). x ∷ l) (ih (rw e at none)))

  -- of what a change leaves as it is
  pub seen_changed : {Y : Type 0} (v : X → Y) (q p : X → Bool) (f : X → X) → ((x : X) → p (f x) ≡ p x) → ((x : X) → v (f x) ≡ v x) → (xs : List X) → option_map v (find p (changed q (λ x. f x ∷ []) xs)) ≡ option_map v (find p xs)
  seen_changed v q p f passes sees [] = refl
  seen_changed v q p f passes sees (x ∷ xs) = at (q x) refl (seen_changed v q p f passes sees xs) where
    at : (b : Bool) → q x ≡ b → option_map v (find p (changed q (λ y. f y ∷ []) xs)) ≡ option_map v (find p xs) → option_map v (find p (changed q (λ y. f y ∷ []) (x ∷ xs))) ≡ option_map v (find p (x ∷ xs))
    at true e ih = rw (e, passes x) (inner (p x)) where
      inner : (t : Bool) → option_map v (cond t (Some (f x)) (find p xs)) ≡ option_map v (cond t (Some x) (find p xs))
      inner true = ap (λ z. Some z) (sees x)
      inner false = refl
    at false e ih = rw e (inner (p x)) where
      inner : (t : Bool) → option_map v (cond t (Some x) (find p (changed q (λ y. f y ∷ []) xs))) ≡ option_map v (cond t (Some x) (find p xs))
      inner true = refl
      inner false = ih

  -- ---- one more

  pub other_last : (p : X → Bool) (x : X) (xs : List X) → p x ≡ false → find p (xs ++ x ∷ []) ≡ find p xs
  other_last p x [] fails = rw fails refl
  other_last p x (y ∷ ys) fails = ap (λ (o : Option X). cond (p y) (Some y) o) (other_last p x ys fails)

  pub still_first : (p : X → Bool) (x y : X) (xs : List X) → find p xs ≡ Some x → find p (xs ++ y ∷ []) ≡ Some x
  still_first p x y [] found = absurd cc
  still_first p x y (z ∷ zs) found = at (p z) refl (still_first p x y zs) where
    at : (b : Bool) → p z ≡ b → (find p zs ≡ Some x → find p (zs ++ y ∷ []) ≡ Some x) → find p (z ∷ zs ++ y ∷ []) ≡ Some x
    at true e ih = let it : Some z ≡ Some x = rw e at found in rw e it
    at false e ih = rw e (ih (rw e at found))

  sorted_later : (before : X → Bool) (x y : X) (l : List X) → before y ≡ true → with_sorted before x (y ∷ l) ≡ y ∷ with_sorted before x l
  sorted_later before x y l e = ap (λ b. insert (y ∷ l) (cond b (1 + prefix_len before l) 0) x) e ∙ ap (λ n. insert (y ∷ l) n x) (one_more (prefix_len before l))

  sorted_first : (before : X → Bool) (x y : X) (l : List X) → before y ≡ false → with_sorted before x (y ∷ l) ≡ x ∷ y ∷ l
  sorted_first before x y l e = ap (λ b. insert (y ∷ l) (cond b (1 + prefix_len before l) 0) x) e

  pub other_sorted : (before p : X → Bool) (x : X) (xs : List X) → p x ≡ false → find p (with_sorted before x xs) ≡ find p xs
  other_sorted before p x [] fails = rw fails refl
  other_sorted before p x (y ∷ ys) fails = at (before y) refl (other_sorted before p x ys fails) where
    at : (b : Bool) → before y ≡ b → find p (with_sorted before x ys) ≡ find p ys → find p (with_sorted before x (y ∷ ys)) ≡ find p (y ∷ ys)
    at true e ih = ap (λ (l : List X). find p l) (sorted_later before x y ys e) ∙ ap (λ (o : Option X). cond (p y) (Some y) o) ih
    at false e ih = ap (λ (l : List X). find p l) (sorted_first before x y ys e) ∙ rw fails refl

  pub own_sorted : (before p : X → Bool) (x : X) (xs : List X) → find p xs ≡ None → p x ≡ true → find p (with_sorted before x xs) ≡ Some x
  own_sorted before p x [] none passes = rw passes refl
  own_sorted before p x (y ∷ ys) none passes = at (before y) refl (own_sorted before p x ys) where
    fails : p y ≡ false
    fails = inner (p y) refl where
      inner : (t : Bool) → p y ≡ t → p y ≡ false
      inner true e = absurd (let bad : Some y ≡ None = rw e at none in cc)
      inner false e = e

    at : (b : Bool) → before y ≡ b → (find p ys ≡ None → p x ≡ true → find p (with_sorted before x ys) ≡ Some x) → find p (with_sorted before x (y ∷ ys)) ≡ Some x
    at true e ih = ap (λ (l : List X). find p l) (sorted_later before x y ys e) ∙ rw fails (ih (rw fails at none) passes)
    at false e ih = ap (λ (l : List X). find p l) (sorted_first before x y ys e) ∙ rw passes refl
