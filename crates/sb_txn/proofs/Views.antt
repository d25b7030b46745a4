-- A search, a change and a filter by what is seen of each row are those of the list that is seen.
use Rattle.std.proofs.Common.{◌≡◌, Bool, true, false, List, [], ◌∷◌, ◌++◌, find, filter, map, refl, ap, ◌∙◌}
use Rattle.std.proofs.lemmas.List.{map-append}
use Rattle.std.specs.Option.{option_map}
use Rattle.sb_machine.specs.Keyed.{changed}

module _ {X Y : Type 0} (f : X → Y) (p : Y → Bool) where
  pub find_seen : (xs : List X) → option_map f (find (λ x. p (f x)) xs) ≡ find p (map f xs)
  find_seen [] = refl
  find_seen (x ∷ xs) = at (p (f x)) refl (find_seen xs) where
    at : (b : Bool) → p (f x) ≡ b → option_map f (find (λ y. p (f y)) xs) ≡ find p (map f xs) → option_map f (find (λ y. p (f y)) (x ∷ xs)) ≡ find p (map f (x ∷ xs))
    at true is ih = rw is refl
    at false is ih = rw is ih

  pub filter_seen : (xs : List X) → map f (filter (λ x. p (f x)) xs) ≡ filter p (map f xs)
  filter_seen [] = refl
  filter_seen (x ∷ xs) = at (p (f x)) refl (filter_seen xs) where
    at : (b : Bool) → p (f x) ≡ b → map f (filter (λ y. p (f y)) xs) ≡ filter p (map f xs) → map f (filter (λ y. p (f y)) (x ∷ xs)) ≡ filter p (map f (x ∷ xs))
    at true is ih = rw is (ap (λ (l : List Y). f x ∷ l) ih)
    at false is ih = rw is ih

  pub changed_seen : (g : X → List X) (h : Y → List Y) → ((x : X) → map f (g x) ≡ h (f x)) → (xs : List X) → map f (changed (λ x. p (f x)) g xs) ≡ changed p h (map f xs)
  changed_seen g h same [] = refl
  changed_seen g h same (x ∷ xs) = at (p (f x)) refl (changed_seen g h same xs) where
    at : (b : Bool) → p (f x) ≡ b → map f (changed (λ y. p (f y)) g xs) ≡ changed p h (map f xs) → map f (changed (λ y. p (f y)) g (x ∷ xs)) ≡ changed p h (map f (x ∷ xs))
    at true is ih = rw is (map-append f (g x) xs ∙ ap (λ (l : List Y). l ++ map f xs) (same x))
    at false is ih = rw is (ap (λ (l : List Y). f x ∷ l) ih)

  -- what changes where nothing of it is seen
  pub unseen : (g : X → List X) → ((x : X) → map f (g x) ≡ f x ∷ []) → (xs : List X) → map f (changed (λ x. p (f x)) g xs) ≡ map f xs
  unseen g same [] = refl
  unseen g same (x ∷ xs) = at (p (f x)) refl (unseen g same xs) where
    at : (b : Bool) → p (f x) ≡ b → map f (changed (λ y. p (f y)) g xs) ≡ map f xs → map f (changed (λ y. p (f y)) g (x ∷ xs)) ≡ map f (x ∷ xs)
    at true is ih = rw is (map-append f (g x) xs ∙ ap (λ (l : List Y). l ++ map f xs) (same x))
    at false is ih = rw is (ap (λ (l : List Y). f x ∷ l) ih)
