-- A search, a filter, a change and a sum by what is seen of each row are those of the list that is seen.
use Rattle.std.proofs.Common.{◌≡◌, ℕ, Bool, true, false, not, List, [], ◌∷◌, ◌++◌, filter, find, map, option_map, position, refl, ap, ◌∙◌}
use Rattle.std.proofs.lemmas.List.{map-append, length-map}
use Rattle.std.specs.List.{prefix_len}
use Rattle.std.specs.Prelude.{sum_by}
use Rattle.std.proofs.Common.{arith}
use Rattle.std.proofs.lemmas.List.Sums.{sum_by-cons}
use Rattle.sb_machine.specs.Keyed.{changed}

pub map_map : {X Y Z : Type 0} (g : Y → Z) (f : X → Y) (xs : List X) → map g (map f xs) ≡ map (λ x. g (f x)) xs
map_map g f [] = refl
map_map g f (x ∷ xs) = ap (λ l. g (f x) ∷ l) (map_map g f xs)

module _ {X Y : Type 0} (f : X → Y) (p : Y → Bool) where
  pub filter_seen : (xs : List X) → map f (filter (λ x. p (f x)) xs) ≡ filter p (map f xs)
  filter_seen [] = refl
  filter_seen (x ∷ xs) = at (p (f x)) refl (filter_seen xs) where
    at : (b : Bool) → p (f x) ≡ b → map f (filter (λ y. p (f y)) xs) ≡ filter p (map f xs) → map f (filter (λ y. p (f y)) (x ∷ xs)) ≡ filter p (map f (x ∷ xs))
    at true is ih = rw is (ap (λ (l : List Y). f x ∷ l) ih)
    at false is ih = rw is ih

  pub changed_seen : (g : X → List X) (h : Y → List Y) → ((x : X) → map f (g x) ≡ h (f x)) → (xs : List X) → map f (changed (λ x. p (f x)) g xs) ≡ changed p h (map f xs)
  changed_seen g h same [] = refl
  changed_seen g h same (x ∷ xs) = at (p (f x)) refl (changed_seen g h same xs) where
    at : (b : Bool) → p (f x) ≡ b → map f (changed (λ y. p (f y)) g xs) ≡ changed p h (map f xs) → map f (changed (λ y. p (f y)) g (x ∷ xs)) ≡ changed p h (map f (x ∷ xs))
    at true is ih = rw is (map-append f (g x) xs ∙ ap (λ (l : List Y). l ++ map f xs) (same x))
    at false is ih = rw is (ap (λ (l : List Y). f x ∷ l) ih)

  -- what changes where nothing of it is seen
  pub unseen : (g : X → List X) → ((x : X) → map f (g x) ≡ f x ∷ []) → (xs : List X) → map f (changed (λ x. p (f x)) g xs) ≡ map f xs
  unseen g same [] = refl
  unseen g same (x ∷ xs) = at (p (f x)) refl (unseen g same xs) where
    at : (b : Bool) → p (f x) ≡ b → map f (changed (λ y. p (f y)) g xs) ≡ map f xs → map f (changed (λ y. p (f y)) g (x ∷ xs)) ≡ map f (x ∷ xs)
    at true is ih = rw is (map-append f (g x) xs ∙ ap (λ (l : List Y). l ++ map f xs) (same x))
    at false is ih = rw is (ap (λ (l : List Y). f x ∷ l) ih)

  pub find_seen : (xs : List X) → option_map f (find (λ x. p (f x)) xs) ≡ find p (map f xs)
  find_seen [] = refl
  find_seen (x ∷ xs) = at (p (f x)) refl (find_seen xs) where
    at : (b : Bool) → p (f x) ≡ b → option_map f (find (λ y. p (f y)) xs) ≡ find p (map f xs) → option_map f (find (λ y. p (f y)) (x ∷ xs)) ≡ find p (map f (x ∷ xs))
    at true is ih = rw is refl
    at false is ih = rw is ih

  prefix_seen : (xs : List X) → prefix_len p (map f xs) ≡ prefix_len (λ x. p (f x)) xs
  prefix_seen [] = refl
  prefix_seen (x ∷ xs) = rw (prefix_seen xs) refl

pub position_seen : {X Y : Type 0} (f : X → Y) (p : Y → Bool) (xs : List X) → position (λ x. p (f x)) xs ≡ position p (map f xs)
position_seen f p xs = rw (prefix_seen f (λ y. not (p y)) xs, length-map xs f) refl

pub sum_seen : {X Y : Type 0} (f : X → Y) (g : Y → ℕ) (xs : List X) → sum_by (λ x. g (f x)) xs ≡ sum_by g (map f xs)
sum_seen f g [] = refl
sum_seen f g (x ∷ xs) = omega (arith, sum_seen f g xs, sum_by-cons (λ y. g (f y)) x xs, sum_by-cons g (f x) (map f xs))
