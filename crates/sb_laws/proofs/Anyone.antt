-- Whether one of a list passes, where the list is changed.
use Rattle.std.proofs.Common.{Bool, List, Some, [], ap, false, filter, inl, inr, one-add, refl, sym, true, ◌++◌, ◌||◌, ◌∙◌, ◌∷◌, ◌≡◌}
use Rattle.std.proofs.lemmas.List.Folds.{list_any-append}
use Rattle.std.specs.List.{list_any}
use Rattle.std.specs.Prelude.{find, ◌⊎◌}
use Rattle.sb_laws.proofs.Eachs.{each_implied}
use Rattle.sb_laws.proofs.Lists.{found_behind, found_here}
use Rattle.sb_machine.specs.Each.{Each}
use Rattle.sb_machine.specs.Keyed.{changed, with_sorted}

pub either : (a b : Bool) → (a || b) ≡ true → (a ≡ true) ⊎ (b ≡ true)
either true b e = inl refl
either false b e = inr e

pub neither : (a b : Bool) → (a || b) ≡ false → (a ≡ false) × (b ≡ false)
neither true b e = absurd cc
neither false b e = (refl, e)

pub or_left : (a b : Bool) → a ≡ true → (a || b) ≡ true
or_left a b e = rw e refl

pub or_right : (a b : Bool) → b ≡ true → (a || b) ≡ true
or_right true b e = refl
or_right false b e = e

pub or_map : (a b c d : Bool) → (a ≡ true → c ≡ true) → (b ≡ true → d ≡ true) → (a || b) ≡ true → (c || d) ≡ true
or_map a b c d f g e = at (either a b e) where
  at : (a ≡ true) ⊎ (b ≡ true) → (c || d) ≡ true
  at (inl p) = or_left c d (f p)
  at (inr p) = or_right c d (g p)

-- each passes its own test
pub each_any : {X : Type 0} (p : X → X → Bool) → ((x : X) → p x x ≡ true) → (xs : List X) → Each (λ x. list_any (p x) xs ≡ true) xs
each_any p same [] = tt
each_any p same (x ∷ xs) = (or_left (p x x) (list_any (p x) xs) (same x), each_implied (λ y. list_any (p y) xs ≡ true) (λ y. list_any (p y) (x ∷ xs) ≡ true) (λ y is. or_right (p y x) (list_any (p y) xs) is) xs (each_any p same xs))

module _ {X : Type 0} (p : X → Bool) where
  pub any_found : (q : X → Bool) (x : X) (xs : List X) → find q xs ≡ Some x → p x ≡ true → list_any p xs ≡ true
  any_found q x [] found ok = absurd cc
  any_found q x (y ∷ ys) found ok = at (q y) refl (λ later. any_found q x ys later ok) where
    at : (b : Bool) → q y ≡ b → (find q ys ≡ Some x → list_any p ys ≡ true) → list_any p (y ∷ ys) ≡ true
    at true is ih = or_left (p y) (list_any p ys) (ap p (found_here q y x ys is found) ∙ ok)
    at false is ih = or_right (p y) (list_any p ys) (ih (found_behind q y ys (Some x) is found))

  -- with one more in its place
  pub any_placed : (before : X → Bool) (x : X) (xs : List X) → list_any p xs ≡ true → list_any p (with_sorted before x xs) ≡ true
  any_placed before x [] e = absurd cc
  any_placed before x (y ∷ ys) e = at (before y) refl (λ h. any_placed before x ys h) where
    at : (b : Bool) → before y ≡ b → (list_any p ys ≡ true → list_any p (with_sorted before x ys) ≡ true) → list_any p (with_sorted before x (y ∷ ys)) ≡ true
    at true is ih = rw (is, one-add) (or_map (p y) (list_any p ys) (p y) (list_any p (with_sorted before x ys)) (λ h. h) ih e)
    at false is ih = rw is (or_right (p x) (list_any p (y ∷ ys)) e)

  pub any_itself : (before : X → Bool) (x : X) (xs : List X) → p x ≡ true → list_any p (with_sorted before x xs) ≡ true
  any_itself before x [] e = or_left (p x) false e
  any_itself before x (y ∷ ys) e = at (before y) refl (any_itself before x ys e) where
    at : (b : Bool) → before y ≡ b → list_any p (with_sorted before x ys) ≡ true → list_any p (with_sorted before x (y ∷ ys)) ≡ true
    at true is ih = rw (is, one-add) (or_right (p y) (list_any p (with_sorted before x ys)) ih)
    at false is ih = rw is (or_left (p x) (list_any p (y ∷ ys)) e)

  -- one that passes now passed before
  pub any_append : (xs ys : List X) → list_any p (xs ++ ys) ≡ true → list_any p ys ≡ false → list_any p xs ≡ true
  any_append [] ys e none = let bad : false ≡ true = sym none ∙ e in absurd cc
  any_append (x ∷ xs) ys e none = or_map (p x) (list_any p (xs ++ ys)) (p x) (list_any p xs) (λ h. h) (λ h. any_append xs ys h none) e

  pub any_changed : (q : X → Bool) (g : X → X) (xs : List X) → ((x : X) → p (g x) ≡ true → p x ≡ true) → list_any p (changed q (λ x. g x ∷ []) xs) ≡ true → list_any p xs ≡ true
  any_changed q g [] back e = absurd cc
  any_changed q g (x ∷ xs) back e = at (q x) refl (λ h. any_changed q g xs back h) where
    at : (b : Bool) → q x ≡ b → (list_any p (changed q (λ x. g x ∷ []) xs) ≡ true → list_any p xs ≡ true) → list_any p (x ∷ xs) ≡ true
    at true is ih = or_map (p (g x)) (list_any p xs) (p x) (list_any p xs) (back x) (λ h. h) (rw is at e)
    at false is ih = or_map (p x) (list_any p (changed q (λ x. g x ∷ []) xs)) (p x) (list_any p xs) (λ h. h) ih (rw is at e)

  pub any_gone : (q : X → Bool) (xs : List X) → list_any p (changed q (λ x. []) xs) ≡ true → list_any p xs ≡ true
  any_gone q [] e = absurd cc
  any_gone q (x ∷ xs) e = at (q x) refl (λ h. any_gone q xs h) where
    at : (b : Bool) → q x ≡ b → (list_any p (changed q (λ x. []) xs) ≡ true → list_any p xs ≡ true) → list_any p (x ∷ xs) ≡ true
    at true is ih = or_right (p x) (list_any p xs) (rw is at e)
    at false is ih = or_map (p x) (list_any p (changed q (λ x. []) xs)) (p x) (list_any p xs) (λ h. h) ih (rw is at e)

  pub any_filter : (q : X → Bool) (xs : List X) → list_any p (filter q xs) ≡ true → list_any p xs ≡ true
  any_filter q [] e = absurd cc
  any_filter q (x ∷ xs) e = at (q x) refl (λ h. any_filter q xs h) where
    at : (b : Bool) → q x ≡ b → (list_any p (filter q xs) ≡ true → list_any p xs ≡ true) → list_any p (x ∷ xs) ≡ true
    at true is ih = or_map (p x) (list_any p (filter q xs)) (p x) (list_any p xs) (λ h. h) ih (rw is at e)
    at false is ih = or_right (p x) (list_any p xs) (ih (rw is at e))

  -- one that passed passes still
  pub any_front : (xs ys : List X) → list_any p xs ≡ true → list_any p (xs ++ ys) ≡ true
  any_front xs ys e = list_any-append p xs ys ∙ or_left (list_any p xs) (list_any p ys) e

  pub any_back : (xs ys : List X) → list_any p ys ≡ true → list_any p (xs ++ ys) ≡ true
  any_back xs ys e = list_any-append p xs ys ∙ or_right (list_any p xs) (list_any p ys) e

  pub any_kept : (q : X → Bool) (g : X → List X) (xs : List X) → ((x : X) → q x ≡ true → p x ≡ true → list_any p (g x) ≡ true) → list_any p xs ≡ true → list_any p (changed q g xs) ≡ true
  any_kept q g [] keeps e = absurd cc
  any_kept q g (x ∷ xs) keeps e = at (q x) refl (λ h. any_kept q g xs keeps h) where
    on : (p x ≡ true) ⊎ (list_any p xs ≡ true) → q x ≡ true → list_any p (g x ++ xs) ≡ true
    on (inl here) is = any_front (g x) xs (keeps x is here)
    on (inr later) is = any_back (g x) xs later

    at : (b : Bool) → q x ≡ b → (list_any p xs ≡ true → list_any p (changed q g xs) ≡ true) → list_any p (changed q g (x ∷ xs)) ≡ true
    at true is ih = rw is (on (either (p x) (list_any p xs) e) is)
    at false is ih = rw is (or_map (p x) (list_any p xs) (p x) (list_any p (changed q g xs)) (λ h. h) ih e)
