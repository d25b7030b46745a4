-- What is found in a list with one more in its place.
use Rattle.std.proofs.Common.{Bool, List, None, Some, [], false, one-add, refl, true, ◌∷◌, ◌≡◌}
use Rattle.std.specs.Prelude.{find}
use Rattle.sb_laws.proofs.Lists.{found_behind}
use Rattle.sb_machine.specs.Keyed.{with_sorted}

module _ {X : Type 0} where
  pub placed_behind : (before : X → Bool) (x y : X) (ys : List X) → before y ≡ true → with_sorted before x (y ∷ ys) ≡ y ∷ with_sorted before x ys
  placed_behind before x y ys is = rw (is, one-add) refl

  pub placed_here : (before : X → Bool) (x y : X) (ys : List X) → before y ≡ false → with_sorted before x (y ∷ ys) ≡ x ∷ y ∷ ys
  placed_here before x y ys is = rw is refl

  -- another is found as before
  pub found_past : (p before : X → Bool) (x : X) (xs : List X) → p x ≡ false → find p (with_sorted before x xs) ≡ find p xs
  found_past p before x [] off = rw off refl
  found_past p before x (y ∷ ys) off = at (before y) refl (found_past p before x ys off) where
    at : (b : Bool) → before y ≡ b → find p (with_sorted before x ys) ≡ find p ys → find p (with_sorted before x (y ∷ ys)) ≡ find p (y ∷ ys)
    at true is ih = rw (is, one-add) (on (p y) refl) where
      on : (c : Bool) → p y ≡ c → find p (y ∷ with_sorted before x ys) ≡ find p (y ∷ ys)
      on true here = rw here refl
      on false here = rw here ih
    at false is ih = rw is (rw off refl)

  -- it is found, where none is found yet
  pub found_placed : (p before : X → Bool) (x : X) (xs : List X) → find p xs ≡ None → p x ≡ true → find p (with_sorted before x xs) ≡ Some x
  found_placed p before x [] none passes = rw passes refl
  found_placed p before x (y ∷ ys) none passes = at (before y) refl (p y) refl (λ rest. found_placed p before x ys rest passes) where
    at : (b : Bool) → before y ≡ b → (c : Bool) → p y ≡ c → (find p ys ≡ None → find p (with_sorted before x ys) ≡ Some x) → find p (with_sorted before x (y ∷ ys)) ≡ Some x
    at b is true here ih = let bad : Some y ≡ None = rw here at none in absurd cc
    at true is false here ih = rw (is, one-add) (rw here (ih (found_behind p y ys None here none)))
    at false is false here ih = rw is (rw passes refl)
