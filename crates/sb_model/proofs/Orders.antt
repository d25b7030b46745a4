-- Lists that rise, with some taken out or one put in its place.
use Rattle.std.proofs.Common.{◌≡◌, Bool, true, false, List, [], ◌∷◌, refl, one-add}
use Rattle.std.specs.Prelude.{not, ◌&&◌}
use Rattle.std.specs.List.{list_all, filter, insert, prefix_len}
use Rattle.sb_model.specs.Orders.{AreRising}

both : (a b : Bool) → (a && b) ≡ true → (a ≡ true) × (b ≡ true)
both true b e = (refl, e)
both false b e = absurd cc

pair : (a b : Bool) → a ≡ true → b ≡ true → (a && b) ≡ true
pair a b p q = rw p q

module _ {X : Type 0} where
  pub all_filter : (p q : X → Bool) (xs : List X) → list_all p xs ≡ true → list_all p (filter q xs) ≡ true
  all_filter p q [] all = refl
  all_filter p q (x ∷ xs) all = at (q x) refl (both (p x) (list_all p xs) all) (all_filter p q xs) where
    at : (b : Bool) → q x ≡ b → (p x ≡ true) × (list_all p xs ≡ true) → (list_all p xs ≡ true → list_all p (filter q xs) ≡ true) → list_all p (filter q (x ∷ xs)) ≡ true
    at true is parts ih = rw is (pair (p x) (list_all p (filter q xs)) parts.0 (ih parts.1))
    at false is parts ih = rw is (ih parts.1)

  pub all_pass : (q : X → Bool) (xs : List X) → list_all q (filter q xs) ≡ true
  all_pass q [] = refl
  all_pass q (x ∷ xs) = at (q x) refl (all_pass q xs) where
    at : (b : Bool) → q x ≡ b → list_all q (filter q xs) ≡ true → list_all q (filter q (x ∷ xs)) ≡ true
    at true is ih = rw (is, is) ih
    at false is ih = rw is ih

  pub rising_filter : (before : X → X → Bool) (q : X → Bool) (xs : List X) → AreRising before xs → AreRising before (filter q xs)
  rising_filter before q [] rising = tt
  rising_filter before q (x ∷ xs) rising = at (q x) refl (rising_filter before q xs rising.1) where
    at : (b : Bool) → q x ≡ b → AreRising before (filter q xs) → AreRising before (filter q (x ∷ xs))
    at true is ih = rw is (all_filter (before x) q xs rising.0, ih)
    at false is ih = rw is ih

  -- behind those that stand before it
  module _ (before : X → X → Bool) (x : X) where
    placed : List X → List X
    placed xs = insert xs (prefix_len (λ y. before y x) xs) x

    pub all_placed : (p : X → Bool) (xs : List X) → p x ≡ true → list_all p xs ≡ true → list_all p (insert xs (prefix_len (λ y. before y x) xs) x) ≡ true
    all_placed p [] one all = rw one refl
    all_placed p (y ∷ ys) one all = at (before y x) refl (both (p y) (list_all p ys) all) (all_placed p ys one) where
      at : (b : Bool) → before y x ≡ b → (p y ≡ true) × (list_all p ys ≡ true) → (list_all p ys ≡ true → list_all p (insert ys (prefix_len (λ z. before z x) ys) x) ≡ true) → list_all p (insert (y ∷ ys) (prefix_len (λ z. before z x) (y ∷ ys)) x) ≡ true
      at true is parts ih = rw (is, one-add) (pair (p y) (list_all p (insert ys (prefix_len (λ z. before z x) ys) x)) parts.0 (ih parts.1))
      at false is parts ih = rw is (pair (p x) (p y && list_all p ys) one (pair (p y) (list_all p ys) parts.0 parts.1))

    module _ (same : X → X → Bool) (later : (y z : X) → before x y ≡ true → before y z ≡ true → before x z ≡ true) (other : (y : X) → before y x ≡ false → same y x ≡ false → before x y ≡ true) where
      all_later : (y : X) (ys : List X) → before x y ≡ true → list_all (before y) ys ≡ true → list_all (before x) ys ≡ true
      all_later y [] one all = refl
      all_later y (z ∷ zs) one all =
          let parts = both (before y z) (list_all (before y) zs) all in
          pair (before x z) (list_all (before x) zs) (later y z one parts.0) (all_later y zs one parts.1)

      differs : (b : Bool) → not b ≡ true → b ≡ false
      differs true e = absurd cc
      differs false e = refl

      pub rising_placed : (xs : List X) → list_all (λ y. not (same y x)) xs ≡ true → AreRising before xs → AreRising before (insert xs (prefix_len (λ y. before y x) xs) x)
      rising_placed [] others rising = (refl, tt)
      rising_placed (y ∷ ys) others rising = at (before y x) refl (both (not (same y x)) (list_all (λ z. not (same z x)) ys) others) (rising_placed ys) where
        at : (b : Bool) → before y x ≡ b → (not (same y x) ≡ true) × (list_all (λ z. not (same z x)) ys ≡ true) → (list_all (λ z. not (same z x)) ys ≡ true → AreRising before ys → AreRising before (insert ys (prefix_len (λ z. before z x) ys) x)) → AreRising before (insert (y ∷ ys) (prefix_len (λ z. before z x) (y ∷ ys)) x)
        at true is parts ih = rw (is, one-add) (all_placed (before y) ys is rising.0, ih parts.1 rising.1)
        at false is parts ih =
            let here : before x y ≡ true = other y is (differs (same y x) parts.0) in
            rw is (pair (before x y) (list_all (before x) ys) here (all_later y ys here rising.0), rising)
