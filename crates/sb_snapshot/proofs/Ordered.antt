-- Lists that stand in order, as forms ask for them.
use Rattle.std.proofs.Common.{◌≡◌, ℕ, ◌<◌, Bool, true, List, [], ◌∷◌, ◌++◌, Option, Some, None, refl}
use Rattle.sb_codec.specs.Forms.{Follow}
use Rattle.sb_codec.specs.Messages.{any_next}
use Rattle.sb_machine.specs.Each.{Each, Pairs}
use Rattle.sb_machine.specs.Keyed.{AreRising}

module _ {A : Type 0} where
  pub each_more : (P Q : A → Type 0) → ((x : A) → P x → Q x) → (xs : List A) → Each P xs → Each Q xs
  each_more P Q more [] h = tt
  each_more P Q more (x ∷ xs) h = (more x h.0, each_more P Q more xs h.1)

  pub each_both : (P Q : A → Type 0) (xs : List A) → Each P xs → Each Q xs → Each (λ x. P x × Q x) xs
  each_both P Q [] h k = tt
  each_both P Q (x ∷ xs) h k = ((h.0, k.0), each_both P Q xs h.1 k.1)

  pub each_append : (P : A → Type 0) (xs ys : List A) → Each P xs → Each P ys → Each P (xs ++ ys)
  each_append P [] ys h k = k
  each_append P (x ∷ xs) ys h k = (h.0, each_append P xs ys h.1 k)

  pub pairs_append : (R : A → A → Type 0) (xs ys : List A) → Pairs R xs → Pairs R ys → Each (λ x. Each (R x) ys) xs → Pairs R (xs ++ ys)
  pairs_append R [] ys p q cross = q
  pairs_append R (x ∷ xs) ys p q cross = (each_append (R x) xs ys p.0 cross.0, pairs_append R xs ys p.1 q cross.1)

  -- any order will do
  pub follow_each : (Q : A → Type 0) (last : Option A) (xs : List A) → Each Q xs → Follow (λ last x. Q x × (any_next last x ≡ true)) last xs
  follow_each Q last [] h = tt
  follow_each Q last (x ∷ xs) h = ((h.0, refl), follow_each Q (Some x) xs h.1)

  module _ (P Q : A → Type 0) (follows : Option A → A → Bool) (more : (x : A) → P x → Q x) (first : (x : A) → P x → follows None x ≡ true) where
    abbrev Followed : Option A → List A → Type 0
    Followed last xs = Follow (λ last x. Q x × (follows last x ≡ true)) last xs

    module _ (before : A → A → Bool) (next : (a b : A) → P b → before a b ≡ true → follows (Some a) b ≡ true) where
      behind_one : (a : A) (xs : List A) → Each (λ y. before a y ≡ true) xs → Each P xs → Pairs (λ x y. before x y ≡ true) xs → Followed (Some a) xs
      behind_one a [] b e p = tt
      behind_one a (x ∷ xs) b e p = ((more x e.0, next a x e.0 b.0), behind_one x xs p.0 e.1 p.1)

      -- sorted lists
      pub follow_sorted : (xs : List A) → Each P xs → Pairs (λ x y. before x y ≡ true) xs → Followed None xs
      follow_sorted [] e p = tt
      follow_sorted (x ∷ xs) e p = ((more x e.0, first x e.0), behind_one x xs p.0 e.1 p.1)

    module _ (key : A → ℕ) (next : (a b : A) → key a < key b → follows (Some a) b ≡ true) where
      above_one : (a : A) (top : ℕ) (xs : List A) → AreRising key (key a) top xs → Each P xs → Followed (Some a) xs
      above_one a top [] r e = tt
      above_one a top (x ∷ xs) r e = ((more x e.0, next a x r.0), above_one x top xs r.1 e.1)

      -- rising keys
      pub follow_rising : (low top : ℕ) (xs : List A) → AreRising key low top xs → Each P xs → Followed None xs
      follow_rising low top [] r e = tt
      follow_rising low top (x ∷ xs) r e = ((more x e.0, first x e.0), above_one x top xs r.1 e.1)
