-- What sweeps leave alone in a list of copies: one changes or goes only where a test T passes, and none comes to pass a test P.
use Rattle.std.proofs.Common.{Bool, List, None, Option, Some, [], ap, arith, cond, false, filter, inl, inr, refl, subst, sym, true, ℕ, ◌++◌, ◌<◌, ◌==◌, ◌∙◌, ◌∷◌, ◌≡◌, ◌≤◌, ◌⊎◌}
use Rattle.sb_laws.proofs.AfterTick.{filter_none}
use Rattle.sb_laws.proofs.Eachs.{each_append, each_both, each_changed, each_implied, is_equal, rising_above}
use Rattle.sb_laws.proofs.Lists.{found_passes}
use Rattle.sb_machine.specs.Each.{Each}
use Rattle.sb_machine.specs.Keyed.{AreRising, changed}
use Rattle.sb_machine.specs.Leaves.{has_number}
use Rattle.sb_machine.specs.declared.state.Standing.{Standing}
use Rattle.sb_machine.specs.declared.state.StoredCopy.{StoredCopy}

-- where keys rise, each element is the only one of its key
pub rising_alone : {X : Type 0} (key : X → ℕ) (above last : ℕ) (xs : List X) → AreRising key above last xs → Each (λ x. Each (λ y. key y ≡ key x → y ≡ x) xs) xs
rising_alone key above last [] h = tt
rising_alone key above last (x ∷ xs) h = (
  (
    (λ same. refl),
    each_implied (λ y. (key x < key y) × (key y ≤ last)) (λ y. key y ≡ key x → y ≡ x) (λ y up same. absurd (omega (arith, up.0, same))) xs (rising_above key (key x) last xs h.1),
  ),
  each_implied (λ z. ((key x < key z) × (key z ≤ last)) × Each (λ y. key y ≡ key z → y ≡ z) xs) (λ z. (key x ≡ key z → x ≡ z) × Each (λ y. key y ≡ key z → y ≡ z) xs)
      (λ z both. ((λ same. absurd (omega (arith, both.0.0, same))), both.1)) xs
      (each_both (λ z. (key x < key z) × (key z ≤ last)) (λ z. Each (λ y. key y ≡ key z → y ≡ z) xs) xs (rising_above key (key x) last xs h.1) (rising_alone key (key x) last xs h.1)),
)

abbrev pub with_state : ℕ → Standing → StoredCopy → StoredCopy
with_state count standing c = record c { count = count; standing = standing }

-- what stands in the place of a copy: nothing, or the copy with this count and standing
abbrev pub put : Option (ℕ × Standing) → StoredCopy → List StoredCopy
put None c = []
put (Some so) c = with_state so.0 so.1 c ∷ []

module _ (T P : StoredCopy → Bool) where
  -- Copies of a part as they were, and as they are: each stays, or passed T and is gone, or passed T and stands otherwise so
  -- that P fails. Behind them stand those that entered since.
  abbrev pub Spares : ℕ → List StoredCopy → List StoredCopy → Type 0
  Spares last [] ys = Each (λ c. (last < c.number) × (P c ≡ false)) ys
  Spares last (x ∷ xs) ys =
      ((rest : List StoredCopy) × (ys ≡ x ∷ rest) × Spares last xs rest)
      ⊎ (((T x ≡ true) × Spares last xs ys)
      ⊎ ((rest : List StoredCopy) × (count : ℕ) × (standing : Standing) × (T x ≡ true) × (P (with_state count standing x) ≡ false) × (ys ≡ with_state count standing x ∷ rest) × Spares last xs rest))

  -- the copy may go, or stand so
  abbrev pub MayBe : Option (ℕ × Standing) → StoredCopy → Type 0
  MayBe None c = T c ≡ true
  MayBe (Some so) c = (T c ≡ true) × (P (with_state so.0 so.1 c) ≡ false)

  pub spares_all : (last : ℕ) (xs : List StoredCopy) → Spares last xs xs
  spares_all last [] = tt
  spares_all last (x ∷ xs) = inl (xs, refl, spares_all last xs)

  pub spares_entered : (last : ℕ) (c : StoredCopy) (xs ys : List StoredCopy) → last < c.number → P c ≡ false → Spares last xs ys → Spares last xs (ys ++ c ∷ [])
  spares_entered last c [] ys above fails h = each_append (λ c. (last < c.number) × (P c ≡ false)) ys (c ∷ []) h ((above, fails), tt)
  spares_entered last c (x ∷ xs) ys above fails (inl it) = inl (it.0 ++ c ∷ [], ap (λ (l : List StoredCopy). l ++ c ∷ []) it.1, spares_entered last c xs it.0 above fails it.2)
  spares_entered last c (x ∷ xs) ys above fails (inr (inl it)) = inr (inl (it.0, spares_entered last c xs ys above fails it.1))
  spares_entered last c (x ∷ xs) ys above fails (inr (inr it)) =
      inr (inr (it.0 ++ c ∷ [], it.1, it.2, it.3, it.4, ap (λ (l : List StoredCopy). l ++ c ∷ []) it.5, spares_entered last c xs it.0 above fails it.6))

  -- in the place of a copy that may be so
  here : (does : Option (ℕ × Standing)) (last : ℕ) (x : StoredCopy) (xs rest zs : List StoredCopy) → MayBe does x → zs ≡ put does x ++ rest → Spares last xs rest → Spares last (x ∷ xs) zs
  here None last x xs rest zs may is h = inr (inl (may, subst (λ (l : List StoredCopy). Spares last xs l) (sym is) h))
  here (Some so) last x xs rest zs may is h = inr (inr (rest, so.0, so.1, may.0, may.1, is, h))

  same_put : (does : Option (ℕ × Standing)) (count : ℕ) (standing : Standing) (x : StoredCopy) → put does (with_state count standing x) ≡ put does x
  same_put None count standing x = refl
  same_put (Some so) count standing x = refl

  -- what stands in the place of the copy of a number, where that one may be so
  pub spares_put : (does : Option (ℕ × Standing)) (n last : ℕ) (xs ys : List StoredCopy) → n ≤ last → Each (λ c. c.number ≡ n → MayBe does c) xs → Spares last xs ys → Spares last xs (changed (has_number n) (put does) ys)
  spares_put does n last [] ys le may h = each_changed (λ c. (last < c.number) × (P c ≡ false)) (has_number n) (put does) ys (λ c there is. absurd (beyond c.number (found_passes (has_number n) c ys there) is.0)) h where
    beyond : (m : ℕ) → (m == n) ≡ true → last < m → ⊥
    beyond m e lt = let same : m ≡ n = is_equal m n e in omega (arith, same, lt, le)
  spares_put does n last (x ∷ xs) ys le may (inl it) = go (x.number == n) refl (spares_put does n last xs it.0 le may.1 it.2) where
    go : (b : Bool) → (x.number == n) ≡ b → Spares last xs (changed (has_number n) (put does) it.0) → Spares last (x ∷ xs) (changed (has_number n) (put does) ys)
    go true e rest = here does last x xs it.0 (changed (has_number n) (put does) ys) (may.0 (is_equal x.number n e)) (ap (changed (has_number n) (put does)) it.1 ∙ rw e refl) it.2
    go false e rest = inl (changed (has_number n) (put does) it.0, ap (changed (has_number n) (put does)) it.1 ∙ rw e refl, rest)
  spares_put does n last (x ∷ xs) ys le may (inr (inl it)) = inr (inl (it.0, spares_put does n last xs ys le may.1 it.1))
  spares_put does n last (x ∷ xs) ys le may (inr (inr it)) = go (x.number == n) refl (spares_put does n last xs it.0 le may.1 it.6) where
    go : (b : Bool) → (x.number == n) ≡ b → Spares last xs (changed (has_number n) (put does) it.0) → Spares last (x ∷ xs) (changed (has_number n) (put does) ys)
    go true e rest =
        here does last x xs it.0 (changed (has_number n) (put does) ys) (may.0 (is_equal x.number n e))
        (ap (changed (has_number n) (put does)) it.5 ∙ rw e refl ∙ ap (λ (l : List StoredCopy). l ++ it.0) (same_put does it.1 it.2 x)) it.6
    go false e rest = inr (inr (changed (has_number n) (put does) it.0, it.1, it.2, it.3, it.4, ap (changed (has_number n) (put does)) it.5 ∙ rw e refl, rest))

  -- what passes P is what passed it
  pub spared : ((c : StoredCopy) → T c ≡ true → P c ≡ false) → (last : ℕ) (xs ys : List StoredCopy) → Spares last xs ys → filter P ys ≡ filter P xs
  spared fails last [] ys h = filter_none P ys (each_implied (λ c. (last < c.number) × (P c ≡ false)) (λ c. P c ≡ false) (λ c is. is.1) ys h)
  spared fails last (x ∷ xs) ys (inl it) = ap (filter P) it.1 ∙ ap (λ (l : List StoredCopy). cond (P x) (x ∷ l) l) (spared fails last xs it.0 it.2)
  spared fails last (x ∷ xs) ys (inr (inl it)) = rw (fails x it.0) (spared fails last xs ys it.1)
  spared fails last (x ∷ xs) ys (inr (inr it)) =
      let gone : filter P (with_state it.1 it.2 x ∷ it.0) ≡ filter P it.0 = rw it.4 refl in
      let was : filter P (x ∷ xs) ≡ filter P xs = rw (fails x it.3) refl in
      ap (filter P) it.5 ∙ gone ∙ spared fails last xs it.0 it.6 ∙ sym was
