-- What rises by a key, as it changes.
use Rattle.std.proofs.Common.{◌≡◌, ℕ, ◌+◌, ◌≤◌, Bool, true, false, List, [], ◌∷◌, ◌++◌, filter, length, refl, arith}
use Rattle.sb_machine.specs.Each.{Each}
use Rattle.sb_machine.specs.Keyed.{AreRising, changed}

module _ {X : Type 0} (key : X → ℕ) where
  pub rising_lower : (above low last : ℕ) (xs : List X) → above ≤ low → AreRising key low last xs → AreRising key above last xs
  rising_lower above low last [] le h = omega (arith, le, h)
  rising_lower above low last (x ∷ xs) le h = (omega (arith, le, h.0), h.1)

  pub rising_dropped : (p : X → Bool) (above last : ℕ) (xs : List X) → AreRising key above last xs → AreRising key above last (changed p (λ x. []) xs)
  rising_dropped p above last [] h = h
  rising_dropped p above last (x ∷ xs) h = at (p x) refl (rising_dropped p (key x) last xs h.1) where
    at : (b : Bool) → p x ≡ b → AreRising key (key x) last (changed p (λ y. []) xs) → AreRising key above last (changed p (λ y. []) (x ∷ xs))
    at true passes ih = rw passes (rising_lower above (key x) last xs (omega (arith, h.0)) h.1)
    at false passes ih = rw passes (h.0, ih)

  pub rising_changed : (p : X → Bool) (f : X → X) → ((x : X) → key (f x) ≡ key x) → (above last : ℕ) (xs : List X) → AreRising key above last xs → AreRising key above last (changed p (λ x. f x ∷ []) xs)
  rising_changed p f same above last [] h = h
  rising_changed p f same above last (x ∷ xs) h = at (p x) refl (rising_changed p f same (key x) last xs h.1) where
    at : (b : Bool) → p x ≡ b → AreRising key (key x) last (changed p (λ y. f y ∷ []) xs) → AreRising key above last (changed p (λ y. f y ∷ []) (x ∷ xs))
    at true passes ih = rw (passes, same x) (h.0, h.1)
    at false passes ih = rw passes (h.0, ih)

  pub rising_append : (above last : ℕ) (x : X) (xs : List X) → key x ≡ last + 1 → AreRising key above last xs → AreRising key above (last + 1) (xs ++ x ∷ [])
  rising_append above last x [] is h = (omega (arith, is, h), omega (arith, is))
  rising_append above last x (y ∷ ys) is h = (h.0, rising_append (key y) last x ys is h.1)

  pub rising_filter : (p : X → Bool) (above last : ℕ) (xs : List X) → AreRising key above last xs → AreRising key above last (filter p xs)
  rising_filter p above last [] h = h
  rising_filter p above last (x ∷ xs) h = at (p x) refl (rising_filter p (key x) last xs h.1) where
    at : (b : Bool) → p x ≡ b → AreRising key (key x) last (filter p xs) → AreRising key above last (filter p (x ∷ xs))
    at true passes ih = rw passes (h.0, ih)
    at false passes ih = rw passes (rising_lower above (key x) last (filter p xs) (omega (arith, h.0)) ih)

  -- above a number none has it
  pub each_above : (n above last : ℕ) (Q : X → Type 0) (xs : List X) → n ≤ above → AreRising key above last xs → Each (λ x. key x ≡ n → Q x) xs
  each_above n above last Q [] le h = tt
  each_above n above last Q (x ∷ xs) le h = ((λ is. absurd (omega (arith, is, le, h.0))), each_above n (key x) last Q xs (omega (arith, le, h.0)) h.1)

  -- up to a later last
  pub rising_passed : (above last later : ℕ) (xs : List X) → last ≤ later → AreRising key above last xs → AreRising key above later xs
  rising_passed above last later [] le h = omega (arith, le, h)
  rising_passed above last later (x ∷ xs) le h = (h.0, rising_passed (key x) last later xs le h.1)

  -- there are no more than there are numbers
  pub rising_few : (above last : ℕ) (xs : List X) → AreRising key above last xs → above + length xs ≤ last
  rising_few above last [] h = omega (arith, h)
  rising_few above last (x ∷ xs) h = omega (arith, h.0, rising_few (key x) last xs h.1)
