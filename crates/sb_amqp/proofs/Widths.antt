-- Numbers in bytes: what is read is spelled so, and what is spelled so is read.
use Rattle.std.proofs.Common.{◌≡◌, ℕ, suc, ◌+◌, ◌^◌, ◌<◌, ◌≤◌, Bool, true, false, cond, ltb, List, ◌∷◌, ◌++◌, length, get_or, take, drop, Some, None, refl, sym, ap, subst, ◌∙◌, arith, inl, inr}
use Rattle.std.specs.Int.{Width, w32, w64, byte_len, from_be_bytes, to_be_bytes}
use Rattle.std.proofs.lemmas.Bool.{cases_lt, ltb-false, le-ltb}
use Rattle.std.proofs.lemmas.List.{take_at, drop_at, take-append-drop, length-append, length-take, get_or-drop, get_or-take, get_or_past}
use Rattle.std.proofs.lemmas.Nat.{be_bytes_4, be_bytes_8, from_be_bytes-to_be_bytes_4, from_be_bytes-to_be_bytes_8}
use Rattle.sb_amqp.specs.Reading.{behind, number_at}

abbrev pub IsBytes : List ℕ → Type 0
IsBytes bytes = (i : ℕ) → get_or bytes i 0 < 256

pub IsBytes-drop : (n : ℕ) (bytes : List ℕ) → IsBytes bytes → IsBytes (drop n bytes)
IsBytes-drop n bytes h i = rw get_or-drop (h (n + i))

IsBytes-take : (n : ℕ) (bytes : List ℕ) → IsBytes bytes → IsBytes (take n bytes)
IsBytes-take n bytes h i =
    elim (cases_lt i n) [
      | inl lt ↦ rw (get_or-take n bytes i 0 lt) (h i)
      | inr le ↦ rw (get_or_past (take n bytes) i 0 (omega (arith, length-take n bytes))) (omega arith)
    ]

pub IsBytes-rest : (b : ℕ) (bytes : List ℕ) → IsBytes (b ∷ bytes) → IsBytes bytes
IsBytes-rest b bytes h i = h (suc i)

pub IsBytes-behind : (front rest bytes : List ℕ) → bytes ≡ front ++ rest → IsBytes bytes → IsBytes rest
IsBytes-behind front rest bytes e h = subst IsBytes (ap (drop (length front)) e ∙ drop_at front rest (length front) refl) (IsBytes-drop (length front) bytes h)

pub IsBytes-front : (front rest bytes : List ℕ) → bytes ≡ front ++ rest → IsBytes bytes → IsBytes front
IsBytes-front front rest bytes e h = subst IsBytes (ap (take (length front)) e ∙ take_at front rest (length front) refl) (IsBytes-take (length front) bytes h)

-- tests that were passed
pub unless_some : {A : Type 0} (b : Bool) (x y : A) → cond b None (Some x) ≡ Some y → (b ≡ false) × (x ≡ y)
unless_some true x y e = absurd cc
unless_some false x y e = (refl, cc)

pub when_some : {A : Type 0} (b : Bool) (x y : A) → cond b (Some x) None ≡ Some y → (b ≡ true) × (x ≡ y)
when_some true x y e = (refl, cc)
when_some false x y e = absurd cc

-- ---- so many bytes

pub behind_gives : (n : ℕ) (bytes rest : List ℕ) → behind n bytes ≡ Some rest → (length (take n bytes) ≡ n) × (bytes ≡ take n bytes ++ rest)
unfolding behind
behind_gives n bytes rest e =
    let g = unless_some (ltb (length bytes) n) (drop n bytes) rest e in
    let long : n ≤ length bytes = ltb-false _ _ g.0 in (
      omega (arith, length-take n bytes),
      sym (take-append-drop n bytes) ∙ ap (λ (tail : List ℕ). take n bytes ++ tail) g.1,
    )

pub behind_again : (n : ℕ) (front rest : List ℕ) → length front ≡ n → behind n (front ++ rest) ≡ Some rest
unfolding behind
behind_again n front rest len =
    let long : ltb (length (front ++ rest)) n ≡ false = le-ltb _ _ (omega (arith, length-append front rest, len)) in
    rw (long, drop_at front rest n len) refl

-- ---- numbers

pub record IsWide (w : Width) (limit : ℕ) : Type 0 where
  pub len : (n : ℕ) → length (to_be_bytes w n) ≡ byte_len w
  pub back : (bytes : List ℕ) → length bytes ≡ byte_len w → IsBytes bytes → to_be_bytes w (from_be_bytes w bytes) ≡ bytes
  pub again : (n : ℕ) → n < limit → from_be_bytes w (to_be_bytes w n) ≡ n
  pub below : (bytes : List ℕ) → IsBytes bytes → from_be_bytes w bytes < limit

pub wide32 : IsWide w32 (2 ^ 32)
wide32 = record {
  len = λ n. refl;
  back = λ bytes len fits. be_bytes_4 bytes _ len fits refl;
  again = λ n lt. from_be_bytes-to_be_bytes_4 n lt;
  below = λ bytes fits. omega (arith, fits 0, fits 1, fits 2, fits 3);
}

pub wide64 : IsWide w64 (2 ^ 64)
wide64 = record {
  len = λ n. refl;
  back = λ bytes len fits. be_bytes_8 bytes _ len fits refl;
  again = λ n lt. from_be_bytes-to_be_bytes_8 n lt;
  below = λ bytes fits. omega (arith, fits 0, fits 1, fits 2, fits 3, fits 4, fits 5, fits 6, fits 7);
}

-- what a number took from the front
pub record Taken (w : Width) (limit : ℕ) (bytes : List ℕ) (x : ℕ × List ℕ) : Type 0 where
  pub parts : bytes ≡ to_be_bytes w x.0 ++ x.1
  pub below : x.0 < limit
  pub rest : IsBytes x.1

pub number_takes : (w : Width) (limit : ℕ) → IsWide w limit → (bytes : List ℕ) (x : ℕ × List ℕ) → IsBytes bytes → number_at w bytes ≡ Some x → Taken w limit bytes x
unfolding number_at
number_takes w limit wide bytes x bounds e =
    let made : ℕ × List ℕ = (from_be_bytes w (take (byte_len w) bytes), drop (byte_len w) bytes) in
    let g = unless_some (ltb (length bytes) (byte_len w)) made x e in
    let long : byte_len w ≤ length bytes = ltb-false _ _ g.0 in
    let bounded : IsBytes (take (byte_len w) bytes) = IsBytes-take (byte_len w) bytes bounds in
    let front : to_be_bytes w made.0 ≡ take (byte_len w) bytes = wide.back (take (byte_len w) bytes) (omega (arith, length-take (byte_len w) bytes)) bounded in
    subst (Taken w limit bytes) g.1 (record {
      parts = rw front (sym (take-append-drop (byte_len w) bytes));
      below = wide.below (take (byte_len w) bytes) bounded;
      rest = IsBytes-drop (byte_len w) bytes bounds;
    })

pub number_again : (w : Width) (limit : ℕ) → IsWide w limit → (n : ℕ) (rest : List ℕ) → n < limit → number_at w (to_be_bytes w n ++ rest) ≡ Some (n, rest)
unfolding number_at
number_again w limit wide n rest lt =
    let len = wide.len n in
    let long : ltb (length (to_be_bytes w n ++ rest)) (byte_len w) ≡ false = le-ltb _ _ (omega (arith, length-append (to_be_bytes w n) rest)) in
    rw (long, take_at (to_be_bytes w n) rest (byte_len w) len, drop_at (to_be_bytes w n) rest (byte_len w) len, wide.again n lt) refl
