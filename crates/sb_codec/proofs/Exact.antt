-- Readers that are exact: what they read is spelled so, and what is spelled so they read, whatever follows.
use Rattle.std.proofs.Common.{◌≡◌, ℕ, zero, suc, ◌+◌, ◌^◌, ◌<◌, ◌≤◌, Bool, true, false, cond, ltb, List, [], ◌∷◌, ◌++◌, length, get_or, take, drop, Option, Some, None, refl, sym, ap, subst, ◌∙◌, append_assoc, arith, inl, inr, ◌⊎◌}
use Rattle.std.specs.Prelude.{IfSome}
use Rattle.std.specs.Int.{Width, w32, w64, byte_len, from_be_bytes, to_be_bytes}
use Rattle.std.specs.List.{flat_map}
use Rattle.std.proofs.lemmas.Bool.{cases_lt, ltb-false, le-ltb}
use Rattle.std.proofs.lemmas.List.{take_at, drop_at, take-append-drop, length-append, length-take, get_or-drop, get_or-take, get_or_past}
use Rattle.std.proofs.lemmas.List.Concat.{flat_map-cons}
use Rattle.std.proofs.lemmas.Nat.{be_bytes_4, be_bytes_8, from_be_bytes-to_be_bytes_4, from_be_bytes-to_be_bytes_8}
use Rattle.sb_codec.specs.Bytes.{sized, optional, listed}
use Rattle.sb_codec.specs.Forms.{Follow}
use Rattle.sb_codec.specs.Readers.{Reader, ◌>>=◌, both, mapped, tested, number_at, sized_at, optional_at, items_at, listed_at}

abbrev pub IsBytes : List ℕ → Type 0
IsBytes bytes = (i : ℕ) → get_or bytes i 0 < 256

IsBytes-drop : (n : ℕ) (bytes : List ℕ) → IsBytes bytes → IsBytes (drop n bytes)
IsBytes-drop n bytes h i = rw get_or-drop (h (n + i))

IsBytes-take : (n : ℕ) (bytes : List ℕ) → IsBytes bytes → IsBytes (take n bytes)
IsBytes-take n bytes h i =
    elim (cases_lt i n) [
      | inl lt ↦ rw (get_or-take n bytes i 0 lt) (h i)
      | inr le ↦ rw (get_or_past (take n bytes) i 0 (omega (arith, length-take n bytes))) (omega arith)
    ]

pub IsBytes-rest : (b : ℕ) (bytes : List ℕ) → IsBytes (b ∷ bytes) → IsBytes bytes
IsBytes-rest b bytes h i = h (suc i)

-- the value of a step that found one
pub bind_some : {A B : Type 0} (r : Option A) (f : A → Option B) (y : B) → (r >>= f) ≡ Some y → (x : A) × (r ≡ Some x) × (f x ≡ Some y)
bind_some (Some x) f y e = (x, refl, e)
bind_some None f y e = absurd cc

-- tests that were passed
pub unless_some : {A : Type 0} (b : Bool) (x y : A) → cond b None (Some x) ≡ Some y → (b ≡ false) × (x ≡ y)
unless_some true x y e = absurd cc
unless_some false x y e = (refl, cc)

pub when_some : {A : Type 0} (b : Bool) (x y : A) → cond b (Some x) None ≡ Some y → (b ≡ true) × (x ≡ y)
when_some true x y e = (refl, cc)
when_some false x y e = absurd cc

pub chosen : {A : Type 0} (b : Bool) (x y z : A) → cond b x y ≡ z → ((b ≡ true) × (x ≡ z)) ⊎ ((b ≡ false) × (y ≡ z))
chosen true x y z e = inl (refl, e)
chosen false x y z e = inr (refl, e)

abbrev found : {A : Type 0} → A → Option A
found x = Some x

pub some_is : {A : Type 0} (x y : A) → found x ≡ found y → x ≡ y
some_is x y e = cc

-- what a reader took from the front
pub record Taken {A : Type 0} (spell : A → List ℕ) (Fits : A → Type 0) (bytes : List ℕ) (x : A × List ℕ) : Type 0 where
  pub parts : bytes ≡ spell x.0 ++ x.1
  pub rest : IsBytes x.1
  pub fits : Fits x.0

pub record Exact {A : Type 0} (read : Reader A) (spell : A → List ℕ) (Fits : A → Type 0) : Type 0 where
  pub takes : (bytes : List ℕ) (x : A × List ℕ) → IsBytes bytes → read bytes ≡ Some x → Taken spell Fits bytes x
  pub again : (a : A) (rest : List ℕ) → Fits a → read (spell a ++ rest) ≡ Some (a, rest)

pub exact_both : {A B : Type 0} {r : Reader A} {q : Reader B} {s : A → List ℕ} {t : B → List ℕ} {F : A → Type 0} {G : B → Type 0}
    → Exact r s F → Exact q t G → Exact (both r q) (λ p. s p.0 ++ t p.1) (λ p. F p.0 × G p.1)
exact_both {A} {B} {r} {q} {s} {t} {F} {G} one other = record {
  takes = λ bytes z bounds e.
      let a = bind_some (r bytes) (λ x. q x.1 >>= λ y. Some ((x.0, y.0), y.1)) z e in
      let b = bind_some (q a.0.1) (λ y. Some ((a.0.0, y.0), y.1)) z a.2 in
      let u = one.takes bytes a.0 bounds a.1 in
      let v = other.takes a.0.1 b.0 u.rest b.1 in
      let made : (A × B) × List ℕ = ((a.0.0, b.0.0), b.0.1) in
      subst (Taken (λ (p : A × B). s p.0 ++ t p.1) (λ (p : A × B). F p.0 × G p.1) bytes) (some_is made z b.2) (record {
        parts = u.parts ∙ ap (λ (tail : List ℕ). s a.0.0 ++ tail) v.parts ∙ sym (append_assoc (s a.0.0) (t b.0.0) b.0.1);
        rest = v.rest;
        fits = (u.fits, v.fits);
      });
  again = λ p rest fits. rw (append_assoc (s p.0) (t p.1) rest, one.again p.0 (t p.1 ++ rest) fits.0, other.again p.1 rest fits.1) refl;
}

-- another form of the value
pub exact_as : {A B : Type 0} {r : Reader A} {s : A → List ℕ} {F : A → Type 0} (f : A → B) (g : B → A) (spell : B → List ℕ) (Fits : B → Type 0)
    → ((a : A) → spell (f a) ≡ s a) → ((b : B) → spell b ≡ s (g b)) → ((b : B) → Fits b → f (g b) ≡ b) → ((a : A) → F a → Fits (f a)) → ((b : B) → Fits b → F (g b))
    → Exact r s F → Exact (mapped f r) spell Fits
exact_as {A} {B} {r} {s} {F} f g spell Fits spelled_so spelled back to from exact = record {
  takes = λ bytes z bounds e.
      let a = bind_some (r bytes) (λ x. Some (f x.0, x.1)) z e in
      let u = exact.takes bytes a.0 bounds a.1 in
      let made : B × List ℕ = (f a.0.0, a.0.1) in
      subst (Taken spell Fits bytes) (some_is made z a.2) (record {
        parts = u.parts ∙ ap (λ (front : List ℕ). front ++ a.0.1) (sym (spelled_so a.0.0));
        rest = u.rest;
        fits = to a.0.0 u.fits;
      });
  again = λ b rest fits. rw (spelled b, exact.again (g b) rest (from b fits), back b fits) refl;
}

pub exact_tested : {A : Type 0} {r : Reader A} {s : A → List ℕ} {F : A → Type 0} (test : A → Bool) → Exact r s F → Exact (tested test r) s (λ a. F a × (test a ≡ true))
exact_tested {A} {r} {s} {F} test exact = record {
  takes = λ bytes z bounds e.
      let a = bind_some (r bytes) (λ x. cond (test x.0) (Some x) None) z e in
      let g = when_some (test a.0.0) a.0 z a.2 in
      let u = exact.takes bytes a.0 bounds a.1 in
      subst (Taken s (λ (a : A). F a × (test a ≡ true)) bytes) g.1 (record { parts = u.parts; rest = u.rest; fits = (u.fits, g.0) });
  again = λ a rest fits. rw (exact.again a rest fits.0, fits.1) refl;
}

-- ---- numbers

pub record IsWide (w : Width) (limit : ℕ) : Type 0 where
  pub len : (n : ℕ) → length (to_be_bytes w n) ≡ byte_len w
  pub back : (bytes : List ℕ) → length bytes ≡ byte_len w → IsBytes bytes → to_be_bytes w (from_be_bytes w bytes) ≡ bytes
  pub again : (n : ℕ) → n < limit → from_be_bytes w (to_be_bytes w n) ≡ n
  pub below : (bytes : List ℕ) → IsBytes bytes → from_be_bytes w bytes < limit

wide32 : IsWide w32 (2 ^ 32)
wide32 = record {
  len = λ n. refl;
  back = λ bytes len fits. be_bytes_4 bytes _ len fits refl;
  again = λ n lt. from_be_bytes-to_be_bytes_4 n lt;
  below = λ bytes fits. omega (arith, fits 0, fits 1, fits 2, fits 3);
}

wide64 : IsWide w64 (2 ^ 64)
wide64 = record {
  len = λ n. refl;
  back = λ bytes len fits. be_bytes_8 bytes _ len fits refl;
  again = λ n lt. from_be_bytes-to_be_bytes_8 n lt;
  below = λ bytes fits. omega (arith, fits 0, fits 1, fits 2, fits 3, fits 4, fits 5, fits 6, fits 7);
}

number_takes : (w : Width) (limit : ℕ) → IsWide w limit → (bytes : List ℕ) (x : ℕ × List ℕ) → IsBytes bytes → number_at w bytes ≡ Some x → Taken (to_be_bytes w) (λ n. n < limit) bytes x
unfolding number_at
number_takes w limit wide bytes x bounds e =
    let made : ℕ × List ℕ = (from_be_bytes w (take (byte_len w) bytes), drop (byte_len w) bytes) in
    let g = unless_some (ltb (length bytes) (byte_len w)) made x e in
    let long : byte_len w ≤ length bytes = ltb-false _ _ g.0 in
    let bounded : IsBytes (take (byte_len w) bytes) = IsBytes-take (byte_len w) bytes bounds in
    let front : to_be_bytes w made.0 ≡ take (byte_len w) bytes = wide.back (take (byte_len w) bytes) (omega (arith, length-take (byte_len w) bytes)) bounded in
    subst (Taken (to_be_bytes w) (λ (n : ℕ). n < limit) bytes) g.1 (record {
      parts = rw front (sym (take-append-drop (byte_len w) bytes));
      rest = IsBytes-drop (byte_len w) bytes bounds;
      fits = wide.below (take (byte_len w) bytes) bounded;
    })

number_again : (w : Width) (limit : ℕ) → IsWide w limit → (n : ℕ) (rest : List ℕ) → n < limit → number_at w (to_be_bytes w n ++ rest) ≡ Some (n, rest)
unfolding number_at
number_again w limit wide n rest lt =
    let len = wide.len n in
    let long : ltb (length (to_be_bytes w n ++ rest)) (byte_len w) ≡ false = le-ltb _ _ (omega (arith, length-append (to_be_bytes w n) rest)) in
    rw (long, take_at (to_be_bytes w n) rest (byte_len w) len, drop_at (to_be_bytes w n) rest (byte_len w) len, wide.again n lt) refl

pub exact_number32 : Exact (number_at w32) (to_be_bytes w32) (λ n. n < 2 ^ 32)
exact_number32 = record { takes = number_takes w32 (2 ^ 32) wide32; again = number_again w32 (2 ^ 32) wide32 }

pub exact_number64 : Exact (number_at w64) (to_be_bytes w64) (λ n. n < 2 ^ 64)
exact_number64 = record { takes = number_takes w64 (2 ^ 64) wide64; again = number_again w64 (2 ^ 64) wide64 }

-- ---- bytes behind their length

sized_takes : (bytes : List ℕ) (x : List ℕ × List ℕ) → IsBytes bytes → sized_at bytes ≡ Some x → Taken sized (λ t. length t < 2 ^ 32) bytes x
unfolding sized_at sized
sized_takes bytes x bounds e =
    let b = bind_some (number_at w32 bytes) (λ n. cond (ltb (length n.1) n.0) None (Some (take n.0 n.1, drop n.0 n.1))) x e in
    let n = b.0 in
    let u = exact_number32.takes bytes n bounds b.1 in
    let made : List ℕ × List ℕ = (take n.0 n.1, drop n.0 n.1) in
    let g = unless_some (ltb (length n.1) n.0) made x b.2 in
    let long : n.0 ≤ length n.1 = ltb-false _ _ g.0 in
    let len : length (take n.0 n.1) ≡ n.0 = omega (arith, length-take n.0 n.1) in
    let whole : bytes ≡ (to_be_bytes w32 n.0 ++ take n.0 n.1) ++ drop n.0 n.1 =
    u.parts ∙ ap (λ (tail : List ℕ). to_be_bytes w32 n.0 ++ tail) (sym (take-append-drop n.0 n.1)) ∙ sym (append_assoc (to_be_bytes w32 n.0) (take n.0 n.1) (drop n.0 n.1)) in
    subst (Taken sized (λ (t : List ℕ). length t < 2 ^ 32) bytes) g.1 (record {
      parts = subst (λ (k : ℕ). bytes ≡ (to_be_bytes w32 k ++ take n.0 n.1) ++ drop n.0 n.1) (sym len) whole;
      rest = IsBytes-drop n.0 n.1 u.rest;
      fits = omega (arith, u.fits);
    })

sized_again : (t rest : List ℕ) → length t < 2 ^ 32 → sized_at (sized t ++ rest) ≡ Some (t, rest)
unfolding sized_at sized
sized_again t rest lt =
    let long : ltb (length (t ++ rest)) (length t) ≡ false = le-ltb _ _ (omega (arith, length-append t rest)) in
    rw (exact_number32.again (length t) (t ++ rest) lt, long, take_at t rest (length t) refl, drop_at t rest (length t) refl) refl

pub exact_sized : Exact sized_at sized (λ t. length t < 2 ^ 32)
exact_sized = record { takes = sized_takes; again = sized_again }

-- ---- a value or none

optional_takes : {A : Type 0} {r : Reader A} {s : A → List ℕ} {F : A → Type 0} → Exact r s F → (bytes : List ℕ) (x : Option A × List ℕ) → IsBytes bytes → optional_at r bytes ≡ Some x → Taken (optional s) (λ o. IfSome o F) bytes x
unfolding optional_at
optional_takes exact [] x bounds e = absurd cc
optional_takes {A} {r} {s} {F} exact (zero ∷ bytes) x bounds e =
    subst (Taken (optional s) (λ (o : Option A). IfSome o F) (0 ∷ bytes)) (some_is (None, bytes) x e) (record { parts = refl; rest = IsBytes-rest 0 bytes bounds; fits = tt })
optional_takes {A} {r} {s} {F} exact (suc zero ∷ bytes) x bounds e =
    let b = bind_some (r bytes) (λ v. Some (Some v.0, v.1)) x e in
    let u = exact.takes bytes b.0 (IsBytes-rest 1 bytes bounds) b.1 in
    subst (Taken (optional s) (λ (o : Option A). IfSome o F) (1 ∷ bytes)) (some_is (Some b.0.0, b.0.1) x b.2) (record { parts = ap (λ (w : List ℕ). 1 ∷ w) u.parts; rest = u.rest; fits = u.fits })
optional_takes exact (suc (suc b) ∷ bytes) x bounds e = absurd cc

optional_again : {A : Type 0} {r : Reader A} {s : A → List ℕ} {F : A → Type 0} → Exact r s F → (o : Option A) (rest : List ℕ) → IfSome o F → optional_at r (optional s o ++ rest) ≡ Some (o, rest)
unfolding optional_at
optional_again exact None rest fits = refl
optional_again exact (Some a) rest fits = rw (exact.again a rest fits) refl

pub exact_optional : {A : Type 0} {r : Reader A} {s : A → List ℕ} {F : A → Type 0} → Exact r s F → Exact (optional_at r) (optional s) (λ o. IfSome o F)
exact_optional exact = record { takes = optional_takes exact; again = optional_again exact }

-- ---- items behind their count

pub items_take : {A : Type 0} (step : Option A → Reader A) (s : A → List ℕ) (F : Option A → A → Type 0) → ((last : Option A) → Exact (step last) s (F last)) → (n : ℕ) (last : Option A) (bytes : List ℕ) (x : List A × List ℕ) → IsBytes bytes
    → items_at step last n bytes ≡ Some x → Taken (flat_map s) (λ xs. (length xs ≡ n) × Follow F last xs) bytes x
unfolding items_at
items_take {A} step s F exact zero last bytes x bounds e =
    subst (Taken (flat_map s) (λ (xs : List A). (length xs ≡ 0) × Follow F last xs) bytes) (some_is ([], bytes) x e) (record { parts = refl; rest = bounds; fits = (refl, tt) })
items_take {A} step s F exact (suc n) last bytes x bounds e =
    let a = bind_some (step last bytes) (λ first. items_at step (Some first.0) n first.1 >>= λ others. Some (first.0 ∷ others.0, others.1)) x e in
    let b = bind_some (items_at step (Some a.0.0) n a.0.1) (λ others. Some (a.0.0 ∷ others.0, others.1)) x a.2 in
    let u = (exact last).takes bytes a.0 bounds a.1 in
    let v = items_take step s F exact n (Some a.0.0) a.0.1 b.0 u.rest b.1 in
    let made : List A × List ℕ = (a.0.0 ∷ b.0.0, b.0.1) in
    subst (Taken (flat_map s) (λ (xs : List A). (length xs ≡ suc n) × Follow F last xs) bytes) (some_is made x b.2) (record {
      parts = u.parts ∙ ap (λ (tail : List ℕ). s a.0.0 ++ tail) v.parts ∙ sym (append_assoc (s a.0.0) (flat_map s b.0.0) b.0.1) ∙ ap (λ (front : List ℕ). front ++ b.0.1) (sym (flat_map-cons s a.0.0 b.0.0));
      rest = v.rest;
      fits = (ap suc v.fits.0, (u.fits, v.fits.1));
    })

pub items_again : {A : Type 0} (step : Option A → Reader A) (s : A → List ℕ) (F : Option A → A → Type 0) → ((last : Option A) → Exact (step last) s (F last)) → (xs : List A) (last : Option A) (rest : List ℕ) → Follow F last xs
    → items_at step last (length xs) (flat_map s xs ++ rest) ≡ Some (xs, rest)
unfolding items_at
items_again step s F exact [] last rest fits = refl
items_again step s F exact (x ∷ xs) last rest fits =
    let regrouped : flat_map s (x ∷ xs) ++ rest ≡ s x ++ (flat_map s xs ++ rest) = ap (λ (front : List ℕ). front ++ rest) (flat_map-cons s x xs) ∙ append_assoc (s x) (flat_map s xs) rest in
    ap (items_at step last (suc (length xs))) regrouped ∙ rw ((exact last).again x (flat_map s xs ++ rest) fits.0, items_again step s F exact xs (Some x) rest fits.1) refl

listed_takes : {A : Type 0} (step : Option A → Reader A) (s : A → List ℕ) (F : Option A → A → Type 0) → ((last : Option A) → Exact (step last) s (F last)) → (bytes : List ℕ) (x : List A × List ℕ) → IsBytes bytes → listed_at step bytes ≡ Some x
    → Taken (listed s) (λ xs. (length xs < 2 ^ 32) × Follow F None xs) bytes x
unfolding listed_at
listed_takes {A} step s F exact bytes x bounds e =
    let a = bind_some (number_at w32 bytes) (λ n. items_at step None n.0 n.1) x e in
    let u = exact_number32.takes bytes a.0 bounds a.1 in
    let v = items_take step s F exact a.0.0 None a.0.1 x u.rest a.2 in
    record {
      parts = u.parts ∙ ap (λ (tail : List ℕ). to_be_bytes w32 a.0.0 ++ tail) v.parts ∙ sym (append_assoc (to_be_bytes w32 a.0.0) (flat_map s x.0) x.1) ∙ ap (λ (k : ℕ). (to_be_bytes w32 k ++ flat_map s x.0) ++ x.1) (sym v.fits.0);
      rest = v.rest;
      fits = (omega (arith, v.fits.0, u.fits), v.fits.1);
    }

listed_again : {A : Type 0} (step : Option A → Reader A) (s : A → List ℕ) (F : Option A → A → Type 0) → ((last : Option A) → Exact (step last) s (F last)) → (xs : List A) (rest : List ℕ) → ((length xs < 2 ^ 32) × Follow F None xs)
    → listed_at step (listed s xs ++ rest) ≡ Some (xs, rest)
unfolding listed_at
listed_again step s F exact xs rest fits =
    rw (exact_number32.again (length xs) (flat_map s xs ++ rest) fits.0) (items_again step s F exact xs None rest fits.1)

pub exact_listed : {A : Type 0} (step : Option A → Reader A) (s : A → List ℕ) (F : Option A → A → Type 0) → ((last : Option A) → Exact (step last) s (F last)) → Exact (listed_at step) (listed s) (λ xs. (length xs < 2 ^ 32) × Follow F None xs)
exact_listed step s F exact = record { takes = listed_takes step s F exact; again = listed_again step s F exact }
