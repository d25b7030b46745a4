-- The forms of bytes, counts and lists are exact, and so is what is made of only some fields.
use Rattle.std.proofs.Common.{◌≡◌, ℕ, ◌+◌, ◌≤◌, ◌<◌, ◌^◌, Bool, true, List, [], ◌∷◌, ◌++◌, length, length-append, Option, Some, None, refl, sym, ap, subst, ◌∙◌, append_assoc, arith}
use Rattle.std.specs.Int.{w64, to_be_bytes}
use Rattle.std.specs.List.{flat_map, sum_by}
use Rattle.sb_codec.specs.Forms.{Form, Follow}
use Rattle.sb_codec.specs.Readers as readers
use Rattle.sb_codec.specs.Readers.{Reader, ◌>>=◌, number_at, items_at}
use Rattle.sb_codec.proofs.Exact.{IsBytes, IsBytes-rest, bind_some, some_is, Taken, Exact, exact_number32, exact_number64, exact_tested, items_take, items_again}
use Rattle.sb_codec.proofs.Forms.{IsForm, number32_is, items_small, items_asked}
use Rattle.sb_snapshot.specs.Lists.{byte_at, number8, count32, listed64_at, listed64, narrowed}

-- ---- numbers

number8_takes : (bytes : List ℕ) (x : ℕ × List ℕ) → IsBytes bytes → byte_at bytes ≡ Some x → Taken (λ n. n ∷ []) (λ n. n < 2 ^ 8) bytes x
unfolding byte_at
number8_takes [] x bounds e = absurd cc
number8_takes (b ∷ rest) x bounds e =
    subst (Taken (λ (n : ℕ). n ∷ []) (λ (n : ℕ). n < 2 ^ 8) (b ∷ rest)) (some_is (b, rest) x e) (record { parts = refl; rest = IsBytes-rest b rest bounds; fits = bounds 0 })

number8_again : (n : ℕ) (rest : List ℕ) → n < 2 ^ 8 → byte_at ((n ∷ []) ++ rest) ≡ Some (n, rest)
unfolding byte_at
number8_again n rest lt = refl

pub number8_is : IsForm number8
number8_is = record { exact = record { takes = number8_takes; again = number8_again }; asked = λ n h. tt; small = λ n. omega arith }

pub count32_is : IsForm count32
count32_is = record { exact = exact_number32; asked = λ n h. tt; small = number32_is.small }

-- ---- lists

listed64_takes : {A : Type 0} (step : Option A → Reader A) (s : A → List ℕ) (F : Option A → A → Type 0) → ((last : Option A) → Exact (step last) s (F last)) → (bytes : List ℕ) (x : List A × List ℕ) → IsBytes bytes → listed64_at step bytes ≡ Some x
    → Taken (λ xs. to_be_bytes w64 (length xs) ++ flat_map s xs) (λ xs. (length xs < 2 ^ 64) × Follow F None xs) bytes x
unfolding listed64_at
listed64_takes {A} step s F exact bytes x bounds e =
    let a = bind_some (number_at w64 bytes) (λ n. items_at step None n.0 n.1) x e in
    let u = exact_number64.takes bytes a.0 bounds a.1 in
    let v = items_take step s F exact a.0.0 None a.0.1 x u.rest a.2 in
    record {
      parts = u.parts ∙ ap (λ (tail : List ℕ). to_be_bytes w64 a.0.0 ++ tail) v.parts ∙ sym (append_assoc (to_be_bytes w64 a.0.0) (flat_map s x.0) x.1) ∙ ap (λ (k : ℕ). (to_be_bytes w64 k ++ flat_map s x.0) ++ x.1) (sym v.fits.0);
      rest = v.rest;
      fits = (omega (arith, v.fits.0, u.fits), v.fits.1);
    }

listed64_again : {A : Type 0} (step : Option A → Reader A) (s : A → List ℕ) (F : Option A → A → Type 0) → ((last : Option A) → Exact (step last) s (F last)) → (xs : List A) (rest : List ℕ) → ((length xs < 2 ^ 64) × Follow F None xs)
    → listed64_at step ((to_be_bytes w64 (length xs) ++ flat_map s xs) ++ rest) ≡ Some (xs, rest)
unfolding listed64_at
listed64_again step s F exact xs rest fits =
    rw (append_assoc (to_be_bytes w64 (length xs)) (flat_map s xs) rest, exact_number64.again (length xs) (flat_map s xs ++ rest) fits.0) (items_again step s F exact xs None rest fits.1)

listed64_small : {A : Type 0} {f : Form A} → IsForm f → (xs : List A) → length (to_be_bytes w64 (length xs) ++ flat_map f.spell xs) ≤ 8 + sum_by (λ x. f.fixed + f.content x) xs
listed64_small {A} {f} i xs = let len : length (to_be_bytes w64 (length xs)) ≡ 8 = refl in omega (arith, len, length-append (to_be_bytes w64 (length xs)) (flat_map f.spell xs), items_small i xs)

pub listed64_is : {A : Type 0} {f : Form A} (follows : Option A → A → Bool) → IsForm f → IsForm (listed64 follows f)
listed64_is {A} {f} follows i =
    let each : (last : Option A) → Exact (readers.tested (follows last) f.reads) f.spell (λ x. f.Fits x × (follows last x ≡ true)) = λ last. exact_tested (follows last) i.exact in
    record {
      exact = record {
        takes = listed64_takes (λ last. readers.tested (follows last) f.reads) f.spell (λ last x. f.Fits x × (follows last x ≡ true)) each;
        again = listed64_again (λ last. readers.tested (follows last) f.reads) f.spell (λ last x. f.Fits x × (follows last x ≡ true)) each;
      };
      asked = λ xs h. items_asked follows i None xs h.1;
      small = listed64_small i;
    }

-- ---- values that not all fields make

pub narrowed_is : {A B : Type 0} {f : Form A} (make : A → Option B) (parts : B → A) (IsMade : B → Type 0) → ((a : A) (b : B) → make a ≡ Some b → (parts b ≡ a) × IsMade b) → ((b : B) → f.Fits (parts b) → IsMade b → make (parts b) ≡ Some b) → IsForm f
    → IsForm (narrowed make parts IsMade f)
narrowed_is {A} {B} {f} make parts IsMade there back i = record {
  exact = record {
    takes = λ bytes z bounds e.
        let a = bind_some (f.reads bytes) (λ x. make x.0 >>= λ b. Some (b, x.1)) z e in
        let m = bind_some (make a.0.0) (λ b. Some (b, a.0.1)) z a.2 in
        let u = i.exact.takes bytes a.0 bounds a.1 in
        let same = there a.0.0 m.0 m.1 in
        subst (Taken (λ (b : B). f.spell (parts b)) (λ (b : B). f.Fits (parts b) × IsMade b) bytes) (some_is (m.0, a.0.1) z m.2) (record {
          parts = u.parts ∙ ap (λ (v : A). f.spell v ++ a.0.1) (sym same.0);
          rest = u.rest;
          fits = (subst f.Fits (sym same.0) u.fits, same.1);
        });
    again = λ b rest fits. rw (i.exact.again (parts b) rest fits.0, back b fits.0 fits.1) refl;
  };
  asked = λ b h. (i.asked (parts b) h.0, h.1);
  small = λ b. i.small (parts b);
}
