-- A text has at most four bytes a character.
use Rattle.std.proofs.Common.{◌≡◌, ◌≤◌, ◌<◌, ◌+◌, ◌-◌, ◌*◌, ◌%◌, ◌/◌, ℕ, zero, suc, List, [], ◌∷◌, ◌++◌, length, length-append, cond, ltb, Bool, true, false, nat_le, Option, Some, None, Result, refl, sym, ap, subst, ◌∙◌, arith}
use Rattle.std.specs.Prelude.{◌==◌}
use Rattle.std.specs.Str.{IsUtf8, chars}
use Rattle.std.proofs.Math.Utf8.{encode, encodes}
use Rattle.std.proofs.lemmas.Bool.{ltb-true, leb-true, le-leb}
use Rattle.std.proofs.lemmas.Str.{encodes-chars, length-encode, len_utf8_bounds}
use Rattle.sb_machine.specs.Each.{is_read}
use Rattle.sb_model.specs.Texts.{is_continuing, further, place_of_character, past_limit, read_short, read_text, filter_in, action_in}
use Rattle.sb_machine.proofs.Passed.{both_true, not_both}

encodes_short : (cs : List ℕ) → length (encodes cs) ≤ 4 * length cs
encodes_short [] = omega arith
encodes_short (c ∷ cs) = let one = (len_utf8_bounds c).1 in let others = encodes_short cs in omega (arith, length-append (encode c) (encodes cs), length-encode c, one, others)

pub length_by_chars : (t : List ℕ) → IsUtf8 t → length t ≤ 4 * length (chars t)
length_by_chars t u =
    let same : length (encodes (chars t)) ≡ length t = ap (λ (l : List ℕ). length l) (encodes-chars t u) in
    let short = encodes_short (chars t) in
    omega (arith, same, short)

-- ---- the place of a character

no_further : (o : Option ℕ) → further 1 o ≡ None → o ≡ None
no_further None e = refl
no_further (Some n) e = absurd cc

goes_on : (n b : ℕ) (rest : List ℕ) → is_continuing b ≡ true → place_of_character n (b ∷ rest) ≡ None → place_of_character n rest ≡ None
goes_on n b rest is e =
    let made : place_of_character n (b ∷ rest) ≡ further 1 (place_of_character n rest) = rw is refl in
    no_further (place_of_character n rest) (sym made ∙ e)

positive : (n : ℕ) → (n == 0) ≡ false → 1 ≤ n
positive zero e = absurd cc
positive (suc n) e = omega arith

begins : (n b : ℕ) (rest : List ℕ) → is_continuing b ≡ false → place_of_character n (b ∷ rest) ≡ None → (1 ≤ n) × (place_of_character (n - 1) rest ≡ None)
begins n b rest is e =
    let made : place_of_character n (b ∷ rest) ≡ cond (n == 0) (Some 0) (further 1 (place_of_character (n - 1) rest)) = rw is refl in
    by_test (n == 0) refl (sym made ∙ e)
  where
    by_test : (z : Bool) → (n == 0) ≡ z → cond z (Some 0) (further 1 (place_of_character (n - 1) rest)) ≡ None → (1 ≤ n) × (place_of_character (n - 1) rest ≡ None)
    by_test true is e = absurd cc
    by_test false is e = (positive n is, no_further (place_of_character (n - 1) rest) e)

continues : (x : ℕ) → is_continuing (128 + x % 64) ≡ true
continues x =
    let below : x % 64 < 64 = omega arith in
    both_true (nat_le 128 (128 + x % 64)) (nat_le (128 + x % 64) 191) (le-leb 128 (128 + x % 64) (omega arith)) (le-leb (128 + x % 64) 191 (omega (arith, below)))

low : (c : ℕ) → c < 128 → is_continuing c ≡ false
low c lt = not_both (nat_le 128 c) (nat_le c 191) (λ p q. let a = leb-true 128 c p in omega (arith, a, lt))

high : (c : ℕ) → 192 ≤ c → is_continuing c ≡ false
high c le = not_both (nat_le 128 c) (nat_le c 191) (λ p q. let b = leb-true c 191 q in omega (arith, b, le))

abbrev Begins : ℕ → List ℕ → List ℕ → Type 0
Begins n rest front = place_of_character n (front ++ rest) ≡ None → (1 ≤ n) × (place_of_character (n - 1) rest ≡ None)

split : (P : List ℕ → Type 0) (b : Bool) (x y : List ℕ) → (b ≡ true → P x) → P y → P (cond b x y)
split P true x y f g = f refl
split P false x y f g = g

-- a character that isn't the one past the limit
begins_character : (n c : ℕ) (rest : List ℕ) → Begins n rest (encode c)
unfolding encode
begins_character n c rest =
    split (Begins n rest) (ltb c 128) _ _ (λ lt e. begins n c rest (low c (ltb-true c 128 lt)) e)
    (split (Begins n rest) (ltb c 2048) _ _ (λ lt e. let s = begins n (192 + c / 64) ((128 + c % 64) ∷ rest) (high (192 + c / 64) (omega arith)) e in (s.0, goes_on (n - 1) (128 + c % 64) rest (continues c) s.1))
    (split (Begins n rest) (ltb c 65536) _ _
    (λ lt e.
    let s = begins n (224 + c / 4096) ((128 + c / 64 % 64) ∷ (128 + c % 64) ∷ rest) (high (224 + c / 4096) (omega arith)) e in
    (s.0, goes_on (n - 1) (128 + c % 64) rest (continues c) (goes_on (n - 1) (128 + c / 64 % 64) ((128 + c % 64) ∷ rest) (continues (c / 64)) s.1)))
    (λ e.
    let s = begins n (240 + c / 262144) ((128 + c / 4096 % 64) ∷ (128 + c / 64 % 64) ∷ (128 + c % 64) ∷ rest) (high (240 + c / 262144) (omega arith)) e in (
      s.0,
      goes_on (n - 1) (128 + c % 64) rest (continues c) (goes_on (n - 1) (128 + c / 64 % 64) ((128 + c % 64) ∷ rest) (continues (c / 64))
          (goes_on (n - 1) (128 + c / 4096 % 64) ((128 + c / 64 % 64) ∷ (128 + c % 64) ∷ rest) (continues (c / 4096)) s.1)),
    ))))

few_characters : (cs : List ℕ) (n : ℕ) → place_of_character n (encodes cs) ≡ None → length (encodes cs) ≤ 4 * n
few_characters [] n e = omega arith
few_characters (c ∷ cs) n e =
    let s = begins_character n c (encodes cs) e in
    let first = s.0 in
    let one = (len_utf8_bounds c).1 in
    let others = few_characters cs (n - 1) s.1 in
    omega (arith, length-append (encode c) (encodes cs), length-encode c, one, first, others)

pub length_of_text : (t : List ℕ) → IsUtf8 t → past_limit t ≡ None → length t ≤ 4096
length_of_text t u e =
    subst (λ (l : List ℕ). length l ≤ 4096) (encodes-chars t u) (few_characters (chars t) 1024 (ap (place_of_character 1024) (encodes-chars t u) ∙ e))

-- ---- what is read is no longer

read_limit : {T : Type 0} (read : Result T ℕ) (o : Option ℕ) → is_read (read_short read o) ≡ true → o ≡ None
read_limit read None e = refl
read_limit read (Some place) e = absurd cc

pub filter_limit : (t : List ℕ) → is_read (filter_in t) ≡ true → past_limit t ≡ None
unfolding read_text
filter_limit t e = read_limit _ (past_limit t) e

pub action_limit : (t : List ℕ) → is_read (action_in t) ≡ true → past_limit t ≡ None
unfolding read_text
action_limit t e = read_limit _ (past_limit t) e
