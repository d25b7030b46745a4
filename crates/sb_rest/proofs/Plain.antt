-- Escapes are ASCII.
use Rattle.std.proofs.Common.{◌≡◌, ◌%◌, ◌/◌, ◌<◌, ◌&&◌, ◌∙◌, ap₂, ℕ, List, [], ◌∷◌, ◌++◌, Bool, true, false, nat_le, refl, arith, flat_map, chars}
use Rattle.std.specs.Prelude.{if◌then◌else◌}
use Rattle.std.proofs.lemmas.Bool.Decides.{nat_tests}
use Rattle.std.specs.List.{list_all}
use Rattle.std.proofs.lemmas.List.Folds.{list_all-append}
use Rattle.std.specs.Char.{digit_char}
use Rattle.std.specs.Char.Escape.{hex_digit_at, encode_utf16}
use Rattle.sb_rest.specs.Escapes.{unit_escape, escaped, ascii_json}

digit_low : (d : ℕ) → d < 16 → nat_le (digit_char d) 126 ≡ true
digit_low d less = grind (arith, nat_tests, less)

hex_low : (p u : ℕ) → nat_le (hex_digit_at p u) 126 ≡ true
hex_low p u = digit_low (u / p % 16) (grind arith)

unit_low : (u : ℕ) → list_all (λ b. nat_le b 126) (unit_escape u) ≡ true
unit_low u = rw (hex_low 4096 u, hex_low 256 u, hex_low 16 u, hex_low 1 u) refl

both_low : (xs ys : List ℕ) → list_all (λ b. nat_le b 126) xs ≡ true → list_all (λ b. nat_le b 126) ys ≡ true → list_all (λ b. nat_le b 126) (xs ++ ys) ≡ true
both_low xs ys one two = list_all-append (λ b. nat_le b 126) xs ys ∙ ap₂ ◌&&◌ one two

units_low : (us : List ℕ) → list_all (λ b. nat_le b 126) (flat_map unit_escape us) ≡ true
units_low [] = refl
units_low (u ∷ us) = both_low (unit_escape u) (flat_map unit_escape us) (unit_low u) (units_low us)

char_low : (c : ℕ) → list_all (λ b. nat_le b 126) (escaped c) ≡ true
unfolding escaped
char_low c = by_test (nat_le c 126) refl
  where
    by_test : (b : Bool) → nat_le c 126 ≡ b → list_all (λ b. nat_le b 126) (if b then c ∷ [] else flat_map unit_escape (encode_utf16 c)) ≡ true
    by_test true e = rw e refl
    by_test false e = units_low (encode_utf16 c)

chars_low : (cs : List ℕ) → list_all (λ b. nat_le b 126) (flat_map escaped cs) ≡ true
chars_low [] = refl
chars_low (c ∷ cs) = both_low (escaped c) (flat_map escaped cs) (char_low c) (chars_low cs)

pub all_low : (text : List ℕ) → list_all (λ b. nat_le b 126) (ascii_json text) ≡ true
unfolding ascii_json
all_low text = chars_low (chars text)
