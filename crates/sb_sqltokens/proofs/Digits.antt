-- The value of digits.
use Rattle.std.proofs.Common.{◌≡◌, ◌-◌, ◌+◌, ◌*◌, ◌/◌, ◌^◌, ℕ, ◌<◌, ◌≤◌, List, [], ◌∷◌, refl, arith, false, None}
use Rattle.std.specs.Prelude.{nat_lt}
use Rattle.std.proofs.lemmas.Bool.Decides.{nat_tests}
use Rattle.sb_model.specs.TokenBytes.{digits_value}
use Rattle.sb_model.specs.Tokens.{number_of}

-- more digits make no smaller number
grows : (n : ℕ) (ds : List ℕ) → n ≤ digits_value n ds
grows n [] = omega arith
grows n (d ∷ ds) = let more = grows (10 * n + (d - 48)) ds in omega arith

not_below : (n : ℕ) → 2 ^ 63 ≤ n → nat_lt n (2 ^ 63) ≡ false
not_below n h = grind (arith, nat_tests)

pub too_great : (v d : ℕ) (ds rest all : List ℕ) → rest ≡ d ∷ ds → digits_value v rest ≡ digits_value 0 all → (9223372036854775807 - (d - 48)) / 10 < v → None ≡ number_of all
too_great v d ds rest all is so_far above =
    let more = grows (10 * v + (d - 48)) ds in
    let whole : digits_value (10 * v + (d - 48)) ds ≡ digits_value 0 all = rw is at so_far in
    let great : 2 ^ 63 ≤ digits_value 0 all = omega arith in
    rw (not_below (digits_value 0 all) great) refl
