-- Which whole numbers have 64 bits.
use Rattle.std.proofs.Common.{◌≡◌, ℕ, ◌<◌, true, false, arith, w64}
use Rattle.std.specs.Prelude.{ℤ, pos, negsuc, FitsSigned, nat_lt}
use Rattle.std.proofs.lemmas.Bool.Decides.{nat_tests}
use Rattle.std.proofs.lemmas.Bool.{le-ltb}
use Rattle.sb_model.specs.Meaning.{is_64_bits}

not_below : (n k : ℕ) → ¬ (n < k) → nat_lt n k ≡ false
not_below n k h = le-ltb n k (omega (arith, h))

pub has_64_bits : (z : ℤ) → FitsSigned w64 z → is_64_bits z ≡ true
has_64_bits (pos n) h = grind (arith, nat_tests, h.sfits)
has_64_bits (negsuc n) h = grind (arith, nat_tests, h.sfits)

pub has_more_bits : (z : ℤ) → ¬ FitsSigned w64 z → is_64_bits z ≡ false
has_more_bits (pos n) h = not_below n _ (λ less. h (record { sfits = less }))
has_more_bits (negsuc n) h = not_below n _ (λ less. h (record { sfits = less }))

pub ruleset within_64_bits = (has_64_bits, has_more_bits)
