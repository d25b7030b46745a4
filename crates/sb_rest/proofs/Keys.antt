-- A key that is compared byte by byte.
use Rattle.std.proofs.Common.{◌≡◌, ℕ, Bool, true, false, ◌&&◌, ◌==◌, List, [], ◌∷◌, length, drop, refl, ap, sym, arith}
use Rattle.std.specs.Prelude.{bytes_eq}
use Rattle.std.proofs.lemmas.Bool.{ne_eqb}
use Rattle.sb_rest.specs.Callers.{is_first}

none_same : (same p : Bool) → (false && p) ≡ (same && false)
none_same true p = refl
none_same false p = refl

turned : (same one rest : Bool) → ((one && same) && rest) ≡ (same && (one && rest))
turned true true rest = refl
turned true false rest = refl
turned false true rest = refl
turned false false rest = refl

-- one byte more
pub one_byte : (same : Bool) (byte : ℕ) (later shown : List ℕ) → ((is_first shown byte && same) && bytes_eq later (drop 1 shown)) ≡ (same && bytes_eq (byte ∷ later) shown)
one_byte same byte later [] = none_same same (bytes_eq later [])
one_byte same byte later (b ∷ shown) = turned same (byte == b) (bytes_eq later shown)

-- and none is left
pub no_byte : (same : Bool) (left : List ℕ) → (same && bytes_eq [] left) ≡ (same && (length left == 0))
no_byte same [] = refl
no_byte same (b ∷ left) = ap (λ (t : Bool). same && t) (sym (ne_eqb (length (b ∷ left)) 0 (λ e. omega (arith, e))))
