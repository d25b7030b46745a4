-- One character more.
use Rattle.std.proofs.Common.{◌≡◌, ℕ, List, [], ◌∷◌, ◌++◌, length, ap, sym, ◌∙◌, append_assoc, append-nil, flat_map, chars}
use Rattle.std.proofs.lemmas.Str.{chars-nil}
use Rattle.sb_rest.specs.Escapes.{escaped}

pub one_more : (out new old rest all : List ℕ) (c : ℕ) → new ≡ out ++ escaped c → chars old ≡ c ∷ chars rest
    → out ++ flat_map escaped (chars old) ≡ all → new ++ flat_map escaped (chars rest) ≡ all
one_more out new old rest all c added step so_far =
    ap (λ (l : List ℕ). l ++ flat_map escaped (chars rest)) added ∙ append_assoc out (escaped c) (flat_map escaped (chars rest))
    ∙ ap (λ (cs : List ℕ). out ++ flat_map escaped cs) (sym step) ∙ so_far

-- no character is left
pub no_more : (out left all : List ℕ) → length left ≡ 0 → out ++ flat_map escaped (chars left) ≡ all → out ≡ all
no_more out [] all none so_far = sym (append-nil out) ∙ ap (λ (cs : List ℕ). out ++ flat_map escaped cs) (sym chars-nil) ∙ so_far
no_more out (b ∷ left) all none so_far = absurd cc
