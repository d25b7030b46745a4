-- What loops have put behind what was there, one item after the other.
use Rattle.std.proofs.Common.{◌≡◌, ℕ, ◌+◌, ◌<◌, ◌≤◌, List, [], ◌∷◌, ◌++◌, length, get_or, take, sym, ap, ◌∙◌, take_all}
use Rattle.std.proofs.lemmas.List.{flat_map_more, take_more}
use Rattle.std.specs.List.{flat_map}

pub one_more : {X A : Type 0} (f : X → List A) (xs : List X) (i : ℕ) (x : X) (old out new : List A) → i < length xs → x ≡ get_or xs i x
    → out ≡ old ++ flat_map f (take i xs) → new ≡ out ++ f x → new ≡ old ++ flat_map f (take (i + 1) xs)
one_more {X} {A} f xs i x old out new within is so_far put =
    put
    ∙ ap (λ (l : List A). l ++ f x) so_far
    ∙ flat_map_more f old (take i xs) x
    ∙ ap (λ (l : List X). old ++ flat_map f l) (ap (λ (y : X). take i xs ++ y ∷ []) is ∙ sym (take_more xs i x within))

pub no_more : {X A : Type 0} (f : X → List A) (xs : List X) (i : ℕ) (old out : List A) → length xs ≤ i → out ≡ old ++ flat_map f (take i xs) → out ≡ old ++ flat_map f xs
no_more {X} f xs i old out done so_far = so_far ∙ ap (λ (l : List X). old ++ flat_map f l) (take_all i xs done)
