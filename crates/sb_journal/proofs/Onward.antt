-- A read goes on where the last one ended.
use Rattle.std.proofs.Common.{◌≡◌, ℕ, zero, suc, ◌+◌, ◌≤◌, List, [], ◌∷◌, ◌++◌, length, take, drop, refl, sym, ◌∙◌, ap, arith, length-take}
use Rattle.std.specs.Prelude.{Result, Ok, Err, IfOk}
use Rattle.std.proofs.lemmas.List.{take_at, drop_at, drop-drop, take-append-le}

abbrev nothing : List ℕ
nothing = []

none_left : (k : ℕ) → take k nothing ≡ nothing
none_left zero = refl
none_left (suc k) = refl

take_sum : (m n : ℕ) (xs : List ℕ) → take (m + n) xs ≡ take m xs ++ take n (drop m xs)
take_sum zero n xs = ap (λ k. take k xs) (let e : 0 + n ≡ n = omega arith in e)
take_sum (suc m) n [] = ap (λ k. take k nothing) (let e : suc m + n ≡ suc (m + n) = omega arith in e) ∙ sym (none_left n)
take_sum (suc m) n (x ∷ xs) = ap (λ k. take k (x ∷ xs)) (let e : suc m + n ≡ suc (m + n) = omega arith in e) ∙ ap (λ (l : List ℕ). x ∷ l) (take_sum m n xs)

read_more : (at n : ℕ) (old new post seen : List ℕ) → at ≤ length old → take at old ≡ take at seen → n ≤ length new → take n new ≡ take n (drop at seen) → take (at + n) (take at old ++ (new ++ post)) ≡ take (at + n) seen
read_more at n old new post seen inside so_far within more =
    let front : length (take at old) ≡ at = omega (arith, length-take at old) in
    take_sum at n (take at old ++ (new ++ post))
    ∙ ap (λ (l : List ℕ). l ++ take n (drop at (take at old ++ (new ++ post)))) (take_at (take at old) (new ++ post) at front ∙ so_far)
    ∙ ap (λ (l : List ℕ). take at seen ++ take n l) (drop_at (take at old) (new ++ post) at front)
    ∙ ap (λ (l : List ℕ). take at seen ++ l) (take-append-le n new post within ∙ more)
    ∙ sym (take_sum at n seen)

pub reads_more : {E : Type 0} (r : Result ℕ E) (at from : ℕ) (old new post seen : List ℕ) → at ≤ length old → take at old ≡ take at (drop from seen) → IfOk r (λ n. n ≤ length new) → IfOk r (λ n. take n new ≡ take n (drop (from + at) seen))
    → IfOk r (λ n. take (at + n) (take at old ++ (new ++ post)) ≡ take (at + n) (drop from seen))
reads_more (Ok n) at from old new post seen inside so_far within more = read_more at n old new post (drop from seen) inside so_far within (more ∙ ap (take n) (sym (drop-drop at from seen)))
reads_more (Err e) at from old new post seen inside so_far within more = tt
