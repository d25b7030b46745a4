-- What is pending, as it is taken.
use Rattle.std.proofs.Common.{◌≡◌, ℕ, suc, ◌+◌, ◌-◌, ◌≤◌, List, [], ◌∷◌, ◌++◌, take, drop, Some, position, ◌==◌, sym, ◌∙◌, ap, arith, add-one, length-take}
use Rattle.std.proofs.lemmas.List.{drop-take, drop-drop}
use Rattle.sb_input.specs.Lines.{NoFeed}
use Rattle.sb_input.proofs.Splits.{position-split, position-within}

-- behind these many, the rest is pending
pub pending_on : (xs : List ℕ) (at end k : ℕ) → at + k ≤ end → take (end - (at + k)) (drop (at + k) xs) ≡ drop k (take (end - at) (drop at xs))
pending_on xs at end k within =
    let m = end - (at + k) in
    let whole : end - at ≡ k + m = omega arith in
    sym (ap (λ n. drop k (take n (drop at xs))) whole ∙ drop-take k m (drop at xs) ∙ ap (take m) (drop-drop k at xs))

pub pending_none : (xs : List ℕ) (end : ℕ) → take (end - end) (drop end xs) ≡ []
pending_none xs end = let none : end - end ≡ 0 = omega arith in ap (λ n. take n (drop end xs)) none

-- a line feed that is found is pending
pub found_within : (xs : List ℕ) (at end k : ℕ) → Some k ≡ position (λ b. b == 10) (take (end - at) (drop at xs)) → at ≤ end → at + (k + 1) ≤ end
found_within xs at end k found order = omega (arith, position-within (take (end - at) (drop at xs)) k (sym found), length-take (end - at) (drop at xs))

pub split_pending : (pending after : List ℕ) (k : ℕ) → Some k ≡ position (λ b. b == 10) pending → after ≡ drop (k + 1) pending → (pending ≡ take k pending ++ 10 ∷ after) × NoFeed (take k pending)
split_pending pending after k found is =
    let split = position-split pending k (sym found) in
    let rest : drop (suc k) pending ≡ after = ap (λ n. drop n pending) (sym (add-one k)) ∙ sym is in
    (split.1 ∙ ap (λ (l : List ℕ). take k pending ++ 10 ∷ l) rest, split.0)
