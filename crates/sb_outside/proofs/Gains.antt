-- A list that is told and grows, one piece after another.
use Rattle.std.proofs.Common.{◌≡◌, ℕ, ◌+◌, List, [], ◌++◌, length, take, drop, Option, Some, None, refl, sym, ◌∙◌, ap, subst, append_assoc, length-append}
use Rattle.std.proofs.lemmas.List.{append-nil, take_at, take-append-drop}
use Rattle.std.proofs.Math.Seq.{take-add}
use Rattle.sb_outside.specs.Streams.{Gains, GainsPart}

pub gains-none : (a : Option (List ℕ)) → Gains a a []
gains-none None = tt
gains-none (Some before) = ap Some (sym (append-nil before))

pub gains-gains : (a b c : Option (List ℕ)) (x y : List ℕ) → Gains a b x → Gains b c y → Gains a c (x ++ y)
gains-gains None b c x y first second = tt
gains-gains (Some before) b c x y first second =
    let then_on : Gains (Some (before ++ x)) c y = subst (λ (o : Option (List ℕ)). Gains o c y) first second in
    then_on ∙ ap Some (append_assoc before x y)

pub gains-take : (a b c : Option (List ℕ)) (n m : ℕ) (xs : List ℕ) → Gains a b (take n xs) → Gains b c (take m (drop n xs)) → Gains a c (take (n + m) xs)
gains-take a b c n m xs first second = subst (Gains a c) (sym (take-add n m xs)) (gains-gains a b c _ _ first second)

-- a front of these, and then of what comes behind them
pub gains-part : (a b c : Option (List ℕ)) (x y all : List ℕ) → Gains a b x → GainsPart b c y → (rest : List ℕ) → all ≡ x ++ (y ++ rest) → GainsPart a c all
gains-part None b c x y all first second rest is = tt
gains-part (Some before) b c x y all first second rest is =
    let on : GainsPart (Some (before ++ x)) c y = subst (λ (o : Option (List ℕ)). GainsPart o c y) first second in
    (length x + length (take on.0 y), on.1 ∙ ap Some (append_assoc before x (take on.0 y) ∙ ap (λ (l : List ℕ). before ++ l) (sym (front on.0))))
  where
    front : (n : ℕ) → take (length x + length (take n y)) all ≡ x ++ take n y
    front n =
        ap (take (length x + length (take n y))) (is ∙ ap (λ (l : List ℕ). x ++ (l ++ rest)) (sym (take-append-drop n y)) ∙ ap (λ (l : List ℕ). x ++ l) (append_assoc (take n y) (drop n y) rest) ∙ sym (append_assoc x (take n y) (drop n y ++ rest)))
        ∙ take_at (x ++ take n y) (drop n y ++ rest) _ (length-append x (take n y))

pub part-none : (a : Option (List ℕ)) (xs : List ℕ) → GainsPart a a xs
part-none None xs = tt
part-none (Some before) xs = (0, ap Some (sym (append-nil before)))

pub part-all : (a b : Option (List ℕ)) (x rest all : List ℕ) → Gains a b x → all ≡ x ++ rest → GainsPart a b all
part-all None b x rest all first is = tt
part-all (Some before) b x rest all first is = (length x, first ∙ ap (λ (l : List ℕ). Some (before ++ l)) (sym (ap (take (length x)) is ∙ take_at x rest (length x) refl)))
