-- The least moment of rows: what a tree keeps of it, and what that says.
use Rattle.std.proofs.Common.{◌≡◌, ℕ, refl, ap, ◌∙◌, sym, Bool, true, false, List, [], ◌∷◌, ◌++◌, map, min, Option, Some, None, ◌||◌, arith, nat_le}
use Rattle.std.proofs.lemmas.Bool.Decides.{nat_tests}
use Rattle.std.specs.List.{fold, list_any}
use Rattle.sb_index.specs.Rows.{is_due, least_due}
use Rattle.sb_index.specs.Wanted.{fits}
use Rattle.sb_index.specs.declared.row.Row.{Row}
use Rattle.sb_index.specs.declared.wanted.Wanted.{Wanted}
use Rattle.sb_index.specs.declared.wanted.Wanted.TheVariants.{Due}

min_assoc : (a b c : ℕ) → min (min a b) c ≡ min a (min b c)
min_assoc a b c = omega arith

min_comm : (a b : ℕ) → min a b ≡ min b a
min_comm a b = omega arith

-- what a fold begins with may be taken out of it
fold_start : (a b : ℕ) (xs : List ℕ) → fold min (min a b) xs ≡ min a (fold min b xs)
fold_start a b [] = refl
fold_start a b (x ∷ xs) = ap (λ z. fold min z xs) (min_assoc a b x) ∙ fold_start a (min b x) xs

abbrev or_zero : Option ℕ → ℕ
or_zero None = 0
or_zero (Some n) = n

pub least_started : (s n : ℕ) (xs : List Row) → least_due xs ≡ Some n → fold min s (map (λ x. x.due) xs) ≡ min s n
least_started s n [] e = absurd (let bad : None ≡ Some n = e in cc)
least_started s n (x ∷ xs) e =
    let same : fold min x.due (map (λ x. x.due) xs) ≡ n = ap or_zero e in
    fold_start s x.due (map (λ x. x.due) xs) ∙ ap (λ z. min s z) same

fold_between : (s : ℕ) (l : List Row) (k : Row) (r : List Row) → fold min s (map (λ x. x.due) (l ++ k ∷ r)) ≡ fold min (fold min (min k.due s) (map (λ x. x.due) l)) (map (λ x. x.due) r)
fold_between s [] k r = ap (λ z. fold min z (map (λ x. x.due) r)) (min_comm s k.due)
fold_between s (y ∷ l) k r =
    fold_between (min s y.due) l k r ∙ ap (λ z. fold min (fold min z (map (λ x. x.due) l)) (map (λ x. x.due) r)) (sym (min_assoc k.due s y.due))

pub least_between : (l : List Row) (k : Row) (r : List Row) → least_due (l ++ k ∷ r) ≡ Some (fold min (fold min k.due (map (λ x. x.due) l)) (map (λ x. x.due) r))
least_between [] k r = refl
least_between (y ∷ l) k r = ap (λ z. Some z) (fold_between y.due l k r)

min_due : (a b m : ℕ) → nat_le (min a b) m ≡ (nat_le a m || nat_le b m)
min_due a b m = grind (arith, nat_tests)

or_assoc : (a b c : Bool) → ((a || b) || c) ≡ (a || (b || c))
or_assoc true b c = refl
or_assoc false b c = refl

or_false : (a : Bool) → a ≡ (a || false)
or_false true = refl
or_false false = refl

fold_due : (m a : ℕ) (xs : List Row) → nat_le (fold min a (map (λ x. x.due) xs)) m ≡ (nat_le a m || list_any (is_due m) xs)
fold_due m a [] = or_false (nat_le a m)
fold_due m a (x ∷ xs) = fold_due m (min a x.due) xs ∙ ap (λ z. z || list_any (is_due m) xs) (min_due a x.due m) ∙ or_assoc (nat_le a m) (nat_le x.due m) (list_any (is_due m) xs)

any_fits : (m n : ℕ) (xs : List Row) → least_due xs ≡ Some n → list_any (is_due m) xs ≡ nat_le n m
any_fits m n [] e = absurd (let bad : None ≡ Some n = e in cc)
any_fits m n (x ∷ xs) e =
    let same : fold min x.due (map (λ x. x.due) xs) ≡ n = ap or_zero e in
    sym (fold_due m x.due xs) ∙ ap (λ z. nat_le z m) same

pub any_due : (w : Wanted) (m n : ℕ) (xs : List Row) → w ≡ Due m → least_due xs ≡ Some n → list_any (fits w) xs ≡ nat_le n m
any_due w m n xs e least = ap (λ v. list_any (fits v) xs) e ∙ any_fits m n xs least
