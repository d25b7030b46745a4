-- Searches in rows that stand before one, in it, and in those behind it.
use Rattle.std.proofs.Common.{◌≡◌, ℕ, ◌<◌, ◌≤◌, refl, ap, ◌∙◌, sym, Bool, true, false, List, [], ◌∷◌, ◌++◌, find, Some, None, Option, cond, ◌||◌, ◌&&◌, ◌==◌, if◌then◌else◌, nat_lt, arith}
use Rattle.std.proofs.lemmas.Bool.Decides.{nat_tests}
use Rattle.std.proofs.lemmas.Bool.{ne_eqb, eq-eqb, le-leb, lt-leb, ltb-false}
use Rattle.std.specs.List.{list_any}
use Rattle.sb_index.specs.Rows.{AreAbove, AreRising, is_at, is_from, is_marked, is_marked_within}
use Rattle.sb_index.specs.Wanted.{before, fits, fits_from}
use Rattle.sb_index.specs.declared.row.Row.{Row}
use Rattle.sb_index.specs.declared.wanted.Wanted.{Wanted}
use Rattle.sb_index.specs.declared.wanted.Wanted.TheVariants.{Any, Marked}
use Rattle.sb_index.proofs.Order.{above_middle, above_more, rising_rest}

-- ---- by any test

any_all : (l : List Row) (k : Row) (r : List Row) → list_any (fits Any) (l ++ k ∷ r) ≡ true
any_all [] k r = refl
any_all (y ∷ l) k r = refl

pub any_there : (w : Wanted) (l : List Row) (k : Row) (r : List Row) → w ≡ Any → list_any (fits w) (l ++ k ∷ r) ≡ true
any_there w l k r e = ap (λ v. list_any (fits v) (l ++ k ∷ r)) e ∙ any_all l k r

none_cases : {X : Type 0} (x : X) (b c : Bool) (o : Option X) → (b || c) ≡ false → (c ≡ false → o ≡ None) → cond b (Some x) o ≡ None
none_cases x true c o e f = absurd (let bad : true ≡ false = e in cc)
none_cases x false c o e f = f e

pub find_none : {X : Type 0} (p : X → Bool) (xs : List X) → list_any p xs ≡ false → find p xs ≡ None
find_none p [] e = refl
find_none p (x ∷ xs) e = none_cases x (p x) (list_any p xs) (find p xs) e (find_none p xs)

front_cases : {X : Type 0} (x y : X) (b : Bool) (o u : Option X) → cond b (Some x) o ≡ Some y → (o ≡ Some y → u ≡ Some y) → cond b (Some x) u ≡ Some y
front_cases x y true o u e f = e
front_cases x y false o u e f = f e

pub find_front : {X : Type 0} (p : X → Bool) (x : X) (l m : List X) → find p l ≡ Some x → find p (l ++ m) ≡ Some x
find_front p x [] m e = absurd (let bad : None ≡ Some x = e in cc)
find_front p x (y ∷ l) m e = front_cases y x (p y) (find p l) (find p (l ++ m)) e (find_front p x l m)

behind_cases : {X : Type 0} (x : X) (b : Bool) (o u v : Option X) → cond b (Some x) o ≡ None → (o ≡ None → u ≡ v) → cond b (Some x) u ≡ v
behind_cases x true o u v e f = absurd (let bad : Some x ≡ None = e in cc)
behind_cases x false o u v e f = f e

find_after : {X : Type 0} (p : X → Bool) (l m : List X) → find p l ≡ None → find p (l ++ m) ≡ find p m
find_after p [] m e = refl
find_after p (y ∷ l) m e = behind_cases y (p y) (find p l) (find p (l ++ m)) (find p m) e (find_after p l m)

pub find_here : {X : Type 0} (p : X → Bool) (k : X) (l r : List X) → find p l ≡ None → p k ≡ true → find p (l ++ k ∷ r) ≡ Some k
find_here p k l r e t = find_after p l (k ∷ r) e ∙ ap (λ b. cond b (Some k) (find p r)) t

pub find_behind : {X : Type 0} (p : X → Bool) (k : X) (l r : List X) → find p l ≡ None → p k ≡ false → find p (l ++ k ∷ r) ≡ find p r
find_behind p k l r e t = find_after p l (k ∷ r) e ∙ ap (λ b. cond b (Some k) (find p r)) t

-- ---- by key

not_found : (key : ℕ) (xs : List Row) → AreAbove key xs → find (is_at key) xs ≡ None
not_found key [] a = refl
not_found key (x ∷ xs) a = let p : key < x.key = a.0 in rw (ne_eqb key x.key (omega arith)) (not_found key xs a.1)

at_cases : (y : Row) (b : Bool) (m n : Option Row) → m ≡ n → cond b (Some y) m ≡ cond b (Some y) n
at_cases y true m n e = refl
at_cases y false m n e = e

pub at_left : (key : ℕ) (k : Row) (l r : List Row) → key < k.key → AreRising (l ++ k ∷ r) → find (is_at key) (l ++ k ∷ r) ≡ find (is_at key) l
at_left key k [] r p s = not_found key (k ∷ r) (p, above_more key k.key r p s.0)
at_left key k (y ∷ l) r p s = at_cases y (key == y.key) _ _ (at_left key k l r p s.1)

pub at_right : (key : ℕ) (k : Row) (l r : List Row) → k.key < key → AreRising (l ++ k ∷ r) → find (is_at key) (l ++ k ∷ r) ≡ find (is_at key) r
at_right key k [] r p s = rw (ne_eqb key k.key (omega arith)) refl
at_right key k (y ∷ l) r p s =
    let q : y.key < k.key = above_middle y.key l k r s.0 in
    rw (ne_eqb key y.key (omega arith)) (at_right key k l r p s.1)

at_own : (k : Row) (l r : List Row) → AreRising (l ++ k ∷ r) → find (is_at k.key) (l ++ k ∷ r) ≡ Some k
at_own k [] r s = rw (eq-eqb k.key k.key refl) refl
at_own k (y ∷ l) r s =
    let q : y.key < k.key = above_middle y.key l k r s.0 in
    rw (ne_eqb k.key y.key (omega arith)) (at_own k l r s.1)

pub at_here : (key : ℕ) (k : Row) (l r : List Row) → k.key ≤ key → key ≤ k.key → AreRising (l ++ k ∷ r) → find (is_at key) (l ++ k ∷ r) ≡ Some k
at_here key k l r p q s = let same : key ≡ k.key = omega (arith, p, q) in rw same (at_own k l r s)

-- ---- from a key on

and_false : (b : Bool) → (b && false) ≡ false
and_false true = refl
and_false false = refl

and_true : (b : Bool) → (b && true) ≡ b
and_true true = refl
and_true false = refl

from_none_cases : (x : Row) (b c d : Bool) (o : Option Row) → (b || c) ≡ false → (c ≡ false → o ≡ None) → cond (b && d) (Some x) o ≡ None
from_none_cases x true c d o e f = absurd (let bad : true ≡ false = e in cc)
from_none_cases x false c d o e f = f e

pub from_none : (w : Wanted) (from : ℕ) (xs : List Row) → list_any (fits w) xs ≡ false → find (fits_from w from) xs ≡ None
from_none w from [] e = refl
from_none w from (x ∷ xs) e = from_none_cases x (fits w x) (list_any (fits w) xs) (is_from from x) (find (fits_from w from) xs) e (from_none w from xs)

too_low : (w : Wanted) (from : ℕ) (x : Row) (xs : List Row) → x.key < from → find (fits_from w from) (x ∷ xs) ≡ find (fits_from w from) xs
too_low w from x xs p = ap (λ b. cond (fits w x && b) (Some x) (find (fits_from w from) xs)) (lt-leb from x.key p) ∙ ap (λ b. cond b (Some x) (find (fits_from w from) xs)) (and_false (fits w x))

pub from_right : (w : Wanted) (from : ℕ) (k : Row) (l r : List Row) → k.key < from → AreRising (l ++ k ∷ r) → find (fits_from w from) (l ++ k ∷ r) ≡ find (fits_from w from) r
from_right w from k [] r p s = too_low w from k r p
from_right w from k (y ∷ l) r p s =
    let q : y.key < k.key = above_middle y.key l k r s.0 in
    too_low w from y (l ++ k ∷ r) (omega arith) ∙ from_right w from k l r p s.1

fits_high : (w : Wanted) (from : ℕ) (x : Row) → from ≤ x.key → fits_from w from x ≡ fits w x
fits_high w from x p = ap (λ b. fits w x && b) (le-leb from x.key p) ∙ and_true (fits w x)

pub from_here : (w : Wanted) (from : ℕ) (k : Row) (l r : List Row) → find (fits_from w from) l ≡ None → from ≤ k.key → fits w k ≡ true → find (fits_from w from) (l ++ k ∷ r) ≡ Some k
from_here w from k l r e p t = find_here (fits_from w from) k l r e (fits_high w from k p ∙ t)

all_high : (w : Wanted) (from n : ℕ) (xs : List Row) → from ≤ n → AreAbove n xs → find (fits_from w from) xs ≡ find (fits w) xs
all_high w from n [] p a = refl
all_high w from n (x ∷ xs) p a =
    let q : n < x.key = a.0 in
    ap (λ b. cond b (Some x) (find (fits_from w from) xs)) (fits_high w from x (omega arith)) ∙ ap (λ z. cond (fits w x) (Some x) z) (all_high w from n xs p a.1)

pub from_behind : (w : Wanted) (from : ℕ) (k : Row) (l r : List Row) → find (fits_from w from) l ≡ None → from ≤ k.key → fits w k ≡ false → AreRising (l ++ k ∷ r) → find (fits_from w from) (l ++ k ∷ r) ≡ find (fits w) r
from_behind w from k l r e p t s = find_behind (fits_from w from) k l r e (fits_high w from k p ∙ t) ∙ all_high w from k.key r p (rising_rest l k r s)

-- ---- up to a key

too_high : (from below n : ℕ) (xs : List Row) → below ≤ n → AreAbove n xs → find (is_marked_within from below) xs ≡ None
too_high from below n [] p a = refl
too_high from below n (x ∷ xs) p a =
    let q : n < x.key = a.0 in
    high_cases (is_marked x) (is_from from x) (nat_lt x.key below) x _ (ltb-false_of x.key below (omega arith)) (too_high from below n xs p a.1)
  where
    ltb-false_of : (a b : ℕ) → b ≤ a → nat_lt a b ≡ false
    ltb-false_of a b p = grind (arith, nat_tests)

    high_cases : (m f b : Bool) (x : Row) (o : Option Row) → b ≡ false → o ≡ None → cond (m && (f && b)) (Some x) o ≡ None
    high_cases true true true x o e n = absurd (let bad : true ≡ false = e in cc)
    high_cases true true false x o e n = n
    high_cases true false b x o e n = n
    high_cases false f b x o e n = n

before_cases : (below : ℕ) (x : Row) (m f b : Bool) (o u : Option Row) → nat_lt x.key below ≡ b → before below o ≡ u → (b ≡ false → u ≡ None) → before below (cond (m && f) (Some x) o) ≡ cond (m && (f && b)) (Some x) u
before_cases below x true true true o u c e f = ap (λ b. if b then Some x else None) c
before_cases below x true true false o u c e f = ap (λ b. if b then Some x else None) c ∙ sym (f refl)
before_cases below x true false b o u c e f = e
before_cases below x false g b o u c e f = e

pub within_before : (from below : ℕ) (xs : List Row) → AreRising xs → before below (find (fits_from Marked from) xs) ≡ find (is_marked_within from below) xs
within_before from below [] s = refl
within_before from below (x ∷ xs) s = before_cases below x (is_marked x) (is_from from x) (nat_lt x.key below) _ _ refl (within_before from below xs s.1) (λ e. too_high from below x.key xs (ltb-false x.key below e) s.0)
