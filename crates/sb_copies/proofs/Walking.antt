-- Walks over copies whose numbers rise: from each to the first of a higher number.
use Rattle.std.proofs.Common.{◌≡◌, ℕ, zero, suc, ◌+◌, ◌<◌, ◌≤◌, List, [], ◌∷◌, ◌++◌, length, take, map, find, nat_le, Bool, true, false, Some, None, cond, refl, sym, ap, ◌∙◌, arith, append_assoc, add-one}
use Rattle.std.specs.List.{filter}
use Rattle.std.proofs.lemmas.Bool.Decides.{nat_tests}
use Rattle.std.proofs.lemmas.List.{append-nil}
use Rattle.sb_index.specs.Rows.{AreAbove}
use Rattle.sb_machine.specs.Receiving.{browsed}
use Rattle.sb_machine.specs.declared.state.StoredCopy.{StoredCopy}
use Rattle.sb_machine.specs.declared.reply.CopyShown.{CopyShown}
use Rattle.sb_machine.proofs.Places.{found_passes}
use Rattle.sb_copies.specs.Shelf.{AreInOrder, rows_of}

-- ---- those from a number on

abbrev pub from : ℕ → List StoredCopy → List StoredCopy
from n cs = filter (λ c. nat_le n c.number) cs

reached : (n m k : ℕ) → n ≤ m → m < k → nat_le n k ≡ true
reached n m k p q = grind (arith, nat_tests)

passed : (m k : ℕ) → m < k → nat_le (m + 1) k ≡ true
passed m k p = grind (arith, nat_tests)

not_itself : (m : ℕ) → nat_le (m + 1) m ≡ false
not_itself m = grind (arith, nat_tests)

is_le : (n m : ℕ) → nat_le n m ≡ true → n ≤ m
is_le n m e = grind (arith, nat_tests)

still_before : (n m k : ℕ) → nat_le n m ≡ false → nat_le n k ≡ true → nat_le (k + 1) m ≡ false
still_before n m k e f = grind (arith, nat_tests)

all_reached : (n m : ℕ) (cs : List StoredCopy) → n ≤ m → AreAbove m (rows_of cs) → from n cs ≡ cs
all_reached n m [] p s = refl
all_reached n m (c ∷ cs) p s = rw (reached n m c.number p s.0) (ap (λ (l : List StoredCopy). c ∷ l) (all_reached n m cs p s.1))

all_passed : (m : ℕ) (cs : List StoredCopy) → AreAbove m (rows_of cs) → from (m + 1) cs ≡ cs
all_passed m [] s = refl
all_passed m (c ∷ cs) s = rw (passed m c.number s.0) (ap (λ (l : List StoredCopy). c ∷ l) (all_passed m cs s.1))

-- the first of them, and those of higher numbers
pub from_first : (n : ℕ) (c : StoredCopy) (cs : List StoredCopy) → AreInOrder cs → find (λ x. nat_le n x.number) cs ≡ Some c → from n cs ≡ c ∷ from (c.number + 1) cs
from_first n c [] s found = absurd cc
from_first n c (y ∷ ys) s found = at (nat_le n y.number) refl (from_first n c ys s.1) where
  at : (b : Bool) → nat_le n y.number ≡ b → (find (λ x. nat_le n x.number) ys ≡ Some c → from n ys ≡ c ∷ from (c.number + 1) ys) → from n (y ∷ ys) ≡ c ∷ from (c.number + 1) (y ∷ ys)
  at true e ih =
      let it : Some y ≡ Some c = rw e at found in
      let same : y ≡ c = cc in
      let behind : from (y.number + 1) (y ∷ ys) ≡ ys = rw (not_itself y.number) (all_passed y.number ys s.0) in
      let here : from n (y ∷ ys) ≡ y ∷ ys = rw e (ap (λ (l : List StoredCopy). y ∷ l) (all_reached n y.number ys (is_le n y.number e) s.0)) in
      here ∙ ap (λ (l : List StoredCopy). y ∷ l) (sym behind) ∙ ap (λ (z : StoredCopy). z ∷ from (z.number + 1) (y ∷ ys)) same
  at false e ih =
      let rest : find (λ x. nat_le n x.number) ys ≡ Some c = rw e at found in
      let later : nat_le (c.number + 1) y.number ≡ false = still_before n y.number c.number e (found_passes (λ x. nat_le n x.number) ys c rest) in
      rw (e, later) (ih rest)

pub from_nothing : (n : ℕ) (cs : List StoredCopy) → find (λ x. nat_le n x.number) cs ≡ None → from n cs ≡ []
from_nothing n [] found = refl
from_nothing n (y ∷ ys) found = at (nat_le n y.number) refl (from_nothing n ys) where
  at : (b : Bool) → nat_le n y.number ≡ b → (find (λ x. nat_le n x.number) ys ≡ None → from n ys ≡ []) → from n (y ∷ ys) ≡ []
  at true e ih = absurd (let bad : Some y ≡ None = rw e at found in cc)
  at false e ih = rw e (ih (rw e at found))

not_negative : (m : ℕ) → nat_le 0 m ≡ true
not_negative m = grind (arith, nat_tests)

pub from_start : (cs : List StoredCopy) → from 0 cs ≡ cs
from_start [] = refl
from_start (c ∷ cs) = rw (not_negative c.number) (ap (λ (l : List StoredCopy). c ∷ l) (from_start cs))

-- ---- a search in turn

module _ (p : StoredCopy → Bool) where
  pub looked_first : (cs : List StoredCopy) → find p (from 0 cs) ≡ find p cs
  looked_first cs = ap (λ (l : List StoredCopy). find p l) (from_start cs)

  pub looked_here : (n : ℕ) (c : StoredCopy) (cs : List StoredCopy) → AreInOrder cs → Some c ≡ find (λ x. nat_le n x.number) cs → find p (from n cs) ≡ find p cs → true ≡ p c → Some c ≡ find p cs
  looked_here n c cs s found so_far passes = ap (λ b. cond b (Some c) (find p (from (c.number + 1) cs))) passes ∙ ap (λ (l : List StoredCopy). find p l) (sym (from_first n c cs s (sym found))) ∙ so_far

  pub looked_on : (n k : ℕ) (c : StoredCopy) (cs : List StoredCopy) → AreInOrder cs → Some c ≡ find (λ x. nat_le n x.number) cs → k ≡ c.number + 1 → find p (from n cs) ≡ find p cs → false ≡ p c → find p (from k cs) ≡ find p cs
  looked_on n k c cs s found next so_far fails = ap (λ j. find p (from j cs)) next ∙ ap (λ b. cond b (Some c) (find p (from (c.number + 1) cs))) fails ∙ ap (λ (l : List StoredCopy). find p l) (sym (from_first n c cs s (sym found))) ∙ so_far

  pub looked_all : (n : ℕ) (cs : List StoredCopy) → None ≡ find (λ x. nat_le n x.number) cs → find p (from n cs) ≡ find p cs → None ≡ find p cs
  looked_all n cs found so_far = ap (λ (l : List StoredCopy). find p l) (sym (from_nothing n cs (sym found))) ∙ so_far

-- fewer are left behind each
pub fewer_left : (n k : ℕ) (c : StoredCopy) (cs : List StoredCopy) → AreInOrder cs → Some c ≡ find (λ x. nat_le n x.number) cs → k ≡ c.number + 1 → length (from k cs) < length (from n cs)
fewer_left n k c cs s found next =
    let one : length (from n cs) ≡ suc (length (from (c.number + 1) cs)) = ap (λ (l : List StoredCopy). length l) (from_first n c cs s (sym found)) in
    let same : length (from k cs) ≡ length (from (c.number + 1) cs) = ap (λ j. length (from j cs)) next in
    omega (arith, one, same)

-- ---- a look

taken : (left n : ℕ) (c : StoredCopy) (rest : List StoredCopy) → left ≡ suc n → map browsed (take left (c ∷ rest)) ≡ browsed c ∷ map browsed (take n rest)
taken left n c rest is = ap (λ k. map browsed (take k (c ∷ rest))) is

pub seen_one : (cs : List StoredCopy) (n k left less : ℕ) (c : StoredCopy) (seen all : List CopyShown) → AreInOrder cs → Some c ≡ find (λ x. nat_le n x.number) cs → k ≡ c.number + 1 → left ≡ less + 1 → seen ++ map browsed (take left (from n cs)) ≡ all
    → (seen ++ browsed c ∷ []) ++ map browsed (take less (from k cs)) ≡ all
seen_one cs n k left less c seen all s found next more so_far =
    let one : left ≡ suc less = more ∙ add-one less in
    append_assoc seen (browsed c ∷ []) (map browsed (take less (from k cs)))
    ∙ ap (λ j. seen ++ (browsed c ∷ map browsed (take less (from j cs)))) next
    ∙ ap (λ (l : List CopyShown). seen ++ l) (sym (taken left less c (from (c.number + 1) cs) one))
    ∙ ap (λ (l : List StoredCopy). seen ++ map browsed (take left l)) (sym (from_first n c cs s (sym found)))
    ∙ so_far

none_taken : (left : ℕ) → map browsed (take left []) ≡ []
none_taken zero = refl
none_taken (suc left) = refl

pub seen_all : (cs : List StoredCopy) (n left : ℕ) (seen all : List CopyShown) → None ≡ find (λ x. nat_le n x.number) cs → seen ++ map browsed (take left (from n cs)) ≡ all → seen ≡ all
seen_all cs n left seen all found so_far =
    sym (append-nil seen)
    ∙ ap (λ (l : List CopyShown). seen ++ l) (sym (none_taken left))
    ∙ ap (λ (l : List StoredCopy). seen ++ map browsed (take left l)) (sym (from_nothing n cs (sym found)))
    ∙ so_far
