-- Copies that are found by their numbers, one after another.
use Rattle.std.proofs.Common.{◌≡◌, ℕ, ◌<◌, List, [], ◌∷◌, ◌++◌, map, find, ◌==◌, Bool, true, false, Option, Some, None, cond, refl, sym, ap, ◌∙◌, arith}
use Rattle.std.specs.List.{filter}
use Rattle.std.specs.Prelude.{option_to_list}
use Rattle.std.proofs.lemmas.Bool.Decides.{nat_tests}
use Rattle.std.proofs.lemmas.Bool.{ne_eqb}
use Rattle.std.proofs.lemmas.List.{append-nil}
use Rattle.sb_index.specs.Rows.{AreAbove}
use Rattle.sb_machine.specs.Leaves.{has_number}
use Rattle.sb_machine.specs.declared.state.StoredCopy.{StoredCopy}
use Rattle.sb_copies.specs.Numbers.{Rise, number_rows}
use Rattle.sb_copies.specs.Shelf.{AreInOrder, numbered_at, numbered_in, rows_of}

-- ---- one more

pub one_more_listed : (found : List StoredCopy) (n : ℕ) (cs : List StoredCopy) (c : StoredCopy) → Some c ≡ find (has_number n) cs → found ++ c ∷ [] ≡ found ++ numbered_at cs n
one_more_listed found n cs c there = ap (λ (o : Option StoredCopy). found ++ option_to_list o) there

pub none_listed : (found : List StoredCopy) (n : ℕ) (cs : List StoredCopy) → None ≡ find (has_number n) cs → found ≡ found ++ numbered_at cs n
none_listed found n cs there = sym (append-nil found) ∙ ap (λ (o : Option StoredCopy). found ++ option_to_list o) there

-- ---- those of the numbers that some have

-- the numbers of those that pass
abbrev pub numbers_of : (StoredCopy → Bool) → List StoredCopy → List ℕ
numbers_of p cs = map (λ c. c.number) (filter p cs)

-- each of these is found among those by its number
abbrev AreFound : List StoredCopy → List StoredCopy → Type 0
AreFound cs [] = Unit {0}
AreFound cs (d ∷ ds) = (find (has_number d.number) cs ≡ Some d) × AreFound cs ds

found_all : (cs ds : List StoredCopy) → AreFound cs ds → numbered_in cs (map (λ c. c.number) ds) ≡ ds
found_all cs [] f = refl
found_all cs (d ∷ ds) f = ap (λ (o : Option StoredCopy). option_to_list o ++ numbered_in cs (map (λ c. c.number) ds)) f.0 ∙ ap (λ (l : List StoredCopy). d ∷ l) (found_all cs ds f.1)

still_found : (c : StoredCopy) (cs ds : List StoredCopy) → AreAbove c.number (rows_of ds) → AreFound cs ds → AreFound (c ∷ cs) ds
still_found c cs [] a f = tt
still_found c cs (d ∷ ds) a f = let p : c.number < d.number = a.0 in (rw (ne_eqb c.number d.number (omega (arith, p))) f.0, still_found c cs ds a.1 f.1)

above_kept : (p : StoredCopy → Bool) (n : ℕ) (cs : List StoredCopy) → AreAbove n (rows_of cs) → AreAbove n (rows_of (filter p cs))
above_kept p n [] a = tt
above_kept p n (c ∷ cs) a = at (p c) (above_kept p n cs a.1) where
  at : (b : Bool) → AreAbove n (rows_of (filter p cs)) → AreAbove n (rows_of (cond b (c ∷ filter p cs) (filter p cs)))
  at true ih = (a.0, ih)
  at false ih = ih

itself : (n : ℕ) → (n == n) ≡ true
itself n = grind (arith, nat_tests)

kept_found : (p : StoredCopy → Bool) (cs : List StoredCopy) → AreInOrder cs → AreFound cs (filter p cs)
kept_found p [] s = tt
kept_found p (c ∷ cs) s = at (p c) (still_found c cs (filter p cs) (above_kept p c.number cs s.0) (kept_found p cs s.1)) where
  at : (b : Bool) → AreFound (c ∷ cs) (filter p cs) → AreFound (c ∷ cs) (cond b (c ∷ filter p cs) (filter p cs))
  at true ih = (rw (itself c.number) refl, ih)
  at false ih = ih

-- they are found again
pub listed : (p : StoredCopy → Bool) (cs : List StoredCopy) → AreInOrder cs → numbered_in cs (numbers_of p cs) ≡ filter p cs
listed p cs s = found_all cs (filter p cs) (kept_found p cs s)

-- ---- in order

numbers_above : (p : StoredCopy → Bool) (n : ℕ) (cs : List StoredCopy) → AreAbove n (rows_of cs) → AreAbove n (number_rows (numbers_of p cs))
numbers_above p n [] a = tt
numbers_above p n (c ∷ cs) a = at (p c) (numbers_above p n cs a.1) where
  at : (b : Bool) → AreAbove n (number_rows (numbers_of p cs)) → AreAbove n (number_rows (map (λ x. x.number) (cond b (c ∷ filter p cs) (filter p cs))))
  at true ih = (a.0, ih)
  at false ih = ih

pub numbers_rise : (p : StoredCopy → Bool) (cs : List StoredCopy) → AreInOrder cs → Rise (numbers_of p cs)
numbers_rise p [] s = tt
numbers_rise p (c ∷ cs) s = at (p c) (numbers_rise p cs s.1) where
  at : (b : Bool) → Rise (numbers_of p cs) → Rise (map (λ x. x.number) (cond b (c ∷ filter p cs) (filter p cs)))
  at true ih = (numbers_above p c.number cs s.0, ih)
  at false ih = ih
