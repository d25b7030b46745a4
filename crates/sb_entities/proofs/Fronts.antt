-- Copies that stand before others in the order of their numbers.
use Rattle.std.proofs.Common.{◌≡◌, ℕ, ◌<◌, ◌≤◌, List, [], ◌∷◌, ◌++◌, nat_lt, ◌&&◌, Bool, true, false, refl, sym, subst, arith}
use Rattle.std.specs.List.{list_all}
use Rattle.std.proofs.lemmas.Bool.Decides.{nat_tests}
use Rattle.sb_index.specs.Rows.{AreAbove}
use Rattle.sb_machine.specs.Keyed.{AreRising}
use Rattle.sb_machine.specs.declared.state.StoredCopy.{StoredCopy}
use Rattle.sb_copies.specs.Shelf.{AreBelow, AreInOrder, is_before, rows_of}

both : (a b : Bool) → (a && b) ≡ true → (a ≡ true) × (b ≡ true)
both true b e = (refl, e)
both false b e = absurd (let bad : false ≡ true = e in cc)

above_is : (m n : ℕ) → m < n → nat_lt m n ≡ true
above_is m n lt = grind (arith, nat_tests)

is_above : (m n : ℕ) → nat_lt m n ≡ true → m < n
is_above m n e = grind (arith, nat_tests)

-- ---- of rising numbers

higher : (above last : ℕ) (cs : List StoredCopy) → AreRising (λ c. c.number) above last cs → above ≤ last
higher above last [] h = h
higher above last (c ∷ cs) h = let up = higher c.number last cs h.1 in omega (arith, up, h.0)

-- below a number that is above the last
pub rising_below : (m above last : ℕ) (cs : List StoredCopy) → last < m → AreRising (λ c. c.number) above last cs → AreBelow m cs
rising_below m above last [] lt h = refl
rising_below m above last (c ∷ cs) lt h = let up = higher c.number last cs h.1 in rw (above_is c.number m (omega (arith, up, lt))) (rising_below m c.number last cs lt h.1)

all_above : (n above last : ℕ) (cs : List StoredCopy) → n ≤ above → AreRising (λ c. c.number) above last cs → AreAbove n (rows_of cs)
all_above n above last [] le h = tt
all_above n above last (c ∷ cs) le h = (omega (arith, le, h.0), all_above n c.number last cs (omega (arith, le, h.0)) h.1)

pub rising_order : (above last : ℕ) (cs : List StoredCopy) → AreRising (λ c. c.number) above last cs → AreInOrder cs
rising_order above last [] h = tt
rising_order above last (c ∷ cs) h = (all_above c.number c.number last cs (omega arith) h.1, rising_order c.number last cs h.1)

-- ---- of one that stands between others

lower : (n : ℕ) (c : StoredCopy) (xs ys : List StoredCopy) → AreAbove n (rows_of (xs ++ c ∷ ys)) → n < c.number
lower n c [] ys a = a.0
lower n c (x ∷ xs) ys a = lower n c xs ys a.1

front_below : (c : StoredCopy) (xs ys : List StoredCopy) → AreInOrder (xs ++ c ∷ ys) → AreBelow c.number xs
front_below c [] ys s = refl
front_below c (x ∷ xs) ys s = rw (above_is x.number c.number (lower x.number c xs ys s.0)) (front_below c xs ys s.1)

one_below : (m : ℕ) (c : StoredCopy) (xs ys : List StoredCopy) → AreBelow m (xs ++ c ∷ ys) → c.number < m
one_below m c [] ys b = is_above c.number m (both (nat_lt c.number m) (list_all (is_before m) ys) b).0
one_below m c (x ∷ xs) ys b = one_below m c xs ys (both (nat_lt x.number m) (list_all (is_before m) (xs ++ c ∷ ys)) b).1

-- those before it are below it
pub before_next : (c : StoredCopy) (xs ys left all : List StoredCopy) → xs ++ left ≡ all → left ≡ c ∷ ys → AreInOrder all → AreBelow c.number xs
before_next c xs ys left all is next s =
    front_below c xs ys (subst (λ (l : List StoredCopy). AreInOrder (xs ++ l)) next (subst (λ (l : List StoredCopy). AreInOrder l) (sym is) s))

-- and it is below what all are
pub next_below : (m : ℕ) (c : StoredCopy) (xs ys left all : List StoredCopy) → xs ++ left ≡ all → left ≡ c ∷ ys → AreBelow m all → c.number < m
next_below m c xs ys left all is next b =
    one_below m c xs ys (subst (λ (l : List StoredCopy). AreBelow m (xs ++ l)) next (subst (λ (l : List StoredCopy). AreBelow m l) (sym is) b))
