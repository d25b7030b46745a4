-- Messages one number after another: what is left from a number on, where numbers rise.
use Rattle.std.proofs.Common.{Bool, List, None, Some, [], ap, arith, cond, false, filter, find, refl, sym, true, ℕ, ◌+◌, ◌<◌, ◌≤◌, ◌∙◌, ◌∷◌, ◌≡◌}
use Rattle.std.specs.Prelude.{nat_le, ◌||◌}
use Rattle.std.specs.List.{list_any}
use Rattle.std.proofs.lemmas.Bool.Decides.{nat_tests}
use Rattle.sb_index.specs.Rows.{AreAbove}
use Rattle.sb_machine.specs.declared.state.StoredCopy.{StoredCopy}
use Rattle.sb_copies.specs.Shelf.{AreInOrder, rows_of}

-- its number is at least this one
abbrev pub is_from : ℕ → StoredCopy → Bool
is_from n c = nat_le n c.number

there : (n m : ℕ) → n ≤ m → nat_le n m ≡ true
there n m p = grind (arith, nat_tests)

passed : (n m : ℕ) → m < n → nat_le n m ≡ false
passed n m p = grind (arith, nat_tests)

is_there : (n m : ℕ) → nat_le n m ≡ true → n ≤ m
is_there n m e = grind (arith, nat_tests)

is_passed : (n m : ℕ) → nat_le n m ≡ false → m < n
is_passed n m e = grind (arith, nat_tests)

-- what is found is that far
pub found_far : (n : ℕ) (cs : List StoredCopy) (c : StoredCopy) → Some c ≡ find (is_from n) cs → n ≤ c.number
found_far n [] c got = absurd cc
found_far n (y ∷ ys) c got = at (nat_le n y.number) refl (found_far n ys c) where
  at : (b : Bool) → nat_le n y.number ≡ b → (Some c ≡ find (is_from n) ys → n ≤ c.number) → n ≤ c.number
  at true e ih =
      let it : Some c ≡ Some y = got ∙ ap (λ (b : Bool). cond b (Some y) (find (is_from n) ys)) e in
      let same : c ≡ y = cc in
      let p : n ≤ y.number = is_there n y.number e in
      let q : c.number ≡ y.number = ap (λ (z : StoredCopy). z.number) same in
      omega (arith, p, q)
  at false e ih = ih (got ∙ ap (λ (b : Bool). cond b (Some y) (find (is_from n) ys)) e)

all_above : (n m : ℕ) (cs : List StoredCopy) → n ≤ m + 1 → AreAbove m (rows_of cs) → filter (is_from n) cs ≡ cs
all_above n m [] p a = refl
all_above n m (c ∷ cs) p a =
    let q : m < c.number = a.0 in
    ap (λ (b : Bool). cond b (c ∷ filter (is_from n) cs) (filter (is_from n) cs)) (there n c.number (omega (arith, p, q)))
    ∙ ap (λ (l : List StoredCopy). c ∷ l) (all_above n m cs p a.1)

-- all are left at first
pub all_left : (cs : List StoredCopy) → filter (is_from 0) cs ≡ cs
all_left [] = refl
all_left (c ∷ cs) = ap (λ (b : Bool). cond b (c ∷ filter (is_from 0) cs) (filter (is_from 0) cs)) (there 0 c.number (omega arith)) ∙ ap (λ (l : List StoredCopy). c ∷ l) (all_left cs)

-- the first that is left, and those behind its number
pub one_left : (n : ℕ) (cs : List StoredCopy) (c : StoredCopy) → AreInOrder cs → Some c ≡ find (is_from n) cs → filter (is_from n) cs ≡ c ∷ filter (is_from (c.number + 1)) cs
one_left n [] c s got = absurd cc
one_left n (y ∷ ys) c s got = at (nat_le n y.number) refl (one_left n ys c s.1) where
  at : (b : Bool) → nat_le n y.number ≡ b → (Some c ≡ find (is_from n) ys → filter (is_from n) ys ≡ c ∷ filter (is_from (c.number + 1)) ys) → filter (is_from n) (y ∷ ys) ≡ c ∷ filter (is_from (c.number + 1)) (y ∷ ys)
  at true e ih =
      let it : Some c ≡ Some y = got ∙ ap (λ (b : Bool). cond b (Some y) (find (is_from n) ys)) e in
      let same : c ≡ y = cc in
      let p : n ≤ y.number = is_there n y.number e in
      let here : filter (is_from n) (y ∷ ys) ≡ y ∷ ys =
      ap (λ (b : Bool). cond b (y ∷ filter (is_from n) ys) (filter (is_from n) ys)) e
      ∙ ap (λ (l : List StoredCopy). y ∷ l) (all_above n y.number ys (omega (arith, p)) s.0) in
      let behind : filter (is_from (y.number + 1)) (y ∷ ys) ≡ ys =
      ap (λ (b : Bool). cond b (y ∷ filter (is_from (y.number + 1)) ys) (filter (is_from (y.number + 1)) ys)) (passed (y.number + 1) y.number (omega arith))
      ∙ all_above (y.number + 1) y.number ys (omega arith) s.0 in
      here
      ∙ ap (λ (l : List StoredCopy). y ∷ l) (sym behind)
      ∙ ap (λ (z : StoredCopy). z ∷ filter (is_from (z.number + 1)) (y ∷ ys)) (sym same)
  at false e ih =
      let rest : Some c ≡ find (is_from n) ys = got ∙ ap (λ (b : Bool). cond b (Some y) (find (is_from n) ys)) e in
      let p : n ≤ c.number = found_far n ys c rest in
      let q : y.number < n = is_passed n y.number e in
      ap (λ (b : Bool). cond b (y ∷ filter (is_from n) ys) (filter (is_from n) ys)) e
      ∙ ih rest
      ∙ ap (λ (l : List StoredCopy). c ∷ l) (sym (ap (λ (b : Bool). cond b (y ∷ filter (is_from (c.number + 1)) ys) (filter (is_from (c.number + 1)) ys)) (passed (c.number + 1) y.number (omega (arith, p, q)))))

-- none is left
pub none_left : (n : ℕ) (cs : List StoredCopy) → None ≡ find (is_from n) cs → filter (is_from n) cs ≡ []
none_left n [] got = refl
none_left n (y ∷ ys) got = at (nat_le n y.number) refl (none_left n ys) where
  at : (b : Bool) → nat_le n y.number ≡ b → (None ≡ find (is_from n) ys → filter (is_from n) ys ≡ []) → filter (is_from n) (y ∷ ys) ≡ []
  at true e ih = absurd (let bad : None ≡ Some y = got ∙ ap (λ (b : Bool). cond b (Some y) (find (is_from n) ys)) e in cc)
  at false e ih = ap (λ (b : Bool). cond b (y ∷ filter (is_from n) ys) (filter (is_from n) ys)) e ∙ ih (got ∙ ap (λ (b : Bool). cond b (Some y) (find (is_from n) ys)) e)

-- ---- whether one passes

pub any_here : (p : StoredCopy → Bool) (n : ℕ) (cs : List StoredCopy) (c : StoredCopy) → AreInOrder cs → Some c ≡ find (is_from n) cs → p c ≡ true → list_any p (filter (is_from n) cs) ≡ true
any_here p n cs c s got on = ap (list_any p) (one_left n cs c s got) ∙ ap (λ (b : Bool). b || list_any p (filter (is_from (c.number + 1)) cs)) on

pub any_behind : (p : StoredCopy → Bool) (n : ℕ) (cs : List StoredCopy) (c : StoredCopy) → AreInOrder cs → Some c ≡ find (is_from n) cs → p c ≡ false → list_any p (filter (is_from n) cs) ≡ list_any p (filter (is_from (c.number + 1)) cs)
any_behind p n cs c s got off = ap (list_any p) (one_left n cs c s got) ∙ ap (λ (b : Bool). b || list_any p (filter (is_from (c.number + 1)) cs)) off
