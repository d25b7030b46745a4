-- Rows that are told to be heads or not: what a change leaves of them, and the least of their numbers.
use Rattle.std.proofs.Common.{◌≡◌, ℕ, ◌<◌, ◌≤◌, List, [], ◌∷◌, map, find, min, nat_lt, ◌==◌, ◌&&◌, ◌||◌, if◌then◌else◌, Bool, true, false, Option, Some, None, cond, refl, sym, ap, ◌∙◌, subst, arith}
use Rattle.std.specs.List.{filter, fold}
use Rattle.std.proofs.lemmas.Bool.Decides.{nat_tests}
use Rattle.std.proofs.lemmas.Bool.{ne_eqb}
use Rattle.sb_index.specs.Rows.{AreAbove, AreRising, changed, is_at, least_due}
use Rattle.sb_index.specs.declared.row.Row.{Row}
use Rattle.sb_copies.specs.Dues.{never}
use Rattle.sb_copies.specs.Heads.{heads_in, is_among, is_usual, IsLeast, told_head}
use Rattle.sb_copies.proofs.Order.{same_number}

-- ---- one row is told

untold : (key : ℕ) (m head : Bool) (d : ℕ) (ys : List Row) → AreAbove key ys → changed key m d ys ≡ map (told_head key head) ys
untold key m head d [] a = refl
untold key m head d (y ∷ ys) a = let p : key < y.key = a.0 in rw (ne_eqb key y.key (omega arith)) (ap (λ (l : List Row). y ∷ l) (untold key m head d ys a.1))

pub told_there : (key : ℕ) (head : Bool) (row : Row) (rows : List Row) → AreRising rows → Some row ≡ find (is_at key) rows → changed key row.marked (if head then row.value else never) rows ≡ map (told_head key head) rows
told_there key head row [] s found = absurd cc
told_there key head row (y ∷ ys) s found = at (key == y.key) refl (told_there key head row ys s.1) where
  at : (b : Bool) → (key == y.key) ≡ b → (Some row ≡ find (is_at key) ys → changed key row.marked (if head then row.value else never) ys ≡ map (told_head key head) ys) → changed key row.marked (if head then row.value else never) (y ∷ ys) ≡ map (told_head key head) (y ∷ ys)
  at true e ih =
      let it : Some row ≡ Some y = rw e at found in
      let same : row ≡ y = cc in
      let rest : changed key row.marked (if head then row.value else never) ys ≡ map (told_head key head) ys = untold key row.marked head (if head then row.value else never) ys (subst (λ k. AreAbove k ys) (sym (same_number key y.key e)) s.0) in
      rw e (ap (λ (x : Row). record { key = y.key; value = y.value; marked = x.marked; due = if head then x.value else never } ∷ changed key row.marked (if head then row.value else never) ys) same
      ∙ ap (λ (l : List Row). record { key = y.key; value = y.value; marked = y.marked; due = if head then y.value else never } ∷ l) rest)
  at false e ih = let rest : Some row ≡ find (is_at key) ys = rw e at found in rw e (ap (λ (l : List Row). y ∷ l) (ih rest))

pub told_nowhere : (key : ℕ) (head : Bool) (rows : List Row) → None ≡ find (is_at key) rows → rows ≡ map (told_head key head) rows
told_nowhere key head [] found = refl
told_nowhere key head (y ∷ ys) found = at (key == y.key) refl (told_nowhere key head ys) where
  at : (b : Bool) → (key == y.key) ≡ b → (None ≡ find (is_at key) ys → ys ≡ map (told_head key head) ys) → y ∷ ys ≡ map (told_head key head) (y ∷ ys)
  at true e ih = absurd (let bad : None ≡ Some y = rw e at found in cc)
  at false e ih = let rest : None ≡ find (is_at key) ys = rw e at found in rw e (ap (λ (l : List Row). y ∷ l) (ih rest))

-- ---- the least number

pub or_swap : (a b c : Bool) → (a || (b || c)) ≡ (b || (a || c))
or_swap true true c = refl
or_swap true false c = refl
or_swap false b c = refl

either_least : (a d f : ℕ) (b : Bool) → ((min a d == f) || b) ≡ true → ((a == f) || ((d == f) || b)) ≡ true
either_least a d f true e = grind (arith, nat_tests)
either_least a d f false e = grind (arith, nat_tests)

fold_among : (a : ℕ) (ds : List ℕ) → is_among (fold min a ds) (a ∷ ds) ≡ true
fold_among a [] = rw (itself a) refl where
  itself : (n : ℕ) → (n == n) ≡ true
  itself n = grind (arith, nat_tests)
fold_among a (d ∷ ds) = either_least a d (fold min (min a d) ds) (is_among (fold min (min a d) ds) ds) (fold_among (min a d) ds)

fold_most : (a : ℕ) (ds : List ℕ) → fold min a ds ≤ a
fold_most a [] = omega arith
fold_most a (d ∷ ds) = let it = fold_most (min a d) ds in omega (arith, it)

fold_lower : (m a : ℕ) (ds : List ℕ) → m < fold min a ds → is_among m (a ∷ ds) ≡ false
fold_lower m a [] lt = rw (ne_eqb a m (omega (arith, lt))) refl
fold_lower m a (d ∷ ds) lt =
    let most = fold_most (min a d) ds in
    let it : ((min a d == m) || is_among m ds) ≡ false = fold_lower m (min a d) ds lt in
    let rest : is_among m ds ≡ false = last_none (min a d == m) (is_among m ds) it in
    rw (ne_eqb a m (omega (arith, lt, most)), ne_eqb d m (omega (arith, lt, most))) rest where
      last_none : (a b : Bool) → (a || b) ≡ false → b ≡ false
      last_none true b e = absurd (let bad : true ≡ false = e in cc)
      last_none false b e = e

pub among_usual : (n : ℕ) (ds : List ℕ) → is_among n (filter is_usual ds) ≡ (is_usual n && is_among n ds)
among_usual n [] = at (is_usual n) where
  at : (b : Bool) → false ≡ (b && false)
  at true = refl
  at false = refl
among_usual n (d ∷ ds) = at (is_usual d) refl (among_usual n ds) where
  same : (b : Bool) → is_usual d ≡ b → (d == n) ≡ true → is_usual n ≡ b
  same b e is = subst (λ k. is_usual k ≡ b) (same_number d n is) e

  at : (b : Bool) → is_usual d ≡ b → is_among n (filter is_usual ds) ≡ (is_usual n && is_among n ds) → is_among n (cond b (d ∷ filter is_usual ds) (filter is_usual ds)) ≡ (is_usual n && ((d == n) || is_among n ds))
  at true e ih = inner (d == n) refl where
    inner : (t : Bool) → (d == n) ≡ t → ((d == n) || is_among n (filter is_usual ds)) ≡ (is_usual n && ((d == n) || is_among n ds))
    inner true is = rw (is, same true e is) refl
    inner false is = rw is ih
  at false e ih = inner (d == n) refl where
    inner : (t : Bool) → (d == n) ≡ t → is_among n (filter is_usual ds) ≡ (is_usual n && ((d == n) || is_among n ds))
    inner true is = ih ∙ rw (is, same false e is) refl
    inner false is = rw is ih

dues : List Row → List ℕ
dues rows = map (λ x. x.due) rows

abbrev or_never : Option ℕ → ℕ
or_never None = never
or_never (Some d) = d

lower_none : (m : ℕ) (rows : List Row) → m < or_never (least_due rows) → is_among m (map (λ x. x.due) rows) ≡ false
lower_none m [] lt = refl
lower_none m (x ∷ xs) lt = fold_lower m x.due (map (λ y. y.due) xs) lt

least_among : (d : ℕ) (rows : List Row) → Some d ≡ least_due rows → is_among d (map (λ x. x.due) rows) ≡ true
least_among d [] e = absurd (let bad : Some d ≡ None = e in cc)
least_among d (x ∷ xs) e =
    let same : d ≡ fold min x.due (map (λ y. y.due) xs) = ap or_never e in
    subst (λ k. is_among k (x.due ∷ map (λ y. y.due) xs) ≡ true) (sym same) (fold_among x.due (map (λ y. y.due) xs))

usual : (d : ℕ) → d < never → is_usual d ≡ true
usual d p = grind (arith, nat_tests)

unusual : (m : ℕ) → never ≤ m → is_usual m ≡ false
unusual m p = grind (arith, nat_tests)

none_below : (m d : ℕ) (rows : List Row) → Some d ≡ least_due rows → m < d → is_among m (heads_in rows) ≡ false
none_below m d rows e lt = among_usual m (map (λ x. x.due) rows) ∙ nothing (is_usual m) (is_among m (map (λ x. x.due) rows)) (lower_none m rows (subst (λ k. m < k) (ap or_never e) lt)) where
  nothing : (a b : Bool) → b ≡ false → (a && b) ≡ false
  nothing true b e = e
  nothing false b e = refl

pub least_there : (d : ℕ) (rows : List Row) → Some d ≡ least_due rows → d < never → IsLeast (Some d) (heads_in rows)
least_there d rows e lt = ((among_usual d (map (λ x. x.due) rows) ∙ rw (usual d lt, least_among d rows e) refl, λ m p. none_below m d rows e p), tt)

pub least_nowhere : (d : ℕ) (rows : List Row) → Some d ≡ least_due rows → never ≤ d → IsLeast None (heads_in rows)
least_nowhere d rows e le = (tt, λ m. at m (nat_lt m never) refl) where
  below : (m : ℕ) → nat_lt m never ≡ true → m < never
  below m e = grind (arith, nat_tests)

  at : (m : ℕ) (b : Bool) → nat_lt m never ≡ b → is_among m (heads_in rows) ≡ false
  at m true p = let lt = below m p in none_below m d rows e (omega (arith, lt, le))
  at m false p = among_usual m (map (λ x. x.due) rows) ∙ rw p refl

pub least_in_none : (rows : List Row) → None ≡ least_due rows → IsLeast None (heads_in rows)
least_in_none [] e = (tt, λ m. refl)
least_in_none (x ∷ xs) e = absurd (let bad : None ≡ Some (fold min x.due (map (λ y. y.due) xs)) = e in cc)
