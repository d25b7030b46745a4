-- Rows in rising keys: those from one key up to another, and what stands under a hash as one more comes or one goes.
use Rattle.std.proofs.Common.{◌≡◌, ℕ, suc, ◌+◌, ◌*◌, ◌<◌, ◌≤◌, ◌⊎◌, inl, inr, List, [], ◌∷◌, ◌++◌, find, nat_lt, nat_le, ◌==◌, ◌&&◌, ◌||◌, Bool, true, false, Option, Some, None, cond, if◌then◌else◌, refl, sym, ap, ◌∙◌, arith}
use Rattle.std.specs.List.{filter, insert, list_all, list_any, prefix_len}
use Rattle.std.proofs.lemmas.Bool.Decides.{nat_tests}
use Rattle.std.proofs.lemmas.Bool.{eq-eqb, ne_eqb}
use Rattle.sb_index.specs.Rows.{AreAbove, AreRising, Lacks, is_at, is_below, is_from, with_row}
use Rattle.sb_index.specs.declared.row.Row.{Row}
use Rattle.sb_entities.specs.ByHash.{entity_key, hash_row, is_within, span}

pub both : (a b : Bool) → (a && b) ≡ true → (a ≡ true) × (b ≡ true)
both true b e = (refl, e)
both false b e = absurd (let bad : false ≡ true = e in cc)

-- ---- keys

pub is_le : (a b : ℕ) → nat_le a b ≡ true → a ≤ b
is_le a b e = grind (arith, nat_tests)

pub is_lt : (a b : ℕ) → nat_lt a b ≡ true → a < b
is_lt a b e = grind (arith, nat_tests)

pub le_is : (a b : ℕ) → a ≤ b → nat_le a b ≡ true
le_is a b p = grind (arith, nat_tests)

pub le_isnt : (a b : ℕ) → b < a → nat_le a b ≡ false
le_isnt a b p = grind (arith, nat_tests)

pub lt_is : (a b : ℕ) → a < b → nat_lt a b ≡ true
lt_is a b p = grind (arith, nat_tests)

pub isnt_lt : (a b : ℕ) → nat_lt a b ≡ false → b ≤ a
isnt_lt a b e = grind (arith, nat_tests)

lt_isnt : (a b : ℕ) → b ≤ a → nat_lt a b ≡ false
lt_isnt a b p = grind (arith, nat_tests)

pub same : (a b : ℕ) → (a == b) ≡ true → a ≡ b
same a b e = grind (arith, nat_tests)

differ : (a b : ℕ) → (a == b) ≡ false → (a < b) ⊎ (b < a)
differ a b e = grind (arith, nat_tests)

turned : (m n : ℕ) → (m == n) ≡ false → (n == m) ≡ false
turned m n e = grind (arith, nat_tests)

pub under_own : (h n : ℕ) → n < span → is_within h (hash_row h n) ≡ true
under_own h n p = rw (le_is (h * span) (h * span + n) (omega arith), lt_is (h * span + n) (h * span + span) (omega (arith, p))) refl

outside : (h k n key : ℕ) → n < span → key ≡ k * span + n → (h < k) ⊎ (k < h) → h * span ≤ key → key < h * span + span → ⊥
outside h k n key p is (inl q) from below = omega (arith, p, is, q, from, below)
outside h k n key p is (inr q) from below = omega (arith, p, is, q, from, below)

pub under_other : (h k n : ℕ) → n < span → (k == h) ≡ false → is_within h (hash_row k n) ≡ false
under_other h k n p e = at (is_within h (hash_row k n)) refl where
  at : (b : Bool) → is_within h (hash_row k n) ≡ b → is_within h (hash_row k n) ≡ false
  at true u =
      let it = both (nat_le (h * span) (k * span + n)) (nat_lt (k * span + n) (h * span + span)) u in
      absurd (outside h k n (k * span + n) p refl (differ h k (turned k h e)) (is_le (h * span) (k * span + n) it.0) (is_lt (k * span + n) (h * span + span) it.1))
  at false u = u

pub other_number : (h m n : ℕ) → (m == n) ≡ false → (entity_key h n == entity_key h m) ≡ false
other_number h m n e = ne_eqb (h * span + n) (h * span + m) (apart (differ m n e)) where
  apart : (m < n) ⊎ (n < m) → h * span + n ≡ h * span + m → ⊥
  apart (inl q) is = omega (arith, q, is)
  apart (inr q) is = omega (arith, q, is)

pub own_number : (h m n : ℕ) → (m == n) ≡ true → (entity_key h n == entity_key h m) ≡ true
own_number h m n e = let one : m ≡ n = same m n e in eq-eqb (h * span + n) (h * span + m) (ap (λ z. h * span + z) (sym one))

pub other_hash : (h k m n : ℕ) → m < span → n < span → (h == k) ≡ false → (entity_key h n == entity_key k m) ≡ false
other_hash h k m n p q e = ne_eqb (h * span + n) (k * span + m) (apart (differ h k e)) where
  apart : (h < k) ⊎ (k < h) → h * span + n ≡ k * span + m → ⊥
  apart (inl r) is = omega (arith, p, q, r, is)
  apart (inr r) is = omega (arith, p, q, r, is)

-- ---- up to a key

too_high : (from below n : ℕ) (xs : List Row) → below ≤ n → AreAbove n xs → find (λ x. is_from from x && is_below below x) xs ≡ None
too_high from below n [] p a = refl
too_high from below n (x ∷ xs) p a =
    let q : n < x.key = a.0 in
    past (is_from from x) (nat_lt x.key below) x _ (lt_isnt x.key below (omega (arith, p, q))) (too_high from below n xs p a.1)
  where
    past : (f b : Bool) (x : Row) (o : Option Row) → b ≡ false → o ≡ None → cond (f && b) (Some x) o ≡ None
    past true true x o e none = absurd (let bad : true ≡ false = e in cc)
    past true false x o e none = none
    past false b x o e none = none

-- the first from a key on, where it is below another
abbrev before : ℕ → Option Row → Option Row
before below None = None
before below (Some x) = if nat_lt x.key below then Some x else None

first_before : (from below : ℕ) (xs : List Row) → AreRising xs → before below (find (is_from from) xs) ≡ find (λ x. is_from from x && is_below below x) xs
first_before from below [] s = refl
first_before from below (x ∷ xs) s = at (is_from from x) (nat_lt x.key below) refl (first_before from below xs s.1) where
  at : (f b : Bool) → nat_lt x.key below ≡ b → before below (find (is_from from) xs) ≡ find (λ y. is_from from y && is_below below y) xs → before below (cond f (Some x) (find (is_from from) xs)) ≡ cond (f && b) (Some x) (find (λ y. is_from from y && is_below below y) xs)
  at true true e ih = ap (λ b. if b then Some x else None) e
  at true false e ih = ap (λ b. if b then Some x else None) e ∙ sym (too_high from below x.key xs (isnt_lt x.key below e) s.0)
  at false b e ih = ih

pub found_before : (from below : ℕ) (x : Row) (xs : List Row) → AreRising xs → Some x ≡ find (is_from from) xs → x.key < below → Some x ≡ find (λ y. is_from from y && is_below below y) xs
found_before from below x xs s found low = ap (λ b. if b then Some x else None) (sym (lt_is x.key below low)) ∙ ap (before below) found ∙ first_before from below xs s

pub found_past : (from below : ℕ) (x : Row) (xs : List Row) → AreRising xs → Some x ≡ find (is_from from) xs → below ≤ x.key → None ≡ find (λ y. is_from from y && is_below below y) xs
found_past from below x xs s found high = ap (λ b. if b then Some x else None) (sym (lt_isnt x.key below high)) ∙ ap (before below) found ∙ first_before from below xs s

pub found_nowhere : (from below : ℕ) (xs : List Row) → AreRising xs → None ≡ find (is_from from) xs → None ≡ find (λ y. is_from from y && is_below below y) xs
found_nowhere from below xs s found = ap (before below) found ∙ first_before from below xs s

-- ---- one more

one_more : (n : ℕ) → 1 + n ≡ suc n
one_more n = omega arith

with_later : (x y : Row) (l : List Row) → nat_lt y.key x.key ≡ true → with_row x (y ∷ l) ≡ y ∷ with_row x l
with_later x y l e = ap (λ b. insert (y ∷ l) (cond b (1 + prefix_len (is_below x.key) l) 0) x) e ∙ ap (λ n. insert (y ∷ l) n x) (one_more (prefix_len (is_below x.key) l))

with_first : (x y : Row) (l : List Row) → nat_lt y.key x.key ≡ false → with_row x (y ∷ l) ≡ x ∷ y ∷ l
with_first x y l e = ap (λ b. insert (y ∷ l) (cond b (1 + prefix_len (is_below x.key) l) 0) x) e

none_low : (p : Row → Bool) (k n : ℕ) (ys : List Row) → k ≤ n → AreAbove n ys → list_all (is_below k) (filter p ys) ≡ true → filter p ys ≡ []
none_low p k n [] le a low = refl
none_low p k n (y ∷ ys) le a low = at (p y) refl (none_low p k n ys le a.1) where
  at : (b : Bool) → p y ≡ b → (list_all (is_below k) (filter p ys) ≡ true → filter p ys ≡ []) → filter p (y ∷ ys) ≡ []
  at true e ih =
      let it : (nat_lt y.key k && list_all (is_below k) (filter p ys)) ≡ true = rw e at low in
      let above : n < y.key = a.0 in
      let below : y.key < k = is_lt y.key k (both (nat_lt y.key k) (list_all (is_below k) (filter p ys)) it).0 in
      absurd (omega (arith, le, above, below))
  at false e ih = rw e (ih (rw e at low))

pub with_last : (p : Row → Bool) (x : Row) (ys : List Row) → p x ≡ true → AreRising ys → list_all (is_below x.key) (filter p ys) ≡ true → filter p (with_row x ys) ≡ filter p ys ++ x ∷ []
with_last p x [] passes s low = rw passes refl
with_last p x (y ∷ ys) passes s low = at (nat_lt y.key x.key) refl (with_last p x ys passes s.1) where
  at : (b : Bool) → nat_lt y.key x.key ≡ b → (list_all (is_below x.key) (filter p ys) ≡ true → filter p (with_row x ys) ≡ filter p ys ++ x ∷ []) → filter p (with_row x (y ∷ ys)) ≡ filter p (y ∷ ys) ++ x ∷ []
  at true e ih = ap (λ (l : List Row). filter p l) (with_later x y ys e) ∙ inner (p y) refl where
    inner : (b : Bool) → p y ≡ b → filter p (y ∷ with_row x ys) ≡ filter p (y ∷ ys) ++ x ∷ []
    inner true f =
        let it : (nat_lt y.key x.key && list_all (is_below x.key) (filter p ys)) ≡ true = rw f at low in
        rw f (ap (λ (l : List Row). y ∷ l) (ih (both (nat_lt y.key x.key) (list_all (is_below x.key) (filter p ys)) it).1))
    inner false f = rw f (ih (rw f at low))
  at false e ih = ap (λ (l : List Row). filter p l) (with_first x y ys e) ∙ rw passes (ap (λ (l : List Row). x ∷ l) nothing ∙ ap (λ (l : List Row). l ++ x ∷ []) (sym nothing)) where
    nothing : filter p (y ∷ ys) ≡ []
    nothing = inner (p y) refl where
      inner : (b : Bool) → p y ≡ b → filter p (y ∷ ys) ≡ []
      inner true f =
          let it : (nat_lt y.key x.key && list_all (is_below x.key) (filter p ys)) ≡ true = rw f at low in
          absurd (let bad : false ≡ true = sym e ∙ (both (nat_lt y.key x.key) (list_all (is_below x.key) (filter p ys)) it).0 in cc)
      inner false f = rw f (none_low p x.key y.key ys (isnt_lt y.key x.key e) s.0 (rw f at low))

pub with_other : (p : Row → Bool) (x : Row) (ys : List Row) → p x ≡ false → filter p (with_row x ys) ≡ filter p ys
with_other p x [] fails = rw fails refl
with_other p x (y ∷ ys) fails = at (nat_lt y.key x.key) refl (with_other p x ys fails) where
  at : (b : Bool) → nat_lt y.key x.key ≡ b → filter p (with_row x ys) ≡ filter p ys → filter p (with_row x (y ∷ ys)) ≡ filter p (y ∷ ys)
  at true e ih = ap (λ (l : List Row). filter p l) (with_later x y ys e) ∙ ap (λ (l : List Row). cond (p y) (y ∷ l) l) ih
  at false e ih = ap (λ (l : List Row). filter p l) (with_first x y ys e) ∙ rw fails refl

pub lacks_by : (p : Row → Bool) (key : ℕ) (ys : List Row) → ((y : Row) → (key == y.key) ≡ true → p y ≡ true) → Lacks key (filter p ys) → Lacks key ys
lacks_by p key [] own none = refl
lacks_by p key (y ∷ ys) own none = at (key == y.key) refl (lacks_by p key ys own) where
  at : (b : Bool) → (key == y.key) ≡ b → (Lacks key (filter p ys) → Lacks key ys) → Lacks key (y ∷ ys)
  at true e ih = absurd (let bad : true ≡ false = sym (ap (λ b. b || list_any (is_at key) (filter p ys)) e) ∙ (rw (own y e) at none) in cc)
  at false e ih = rw e (inner (p y) refl) where
    inner : (b : Bool) → p y ≡ b → list_any (is_at key) ys ≡ false
    inner true f = ih (let it : ((key == y.key) || list_any (is_at key) (filter p ys)) ≡ false = rw f at none in rw e at it)
    inner false f = ih (rw f at none)

-- ---- one less

pub filters_swap : {X : Type 0} (p q : X → Bool) (ys : List X) → filter p (filter q ys) ≡ filter q (filter p ys)
filters_swap p q [] = refl
filters_swap p q (y ∷ ys) = at (p y) (q y) refl refl (filters_swap p q ys) where
  at : (a b : Bool) → p y ≡ a → q y ≡ b → filter p (filter q ys) ≡ filter q (filter p ys) → filter p (filter q (y ∷ ys)) ≡ filter q (filter p (y ∷ ys))
  at true true e f ih = rw (e, f, e) (ap (λ l. y ∷ l) ih)
  at true false e f ih = rw (e, f) ih
  at false true e f ih = rw (e, f, e) ih
  at false false e f ih = rw (e, f) ih
