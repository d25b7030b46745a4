-- Rows in order: one put among them, taken out of them, told otherwise; and the order that stays.
use Rattle.std.proofs.Common.{◌≡◌, ℕ, suc, ◌+◌, ◌<◌, ◌≤◌, refl, ap, ◌∙◌, sym, Bool, true, false, not, List, [], ◌∷◌, ◌++◌, length, nat_lt, ◌==◌, ◌||◌, find, None, Some, Option, cond, if◌then◌else◌, subst, arith}
use Rattle.std.proofs.lemmas.Bool.Decides.{nat_tests}
use Rattle.std.proofs.lemmas.Bool.{ne_eqb, eq-eqb, lt-ltb, ltb-true}
use Rattle.std.specs.List.{insert, list_any, prefix_len}
use Rattle.sb_index.specs.Rows.{AreAbove, AreRising, Lacks, changed, is_at, is_below, told, with_row, without}
use Rattle.sb_index.specs.declared.row.Row.{Row}

-- ---- rows before one and behind it

pub above_middle : (n : ℕ) (l : List Row) (k : Row) (r : List Row) → AreAbove n (l ++ k ∷ r) → n < k.key
above_middle n [] k r a = a.0
above_middle n (y ∷ l) k r a = above_middle n l k r a.1

above_front : (n : ℕ) (l m : List Row) → AreAbove n (l ++ m) → AreAbove n l
above_front n [] m a = tt
above_front n (y ∷ l) m a = (a.0, above_front n l m a.1)

pub above_more : (m n : ℕ) (xs : List Row) → m < n → AreAbove n xs → AreAbove m xs
above_more m n [] p a = tt
above_more m n (x ∷ xs) p a = let q : n < x.key = a.0 in (omega arith, above_more m n xs p a.1)

pub rising_front : (l m : List Row) → AreRising (l ++ m) → AreRising l
rising_front [] m s = tt
rising_front (y ∷ l) m s = (above_front y.key l m s.0, rising_front l m s.1)

pub rising_back : (l : List Row) (k : Row) (r : List Row) → AreRising (l ++ k ∷ r) → AreRising r
rising_back [] k r s = s.1
rising_back (y ∷ l) k r s = rising_back l k r s.1

pub rising_rest : (l : List Row) (k : Row) (r : List Row) → AreRising (l ++ k ∷ r) → AreAbove k.key r
rising_rest [] k r s = s.0
rising_rest (y ∷ l) k r s = rising_rest l k r s.1

-- ---- one more

one_more : (n : ℕ) → 1 + n ≡ suc n
one_more n = omega arith

-- behind a row of a lower key
with_later : (x y : Row) (l : List Row) → nat_lt y.key x.key ≡ true → with_row x (y ∷ l) ≡ y ∷ with_row x l
with_later x y l e = ap (λ b. insert (y ∷ l) (cond b (1 + prefix_len (is_below x.key) l) 0) x) e ∙ ap (λ n. insert (y ∷ l) n x) (one_more (prefix_len (is_below x.key) l))

-- before any other
with_first : (x y : Row) (l : List Row) → nat_lt y.key x.key ≡ false → with_row x (y ∷ l) ≡ x ∷ y ∷ l
with_first x y l e = ap (λ b. insert (y ∷ l) (cond b (1 + prefix_len (is_below x.key) l) 0) x) e

left_cases : (x y : Row) (l r : List Row) (b : Bool) → nat_lt y.key x.key ≡ b → with_row x (l ++ r) ≡ with_row x l ++ r → with_row x (y ∷ (l ++ r)) ≡ with_row x (y ∷ l) ++ r
left_cases x y l r true t e = with_later x y (l ++ r) t ∙ ap (λ z. y ∷ z) e ∙ ap (λ z. z ++ r) (sym (with_later x y l t))
left_cases x y l r false t e = with_first x y (l ++ r) t ∙ ap (λ z. z ++ r) (sym (with_first x y l t))

pub row_left : (x k : Row) (l r : List Row) → nat_lt k.key x.key ≡ false → with_row x (l ++ k ∷ r) ≡ with_row x l ++ k ∷ r
row_left x k [] r e = with_first x k r e
row_left x k (y ∷ l) r e = left_cases x y l (k ∷ r) (nat_lt y.key x.key) refl (row_left x k l r e)

later : (x y : Row) (l : List Row) → y.key < x.key → with_row x (y ∷ l) ≡ y ∷ with_row x l
later x y l p = with_later x y l (lt-ltb y.key x.key p)

pub row_right : (x k : Row) (l r : List Row) → k.key < x.key → AreRising (l ++ k ∷ r) → with_row x (l ++ k ∷ r) ≡ l ++ k ∷ with_row x r
row_right x k [] r p s = later x k r p
row_right x k (y ∷ l) r p s =
    let q : y.key < k.key = above_middle y.key l k r s.0 in
    later x y (l ++ k ∷ r) (omega arith) ∙ ap (λ z. y ∷ z) (row_right x k l r p s.1)

length_cases : (x y : Row) (l : List Row) (b : Bool) → nat_lt y.key x.key ≡ b → length (with_row x l) ≡ suc (length l) → length (with_row x (y ∷ l)) ≡ suc (suc (length l))
length_cases x y l true t e = ap (λ z. length z) (with_later x y l t) ∙ ap suc e
length_cases x y l false t e = ap (λ z. length z) (with_first x y l t)

pub length_with : (x : Row) (xs : List Row) → length (with_row x xs) ≡ suc (length xs)
length_with x [] = refl
length_with x (y ∷ l) = length_cases x y l (nat_lt y.key x.key) refl (length_with x l)

above_cases : (n : ℕ) (x y : Row) (l : List Row) (b : Bool) → nat_lt y.key x.key ≡ b → n < x.key → AreAbove n (y ∷ l) → AreAbove n (with_row x l) → AreAbove n (with_row x (y ∷ l))
above_cases n x y l true t p a e = subst (λ z. AreAbove n z) (sym (with_later x y l t)) (a.0, e)
above_cases n x y l false t p a e = subst (λ z. AreAbove n z) (sym (with_first x y l t)) (p, a)

above_with : (n : ℕ) (x : Row) (xs : List Row) → n < x.key → AreAbove n xs → AreAbove n (with_row x xs)
above_with n x [] p a = (p, tt)
above_with n x (y ∷ l) p a = above_cases n x y l (nat_lt y.key x.key) refl p a (above_with n x l p a.1)

apart : (a b : ℕ) → nat_lt a b ≡ false → (b == a) ≡ false → b < a
apart a b e f = grind (arith, nat_tests)

rising_cases : (x y : Row) (l : List Row) (b c : Bool) → nat_lt y.key x.key ≡ b → (x.key == y.key) ≡ c → (c || list_any (is_at x.key) l) ≡ false → AreRising (y ∷ l) → (list_any (is_at x.key) l ≡ false → AreRising (with_row x l)) → AreRising (with_row x (y ∷ l))
rising_cases x y l b true e f none s next = absurd (let bad : true ≡ false = none in cc)
rising_cases x y l true false e f none s next = subst (λ z. AreRising z) (sym (with_later x y l e)) (above_with y.key x l (ltb-true y.key x.key e) s.0, next none)
rising_cases x y l false false e f none s next =
    let q : x.key < y.key = apart y.key x.key e f in
    subst (λ z. AreRising z) (sym (with_first x y l e)) ((q, above_more x.key y.key l q s.0), s)

pub rising_with : (x : Row) (xs : List Row) → AreRising xs → Lacks x.key xs → AreRising (with_row x xs)
rising_with x [] s none = (tt, tt)
rising_with x (y ∷ l) s none = rising_cases x y l (nat_lt y.key x.key) (x.key == y.key) refl refl none s (rising_with x l s.1)

-- ---- one less

not_among : (key : ℕ) (xs : List Row) → AreAbove key xs → without key xs ≡ xs
not_among key [] a = refl
not_among key (x ∷ xs) a = let p : key < x.key = a.0 in rw (ne_eqb key x.key (omega arith)) (ap (λ z. x ∷ z) (not_among key xs a.1))

other : (key : ℕ) (y : Row) (l : List Row) → y.key < key → without key (y ∷ l) ≡ y ∷ without key l
other key y l p = rw (ne_eqb key y.key (omega arith)) refl

without_cases : (y : Row) (l m n : List Row) (b : Bool) → n ≡ l ++ m → cond b (y ∷ n) n ≡ cond b (y ∷ l) l ++ m
without_cases y l m n true e = ap (λ z. y ∷ z) e
without_cases y l m n false e = e

pub without_left : (key : ℕ) (k : Row) (l r : List Row) → key < k.key → AreRising (l ++ k ∷ r) → without key (l ++ k ∷ r) ≡ without key l ++ k ∷ r
without_left key k [] r p s = not_among key (k ∷ r) (p, above_more key k.key r p s.0)
without_left key k (y ∷ l) r p s = without_cases y (without key l) (k ∷ r) (without key (l ++ k ∷ r)) (not (key == y.key)) (without_left key k l r p s.1)

pub without_right : (key : ℕ) (k : Row) (l r : List Row) → k.key < key → AreRising (l ++ k ∷ r) → without key (l ++ k ∷ r) ≡ l ++ k ∷ without key r
without_right key k [] r p s = other key k r p
without_right key k (y ∷ l) r p s =
    let q : y.key < k.key = above_middle y.key l k r s.0 in
    other key y (l ++ k ∷ r) (omega arith) ∙ ap (λ z. y ∷ z) (without_right key k l r p s.1)

without_own : (k : Row) (l r : List Row) → AreRising (l ++ k ∷ r) → without k.key (l ++ k ∷ r) ≡ l ++ r
without_own k [] r s = rw (eq-eqb k.key k.key refl) (not_among k.key r s.0)
without_own k (y ∷ l) r s =
    let q : y.key < k.key = above_middle y.key l k r s.0 in
    other k.key y (l ++ k ∷ r) q ∙ ap (λ z. y ∷ z) (without_own k l r s.1)

pub without_here : (key : ℕ) (k : Row) (l r : List Row) → k.key ≤ key → key ≤ k.key → AreRising (l ++ k ∷ r) → without key (l ++ k ∷ r) ≡ l ++ r
without_here key k l r p q s = let same : key ≡ k.key = omega (arith, p, q) in rw same (without_own k l r s)

none_cases : (x : Row) (b : Bool) (o : Option Row) (m n : List Row) → cond b (Some x) o ≡ None → (o ≡ None → m ≡ n) → cond (not b) (x ∷ m) m ≡ x ∷ n
none_cases x true o m n e f = absurd (let bad : Some x ≡ None = e in cc)
none_cases x false o m n e f = ap (λ z. x ∷ z) (f e)

pub without_none : (key : ℕ) (xs : List Row) → find (is_at key) xs ≡ None → without key xs ≡ xs
without_none key [] e = refl
without_none key (x ∷ xs) e = none_cases x (key == x.key) (find (is_at key) xs) (without key xs) xs e (without_none key xs)

less_cases : (key : ℕ) (x y : Row) (xs : List Row) (b : Bool) → (key == x.key) ≡ b → AreAbove x.key xs → cond b (Some x) (find (is_at key) xs) ≡ Some y → (find (is_at key) xs ≡ Some y → suc (length (without key xs)) ≡ length xs) → suc (length (cond (not b) (x ∷ without key xs) (without key xs))) ≡ suc (length xs)
less_cases key x y xs true t a e f =
    let same : key ≡ x.key = eqb-same key x.key t in
    ap (λ z. suc (length z)) (rw same (not_among x.key xs a))
  where
    eqb-same : (a b : ℕ) → (a == b) ≡ true → a ≡ b
    eqb-same a b t = grind (arith, nat_tests)
less_cases key x y xs false t a e f = ap suc (f e)

pub length_without : (key : ℕ) (y : Row) (xs : List Row) → AreRising xs → find (is_at key) xs ≡ Some y → suc (length (without key xs)) ≡ length xs
length_without key y [] s e = absurd (let bad : None ≡ Some y = e in cc)
length_without key y (x ∷ xs) s e = less_cases key x y xs (key == x.key) refl s.0 e (length_without key y xs s.1)

above_without : (n key : ℕ) (xs : List Row) → AreAbove n xs → AreAbove n (without key xs)
above_without n key [] a = tt
above_without n key (y ∷ xs) a = elim (not (key == y.key)) as (λ b. AreAbove n (cond b (y ∷ without key xs) (without key xs))) [ true ↦ (a.0, above_without n key xs a.1) | false ↦ above_without n key xs a.1 ]

pub rising_without : (key : ℕ) (xs : List Row) → AreRising xs → AreRising (without key xs)
rising_without key [] s = tt
rising_without key (y ∷ xs) s = elim (not (key == y.key)) as (λ b. AreRising (cond b (y ∷ without key xs) (without key xs))) [ true ↦ (above_without y.key key xs s.0, rising_without key xs s.1) | false ↦ rising_without key xs s.1 ]

-- ---- one told otherwise

told_other : (key : ℕ) (m : Bool) (d : ℕ) (x : Row) → (key == x.key) ≡ false → told key m d x ≡ x
told_other key m d x e = rw e refl

untold : (key : ℕ) (m : Bool) (d : ℕ) (xs : List Row) → AreAbove key xs → changed key m d xs ≡ xs
untold key m d [] a = refl
untold key m d (x ∷ xs) a = let p : key < x.key = a.0 in rw (told_other key m d x (ne_eqb key x.key (omega arith)), untold key m d xs a.1) refl

pub changed_left : (key : ℕ) (m : Bool) (d : ℕ) (k : Row) (l r : List Row) → key < k.key → AreRising (l ++ k ∷ r) → changed key m d (l ++ k ∷ r) ≡ changed key m d l ++ k ∷ r
changed_left key m d k [] r p s = untold key m d (k ∷ r) (p, above_more key k.key r p s.0)
changed_left key m d k (y ∷ l) r p s = ap (λ z. told key m d y ∷ z) (changed_left key m d k l r p s.1)

passed : (key : ℕ) (m : Bool) (d : ℕ) (y : Row) (xs ys : List Row) → y.key < key → changed key m d xs ≡ ys → changed key m d (y ∷ xs) ≡ y ∷ ys
passed key m d y xs ys p e = rw (told_other key m d y (ne_eqb key y.key (omega arith)), e) refl

pub changed_right : (key : ℕ) (m : Bool) (d : ℕ) (k : Row) (l r : List Row) → k.key < key → AreRising (l ++ k ∷ r) → changed key m d (l ++ k ∷ r) ≡ l ++ k ∷ changed key m d r
changed_right key m d k [] r p s = passed key m d k r (changed key m d r) p refl
changed_right key m d k (y ∷ l) r p s =
    let q : y.key < k.key = above_middle y.key l k r s.0 in
    passed key m d y (l ++ k ∷ r) (l ++ k ∷ changed key m d r) (omega arith) (changed_right key m d k l r p s.1)

told_own : (m : Bool) (d : ℕ) (k : Row) → told k.key m d k ≡ record { key = k.key; value = k.value; marked = m; due = d }
told_own m d k = rw (eq-eqb k.key k.key refl) refl

changed_own : (m : Bool) (d : ℕ) (k : Row) (l r : List Row) → AreRising (l ++ k ∷ r) → changed k.key m d (l ++ k ∷ r) ≡ l ++ record { key = k.key; value = k.value; marked = m; due = d } ∷ r
changed_own m d k [] r s = rw (told_own m d k, untold k.key m d r s.0) refl
changed_own m d k (y ∷ l) r s =
    let q : y.key < k.key = above_middle y.key l k r s.0 in
    passed k.key m d y (l ++ k ∷ r) (l ++ record { key = k.key; value = k.value; marked = m; due = d } ∷ r) q (changed_own m d k l r s.1)

pub changed_here : (key : ℕ) (m : Bool) (d : ℕ) (k : Row) (l r : List Row) → k.key ≤ key → key ≤ k.key → AreRising (l ++ k ∷ r) → changed key m d (l ++ k ∷ r) ≡ l ++ record { key = k.key; value = k.value; marked = m; due = d } ∷ r
changed_here key m d k l r p q s = let same : key ≡ k.key = omega (arith, p, q) in rw same (changed_own m d k l r s)

told_key : (key : ℕ) (m : Bool) (d : ℕ) (x : Row) (b : Bool) → (if b then record { key = x.key; value = x.value; marked = m; due = d } else x).key ≡ x.key
told_key key m d x true = refl
told_key key m d x false = refl

above_changed : (n key : ℕ) (m : Bool) (d : ℕ) (xs : List Row) → AreAbove n xs → AreAbove n (changed key m d xs)
above_changed n key m d [] a = tt
above_changed n key m d (x ∷ xs) a = (rw (told_key key m d x (key == x.key)) a.0, above_changed n key m d xs a.1)

pub rising_changed : (key : ℕ) (m : Bool) (d : ℕ) (xs : List Row) → AreRising xs → AreRising (changed key m d xs)
rising_changed key m d [] s = tt
rising_changed key m d (x ∷ xs) s = (rw (told_key key m d x (key == x.key)) (above_changed x.key key m d xs s.0), rising_changed key m d xs s.1)

pub length_changed : (key : ℕ) (m : Bool) (d : ℕ) (xs : List Row) → length (changed key m d xs) ≡ length xs
length_changed key m d [] = refl
length_changed key m d (x ∷ xs) = ap suc (length_changed key m d xs)
