-- Rows that lead to copies in a slab: what they find there, and what a change of the slab makes of them.
use Rattle.std.proofs.Common.{◌≡◌, ◌≢◌, ℕ, suc, ◌+◌, ◌<◌, ◌≤◌, inl, inr, List, [], ◌∷◌, ◌++◌, length, map, find, nat_lt, nat_le, ◌==◌, not, min, Bool, true, false, Option, Some, None, cond, if◌then◌else◌, refl, sym, ap, ◌∙◌, subst, arith}
use Rattle.std.specs.Prelude.{option_and_then, option_map, option_to_list}
use Rattle.std.specs.List.{filter, flat_map, insert, list_all, prefix_len, reduce}
use Rattle.std.proofs.lemmas.Bool.Decides.{nat_tests}
use Rattle.std.proofs.lemmas.Bool.{cases_eq, eq-eqb, ne_eqb}
use Rattle.sb_index.specs.Rows.{AreAbove, AreRising, Lacks, due_values, is_at, is_below, is_due, is_from, is_marked_within, told, with_row, without}
use Rattle.sb_index.specs.Rows as index
use Rattle.sb_index.specs.declared.row.Row.{Row}
use Rattle.sb_machine.specs.Keyed.{changed}
use Rattle.sb_machine.specs.Leaves.{has_number}
use Rattle.sb_machine.specs.declared.state.StoredCopy.{StoredCopy}
use Rattle.sb_copies.specs.Dues.{due_by, due_of}
use Rattle.sb_copies.specs.Shelf.{AreBelow, AreInOrder, is_before, row_in, rows_in, rows_of, unkeyed}
use Rattle.sb_copies.proofs.Order.{both, one_more, same_number}

-- ---- row by row

-- the copies that rows lead to, by what is under each key
abbrev pub led : (ℕ → Option StoredCopy) → List Row → List StoredCopy
led look rows = flat_map (λ r. option_to_list (look r.value)) rows

-- each row leads to the copy beside it, and has its number as key
abbrev pub Pairs : (ℕ → Option StoredCopy) → List Row → List StoredCopy → Type 0
Pairs look [] [] = Unit {0}
Pairs look [] (c ∷ cs) = ⊥
Pairs look (r ∷ rs) [] = ⊥
Pairs look (r ∷ rs) (c ∷ cs) = (look r.value ≡ Some c) × (r.key ≡ c.number) × Pairs look rs cs

keys_long : (rows : List Row) → length (map (λ r. r.key) rows) ≡ length rows
keys_long [] = refl
keys_long (r ∷ rs) = ap suc (keys_long rs)

numbers_long : (cs : List StoredCopy) → length (map (λ c. c.number) cs) ≡ length cs
numbers_long [] = refl
numbers_long (c ∷ cs) = ap suc (numbers_long cs)

led_short : (look : ℕ → Option StoredCopy) (rows : List Row) → length (led look rows) ≤ length rows
led_short look [] = omega arith
led_short look (r ∷ rs) = at (look r.value) (led_short look rs) where
  at : (o : Option StoredCopy) → length (led look rs) ≤ length rs → length (option_to_list o ++ led look rs) ≤ suc (length rs)
  at None le = omega (arith, le)
  at (Some c) le = omega (arith, le)

pub pairs_of : (look : ℕ → Option StoredCopy) (rows : List Row) → map (λ r. r.key) rows ≡ map (λ c. c.number) (led look rows) → Pairs look rows (led look rows)
pairs_of look [] e = tt
pairs_of look (r ∷ rs) e = at (look r.value) refl e (pairs_of look rs) where
  at : (o : Option StoredCopy) → look r.value ≡ o → r.key ∷ map (λ x. x.key) rs ≡ map (λ c. c.number) (option_to_list o ++ led look rs)
      → (map (λ x. x.key) rs ≡ map (λ c. c.number) (led look rs) → Pairs look rs (led look rs)) → Pairs look (r ∷ rs) (option_to_list o ++ led look rs)
  at None is e ih =
      let long : suc (length (map (λ x. x.key) rs)) ≡ length (map (λ c. c.number) (led look rs)) = ap length e in
      absurd (omega (arith, long, keys_long rs, numbers_long (led look rs), led_short look rs))
  at (Some c) is e ih =
      let it : r.key ∷ map (λ x. x.key) rs ≡ c.number ∷ map (λ x. x.number) (led look rs) = e in
      let here : r.key ≡ c.number = cc in
      let there : map (λ x. x.key) rs ≡ map (λ x. x.number) (led look rs) = cc in
      (is, here, ih there)

pub pairs_led : (look : ℕ → Option StoredCopy) (rows : List Row) (cs : List StoredCopy) → Pairs look rows cs → led look rows ≡ cs
pairs_led look [] [] a = refl
pairs_led look [] (c ∷ cs) a = absurd a
pairs_led look (r ∷ rs) [] a = absurd a
pairs_led look (r ∷ rs) (c ∷ cs) a = ap (λ (o : Option StoredCopy). option_to_list o ++ led look rs) a.0 ∙ ap (λ (l : List StoredCopy). c ∷ l) (pairs_led look rs cs a.2)

pub pairs_long : (look : ℕ → Option StoredCopy) (rows : List Row) (cs : List StoredCopy) → Pairs look rows cs → length rows ≡ length cs
pairs_long look [] [] a = refl
pairs_long look [] (c ∷ cs) a = absurd a
pairs_long look (r ∷ rs) [] a = absurd a
pairs_long look (r ∷ rs) (c ∷ cs) a = ap suc (pairs_long look rs cs a.2)

-- ---- their order

pairs_above : (look : ℕ → Option StoredCopy) (n : ℕ) (rows : List Row) (cs : List StoredCopy) → Pairs look rows cs → AreAbove n rows → AreAbove n (rows_of cs)
pairs_above look n [] [] a s = tt
pairs_above look n [] (c ∷ cs) a s = absurd a
pairs_above look n (r ∷ rs) [] a s = absurd a
pairs_above look n (r ∷ rs) (c ∷ cs) a s = (subst (λ k. n < k) a.1 s.0, pairs_above look n rs cs a.2 s.1)

pub pairs_order : (look : ℕ → Option StoredCopy) (rows : List Row) (cs : List StoredCopy) → Pairs look rows cs → AreRising rows → AreInOrder cs
pairs_order look [] [] a s = tt
pairs_order look [] (c ∷ cs) a s = absurd a
pairs_order look (r ∷ rs) [] a s = absurd a
pairs_order look (r ∷ rs) (c ∷ cs) a s = (subst (λ k. AreAbove k (rows_of cs)) a.1 (pairs_above look r.key rs cs a.2 s.0), pairs_order look rs cs a.2 s.1)

turned : (m n : ℕ) (b : Bool) → (m == n) ≡ b → (n == m) ≡ b
turned m n true e = grind (arith, nat_tests)
turned m n false e = grind (arith, nat_tests)

-- a row has the key that its copy has as number, or neither has it
pub key_as : (n : ℕ) (r : Row) (c : StoredCopy) → r.key ≡ c.number → (n == r.key) ≡ (c.number == n)
key_as n r c same = ap (λ k. n == k) same ∙ turned c.number n (c.number == n) refl

apart_number : (m n : ℕ) → nat_lt m n ≡ true → (n == m) ≡ false
apart_number m n e = grind (arith, nat_tests)

pub pairs_lack : (look : ℕ → Option StoredCopy) (n : ℕ) (rows : List Row) (cs : List StoredCopy) → Pairs look rows cs → AreBelow n cs → Lacks n rows
pairs_lack look n [] [] a b = refl
pairs_lack look n [] (c ∷ cs) a b = absurd a
pairs_lack look n (r ∷ rs) [] a b = absurd a
pairs_lack look n (r ∷ rs) (c ∷ cs) a b =
    let it = both (nat_lt c.number n) (list_all (is_before n) cs) b in
    rw (ap (λ k. n == k) a.1 ∙ apart_number c.number n it.0) (pairs_lack look n rs cs a.2 it.1)

-- ---- what they find

-- the copy that the first row leads to which passes is the first that does, where rows and copies of one number pass alike
pub pairs_find : (look : ℕ → Option StoredCopy) (p : Row → Bool) (q : StoredCopy → Bool) → ((r : Row) (c : StoredCopy) → r.key ≡ c.number → p r ≡ q c) → (rows : List Row) (cs : List StoredCopy) → Pairs look rows cs
    → option_and_then (λ r. look r.value) (find p rows) ≡ find q cs
pairs_find look p q same [] [] a = refl
pairs_find look p q same [] (c ∷ cs) a = absurd a
pairs_find look p q same (r ∷ rs) [] a = absurd a
pairs_find look p q same (r ∷ rs) (c ∷ cs) a = ap (λ b. option_and_then (λ x. look x.value) (cond b (Some r) (find p rs))) (same r c a.1) ∙ at (q c) (pairs_find look p q same rs cs a.2) where
  at : (b : Bool) → option_and_then (λ x. look x.value) (find p rs) ≡ find q cs → option_and_then (λ x. look x.value) (cond b (Some r) (find p rs)) ≡ cond b (Some c) (find q cs)
  at true ih = a.0
  at false ih = ih

above_found : (n : ℕ) (p : Row → Bool) (x : Row) (rows : List Row) → AreAbove n rows → find p rows ≡ Some x → n < x.key
above_found n p x [] s found = absurd cc
above_found n p x (y ∷ ys) s found = at (p y) refl (above_found n p x ys s.1) where
  at : (b : Bool) → p y ≡ b → (find p ys ≡ Some x → n < x.key) → n < x.key
  at true e ih = let it : Some y ≡ Some x = rw e at found in let same : y ≡ x = cc in subst (λ (z : Row). n < z.key) same s.0
  at false e ih = ih (rw e at found)

-- a row that is found leads to the copy of its key
pub row_leads : (look : ℕ → Option StoredCopy) (p : Row → Bool) (x : Row) (rows : List Row) (cs : List StoredCopy) → Pairs look rows cs → AreRising rows → find p rows ≡ Some x → look x.value ≡ find (has_number x.key) cs
row_leads look p x [] [] a s found = absurd cc
row_leads look p x [] (c ∷ cs) a s found = absurd a
row_leads look p x (r ∷ rs) [] a s found = absurd a
row_leads look p x (r ∷ rs) (c ∷ cs) a s found = at (p r) refl (row_leads look p x rs cs a.2 s.1) where
  at : (b : Bool) → p r ≡ b → (find p rs ≡ Some x → look x.value ≡ find (has_number x.key) cs) → look x.value ≡ find (has_number x.key) (c ∷ cs)
  at true e ih =
      let it : Some r ≡ Some x = rw e at found in
      let same : r ≡ x = cc in
      let own : (c.number == r.key) ≡ true = eq-eqb c.number r.key (sym a.1) in
      subst (λ (z : Row). look z.value ≡ find (has_number z.key) (c ∷ cs)) same (rw own a.0)
  at false e ih =
      let rest : find p rs ≡ Some x = rw e at found in
      let above : r.key < x.key = above_found r.key p x rs s.0 rest in
      rw (ne_eqb c.number x.key (omega (arith, above, a.1))) (ih rest)

due_first : (e : Bool) (look : ℕ → Option StoredCopy) (m : ℕ) (r : Row) (rs : List Row) (c : StoredCopy) (cs : List StoredCopy) → look r.value ≡ Some c → flat_map (λ k. option_to_list (look k)) (due_values m rs) ≡ due_by e m cs
    → flat_map (λ k. option_to_list (look k)) (map (λ x. x.value) (cond (nat_le (due_of e c) m) (r ∷ filter (is_due m) rs) (filter (is_due m) rs))) ≡ due_by e m (c ∷ cs)
due_first e look m r rs c cs there ih = at (nat_le (due_of e c) m) where
  at : (b : Bool) → flat_map (λ k. option_to_list (look k)) (map (λ x. x.value) (cond b (r ∷ filter (is_due m) rs) (filter (is_due m) rs))) ≡ cond b (c ∷ due_by e m cs) (due_by e m cs)
  at true = ap (λ (o : Option StoredCopy). option_to_list o ++ flat_map (λ k. option_to_list (look k)) (due_values m rs)) there ∙ ap (λ (l : List StoredCopy). c ∷ l) ih
  at false = ih

-- the copies under the keys of the rows that are due
pub due_led : (e : Bool) (look : ℕ → Option StoredCopy) (m : ℕ) (rows : List Row) (cs : List StoredCopy) → Pairs look rows cs → map unkeyed rows ≡ rows_in e cs → flat_map (λ k. option_to_list (look k)) (due_values m rows) ≡ due_by e m cs
due_led e look m [] [] a is = refl
due_led e look m [] (c ∷ cs) a is = absurd a
due_led e look m (r ∷ rs) [] a is = absurd a
due_led e look m (r ∷ rs) (c ∷ cs) a is =
    let it : unkeyed r ∷ map unkeyed rs ≡ row_in e c ∷ rows_in e cs = is in
    let here : unkeyed r ≡ row_in e c = cc in
    let there : map unkeyed rs ≡ rows_in e cs = cc in
    ap (λ d. flat_map (λ k. option_to_list (look k)) (map (λ x. x.value) (cond (nat_le d m) (r ∷ filter (is_due m) rs) (filter (is_due m) rs)))) (ap (λ (x : Row). x.due) here)
    ∙ due_first e look m r rs c cs a.0 (due_led e look m rs cs a.2 there)

-- ---- changes under one key

-- each copy of another number stays under its key
abbrev pub Keeps : ℕ → (ℕ → Option StoredCopy) → (ℕ → Option StoredCopy) → Type 0
Keeps n look new = (v : ℕ) (c : StoredCopy) → look v ≡ Some c → (c.number == n) ≡ false → new v ≡ Some c

-- a change under the key of the copy of a number keeps the others
pub keeps_others : (n v : ℕ) (c : StoredCopy) (look new : ℕ → Option StoredCopy) → look v ≡ Some c → c.number ≡ n → ((o : ℕ) → o ≢ v → new o ≡ look o) → Keeps n look new
keeps_others n v c look new there own others o x is other =
    elim (cases_eq o v) [
      | inl same ↦
          let alike : Some x ≡ Some c = sym is ∙ ap look same ∙ there in
          let one : x ≡ c = cc in
          absurd (let bad : true ≡ false = sym (eq-eqb x.number n (ap (λ (z : StoredCopy). z.number) one ∙ own)) ∙ other in cc)
      | inr differs ↦ others o differs ∙ is
    ]

pairs_kept : (n : ℕ) (look new : ℕ → Option StoredCopy) → Keeps n look new → (rows : List Row) (cs : List StoredCopy) → Pairs look rows cs → AreAbove n rows → Pairs new rows cs
pairs_kept n look new keeps [] [] a s = tt
pairs_kept n look new keeps [] (c ∷ cs) a s = absurd a
pairs_kept n look new keeps (r ∷ rs) [] a s = absurd a
pairs_kept n look new keeps (r ∷ rs) (c ∷ cs) a s =
    let p : n < r.key = s.0 in
    (keeps r.value c a.0 (ne_eqb c.number n (omega (arith, p, a.1))), a.1, pairs_kept n look new keeps rs cs a.2 s.1)

none_without : (n : ℕ) (rows : List Row) → AreAbove n rows → without n rows ≡ rows
none_without n [] s = refl
none_without n (r ∷ rs) s = let p : n < r.key = s.0 in rw (ne_eqb n r.key (omega (arith, p))) (ap (λ (l : List Row). r ∷ l) (none_without n rs s.1))

-- one less
pub pairs_taken : (n : ℕ) (look new : ℕ → Option StoredCopy) → Keeps n look new → (rows : List Row) (cs : List StoredCopy) → Pairs look rows cs → AreRising rows → Pairs new (without n rows) (changed (has_number n) (λ c. []) cs)
pairs_taken n look new keeps [] [] a s = tt
pairs_taken n look new keeps [] (c ∷ cs) a s = absurd a
pairs_taken n look new keeps (r ∷ rs) [] a s = absurd a
pairs_taken n look new keeps (r ∷ rs) (c ∷ cs) a s = at (c.number == n) refl (pairs_taken n look new keeps rs cs a.2 s.1) where
  at : (b : Bool) → (c.number == n) ≡ b → Pairs new (without n rs) (changed (has_number n) (λ x. []) cs) → Pairs new (without n (r ∷ rs)) (changed (has_number n) (λ x. []) (c ∷ cs))
  at true e ih =
      let above : AreAbove n rs = subst (λ k. AreAbove k rs) (a.1 ∙ same_number c.number n e) s.0 in
      rw (key_as n r c a.1, e) (subst (λ (l : List Row). Pairs new l cs) (sym (none_without n rs above)) (pairs_kept n look new keeps rs cs a.2 above))
  at false e ih = rw (key_as n r c a.1, e) (keeps r.value c a.0 e, a.1, ih)

module _ (n : ℕ) (g : StoredCopy → StoredCopy) (same : (c : StoredCopy) → (g c).number ≡ c.number) where
  -- the copy that the row of the number leads to stands otherwise under its key
  abbrev pub Turns : (ℕ → Option StoredCopy) → (ℕ → Option StoredCopy) → List Row → Type 0
  Turns look new rows = (r : Row) (c : StoredCopy) → find (is_at n) rows ≡ Some r → look r.value ≡ Some c → new r.value ≡ Some (g c)

  -- one that stands otherwise
  pub pairs_changed : (look new : ℕ → Option StoredCopy) → Keeps n look new → (rows : List Row) (cs : List StoredCopy) → Turns look new rows → Pairs look rows cs → AreRising rows → Pairs new rows (changed (has_number n) (λ c. g c ∷ []) cs)
  pairs_changed look new keeps [] [] turns a s = tt
  pairs_changed look new keeps [] (c ∷ cs) turns a s = absurd a
  pairs_changed look new keeps (r ∷ rs) [] turns a s = absurd a
  pairs_changed look new keeps (r ∷ rs) (c ∷ cs) turns a s = at (c.number == n) refl (λ t. pairs_changed look new keeps rs cs t a.2 s.1) where
    at : (b : Bool) → (c.number == n) ≡ b → (Turns look new rs → Pairs new rs (changed (has_number n) (λ x. g x ∷ []) cs)) → Pairs new (r ∷ rs) (changed (has_number n) (λ x. g x ∷ []) (c ∷ cs))
    at true e ih =
        let above : AreAbove n rs = subst (λ k. AreAbove k rs) (a.1 ∙ same_number c.number n e) s.0 in
        let here : find (is_at n) (r ∷ rs) ≡ Some r = rw (key_as n r c a.1, e) refl in
        rw e (turns r c here a.0, a.1 ∙ sym (same c), pairs_kept n look new keeps rs cs a.2 above)
    at false e ih =
        rw e (keeps r.value c a.0 e, a.1, ih (λ x y found there. turns x y (rw (key_as n r c a.1, e) found) there))

-- ---- one more, under a key that had none

pub pairs_with : (v : ℕ) (look new : ℕ → Option StoredCopy) → look v ≡ None → ((o : ℕ) → o ≢ v → new o ≡ look o) → (rows : List Row) (cs : List StoredCopy) → Pairs look rows cs → Pairs new rows cs
pairs_with v look new none others [] [] a = tt
pairs_with v look new none others [] (c ∷ cs) a = absurd a
pairs_with v look new none others (r ∷ rs) [] a = absurd a
pairs_with v look new none others (r ∷ rs) (c ∷ cs) a = (
  elim (cases_eq r.value v) [
    | inl same ↦ absurd (let bad : Some c ≡ None = sym a.0 ∙ ap look same ∙ none in cc)
    | inr differs ↦ others r.value differs ∙ a.0
  ],
  a.1,
  pairs_with v look new none others rs cs a.2,
)

pub pairs_last : (look : ℕ → Option StoredCopy) (x : Row) (c : StoredCopy) → look x.value ≡ Some c → x.key ≡ c.number → (rows : List Row) (cs : List StoredCopy) → Pairs look rows cs → Pairs look (rows ++ x ∷ []) (cs ++ c ∷ [])
pairs_last look x c there own [] [] a = (there, own, tt)
pairs_last look x c there own [] (y ∷ ys) a = absurd a
pairs_last look x c there own (r ∷ rs) [] a = absurd a
pairs_last look x c there own (r ∷ rs) (y ∷ ys) a = (a.0, a.1, pairs_last look x c there own rs ys a.2)

-- a row whose key is above all numbers goes behind all
pub with_last : (look : ℕ → Option StoredCopy) (x : Row) (rows : List Row) (cs : List StoredCopy) → Pairs look rows cs → AreBelow x.key cs → with_row x rows ≡ rows ++ x ∷ []
with_last look x [] [] a b = refl
with_last look x [] (c ∷ cs) a b = absurd a
with_last look x (r ∷ rs) [] a b = absurd a
with_last look x (r ∷ rs) (c ∷ cs) a b =
    let it = both (nat_lt c.number x.key) (list_all (is_before x.key) cs) b in
    ap (λ t. insert (r ∷ rs) (cond t (1 + prefix_len (is_below x.key) rs) 0) x) (ap (λ k. nat_lt k x.key) a.1 ∙ it.0)
    ∙ ap (λ k. insert (r ∷ rs) k x) (one_more (prefix_len (is_below x.key) rs))
    ∙ ap (λ (l : List Row). r ∷ l) (with_last look x rs cs a.2 it.1)

-- ---- rows as they stand where values are numbers

pub rising_so : (rows : List Row) → AreRising rows → AreRising (map unkeyed rows)
rising_so [] s = tt
rising_so (r ∷ rs) s = (above_so r.key rs s.0, rising_so rs s.1) where
  above_so : (n : ℕ) (rows : List Row) → AreAbove n rows → AreAbove n (map unkeyed rows)
  above_so n [] a = tt
  above_so n (x ∷ xs) a = (a.0, above_so n xs a.1)

pub find_so : (p : Row → Bool) → ((x : Row) → p (unkeyed x) ≡ p x) → (rows : List Row) → find p (map unkeyed rows) ≡ option_map unkeyed (find p rows)
find_so p same [] = refl
find_so p same (r ∷ rs) = ap (λ b. cond b (Some (unkeyed r)) (find p (map unkeyed rs))) (same r) ∙ at (p r) (find_so p same rs) where
  at : (b : Bool) → find p (map unkeyed rs) ≡ option_map unkeyed (find p rs) → cond b (Some (unkeyed r)) (find p (map unkeyed rs)) ≡ option_map unkeyed (cond b (Some r) (find p rs))
  at true ih = refl
  at false ih = ih

pub without_so : (n : ℕ) (rows : List Row) → map unkeyed (without n rows) ≡ without n (map unkeyed rows)
without_so n [] = refl
without_so n (r ∷ rs) = at (n == r.key) (without_so n rs) where
  at : (b : Bool) → map unkeyed (without n rs) ≡ without n (map unkeyed rs) → map unkeyed (cond (not b) (r ∷ without n rs) (without n rs)) ≡ cond (not b) (unkeyed r ∷ without n (map unkeyed rs)) (without n (map unkeyed rs))
  at true ih = ih
  at false ih = ap (λ (l : List Row). unkeyed r ∷ l) ih

told_so : (n : ℕ) (m : Bool) (d : ℕ) (x : Row) → unkeyed (told n m d x) ≡ told n m d (unkeyed x)
told_so n m d x = at (n == x.key) where
  at : (b : Bool) → unkeyed (if b then record { key = x.key; value = x.value; marked = m; due = d } else x) ≡ (if b then record { key = x.key; value = x.key; marked = m; due = d } else unkeyed x)
  at true = refl
  at false = refl

pub changed_so : (n : ℕ) (m : Bool) (d : ℕ) (rows : List Row) → map unkeyed (index.changed n m d rows) ≡ index.changed n m d (map unkeyed rows)
changed_so n m d [] = refl
changed_so n m d (r ∷ rs) = ap (λ (x : Row). x ∷ map unkeyed (index.changed n m d rs)) (told_so n m d r) ∙ ap (λ (l : List Row). told n m d (unkeyed r) ∷ l) (changed_so n m d rs)

-- what rows tell of copies changes nothing of where they lead
pub changed_leads : (n : ℕ) (m : Bool) (d : ℕ) (look : ℕ → Option StoredCopy) (rows : List Row) → led look (index.changed n m d rows) ≡ led look rows
changed_leads n m d look [] = refl
changed_leads n m d look (r ∷ rs) = ap (λ v. option_to_list (look v) ++ led look (index.changed n m d rs)) (at (n == r.key)) ∙ ap (λ (l : List StoredCopy). option_to_list (look r.value) ++ l) (changed_leads n m d look rs) where
  at : (b : Bool) → (if b then record { key = r.key; value = r.value; marked = m; due = d } else r).value ≡ r.value
  at true = refl
  at false = refl

dues_so : (rows : List Row) → map (λ x. x.due) (map unkeyed rows) ≡ map (λ x. x.due) rows
dues_so [] = refl
dues_so (r ∷ rs) = ap (λ (l : List ℕ). r.due ∷ l) (dues_so rs)

pub least_so : (rows : List Row) → index.least_due (map unkeyed rows) ≡ index.least_due rows
least_so rows = ap (λ (l : List ℕ). reduce min l) (dues_so rows)
