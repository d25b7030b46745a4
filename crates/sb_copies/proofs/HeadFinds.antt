-- Copies that are told to be heads: their numbers are those at which rows are due, and they are found by these.
use Rattle.std.proofs.Common.{◌≡◌, ℕ, ◌<◌, ◌≤◌, List, [], ◌∷◌, ◌++◌, find, nat_le, ◌==◌, ◌&&◌, ◌||◌, Bool, true, false, Option, None, cond, refl, sym, ap, ◌∙◌, arith}
use Rattle.std.specs.List.{filter, list_all}
use Rattle.std.specs.Prelude.{option_to_list}
use Rattle.std.proofs.lemmas.Bool.Decides.{nat_tests}
use Rattle.std.proofs.lemmas.Bool.{ne_eqb}
use Rattle.sb_index.specs.Rows.{AreAbove, due_values}
use Rattle.sb_index.specs.declared.row.Row.{Row}
use Rattle.sb_machine.specs.Leaves.{has_number}
use Rattle.sb_machine.specs.declared.state.StoredCopy.{StoredCopy}
use Rattle.sb_copies.specs.Dues.{never}
use Rattle.sb_copies.specs.Heads.{AreOwn, heads_in, is_among, is_head, is_own, is_usual}
use Rattle.sb_copies.specs.Numbers.{HasSame, Rise, number_rows}
use Rattle.sb_copies.specs.Shelf.{AreInOrder, numbered_at, numbered_in, rows_of}
use Rattle.sb_copies.proofs.InOrder.{above_lacks}
use Rattle.sb_copies.proofs.Order.{same_number}

-- ---- numbers at which rows are due

-- the last moment but the greatest
abbrev pub last : ℕ
last = 18446744073709551614

due_usual : (d : ℕ) → nat_le d last ≡ is_usual d
due_usual d = grind (arith, nat_tests)

own_value : (d v : ℕ) → ((d == never) || (d == v)) ≡ true → is_usual d ≡ true → v ≡ d
own_value d v own usual = grind (arith, nat_tests)

both : (a b : Bool) → (a && b) ≡ true → (a ≡ true) × (b ≡ true)
both true b e = (refl, e)
both false b e = absurd (let bad : false ≡ true = e in cc)

pub values_told : (rows : List Row) → AreOwn rows → due_values last rows ≡ heads_in rows
values_told [] own = refl
values_told (x ∷ xs) own =
    let it = both (is_own x) (list_all is_own xs) own in
    at (is_usual x.due) refl it.0 (values_told xs it.1) where
      at : (b : Bool) → is_usual x.due ≡ b → is_own x ≡ true → due_values last xs ≡ heads_in xs → due_values last (x ∷ xs) ≡ heads_in (x ∷ xs)
      at true e own ih = rw (due_usual x.due, e) (ap (λ n. n ∷ due_values last xs) (own_value x.due x.value own e) ∙ ap (λ (l : List ℕ). x.due ∷ l) ih)
      at false e own ih = rw (due_usual x.due, e) ih

-- ---- copies of numbers in order

-- those above a number lack it
none_at : (n m : ℕ) (cs : List StoredCopy) → n ≤ m → AreAbove m (rows_of cs) → find (has_number n) cs ≡ None
none_at n m [] le a = refl
none_at n m (c ∷ cs) le a = let p : m < c.number = a.0 in rw (ne_eqb c.number n (omega (arith, le, p))) (none_at n m cs le a.1)

-- and are passed by it
passed_by : (n m : ℕ) (ns : List ℕ) (cs : List StoredCopy) → n ≤ m → AreAbove m (rows_of cs) → filter (is_head (n ∷ ns)) cs ≡ filter (is_head ns) cs
passed_by n m ns [] le a = refl
passed_by n m ns (c ∷ cs) le a =
    let p : m < c.number = a.0 in
    rw (ne_eqb n c.number (omega (arith, le, p))) (ap (λ (l : List StoredCopy). cond (is_head ns c) (c ∷ l) l) (passed_by n m ns cs le a.1))

-- a number that is among these is above what is below them
above_that : (n m : ℕ) (ns : List ℕ) → AreAbove n (number_rows ns) → is_among m ns ≡ true → n < m
above_that n m ns a there = at (nat_le m n) refl where
  at : (b : Bool) → nat_le m n ≡ b → n < m
  at true e = let le : m ≤ n = grind (arith, nat_tests) in absurd (let bad : true ≡ false = sym there ∙ above_lacks m n ns le a in cc)
  at false e = grind (arith, nat_tests)

one_first : (n : ℕ) (ns : List ℕ) (cs : List StoredCopy) → AreAbove n (number_rows ns) → AreInOrder cs → numbered_at cs n ++ filter (is_head ns) cs ≡ filter (is_head (n ∷ ns)) cs
one_first n ns [] a s = refl
one_first n ns (c ∷ cs) a s = at (c.number == n) refl (one_first n ns cs a s.1) where
  turned : (b : Bool) → (c.number == n) ≡ b → (n == c.number) ≡ b
  turned true e = grind (arith, nat_tests)
  turned false e = grind (arith, nat_tests)

  beside : (b : Bool) → is_head ns c ≡ b → (c.number == n) ≡ false → numbered_at cs n ++ filter (is_head ns) cs ≡ filter (is_head (n ∷ ns)) cs → numbered_at (c ∷ cs) n ++ filter (is_head ns) (c ∷ cs) ≡ filter (is_head (n ∷ ns)) (c ∷ cs)
  beside true is e ih =
      let above : n < c.number = above_that n c.number ns a is in
      let none : find (has_number n) cs ≡ None = none_at n c.number cs (omega (arith, above)) s.0 in
      rw (e, is, turned false e, none) (ap (λ (l : List StoredCopy). c ∷ l) (ap (λ (o : Option StoredCopy). option_to_list o ++ filter (is_head ns) cs) (sym none) ∙ ih))
  beside false is e ih = rw (e, is, turned false e) ih

  at : (b : Bool) → (c.number == n) ≡ b → numbered_at cs n ++ filter (is_head ns) cs ≡ filter (is_head (n ∷ ns)) cs → numbered_at (c ∷ cs) n ++ filter (is_head ns) (c ∷ cs) ≡ filter (is_head (n ∷ ns)) (c ∷ cs)
  at true e ih =
      let same : c.number ≡ n = same_number c.number n e in
      let lacks : is_head ns c ≡ false = above_lacks c.number n ns (omega (arith, same)) a in
      rw (e, lacks, turned true e) (ap (λ (l : List StoredCopy). c ∷ l) (sym (passed_by n c.number ns cs (omega (arith, same)) s.0)))
  at false e ih = beside (is_head ns c) refl e ih

none_head : (cs : List StoredCopy) → filter (is_head []) cs ≡ []
none_head [] = refl
none_head (c ∷ cs) = none_head cs

numbered_heads : (ns : List ℕ) (cs : List StoredCopy) → Rise ns → AreInOrder cs → numbered_in cs ns ≡ filter (is_head ns) cs
numbered_heads [] cs r s = sym (none_head cs)
numbered_heads (n ∷ ns) cs r s = ap (λ (l : List StoredCopy). numbered_at cs n ++ l) (numbered_heads ns cs r.1 s) ∙ one_first n ns cs r.0 s

same_heads : (ns hs : List ℕ) (cs : List StoredCopy) → HasSame ns hs → filter (is_head ns) cs ≡ filter (is_head hs) cs
same_heads ns hs [] same = refl
same_heads ns hs (c ∷ cs) same = rw (same c.number) (ap (λ (l : List StoredCopy). cond (is_among c.number hs) (c ∷ l) l) (same_heads ns hs cs same))

-- those whose numbers are told
pub heads_found : (ns hs : List ℕ) (cs : List StoredCopy) → Rise ns → HasSame ns hs → AreInOrder cs → numbered_in cs ns ≡ filter (is_head hs) cs
heads_found ns hs cs r same s = numbered_heads ns cs r s ∙ same_heads ns hs cs same
