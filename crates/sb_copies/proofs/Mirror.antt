-- An index by number that has the rows of copies: what a change of these makes of it, and what it finds.
use Rattle.std.proofs.Common.{◌≡◌, ℕ, ◌<◌, List, [], ◌∷◌, find, nat_lt, nat_le, ◌==◌, ◌&&◌, Bool, true, false, Option, Some, None, cond, refl, sym, ap, ◌∙◌, subst, arith}
use Rattle.std.specs.List.{list_all}
use Rattle.std.specs.Option.{option_map, option_map_or}
use Rattle.std.proofs.lemmas.Bool.Decides.{nat_tests}
use Rattle.std.proofs.lemmas.Bool.{ne_eqb}
use Rattle.sb_index.specs.Rows.{AreAbove, AreRising, Lacks, is_below, is_marked_within, told, with_row, without}
use Rattle.sb_index.specs.Rows as index
use Rattle.sb_index.specs.declared.row.Row.{Row}
use Rattle.sb_machine.specs.Keyed.{changed}
use Rattle.sb_machine.specs.Leases.{is_ready}
use Rattle.sb_machine.specs.Leaves.{has_number, prolonged_standing}
use Rattle.sb_machine.specs.Receiving.{is_ready_for}
use Rattle.sb_machine.specs.declared.state.Standing.{Standing}
use Rattle.sb_machine.specs.declared.state.Standing.TheVariants.{Ready, Deferred, Held, Scheduled}
use Rattle.sb_machine.specs.declared.state.StoredCopy.{StoredCopy}
use Rattle.sb_copies.specs.Dues.{due_at, due_renewed, due_when, never}
use Rattle.sb_copies.specs.Shelf.{AreBelow, AreInOrder, is_before, row_in, rows_in, rows_of}
use Rattle.sb_copies.proofs.Order.{both, same_number}

-- ---- keys alone

above_as : (e f : Bool) (n : ℕ) (cs : List StoredCopy) → AreAbove n (rows_in e cs) → AreAbove n (rows_in f cs)
above_as e f n [] a = tt
above_as e f n (c ∷ cs) a = (a.0, above_as e f n cs a.1)

rising_as : (e f : Bool) (cs : List StoredCopy) → AreRising (rows_in e cs) → AreRising (rows_in f cs)
rising_as e f [] s = tt
rising_as e f (c ∷ cs) s = (above_as e f c.number cs s.0, rising_as e f cs s.1)

pub in_order : (e : Bool) (rows : List Row) (cs : List StoredCopy) → rows ≡ rows_in e cs → AreRising rows → AreInOrder cs
in_order e rows cs is s = rising_as e false cs (subst (λ (l : List Row). AreRising l) is s)

-- ---- one less

turned : (m n : ℕ) (b : Bool) → (m == n) ≡ b → (n == m) ≡ b
turned m n true e = grind (arith, nat_tests)
turned m n false e = grind (arith, nat_tests)

none_without : (e : Bool) (n : ℕ) (cs : List StoredCopy) → AreAbove n (rows_in e cs) → without n (rows_in e cs) ≡ rows_in e cs
none_without e n [] a = refl
none_without e n (c ∷ cs) a = let p : n < c.number = a.0 in rw (ne_eqb n c.number (omega arith)) (ap (λ (l : List Row). row_in e c ∷ l) (none_without e n cs a.1))

without_one : (e : Bool) (n : ℕ) (cs : List StoredCopy) → AreInOrder cs → without n (rows_in e cs) ≡ rows_in e (changed (has_number n) (λ c. []) cs)
without_one e n [] s = refl
without_one e n (c ∷ cs) s = at (c.number == n) refl (without_one e n cs s.1) where
  at : (b : Bool) → (c.number == n) ≡ b → without n (rows_in e cs) ≡ rows_in e (changed (has_number n) (λ x. []) cs) → without n (rows_in e (c ∷ cs)) ≡ rows_in e (changed (has_number n) (λ x. []) (c ∷ cs))
  at true is ih = rw (is, turned c.number n true is) (none_without e n cs (above_as false e n cs (subst (λ k. AreAbove k (rows_of cs)) (same_number c.number n is) s.0)))
  at false is ih = rw (is, turned c.number n false is) (ap (λ (l : List Row). row_in e c ∷ l) ih)

pub row_taken : (e : Bool) (n : ℕ) (rows new : List Row) (cs after : List StoredCopy) → rows ≡ rows_in e cs → AreInOrder cs → new ≡ without n rows → after ≡ changed (has_number n) (λ c. []) cs → new ≡ rows_in e after
row_taken e n rows new cs after is s removed taken = removed ∙ ap (λ (l : List Row). without n l) is ∙ without_one e n cs s ∙ ap (λ (l : List StoredCopy). rows_in e l) (sym taken)

-- ---- one that stands otherwise

untold : (e : Bool) (n : ℕ) (m : Bool) (d : ℕ) (cs : List StoredCopy) → AreAbove n (rows_in e cs) → index.changed n m d (rows_in e cs) ≡ rows_in e cs
untold e n m d [] a = refl
untold e n m d (c ∷ cs) a = let p : n < c.number = a.0 in rw (ne_eqb n c.number (omega arith)) (ap (λ (l : List Row). row_in e c ∷ l) (untold e n m d cs a.1))

module _ (e : Bool) (n : ℕ) (m : Bool) (d : ℕ) (g : StoredCopy → StoredCopy) where
  -- what is told of the one that is there is what it then is
  abbrev pub IsToldOf : List StoredCopy → Type 0
  IsToldOf cs = (c : StoredCopy) → find (has_number n) cs ≡ Some c → record { key = c.number; value = c.number; marked = m; due = d } ≡ row_in e (g c)

  told_one : (cs : List StoredCopy) → IsToldOf cs → AreInOrder cs → index.changed n m d (rows_in e cs) ≡ rows_in e (changed (has_number n) (λ c. g c ∷ []) cs)
  told_one [] so s = refl
  told_one (c ∷ cs) so s = at (c.number == n) refl (told_one cs) where
    at : (b : Bool) → (c.number == n) ≡ b → (IsToldOf cs → AreInOrder cs → index.changed n m d (rows_in e cs) ≡ rows_in e (changed (has_number n) (λ x. g x ∷ []) cs)) → index.changed n m d (rows_in e (c ∷ cs)) ≡ rows_in e (changed (has_number n) (λ x. g x ∷ []) (c ∷ cs))
    at true is ih =
        let rest : index.changed n m d (rows_in e cs) ≡ rows_in e cs = untold e n m d cs (above_as false e n cs (subst (λ k. AreAbove k (rows_of cs)) (same_number c.number n is) s.0)) in
        let own : record { key = c.number; value = c.number; marked = m; due = d } ≡ row_in e (g c) = so c (rw is refl) in
        rw (is, turned c.number n true is) (ap (λ (x : Row). x ∷ index.changed n m d (rows_in e cs)) own ∙ ap (λ (l : List Row). row_in e (g c) ∷ l) rest)
    at false is ih = rw (is, turned c.number n false is) (ap (λ (l : List Row). row_in e c ∷ l) (ih (λ x found. so x (rw is found)) s.1))

  pub row_told : (rows new : List Row) (cs after : List StoredCopy) → IsToldOf cs → rows ≡ rows_in e cs → AreInOrder cs → new ≡ index.changed n m d rows → after ≡ changed (has_number n) (λ c. g c ∷ []) cs → new ≡ rows_in e after
  row_told rows new cs after so is s told_there stands = told_there ∙ ap (λ (l : List Row). index.changed n m d l) is ∙ told_one cs so s ∙ ap (λ (l : List StoredCopy). rows_in e l) (sym stands)

-- ---- the first that is marked

marked_so : (n m : ℕ) (b : Bool) → nat_lt n m ≡ true → (b && (nat_le 0 n && nat_lt n m)) ≡ (b && true)
marked_so n m true e = from_zero n m e where
  from_zero : (n m : ℕ) → nat_lt n m ≡ true → (nat_le 0 n && nat_lt n m) ≡ true
  from_zero n m e = grind (arith, nat_tests)
marked_so n m false e = refl

mapped : (e b : Bool) (c : StoredCopy) (o : Option StoredCopy) → cond b (Some (row_in e c)) (option_map (row_in e) o) ≡ option_map (row_in e) (cond b (Some c) o)
mapped e true c o = refl
mapped e false c o = refl

first_marked : (e : Bool) (m : ℕ) (cs : List StoredCopy) → AreBelow m cs → find (is_marked_within 0 m) (rows_in e cs) ≡ option_map (row_in e) (find (is_ready_for None) cs)
first_marked e m [] b = refl
first_marked e m (c ∷ cs) b =
    let it = both (nat_lt c.number m) (list_all (is_before m) cs) b in
    ap (λ t. cond t (Some (row_in e c)) (find (is_marked_within 0 m) (rows_in e cs))) (marked_so c.number m (is_ready c.standing) it.0)
    ∙ ap (λ (o : Option Row). cond (is_ready c.standing && true) (Some (row_in e c)) o) (first_marked e m cs it.1)
    ∙ mapped e (is_ready c.standing && true) c (find (is_ready_for None) cs)

pub above_found : (n : ℕ) (p : StoredCopy → Bool) (c : StoredCopy) (cs : List StoredCopy) → AreAbove n (rows_of cs) → find p cs ≡ Some c → n < c.number
above_found n p c [] a found = absurd cc
above_found n p c (y ∷ ys) a found = at (p y) refl (above_found n p c ys a.1) where
  at : (b : Bool) → p y ≡ b → (find p ys ≡ Some c → n < c.number) → n < c.number
  at true e ih = let it : Some y ≡ Some c = rw e at found in let same : y ≡ c = cc in subst (λ (z : StoredCopy). n < z.number) same a.0
  at false e ih = ih (rw e at found)

-- what is found is found by its number
pub own_found : (p : StoredCopy → Bool) (c : StoredCopy) (cs : List StoredCopy) → AreInOrder cs → find p cs ≡ Some c → find (has_number c.number) cs ≡ Some c
own_found p c [] s found = absurd cc
own_found p c (y ∷ ys) s found = at (p y) refl (own_found p c ys s.1) where
  itself : (n : ℕ) → (n == n) ≡ true
  itself n = grind (arith, nat_tests)

  at : (b : Bool) → p y ≡ b → (find p ys ≡ Some c → find (has_number c.number) ys ≡ Some c) → find (has_number c.number) (y ∷ ys) ≡ Some c
  at true e ih = let it : Some y ≡ Some c = rw e at found in let same : y ≡ c = cc in rw (ap (λ z. z.number == c.number) same ∙ itself c.number) it
  at false e ih =
      let rest : find p ys ≡ Some c = rw e at found in
      let above : y.number < c.number = above_found y.number p c ys s.0 rest in
      rw (ne_eqb y.number c.number (omega (arith, above))) (ih rest)

key_of : (e : Bool) (o : Option StoredCopy) (row : Row) → option_map (row_in e) o ≡ Some row → (c : StoredCopy) × (o ≡ Some c) × (row.key ≡ c.number)
key_of e None row is = absurd cc
key_of e (Some c) row is = let it : row_in e c ≡ row = cc in (c, refl, ap (λ (x : Row). x.key) (sym it))

pub marked_found : (e : Bool) (m : ℕ) (row : Row) (rows : List Row) (cs : List StoredCopy) → rows ≡ rows_in e cs → AreRising rows → AreBelow m cs → Some row ≡ find (is_marked_within 0 m) rows → find (has_number row.key) cs ≡ find (is_ready_for None) cs
marked_found e m row rows cs is s b found =
    let it = key_of e (find (is_ready_for None) cs) row (sym (found ∙ ap (λ (l : List Row). find (is_marked_within 0 m) l) is ∙ first_marked e m cs b)) in
    ap (λ k. find (has_number k) cs) it.2 ∙ own_found (is_ready_for None) it.0 cs (in_order e rows cs is s) it.1 ∙ sym it.1

none_of : (e : Bool) (o : Option StoredCopy) → option_map (row_in e) o ≡ None → o ≡ None
none_of e None is = refl
none_of e (Some c) is = absurd cc

pub marked_none : (e : Bool) (m : ℕ) (rows : List Row) (cs : List StoredCopy) → rows ≡ rows_in e cs → AreBelow m cs → None ≡ find (is_marked_within 0 m) rows → None ≡ find (is_ready_for None) cs
marked_none e m rows cs is b found = sym (none_of e (find (is_ready_for None) cs) (sym (found ∙ ap (λ (l : List Row). find (is_marked_within 0 m) l) is ∙ first_marked e m cs b)))

-- ---- what is told of one

told_of : (e : Bool) (n : ℕ) (standing : Standing) (cs : List StoredCopy) (c : StoredCopy) → find (has_number n) cs ≡ Some c → due_at e n standing cs ≡ due_when e c standing
told_of e n standing cs c found = ap (λ (o : Option StoredCopy). option_map_or (λ x. due_when e x standing) o never) found

-- of one that stands otherwise
pub stood : (e : Bool) (n : ℕ) (m : Bool) (d count : ℕ) (standing : Standing) (cs : List StoredCopy) → m ≡ is_ready standing → d ≡ due_at e n standing cs → IsToldOf e n m d (λ c. record c { count = count; standing = standing }) cs
stood e n m d count standing cs marked due c found =
    ap (λ (b : Bool). record { key = c.number; value = c.number; marked = b; due = d }) marked
    ∙ ap (λ (k : ℕ). record { key = c.number; value = c.number; marked = is_ready standing; due = k }) (due ∙ told_of e n standing cs c found)

-- ---- a lock that lives longer

pub still_marked : (until : ℕ) (s : Standing) → is_ready (prolonged_standing until s) ≡ is_ready s
still_marked until Ready = refl
still_marked until Deferred = refl
still_marked until (Held lock hold deferred) = refl
still_marked until (Scheduled at) = refl

ready_of : (n : ℕ) (cs : List StoredCopy) (c : StoredCopy) → find (has_number n) cs ≡ Some c → option_map_or (λ x. is_ready x.standing) (find (has_number n) cs) false ≡ is_ready c.standing
ready_of n cs c found = ap (λ (o : Option StoredCopy). option_map_or (λ x. is_ready x.standing) o false) found

due_of_renewed : (e : Bool) (n until : ℕ) (cs : List StoredCopy) (c : StoredCopy) → find (has_number n) cs ≡ Some c → due_renewed e n until cs ≡ due_when e c (prolonged_standing until c.standing)
due_of_renewed e n until cs c found = ap (λ (o : Option StoredCopy). option_map_or (λ x. due_when e x (prolonged_standing until x.standing)) o never) found

pub renewed : (e : Bool) (n : ℕ) (m : Bool) (d until : ℕ) (cs : List StoredCopy) → m ≡ option_map_or (λ c. is_ready c.standing) (find (has_number n) cs) false → d ≡ due_renewed e n until cs → IsToldOf e n m d (λ c. record c { standing = prolonged_standing until c.standing }) cs
renewed e n m d until cs marked due c found =
    ap (λ (b : Bool). record { key = c.number; value = c.number; marked = b; due = d }) (marked ∙ ready_of n cs c found ∙ sym (still_marked until c.standing))
    ∙ ap (λ (k : ℕ). record { key = c.number; value = c.number; marked = is_ready (prolonged_standing until c.standing); due = k }) (due ∙ due_of_renewed e n until cs c found)
