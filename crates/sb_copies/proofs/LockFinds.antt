-- The copies that are held under one lock, from a number on: which row is the first of theirs, and which of them is found.
use Rattle.std.proofs.Common.{◌≡◌, ℕ, ◌+◌, ◌-◌, ◌*◌, ◌<◌, ◌≤◌, List, [], ◌∷◌, map, find, nat_lt, nat_le, ◌==◌, ◌&&◌, Bool, true, false, Option, Some, None, cond, refl, sym, ap, ◌∙◌, subst, arith}
use Rattle.std.specs.List.{filter, list_all}
use Rattle.std.specs.Option.{option_map}
use Rattle.std.proofs.lemmas.Bool.Decides.{nat_tests}
use Rattle.sb_index.specs.Rows.{AreAbove, AreRising, is_from}
use Rattle.sb_index.specs.declared.row.Row.{Row}
use Rattle.sb_machine.specs.Leases.{is_living, is_named}
use Rattle.sb_machine.specs.Leaves.{has_number}
use Rattle.sb_machine.specs.declared.call.Which.{Which}
use Rattle.sb_machine.specs.declared.state.Session.{Session}
use Rattle.sb_machine.specs.declared.state.Standing.{Standing}
use Rattle.sb_machine.specs.declared.state.Standing.TheVariants.{Ready, Deferred, Held, Scheduled}
use Rattle.sb_machine.specs.declared.state.StoredCopy.{StoredCopy}
use Rattle.sb_machine.proofs.Places.{found_passes}
use Rattle.sb_copies.specs.ByLock.{HoldsLocks, held_lock}
use Rattle.sb_copies.specs.Grouped.{is_in_group, is_under, own_row, span}
use Rattle.sb_copies.specs.Shelf.{AreBelow, AreInOrder, is_before, rows_of}
use Rattle.sb_copies.proofs.Finds.{copy_of, find_filter, narrow_found, narrow_none, none_of}
use Rattle.sb_copies.proofs.Grouped.{is_le, is_lt, le_is, lt_is}
use Rattle.sb_copies.proofs.Mirror.{above_found, own_found}
use Rattle.sb_copies.proofs.Order.{both}

-- ---- rows

not_le : (a b : ℕ) → b < a → nat_le a b ≡ false
not_le a b p = grind (arith, nat_tests)

above : (a b : ℕ) → nat_le a b ≡ false → b < a
above a b e = grind (arith, nat_tests)

abbrev unmarked : StoredCopy → Bool
unmarked c = false

-- held under this lock, with a number that is at least `from`
abbrev pub is_held_from : ℕ → ℕ → StoredCopy → Bool
is_held_from lock from c = nat_le from c.number && is_in_group held_lock lock c

-- a row that is at least `from`, of those under this lock
abbrev is_row_from : ℕ → ℕ → Row → Bool
is_row_from lock from x = is_from (lock * span + from) x && is_under lock x

same_from : (lock from n : ℕ) → nat_le (lock * span + from) (lock * span + n) ≡ nat_le from n
same_from lock from n = at (nat_le from n) refl where
  at : (b : Bool) → nat_le from n ≡ b → nat_le (lock * span + from) (lock * span + n) ≡ b
  at true e = le_is (lock * span + from) (lock * span + n) (let q = is_le from n e in omega (arith, q))
  at false e = not_le (lock * span + from) (lock * span + n) (let q = above from n e in omega (arith, q))

from_rows : (lock from : ℕ) (cs : List StoredCopy) → find (is_from (lock * span + from)) (map (own_row unmarked lock) cs) ≡ option_map (own_row unmarked lock) (find (λ c. nat_le from c.number) cs)
from_rows lock from [] = refl
from_rows lock from (c ∷ cs) =
    ap (λ (b : Bool). cond b (Some (own_row unmarked lock c)) (find (is_from (lock * span + from)) (map (own_row unmarked lock) cs))) (same_from lock from c.number)
    ∙ ap (λ (o : Option Row). cond (nat_le from c.number) (Some (own_row unmarked lock c)) o) (from_rows lock from cs)
    ∙ at (nat_le from c.number) where
      at : (b : Bool) → cond b (Some (own_row unmarked lock c)) (option_map (own_row unmarked lock) (find (λ x. nat_le from x.number) cs)) ≡ option_map (own_row unmarked lock) (cond b (Some c) (find (λ x. nat_le from x.number) cs))
      at true = refl
      at false = refl

held_rows : (lock from : ℕ) (rows : List Row) (cs : List StoredCopy) → HoldsLocks rows cs → find (is_row_from lock from) rows ≡ option_map (own_row unmarked lock) (find (is_held_from lock from) cs)
held_rows lock from rows cs holds =
    find_filter (is_from (lock * span + from)) (is_under lock) rows
    ∙ ap (λ (l : List Row). find (is_from (lock * span + from)) l) (holds lock)
    ∙ from_rows lock from (filter (is_in_group held_lock lock) cs)
    ∙ ap (λ (o : Option StoredCopy). option_map (own_row unmarked lock) o) (sym (find_filter (λ c. nat_le from c.number) (is_in_group held_lock lock) cs))

from_own : (lock from : ℕ) (x : Row) → is_row_from lock from x ≡ true → is_from (lock * span + from) x ≡ true
from_own lock from x e = (both (is_from (lock * span + from) x) (is_under lock x) e).0

in_stretch : (lock from : ℕ) (x : Row) → is_from (lock * span + from) x ≡ true → nat_le x.key (lock * span + (span - 1)) ≡ true → is_row_from lock from x ≡ true
in_stretch lock from x e within =
    let least = is_le (lock * span + from) x.key e in
    let most = is_le x.key (lock * span + (span - 1)) within in
    rw (e, le_is (lock * span) x.key (omega (arith, least)), lt_is x.key (lock * span + span) (omega (arith, most))) refl

-- the first row from there on is of this lock: it is that of the first copy
pub held_there : (lock from : ℕ) (row : Row) (rows : List Row) (cs : List StoredCopy) → HoldsLocks rows cs → AreInOrder cs → Some row ≡ find (is_from (lock * span + from)) rows → nat_le row.key (lock * span + (span - 1)) ≡ true → find (has_number row.value) cs ≡ find (is_held_from lock from) cs
held_there lock from row rows cs holds s found within =
    let passes = in_stretch lock from row (found_passes (is_from (lock * span + from)) rows row (sym found)) within in
    let first : find (is_row_from lock from) rows ≡ Some row = narrow_found (is_row_from lock from) (is_from (lock * span + from)) rows row (from_own lock from) (sym found) passes in
    let it = copy_of unmarked lock (find (is_held_from lock from) cs) row (sym (held_rows lock from rows cs holds) ∙ first) in
    ap (λ n. find (has_number n) cs) it.2 ∙ own_found (is_held_from lock from) it.0 cs s it.1 ∙ sym it.1

not_row : (lock from : ℕ) (x : Row) → lock * span + span ≤ x.key → is_row_from lock from x ≡ false
not_row lock from x past = at (is_row_from lock from x) refl where
  at : (b : Bool) → is_row_from lock from x ≡ b → is_row_from lock from x ≡ false
  at true e =
      let under = (both (is_from (lock * span + from) x) (is_under lock x) e).1 in
      let low = is_lt x.key (lock * span + span) (both (is_from (lock * span) x) (nat_lt x.key (lock * span + span)) under).1 in
      absurd (omega (arith, past, low))
  at false e = e

none_behind : (lock from k : ℕ) (rows : List Row) → lock * span + span ≤ k → AreAbove k rows → find (is_row_from lock from) rows ≡ None
none_behind lock from k [] past a = refl
none_behind lock from k (x ∷ xs) past a = let q : k < x.key = a.0 in rw (not_row lock from x (omega (arith, past, q))) (none_behind lock from k xs past a.1)

past_stretch : (lock from : ℕ) (row : Row) (rows : List Row) → AreRising rows → find (is_from (lock * span + from)) rows ≡ Some row → lock * span + span ≤ row.key → find (is_row_from lock from) rows ≡ None
past_stretch lock from row [] s found past = refl
past_stretch lock from row (x ∷ xs) s found past = at (is_from (lock * span + from) x) refl (past_stretch lock from row xs s.1) where
  at : (b : Bool) → is_from (lock * span + from) x ≡ b → (find (is_from (lock * span + from)) xs ≡ Some row → lock * span + span ≤ row.key → find (is_row_from lock from) xs ≡ None) → find (is_row_from lock from) (x ∷ xs) ≡ None
  at true e ih =
      let it : Some x ≡ Some row = rw e at found in
      let same : row ≡ x = cc in
      let far : lock * span + span ≤ x.key = subst (λ (z : Row). lock * span + span ≤ z.key) same past in
      rw (not_row lock from x far) (none_behind lock from x.key xs far s.0)
  at false e ih = let rest : find (is_from (lock * span + from)) xs ≡ Some row = rw e at found in rw e (ih rest past)

behind : (lock key : ℕ) → nat_le key (lock * span + (span - 1)) ≡ false → lock * span + span ≤ key
behind lock key e = let q = above key (lock * span + (span - 1)) e in omega (arith, q)

-- it is behind those of this lock: no copy is held under it from there on
pub held_past : (lock from : ℕ) (row : Row) (rows : List Row) (cs : List StoredCopy) → HoldsLocks rows cs → AreRising rows → Some row ≡ find (is_from (lock * span + from)) rows → nat_le row.key (lock * span + (span - 1)) ≡ false → None ≡ find (is_held_from lock from) cs
held_past lock from row rows cs holds s found past = sym (none_of unmarked lock (find (is_held_from lock from) cs) (sym (held_rows lock from rows cs holds) ∙ past_stretch lock from row rows s (sym found) (behind lock row.key past)))

-- there is none from there on
pub held_nowhere : (lock from : ℕ) (rows : List Row) (cs : List StoredCopy) → HoldsLocks rows cs → None ≡ find (is_from (lock * span + from)) rows → None ≡ find (is_held_from lock from) cs
held_nowhere lock from rows cs holds found = sym (none_of unmarked lock (find (is_held_from lock from) cs) (sym (held_rows lock from rows cs holds) ∙ narrow_none (is_row_from lock from) (is_from (lock * span + from)) rows (from_own lock from) (sym found)))

-- ---- copies

module _ (t : ℕ) (sessions : List Session) (lock : ℕ) (which : Which) where
  -- under the lock, which lives, and named so
  abbrev pub is_leased : StoredCopy → Bool
  is_leased c = is_living t sessions lock c.standing && is_named which c

  -- and with a number that is at least `from`
  abbrev pub is_leased_from : ℕ → StoredCopy → Bool
  is_leased_from from c = nat_le from c.number && is_leased c

  living_held : (s : Standing) (c : StoredCopy) → c.standing ≡ s → is_living t sessions lock s ≡ true → is_in_group held_lock lock c ≡ true
  living_held Ready c is e = absurd (let bad : false ≡ true = e in cc)
  living_held Deferred c is e = absurd (let bad : false ≡ true = e in cc)
  living_held (Held own hold deferred) c is e = rw is (both (own == lock) _ e).0
  living_held (Scheduled at) c is e = absurd (let bad : false ≡ true = e in cc)

  held_so : (c : StoredCopy) → is_leased c ≡ true → is_in_group held_lock lock c ≡ true
  held_so c e = living_held c.standing c refl (both (is_living t sessions lock c.standing) (is_named which c) e).0

  narrower : (from : ℕ) (c : StoredCopy) → is_leased_from from c ≡ true → is_held_from lock from c ≡ true
  narrower from c e = let it = both (nat_le from c.number) (is_leased c) e in rw (it.0, held_so c it.1) refl

  pub leased_there : (from : ℕ) (copy : StoredCopy) (cs : List StoredCopy) → Some copy ≡ find (is_held_from lock from) cs → is_leased copy ≡ true → find (is_leased_from from) cs ≡ Some copy
  leased_there from copy cs found passes =
      let low = (both (nat_le from copy.number) (is_in_group held_lock lock copy) (found_passes (is_held_from lock from) cs copy (sym found))).0 in
      narrow_found (is_leased_from from) (is_held_from lock from) cs copy (narrower from) (sym found) (rw (low, passes) refl)

  pub leased_nowhere : (from : ℕ) (cs : List StoredCopy) → None ≡ find (is_held_from lock from) cs → find (is_leased_from from) cs ≡ None
  leased_nowhere from cs found = narrow_none (is_leased_from from) (is_held_from lock from) cs (narrower from) (sym found)

  past_one : (from n : ℕ) (cs : List StoredCopy) → from ≤ n → AreAbove n (rows_of cs) → find (is_leased_from from) cs ≡ find (is_leased_from (n + 1)) cs
  past_one from n [] le a = refl
  past_one from n (c ∷ cs) le a =
      let q : n < c.number = a.0 in
      rw (le_is from c.number (omega (arith, le, q)), le_is (n + 1) c.number (omega (arith, q))) (ap (λ (o : Option StoredCopy). cond (is_leased c) (Some c) o) (past_one from n cs le a.1))

  both_off : (n : ℕ) (x : StoredCopy) → is_leased x ≡ false → is_leased_from n x ≡ false
  both_off n x off = at_low (nat_le n x.number) where
    at_low : (b : Bool) → (b && is_leased x) ≡ false
    at_low true = off
    at_low false = refl

  before_off : (n : ℕ) (x : StoredCopy) → nat_le n x.number ≡ false → is_leased_from n x ≡ false
  before_off n x off = ap (λ b. b && is_leased x) off

  unleased : (n : ℕ) (x : StoredCopy) → is_held_from lock n x ≡ false → is_leased_from n x ≡ false
  unleased n x off = by_test (is_leased_from n x) refl where
    by_test : (b : Bool) → is_leased_from n x ≡ b → is_leased_from n x ≡ false
    by_test true is = absurd (let bad : false ≡ true = sym off ∙ narrower n x is in cc)
    by_test false is = is

  -- where the first that is held isn't the one, those behind it are still to be looked at
  pub leased_next : (from : ℕ) (copy : StoredCopy) (cs : List StoredCopy) → AreInOrder cs → Some copy ≡ find (is_held_from lock from) cs → is_leased copy ≡ false → find (is_leased_from from) cs ≡ find (is_leased_from (copy.number + 1)) cs
  leased_next from copy [] s found fails = refl
  leased_next from copy (c ∷ cs) s found fails = at (is_held_from lock from c) refl (leased_next from copy cs s.1) where
    at : (b : Bool) → is_held_from lock from c ≡ b → (Some copy ≡ find (is_held_from lock from) cs → is_leased copy ≡ false → find (is_leased_from from) cs ≡ find (is_leased_from (copy.number + 1)) cs) → find (is_leased_from from) (c ∷ cs) ≡ find (is_leased_from (copy.number + 1)) (c ∷ cs)
    at true e ih =
        let it : Some copy ≡ Some c = rw e at found in
        let same : copy ≡ c = cc in
        let off : is_leased c ≡ false = ap is_leased (sym same) ∙ fails in
        let low = is_le from c.number (both (nat_le from c.number) (is_in_group held_lock lock c) e).0 in
        rw (both_off from c off, both_off (copy.number + 1) c off) (past_one from c.number cs low s.0 ∙ ap (λ (n : ℕ). find (is_leased_from (n + 1)) cs) (sym (ap (λ (x : StoredCopy). x.number) same)))
    at false e ih =
        let rest : Some copy ≡ find (is_held_from lock from) cs = rw e at found in
        let later : c.number < copy.number = above_found c.number (is_held_from lock from) copy cs s.0 (sym rest) in
        rw (unleased from c e, before_off (copy.number + 1) c (not_le (copy.number + 1) c.number (omega (arith, later)))) (ih rest fails)

  -- no number is that great
  pub none_from : (n : ℕ) (cs : List StoredCopy) → AreBelow span cs → span ≤ n → find (is_leased_from n) cs ≡ None
  none_from n [] b past = refl
  none_from n (c ∷ cs) b past =
      let it = both (nat_lt c.number span) (list_all (is_before span) cs) b in
      let low = is_lt c.number span it.0 in
      rw (not_le n c.number (omega (arith, low, past))) (none_from n cs it.1 past)

  -- the next look is further on
  pub further_on : (from : ℕ) (copy : StoredCopy) (cs : List StoredCopy) → Some copy ≡ find (is_held_from lock from) cs → from ≤ copy.number
  further_on from copy cs found = is_le from copy.number (both (nat_le from copy.number) (is_in_group held_lock lock copy) (found_passes (is_held_from lock from) cs copy (sym found))).0
