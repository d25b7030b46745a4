-- The rows of one group, from a key on.
use Rattle.std.proofs.Common.{◌≡◌, ℕ, ◌+◌, ◌-◌, ◌*◌, ◌<◌, ◌≤◌, List, [], ◌∷◌, ◌++◌, map, find, nat_lt, nat_le, ◌&&◌, Bool, true, false, Some, None, cond, refl, sym, ap, ◌∙◌, subst, arith, append_assoc}
use Rattle.std.specs.List.{filter}
use Rattle.std.proofs.lemmas.Bool.Decides.{nat_tests}
use Rattle.std.proofs.lemmas.List.{append-nil}
use Rattle.sb_index.specs.Rows.{AreAbove, AreRising, is_from}
use Rattle.sb_index.specs.declared.row.Row.{Row}
use Rattle.sb_machine.proofs.Places.{found_passes}
use Rattle.sb_copies.specs.Grouped.{is_under, span}
use Rattle.sb_copies.proofs.Finds.{narrow_found, narrow_none}
use Rattle.sb_copies.proofs.Grouped.{is_le, is_lt, le_is, lt_is}
use Rattle.sb_copies.proofs.Order.{both}

pub not_le : (a b : ℕ) → b < a → nat_le a b ≡ false
not_le a b p = grind (arith, nat_tests)

pub above : (a b : ℕ) → nat_le a b ≡ false → b < a
above a b e = grind (arith, nat_tests)

-- a row of the group, whose key is at least k
abbrev pub is_stretch : ℕ → ℕ → Row → Bool
is_stretch h k x = is_from k x && is_under h x

-- ---- which is the first of them

pub stretch_own : (h k : ℕ) (x : Row) → is_stretch h k x ≡ true → is_from k x ≡ true
stretch_own h k x e = (both (is_from k x) (is_under h x) e).0

pub in_stretch : (h k : ℕ) (x : Row) → h * span ≤ k → is_from k x ≡ true → nat_le x.key (h * span + (span - 1)) ≡ true → is_stretch h k x ≡ true
in_stretch h k x low e within =
    let least = is_le k x.key e in
    let most = is_le x.key (h * span + (span - 1)) within in
    rw (e, le_is (h * span) x.key (omega (arith, least, low)), lt_is x.key (h * span + span) (omega (arith, most))) refl

not_row : (h k : ℕ) (x : Row) → h * span + span ≤ x.key → is_stretch h k x ≡ false
not_row h k x past = at (is_stretch h k x) refl where
  at : (b : Bool) → is_stretch h k x ≡ b → is_stretch h k x ≡ false
  at true e =
      let under = (both (is_from k x) (is_under h x) e).1 in
      let low = is_lt x.key (h * span + span) (both (is_from (h * span) x) (nat_lt x.key (h * span + span)) under).1 in
      absurd (omega (arith, past, low))
  at false e = e

none_behind : (h k j : ℕ) (rows : List Row) → h * span + span ≤ j → AreAbove j rows → find (is_stretch h k) rows ≡ None
none_behind h k j [] past a = refl
none_behind h k j (x ∷ xs) past a = let q : j < x.key = a.0 in rw (not_row h k x (omega (arith, past, q))) (none_behind h k j xs past a.1)

-- where the first row from there on is behind them, there is none of them
pub past_stretch : (h k : ℕ) (row : Row) (rows : List Row) → AreRising rows → find (is_from k) rows ≡ Some row → h * span + span ≤ row.key → find (is_stretch h k) rows ≡ None
past_stretch h k row [] s found past = refl
past_stretch h k row (x ∷ xs) s found past = at (is_from k x) refl (past_stretch h k row xs s.1) where
  at : (b : Bool) → is_from k x ≡ b → (find (is_from k) xs ≡ Some row → h * span + span ≤ row.key → find (is_stretch h k) xs ≡ None) → find (is_stretch h k) (x ∷ xs) ≡ None
  at true e ih =
      let it : Some x ≡ Some row = rw e at found in
      let same : row ≡ x = cc in
      let far : h * span + span ≤ x.key = subst (λ (z : Row). h * span + span ≤ z.key) same past in
      rw (not_row h k x far) (none_behind h k x.key xs far s.0)
  at false e ih = let rest : find (is_from k) xs ≡ Some row = rw e at found in rw e (ih rest past)

pub behind : (h key : ℕ) → nat_le key (h * span + (span - 1)) ≡ false → h * span + span ≤ key
behind h key e = let q = above key (h * span + (span - 1)) e in omega (arith, q)

-- the three cases of a search for it

pub first_there : (h k : ℕ) (row : Row) (rows : List Row) → h * span ≤ k → Some row ≡ find (is_from k) rows → true ≡ nat_le row.key (h * span + (span - 1)) → Some row ≡ find (is_stretch h k) rows
first_there h k row rows low found within = sym (narrow_found (is_stretch h k) (is_from k) rows row (stretch_own h k) (sym found) (in_stretch h k row low (found_passes (is_from k) rows row (sym found)) (sym within)))

pub first_past : (h k : ℕ) (row : Row) (rows : List Row) → AreRising rows → Some row ≡ find (is_from k) rows → false ≡ nat_le row.key (h * span + (span - 1)) → None ≡ find (is_stretch h k) rows
first_past h k row rows s found within = sym (past_stretch h k row rows s (sym found) (behind h row.key (sym within)))

pub first_nowhere : (h k : ℕ) (rows : List Row) → None ≡ find (is_from k) rows → None ≡ find (is_stretch h k) rows
first_nowhere h k rows found = sym (narrow_none (is_stretch h k) (is_from k) rows (stretch_own h k) (sym found))

-- ---- all of them

still_under : (h k j : ℕ) (xs : List Row) → k ≤ j → AreAbove j xs → filter (is_stretch h k) xs ≡ filter (is_stretch h (j + 1)) xs
still_under h k j [] le a = refl
still_under h k j (x ∷ xs) le a =
    let q : j < x.key = a.0 in
    rw (le_is k x.key (omega (arith, le, q)), le_is (j + 1) x.key (omega (arith, q))) (ap (λ (l : List Row). cond (is_under h x) (x ∷ l) l) (still_under h k j xs le a.1))

row_above : (j : ℕ) (p : Row → Bool) (row : Row) (xs : List Row) → AreAbove j xs → find p xs ≡ Some row → j < row.key
row_above j p row [] a found = absurd cc
row_above j p row (x ∷ xs) a found = at (p x) refl (row_above j p row xs a.1) where
  at : (b : Bool) → p x ≡ b → (find p xs ≡ Some row → j < row.key) → j < row.key
  at true e ih = let it : Some x ≡ Some row = rw e at found in let same : x ≡ row = cc in subst (λ (z : Row). j < z.key) same a.0
  at false e ih = ih (rw e at found)

not_from : (h k : ℕ) (x : Row) → x.key < k → is_stretch h k x ≡ false
not_from h k x lt = ap (λ b. b && is_under h x) (not_le k x.key lt)

-- the first of them, and those behind it
pub first_and_rest : (h k : ℕ) (row : Row) (rows : List Row) → AreRising rows → find (is_stretch h k) rows ≡ Some row → filter (is_stretch h k) rows ≡ row ∷ filter (is_stretch h (row.key + 1)) rows
first_and_rest h k row [] s found = absurd cc
first_and_rest h k row (x ∷ xs) s found = at (is_stretch h k x) refl (first_and_rest h k row xs s.1) where
  at : (b : Bool) → is_stretch h k x ≡ b → (find (is_stretch h k) xs ≡ Some row → filter (is_stretch h k) xs ≡ row ∷ filter (is_stretch h (row.key + 1)) xs) → filter (is_stretch h k) (x ∷ xs) ≡ row ∷ filter (is_stretch h (row.key + 1)) (x ∷ xs)
  at true e ih =
      let it : Some x ≡ Some row = rw e at found in
      let same : x ≡ row = cc in
      let low = is_le k x.key (stretch_own h k x e) in
      let gone : is_stretch h (x.key + 1) x ≡ false = not_from h (x.key + 1) x (omega arith) in
      let here : filter (is_stretch h k) (x ∷ xs) ≡ x ∷ filter (is_stretch h k) xs = rw e refl in
      let rest : filter (is_stretch h (x.key + 1)) (x ∷ xs) ≡ filter (is_stretch h (x.key + 1)) xs = rw gone refl in
      here ∙ ap (λ (l : List Row). x ∷ l) (still_under h k x.key xs low s.0 ∙ sym rest) ∙ ap (λ (z : Row). z ∷ filter (is_stretch h (z.key + 1)) (x ∷ xs)) same
  at false e ih =
      let there : find (is_stretch h k) xs ≡ Some row = rw e at found in
      let later : x.key < row.key = row_above x.key (is_stretch h k) row xs s.0 there in
      let gone : is_stretch h (row.key + 1) x ≡ false = not_from h (row.key + 1) x (omega (arith, later)) in
      rw (e, gone) (ih there)

none_kept : (p : Row → Bool) (xs : List Row) → find p xs ≡ None → filter p xs ≡ []
none_kept p [] found = refl
none_kept p (x ∷ xs) found = at (p x) refl (none_kept p xs) where
  at : (b : Bool) → p x ≡ b → (find p xs ≡ None → filter p xs ≡ []) → filter p (x ∷ xs) ≡ []
  at true e ih = absurd (let bad : Some x ≡ None = rw e at found in cc)
  at false e ih = rw e (ih (rw e at found))

past_all : (h k : ℕ) (xs : List Row) → h * span + span ≤ k → filter (is_stretch h k) xs ≡ []
past_all h k [] past = refl
past_all h k (x ∷ xs) past = rw (at (is_stretch h k x) refl) (past_all h k xs past) where
  at : (b : Bool) → is_stretch h k x ≡ b → is_stretch h k x ≡ false
  at true e =
      let it = both (is_from k x) (is_under h x) e in
      let least = is_le k x.key it.0 in
      let low = is_lt x.key (h * span + span) (both (is_from (h * span) x) (nat_lt x.key (h * span + span)) it.1).1 in
      absurd (omega (arith, past, least, low))
  at false e = e

all_from : (h : ℕ) (xs : List Row) → filter (is_stretch h (h * span + 0)) xs ≡ filter (is_under h) xs
all_from h [] = refl
all_from h (x ∷ xs) = rw (at (is_under h x) refl) (ap (λ (l : List Row). cond (is_under h x) (x ∷ l) l) (all_from h xs)) where
  at : (b : Bool) → is_under h x ≡ b → is_stretch h (h * span + 0) x ≡ is_under h x
  at true e =
      let low = is_le (h * span) x.key (both (is_from (h * span) x) (nat_lt x.key (h * span + span)) e).0 in
      ap (λ b. b && is_under h x) (le_is (h * span + 0) x.key (omega (arith, low)))
  at false e = ap (λ b. is_from (h * span + 0) x && b) e ∙ gone (is_from (h * span + 0) x) ∙ sym e where
    gone : (b : Bool) → (b && false) ≡ false
    gone true = refl
    gone false = refl

-- ---- a walk over them: those found so far, and the values of those that are left

module _ (h : ℕ) (rows : List Row) (start : List ℕ) where
  -- are all
  abbrev pub IsOnWay : ℕ → List ℕ → Type 0
  IsOnWay k found = found ++ map (λ x. x.value) (filter (is_stretch h k) rows) ≡ start ++ map (λ x. x.value) (filter (is_under h) rows)

  pub way_begins : IsOnWay (h * span + 0) start
  way_begins = ap (λ (l : List Row). start ++ map (λ x. x.value) l) (all_from h rows)

  pub way_goes_on : (k : ℕ) (row : Row) (found : List ℕ) → AreRising rows → Some row ≡ find (is_stretch h k) rows → IsOnWay k found → IsOnWay (row.key + 1) (found ++ row.value ∷ [])
  way_goes_on k row found s first so_far =
      append_assoc found (row.value ∷ []) (map (λ x. x.value) (filter (is_stretch h (row.key + 1)) rows))
      ∙ ap (λ (l : List Row). found ++ map (λ x. x.value) l) (sym (first_and_rest h k row rows s (sym first)))
      ∙ so_far

  pub way_ends : (k : ℕ) (found : List ℕ) → None ≡ find (is_stretch h k) rows → IsOnWay k found → found ≡ start ++ map (λ x. x.value) (filter (is_under h) rows)
  way_ends k found none so_far =
      sym (append-nil found)
      ∙ ap (λ (l : List Row). found ++ map (λ x. x.value) l) (sym (none_kept (is_stretch h k) rows (sym none)))
      ∙ so_far

  pub way_past : (k : ℕ) (found : List ℕ) → h * span + span ≤ k → IsOnWay k found → found ≡ start ++ map (λ x. x.value) (filter (is_under h) rows)
  way_past k found past so_far =
      sym (append-nil found)
      ∙ ap (λ (l : List Row). found ++ map (λ x. x.value) l) (sym (past_all h k rows past))
      ∙ so_far
