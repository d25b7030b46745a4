-- What an index tells of a key, where rows are put in and taken out.
use Rattle.std.proofs.Common.{◌≡◌, ◌≤◌, ℕ, zero, suc, refl, ap, ◌∙◌, Bool, true, false, not, ◌||◌, ◌&&◌, ◌==◌, nat_le, List, [], ◌∷◌, find, Some, None, subst, arith}
use Rattle.std.proofs.lemmas.Bool.Decides.{nat_tests}
use Rattle.std.specs.List.{insert, list_any, prefix_len}
use Rattle.sb_index.specs.Rows.{is_at, is_below, is_from, with_row, without}
use Rattle.sb_index.specs.declared.row.Row.{Row}

-- ---- tests

either_over : (a b c : Bool) → (a || (b || c)) ≡ (b || (a || c))
either_over true true c = refl
either_over true false c = refl
either_over false b c = refl

-- ---- one more

module _ {X : Type 0} (p : X → Bool) where
  any_insert : (xs : List X) (i : ℕ) (x : X) → list_any p (insert xs i x) ≡ (p x || list_any p xs)
  any_insert xs zero x = refl
  any_insert [] (suc i) x = refl
  any_insert (y ∷ ys) (suc i) x = ap (λ b. p y || b) (any_insert ys i x) ∙ either_over (p y) (p x) (list_any p ys)

  -- what is found passes
  pub any_found : (xs : List X) (x : X) → find p xs ≡ Some x → list_any p xs ≡ true
  any_found [] x e = absurd cc
  any_found (y ∷ ys) x e = at (p y) refl (any_found ys x) where
    at : (b : Bool) → p y ≡ b → (find p ys ≡ Some x → list_any p ys ≡ true) → list_any p (y ∷ ys) ≡ true
    at true is ih = rw is refl
    at false is ih = let rest : find p ys ≡ Some x = rw is at e in rw is (ih rest)

  pub any_missed : (xs : List X) → find p xs ≡ None → list_any p xs ≡ false
  any_missed [] e = refl
  any_missed (y ∷ ys) e = at (p y) refl (any_missed ys) where
    at : (b : Bool) → p y ≡ b → (find p ys ≡ None → list_any p ys ≡ false) → list_any p (y ∷ ys) ≡ false
    at true is ih = let bad : Some y ≡ None = rw is at e in absurd cc
    at false is ih = let rest : find p ys ≡ None = rw is at e in rw is (ih rest)

same_key : (k key : ℕ) → (k == key) ≡ true → k ≡ key
same_key k key e = grind (arith, nat_tests)

pub noted_there : (k key : ℕ) (rows : List Row) → list_any (is_at key) rows ≡ true → list_any (is_at k) rows ≡ ((k == key) || list_any (is_at k) rows)
noted_there k key rows there = at (k == key) refl where
  at : (b : Bool) → (k == key) ≡ b → list_any (is_at k) rows ≡ (b || list_any (is_at k) rows)
  at true is = rw (same_key k key is) there
  at false is = refl

pub noted_new : (k : ℕ) (x : Row) (rows : List Row) → list_any (is_at k) (with_row x rows) ≡ ((k == x.key) || list_any (is_at k) rows)
noted_new k x rows = any_insert (is_at k) rows (prefix_len (is_below x.key) rows) x

-- what is left to note, once the first is noted
pub noted_one : (a b c : Bool) → ((a || b) || c) ≡ (b || (a || c))
noted_one true true c = refl
noted_one true false c = refl
noted_one false b c = refl

-- ---- one less

pub noted_without : (k key : ℕ) (rows : List Row) → list_any (is_at k) (without key rows) ≡ (not (k == key) && list_any (is_at k) rows)
noted_without k key [] = elim (not (k == key)) as (λ b. false ≡ (b && false)) [ true ↦ refl | false ↦ refl ]
noted_without k key (x ∷ rows) = at (key == x.key) (k == x.key) (k == key) refl refl refl (noted_without k key rows) where
  at : (b c d : Bool) → (key == x.key) ≡ b → (k == x.key) ≡ c → (k == key) ≡ d → list_any (is_at k) (without key rows) ≡ (not (k == key) && list_any (is_at k) rows)
      → list_any (is_at k) (without key (x ∷ rows)) ≡ (not (k == key) && list_any (is_at k) (x ∷ rows))
  at true true true e f g ih = rw (e, f, g) (let it : list_any (is_at k) (without key rows) ≡ false = rw g at ih in it)
  at true true false e f g ih = absurd (apart k key x.key e f g) where
    apart : (a b c : ℕ) → (b == c) ≡ true → (a == c) ≡ true → (a == b) ≡ false → ⊥
    apart a b c e f g = grind (arith, nat_tests)
  at true false true e f g ih = rw (e, f, g) (let it : list_any (is_at k) (without key rows) ≡ false = rw g at ih in it)
  at true false false e f g ih = rw (e, f, g) (let it : list_any (is_at k) (without key rows) ≡ list_any (is_at k) rows = rw g at ih in it)
  at false true true e f g ih = absurd (together k key x.key e f g) where
    together : (a b c : ℕ) → (b == c) ≡ false → (a == c) ≡ true → (a == b) ≡ true → ⊥
    together a b c e f g = grind (arith, nat_tests)
  at false true false e f g ih = rw (e, f, g) refl
  at false false true e f g ih = rw (e, f, g) (let it : list_any (is_at k) (without key rows) ≡ false = rw g at ih in it)
  at false false false e f g ih = rw (e, f, g) (let it : list_any (is_at k) (without key rows) ≡ list_any (is_at k) rows = rw g at ih in it)

-- ---- many less

-- what is left to forget, once the first is forgotten
pub forgot_one : (a b c : Bool) → (not (a || b) && c) ≡ (not b && (not a && c))
forgot_one true true c = refl
forgot_one true false c = refl
forgot_one false true c = refl
forgot_one false false c = refl

-- ---- from a key on

from_is : (base key : ℕ) → nat_le base key ≡ true → base ≤ key
from_is base key e = grind (arith, nat_tests)

pub found_from : (base : ℕ) (rows : List Row) (x : Row) → find (is_from base) rows ≡ Some x → base ≤ x.key
found_from base [] x e = absurd cc
found_from base (y ∷ ys) x e = at (is_from base y) refl (found_from base ys x) where
  at : (b : Bool) → is_from base y ≡ b → (find (is_from base) ys ≡ Some x → base ≤ x.key) → base ≤ x.key
  at true is ih = let it : Some y ≡ Some x = rw is at e in let same : y ≡ x = cc in subst (λ (z : Row). base ≤ z.key) same (from_is base y.key is)
  at false is ih = let rest : find (is_from base) ys ≡ Some x = rw is at e in ih rest
