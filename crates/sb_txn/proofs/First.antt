-- The first key of a lock has the number of the first transaction in which a settlement of it is queued.
use Rattle.std.proofs.Common.{◌≡◌, ℕ, ◌+◌, ◌*◌, ◌-◌, ◌^◌, ◌≤◌, ◌<◌, refl, sym, ap, ◌∙◌, Bool, true, false, ◌||◌, ◌==◌, nat_le, nat_lt, List, [], ◌∷◌, find, Option, Some, None, subst, arith}
use Rattle.std.proofs.lemmas.Bool.Decides.{nat_tests}
use Rattle.std.specs.List.{list_any}
use Rattle.std.specs.Option.{option_map}
use Rattle.sb_index.specs.Rows.{is_at, is_from, AreAbove, AreRising}
use Rattle.sb_index.specs.declared.row.Row.{Row}
use Rattle.sb_machine.specs.Each.{Each, Pairs}
use Rattle.sb_machine.specs.SettleRow.{settles}
use Rattle.sb_machine.specs.declared.state.Operation.{Operation}
use Rattle.sb_machine.specs.declared.state.Operation.TheVariants.{Send, Settle}
use Rattle.sb_txn.specs.Queued.{first_number, has_keyed, is_keyed, key_of, number_under, AreKeyed, AreNumbered}
use Rattle.sb_machine.specs.Changes.{is_transaction}
use Rattle.sb_machine.specs.declared.state.Transaction.{Transaction}
use Rattle.sb_txn.specs.Txns.{Opened, has_txn, transactions_of}
use Rattle.sb_txn.proofs.Keys.{found_from}
use Rattle.sb_txn.proofs.Kept.{keyed_number, one_number}
use Rattle.sb_txn.proofs.Views.{find_seen}

-- ---- keys from one on

same : (a b : ℕ) → (a == b) ≡ true → a ≡ b
same a b e = grind (arith, nat_tests)

-- the first is no later than any that is there
from_least : (base k : ℕ) (keys : List Row) → AreRising keys → base ≤ k → list_any (is_at k) keys ≡ true → (x : Row) × (find (is_from base) keys ≡ Some x) × (x.key ≤ k)
from_least base k [] rises le e = absurd cc
from_least base k (y ∷ ys) rises le e = at (is_from base y) (is_at k y) refl refl (from_least base k ys rises.1 le) where
  here : (base k key : ℕ) → nat_le base key ≡ false → (k == key) ≡ true → base ≤ k → ⊥
  here base k key low equal le = grind (arith, nat_tests)

  above : (y k : ℕ) (ys : List Row) → AreAbove y ys → list_any (is_at k) ys ≡ true → y ≤ k
  above y k [] up e = absurd cc
  above y k (z ∷ zs) up e = by (is_at k z) refl (above y k zs up.1) where
    by : (b : Bool) → is_at k z ≡ b → (list_any (is_at k) zs ≡ true → y ≤ k) → y ≤ k
    by true is ih = let it : y < z.key = up.0 in let so : k ≡ z.key = same k z.key is in omega (arith, it, so)
    by false is ih = let rest : list_any (is_at k) zs ≡ true = rw is at e in ih rest

  at : (b c : Bool) → is_from base y ≡ b → is_at k y ≡ c → (list_any (is_at k) ys ≡ true → (x : Row) × (find (is_from base) ys ≡ Some x) × (x.key ≤ k)) → (x : Row) × (find (is_from base) (y ∷ ys) ≡ Some x) × (x.key ≤ k)
  at true true from own ih = let so : k ≡ y.key = same k y.key own in (y, rw from refl, omega (arith, so))
  at true false from own ih = let rest : list_any (is_at k) ys ≡ true = rw own at e in (y, rw from refl, above y.key k ys rises.0 rest)
  at false true from own ih = absurd (here base k y.key from own le)
  at false false from own ih = let rest : list_any (is_at k) ys ≡ true = rw own at e in let it = ih rest in (it.0, rw from it.1, it.2)

-- what is found is there
there : (base : ℕ) (keys : List Row) (x : Row) → find (is_from base) keys ≡ Some x → list_any (is_at x.key) keys ≡ true
there base [] x e = absurd cc
there base (y ∷ ys) x e = at (is_from base y) refl (there base ys x) where
  own : (a : ℕ) → (a == a) ≡ true
  own a = grind (arith, nat_tests)

  either : (a b : Bool) → b ≡ true → (a || b) ≡ true
  either true b e = refl
  either false b e = e

  at : (b : Bool) → is_from base y ≡ b → (find (is_from base) ys ≡ Some x → list_any (is_at x.key) ys ≡ true) → list_any (is_at x.key) (y ∷ ys) ≡ true
  at true is ih = let it : Some y ≡ Some x = rw is at e in let so : y ≡ x = cc in subst (λ (z : Row). list_any (is_at z.key) (y ∷ ys) ≡ true) so (rw (own y.key) refl)
  at false is ih = let rest : find (is_from base) ys ≡ Some x = rw is at e in either (is_at x.key y) (list_any (is_at x.key) ys) (ih rest)

-- ---- a lock in a transaction

same_test : (a b n : ℕ) → (a == b) ≡ (b * 2 ^ 64 + n == a * 2 ^ 64 + n)
same_test a b n = at (a == b) refl where
  equal : (a b n : ℕ) → a ≡ b → (b * 2 ^ 64 + n == a * 2 ^ 64 + n) ≡ true
  equal a b n e = grind (arith, nat_tests)

  differ : (a b n : ℕ) → (a == b) ≡ false → (b * 2 ^ 64 + n == a * 2 ^ 64 + n) ≡ false
  differ a b n e = grind (arith, nat_tests)

  at : (c : Bool) → (a == b) ≡ c → (a == b) ≡ (b * 2 ^ 64 + n == a * 2 ^ 64 + n)
  at true is = is ∙ sym (equal a b n (same a b is))
  at false is = is ∙ sym (differ a b n is)

settling_keyed : (lock n : ℕ) (ops : List Operation) → list_any (settles lock) ops ≡ list_any (is_keyed n (key_of lock n)) ops
settling_keyed lock n [] = refl
settling_keyed lock n (Send to messages ∷ ops) = settling_keyed lock n ops
settling_keyed lock n (Settle from copy token session how ∷ ops) = ap (λ b. b || list_any (settles lock) ops) (same_test token.lock lock n) ∙ ap (λ b. (key_of lock n == key_of token.lock n) || b) (settling_keyed lock n ops)

-- a transaction in which a settlement of a lock is queued
abbrev is_settling : ℕ → Opened → Bool
is_settling lock r = list_any (settles lock) r.transaction.operations

-- one that has a key of the lock
keyed_settles : (lock past : ℕ) (r : Opened) → past < 2 ^ 64 → r.transaction.number < 2 ^ 64 → has_keyed (lock * 2 ^ 64 + past) r ≡ true → (is_settling lock r ≡ true) × (r.transaction.number ≡ past)
keyed_settles lock past r small own e =
    let k = keyed_number r.transaction.number (lock * 2 ^ 64 + past) r.transaction.operations e in
    let it = one_number (lock * 2 ^ 64 + past) k.0 lock r.transaction.number past k.1 refl own small in (
      settling_keyed lock r.transaction.number r.transaction.operations
          ∙ ap (λ n. list_any (is_keyed r.transaction.number (lock * 2 ^ 64 + n)) r.transaction.operations) it.0
          ∙ e,
      it.0,
    )

-- ---- the first transaction

-- where one has a key of the lock, the first that settles it has no greater number
first_least : (lock past : ℕ) (rows : List Opened) → past < 2 ^ 64 → AreNumbered rows → list_any (has_keyed (lock * 2 ^ 64 + past)) rows ≡ true → (r : Opened) × (find (is_settling lock) rows ≡ Some r) × (r.transaction.number ≤ past)
first_least lock past [] small order e = absurd cc
first_least lock past (y ∷ ys) small order e = at (is_settling lock y) (has_keyed (lock * 2 ^ 64 + past) y) refl refl (first_least lock past ys small (order.0.1, order.1.1)) where
  above : (n : ℕ) (ys : List Opened) → Each (λ r. n < r.transaction.number) ys → Each (λ r. r.transaction.number < 2 ^ 64) ys → list_any (has_keyed (lock * 2 ^ 64 + past)) ys ≡ true → n ≤ past
  above n [] up within e = absurd cc
  above n (z ∷ zs) up within e = by (has_keyed (lock * 2 ^ 64 + past) z) refl (above n zs up.1 within.1) where
    by : (b : Bool) → has_keyed (lock * 2 ^ 64 + past) z ≡ b → (list_any (has_keyed (lock * 2 ^ 64 + past)) zs ≡ true → n ≤ past) → n ≤ past
    by true is ih = let it = keyed_settles lock past z small within.0 is in omega (arith, up.0, it.1)
    by false is ih = let rest : list_any (has_keyed (lock * 2 ^ 64 + past)) zs ≡ true = rw is at e in ih rest

  at : (b c : Bool) → is_settling lock y ≡ b → has_keyed (lock * 2 ^ 64 + past) y ≡ c → (list_any (has_keyed (lock * 2 ^ 64 + past)) ys ≡ true → (r : Opened) × (find (is_settling lock) ys ≡ Some r) × (r.transaction.number ≤ past))
      → (r : Opened) × (find (is_settling lock) (y ∷ ys) ≡ Some r) × (r.transaction.number ≤ past)
  at true true is has ih = let it = keyed_settles lock past y small order.1.0 has in (y, rw is refl, omega (arith, it.1))
  at true false is has ih = let rest : list_any (has_keyed (lock * 2 ^ 64 + past)) ys ≡ true = rw has at e in (y, rw is refl, above y.transaction.number ys order.0.0 order.1.1 rest)
  at false true is has ih = let it = keyed_settles lock past y small order.1.0 has in let bad : false ≡ true = sym is ∙ it.0 in absurd cc
  at false false is has ih = let rest : list_any (has_keyed (lock * 2 ^ 64 + past)) ys ≡ true = rw has at e in let it = ih rest in (it.0, rw is it.1, it.2)

-- the first that settles it has its key there
first_keyed : (lock : ℕ) (r : Opened) (rows : List Opened) → Each (λ r. r.transaction.number < 2 ^ 64) rows → find (is_settling lock) rows ≡ Some r → (list_any (has_keyed (lock * 2 ^ 64 + r.transaction.number)) rows ≡ true) × (r.transaction.number < 2 ^ 64)
first_keyed lock r [] within e = absurd cc
first_keyed lock r (y ∷ ys) within e = at (is_settling lock y) refl (first_keyed lock r ys within.1) where
  either : (a b : Bool) → b ≡ true → (a || b) ≡ true
  either true b e = refl
  either false b e = e

  at : (b : Bool) → is_settling lock y ≡ b → (find (is_settling lock) ys ≡ Some r → (list_any (has_keyed (lock * 2 ^ 64 + r.transaction.number)) ys ≡ true) × (r.transaction.number < 2 ^ 64))
      → (list_any (has_keyed (lock * 2 ^ 64 + r.transaction.number)) (y ∷ ys) ≡ true) × (r.transaction.number < 2 ^ 64)
  at true is ih =
      let it : Some y ≡ Some r = rw is at e in
      let so : y ≡ r = cc in
      let own : has_keyed (lock * 2 ^ 64 + y.transaction.number) y ≡ true = sym (settling_keyed lock y.transaction.number y.transaction.operations) ∙ is in
      subst (λ (z : Opened). (list_any (has_keyed (lock * 2 ^ 64 + z.transaction.number)) (y ∷ ys) ≡ true) × (z.transaction.number < 2 ^ 64)) so (rw own refl, within.0)
  at false is ih =
      let rest : find (is_settling lock) ys ≡ Some r = rw is at e in
      let it = ih rest in
      (either (has_keyed (lock * 2 ^ 64 + r.transaction.number) y) (list_any (has_keyed (lock * 2 ^ 64 + r.transaction.number)) ys) it.0, it.1)

-- ---- together

under : (lock past : ℕ) (x : Row) → x.key - lock * 2 ^ 64 ≡ past → past < 2 ^ 64 → number_under lock (Some x) ≡ Some past
under lock past x e small = rw (e, small_is past (2 ^ 64) small) refl where
  small_is : (a b : ℕ) → a < b → nat_lt a b ≡ true
  small_is a b p = grind (arith, nat_tests)

pub first_some : (lock : ℕ) (r : Opened) (rows : List Opened) (keys : List Row) → AreRising keys → AreNumbered rows → AreKeyed rows keys → find (is_settling lock) rows ≡ Some r → first_number lock keys ≡ Some r.transaction.number
first_some lock r rows keys rises order keyed e =
    let own = first_keyed lock r rows order.1 e in
    let k : ℕ = lock * 2 ^ 64 + r.transaction.number in
    let in_keys : list_any (is_at (lock * 2 ^ 64 + r.transaction.number)) keys ≡ true = keyed (lock * 2 ^ 64 + r.transaction.number) ∙ own.0 in
    let it = from_least (lock * 2 ^ 64) (lock * 2 ^ 64 + r.transaction.number) keys rises (omega arith) in_keys in
    let low : lock * 2 ^ 64 ≤ it.0.key = found_from (lock * 2 ^ 64) keys it.0 it.1 in
    let past : ℕ = it.0.key - lock * 2 ^ 64 in
    by it.0.key low it.2 own.1 (there (lock * 2 ^ 64) keys it.0 it.1) it.0 refl it.1
  where
    by : (key : ℕ) → lock * 2 ^ 64 ≤ key → key ≤ lock * 2 ^ 64 + r.transaction.number → r.transaction.number < 2 ^ 64 → list_any (is_at key) keys ≡ true → (x : Row) → x.key ≡ key → find (is_from (lock * 2 ^ 64)) keys ≡ Some x → first_number lock keys ≡ Some r.transaction.number
    by key low high small in_keys x named found =
        let past_small : key - lock * 2 ^ 64 < 2 ^ 64 = omega (arith, low, high, small) in
        let split : lock * 2 ^ 64 + (key - lock * 2 ^ 64) ≡ key = omega (arith, low) in
        let in_rows : list_any (has_keyed (lock * 2 ^ 64 + (key - lock * 2 ^ 64))) rows ≡ true = subst (λ n. list_any (has_keyed n) rows ≡ true) (sym split) (sym (keyed key) ∙ in_keys) in
        let least = first_least lock (key - lock * 2 ^ 64) rows past_small order in_rows in
        let one : Some r ≡ Some least.0 = sym e ∙ least.1 in
        let so : r ≡ least.0 = cc in
        let number : r.transaction.number ≤ key - lock * 2 ^ 64 = subst (λ (z : Opened). z.transaction.number ≤ key - lock * 2 ^ 64) (sym so) least.2 in
        let equal : x.key - lock * 2 ^ 64 ≡ r.transaction.number = omega (arith, named, low, high, number) in
        ap (number_under lock) found ∙ under lock r.transaction.number x equal small

pub first_none : (lock : ℕ) (rows : List Opened) (keys : List Row) → AreNumbered rows → AreKeyed rows keys → find (is_settling lock) rows ≡ None → first_number lock keys ≡ None
first_none lock rows keys order keyed e = at (find (is_from (lock * 2 ^ 64)) keys) refl where
  split : (a b : ℕ) → b ≤ a → b + (a - b) ≡ a
  split a b le = omega (arith, le)

  less : (a b : ℕ) → nat_lt a b ≡ true → a < b
  less a b p = grind (arith, nat_tests)

  by : (x : Row) (b : Bool) → find (is_from (lock * 2 ^ 64)) keys ≡ Some x → nat_lt (x.key - lock * 2 ^ 64) (2 ^ 64) ≡ b → number_under lock (Some x) ≡ None
  by x true found small =
      let low = found_from (lock * 2 ^ 64) keys x found in
      let in_rows : list_any (has_keyed x.key) rows ≡ true = sym (keyed x.key) ∙ there (lock * 2 ^ 64) keys x found in
      let least = first_least lock (x.key - lock * 2 ^ 64) rows (less (x.key - lock * 2 ^ 64) (2 ^ 64) small) order (subst (λ n. list_any (has_keyed n) rows ≡ true) (sym (split x.key (lock * 2 ^ 64) low)) in_rows) in
      let bad : None ≡ Some least.0 = sym e ∙ least.1 in
      absurd cc
  by x false found small = rw small refl

  at : (o : Option Row) → find (is_from (lock * 2 ^ 64)) keys ≡ o → first_number lock keys ≡ None
  at None found = ap (number_under lock) found
  at (Some x) found = ap (number_under lock) found ∙ by x (nat_lt (x.key - lock * 2 ^ 64) (2 ^ 64)) found refl

-- and by its number it is found again
pub found_by_number : (p : Opened → Bool) (r : Opened) (rows : List Opened) → Pairs (λ x y. x.transaction.number < y.transaction.number) rows → find p rows ≡ Some r → find (has_txn r.transaction.number) rows ≡ Some r
found_by_number p r [] order e = absurd cc
found_by_number p r (y ∷ ys) order e = at (p y) refl (found_by_number p r ys order.1) where
  own : (a : ℕ) → (a == a) ≡ true
  own a = grind (arith, nat_tests)

  other : (a b : ℕ) → a < b → (a == b) ≡ false
  other a b lt = grind (arith, nat_tests)

  above : (n : ℕ) (ys : List Opened) → Each (λ x. n < x.transaction.number) ys → find p ys ≡ Some r → n < r.transaction.number
  above n [] up e = absurd cc
  above n (z ∷ zs) up e = by (p z) refl (above n zs up.1) where
    by : (b : Bool) → p z ≡ b → (find p zs ≡ Some r → n < r.transaction.number) → n < r.transaction.number
    by true is ih = let it : Some z ≡ Some r = rw is at e in let so : z ≡ r = cc in subst (λ (x : Opened). n < x.transaction.number) so up.0
    by false is ih = let rest : find p zs ≡ Some r = rw is at e in ih rest

  at : (b : Bool) → p y ≡ b → (find p ys ≡ Some r → find (has_txn r.transaction.number) ys ≡ Some r) → find (has_txn r.transaction.number) (y ∷ ys) ≡ Some r
  at true is ih =
      let it : Some y ≡ Some r = rw is at e in
      let so : y ≡ r = cc in
      subst (λ (x : Opened). find (has_txn x.transaction.number) (y ∷ ys) ≡ Some x) so (rw (own y.transaction.number) refl)
  at false is ih =
      let rest : find p ys ≡ Some r = rw is at e in
      rw (other y.transaction.number r.transaction.number (above y.transaction.number ys order.0 rest)) (ih rest)

-- ---- the transaction itself

seen_settling : (lock : ℕ) (rows : List Opened) → option_map (λ r. r.transaction) (find (is_settling lock) rows) ≡ find (λ x. list_any (settles lock) x.operations) (transactions_of rows)
seen_settling lock rows = find_seen (λ (r : Opened). r.transaction) (λ (x : Transaction). list_any (settles lock) x.operations) rows

pub pending_some : (lock n : ℕ) (rows : List Opened) (keys : List Row) → AreRising keys → AreNumbered rows → AreKeyed rows keys → Some n ≡ first_number lock keys → find (is_transaction n) (transactions_of rows) ≡ find (λ x. list_any (settles lock) x.operations) (transactions_of rows)
pending_some lock n rows keys rises order keyed first = at (find (is_settling lock) rows) refl where
  at : (o : Option Opened) → find (is_settling lock) rows ≡ o → find (is_transaction n) (transactions_of rows) ≡ find (λ x. list_any (settles lock) x.operations) (transactions_of rows)
  at None is = let bad : Some n ≡ None = first ∙ first_none lock rows keys order keyed is in absurd cc
  at (Some r) is =
      let one : Some n ≡ Some r.transaction.number = first ∙ first_some lock r rows keys rises order keyed is in
      let so : n ≡ r.transaction.number = cc in
      ap (λ m. find (is_transaction m) (transactions_of rows)) so
      ∙ sym (find_seen (λ (r : Opened). r.transaction) (is_transaction r.transaction.number) rows)
      ∙ ap (option_map (λ (r : Opened). r.transaction)) (found_by_number (is_settling lock) r rows order.0 is ∙ sym is)
      ∙ seen_settling lock rows

pub pending_none : (lock : ℕ) (rows : List Opened) (keys : List Row) → AreRising keys → AreNumbered rows → AreKeyed rows keys → None ≡ first_number lock keys → None ≡ find (λ x. list_any (settles lock) x.operations) (transactions_of rows)
pending_none lock rows keys rises order keyed first = at (find (is_settling lock) rows) refl where
  at : (o : Option Opened) → find (is_settling lock) rows ≡ o → None ≡ find (λ x. list_any (settles lock) x.operations) (transactions_of rows)
  at None is = ap (option_map (λ (r : Opened). r.transaction)) (sym is) ∙ seen_settling lock rows
  at (Some r) is = let bad : None ≡ Some r.transaction.number = first ∙ first_some lock r rows keys rises order keyed is in absurd cc
