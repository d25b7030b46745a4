-- Open transactions stay in rising number.
use Rattle.std.proofs.Common.{◌≡◌, ℕ, ◌+◌, ◌<◌, ◌≤◌, ◌&&◌, nat_le, nat_lt, Bool, true, false, List, [], ◌∷◌, ◌++◌, filter, refl, arith}
use Rattle.std.proofs.lemmas.Bool.Decides.{nat_tests}
use Rattle.sb_machine.specs.Each.{Each}
use Rattle.sb_machine.specs.Keyed.{AreRising, changed}
use Rattle.sb_machine.specs.declared.state.Operation.{Operation}
use Rattle.sb_txn.specs.Txns.{Opened, has_txn, begun, with_queued, is_elsewhere, transactions_of}
use Rattle.sb_entities.specs.Stocks.{on_txn}
use Rattle.sb_entities.specs.Transactions.{txn_number, are_rising, AreOpened}
use Rattle.sb_entities.proofs.Rising.{rising_dropped, rising_changed, rising_append, rising_filter}

is_within : (m n : ℕ) → nat_le m n ≡ true → m ≤ n
is_within m n h = grind (arith, nat_tests)

within_is : (m n : ℕ) → m ≤ n → nat_le m n ≡ true
within_is m n h = grind (arith, nat_tests)

is_above : (m n : ℕ) → nat_lt m n ≡ true → m < n
is_above m n h = grind (arith, nat_tests)

above_is : (m n : ℕ) → m < n → nat_lt m n ≡ true
above_is m n h = grind (arith, nat_tests)

both : (a b : Bool) → (a && b) ≡ true → (a ≡ true) × (b ≡ true)
both true true h = (refl, refl)
both true false h = absurd cc
both false b h = absurd cc

rising_is : (above last : ℕ) (rows : List Opened) → are_rising above last rows ≡ true → AreRising txn_number above last rows
rising_is above last [] h = is_within above last h
rising_is above last (r ∷ rs) h =
    let it = both (nat_lt above (txn_number r)) (are_rising (txn_number r) last rs) h in
    (is_above above (txn_number r) it.0, rising_is (txn_number r) last rs it.1)

pub is_rising : (above last : ℕ) (rows : List Opened) → AreRising txn_number above last rows → are_rising above last rows ≡ true
is_rising above last [] h = within_is above last h
is_rising above last (r ∷ rs) h = rw (above_is above (txn_number r) h.0) (is_rising (txn_number r) last rs h.1)

pub opened_rises : (last : ℕ) (rows : List Opened) → AreOpened last rows → AreRising txn_number 0 last rows
opened_rises last rows h = rising_is 0 last rows h

pub opened_dropped : (n last : ℕ) (rows : List Opened) → AreOpened last rows → AreOpened last (changed (has_txn n) (λ r. []) rows)
opened_dropped n last rows h = is_rising 0 last (changed (has_txn n) (λ r. []) rows) (rising_dropped txn_number (has_txn n) 0 last rows (rising_is 0 last rows h))

pub opened_queued : (n deadline last : ℕ) (operation : Operation) (rows : List Opened) → AreOpened last rows → AreOpened last (on_txn n (with_queued deadline operation) rows)
opened_queued n deadline last operation rows h = is_rising 0 last (on_txn n (with_queued deadline operation) rows) (rising_changed txn_number (has_txn n) (with_queued deadline operation) (λ r. refl) 0 last rows (rising_is 0 last rows h))

pub opened_more : (n : ℕ) (f : Opened → Opened) (last : ℕ) (rows : List Opened) → ((r : Opened) → txn_number (f r) ≡ txn_number r) → AreOpened last rows → AreOpened last (on_txn n f rows)
opened_more n f last rows same h = is_rising 0 last (on_txn n f rows) (rising_changed txn_number (has_txn n) f same 0 last rows (rising_is 0 last rows h))

pub opened_begun : (n deadline last : ℕ) (rows : List Opened) → AreOpened last rows → AreOpened (last + 1) (rows ++ record { transaction = begun (last + 1) n deadline; spare = 0 } ∷ [])
opened_begun n deadline last rows h = is_rising 0 (last + 1) (rows ++ record { transaction = begun (last + 1) n deadline; spare = 0 } ∷ []) (rising_append txn_number 0 last (record { transaction = begun (last + 1) n deadline; spare = 0 }) rows refl (rising_is 0 last rows h))

pub opened_elsewhere : (n last : ℕ) (rows : List Opened) → AreOpened last rows → AreOpened last (filter (λ r. is_elsewhere n r.transaction) rows)
opened_elsewhere n last rows h = is_rising 0 last (filter (λ r. is_elsewhere n r.transaction) rows) (rising_filter txn_number (λ r. is_elsewhere n r.transaction) 0 last rows (rising_is 0 last rows h))

-- the next number is above theirs
pub opened_below : (last : ℕ) (rows : List Opened) → AreOpened last rows → Each (λ r. r.transaction.number < last + 1) rows
opened_below last rows h = below 0 rows (rising_is 0 last rows h) where
  top : (above : ℕ) (rows : List Opened) → AreRising txn_number above last rows → above ≤ last
  top above [] h = h
  top above (r ∷ rs) h = let up = top (txn_number r) rs h.1 in omega (arith, up, h.0)

  below : (above : ℕ) (rows : List Opened) → AreRising txn_number above last rows → Each (λ r. r.transaction.number < last + 1) rows
  below above [] h = tt
  below above (r ∷ rs) h = let up = top (txn_number r) rs h.1 in (omega (arith, up), below (txn_number r) rs h.1)

pub opened_in_order : (last : ℕ) (rows : List Opened) → AreOpened last rows → AreRising (λ x. x.number) 0 last (transactions_of rows)
opened_in_order last rows h = in_order 0 rows (opened_rises last rows h) where
  in_order : (above : ℕ) (rows : List Opened) → AreRising txn_number above last rows → AreRising (λ x. x.number) above last (transactions_of rows)
  in_order above [] h = h
  in_order above (r ∷ rs) h = (h.0, in_order (txn_number r) rs h.1)
