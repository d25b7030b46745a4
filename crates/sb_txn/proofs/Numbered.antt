-- Open transactions in rising number: where one stands, and what stays of the order.
use Rattle.std.proofs.Common.{◌≡◌, ℕ, zero, suc, ◌^◌, ◌≤◌, ◌<◌, sym, ap, ◌∙◌, Bool, true, false, ◌==◌, nat_lt, List, [], ◌∷◌, ◌++◌, position, filter, length, Some, None, cond, arith, get_or}
use Rattle.std.proofs.lemmas.Bool.Decides.{nat_tests}
use Rattle.std.proofs.lemmas.List.Sums.{prefix_len_is}
use Rattle.std.specs.List.{prefix_len, slice_get}
use Rattle.std.specs.List.Sorted.{IsPartitionedBy, IsPartitionPoint}
use Rattle.sb_machine.specs.Each.{Each, Pairs}
use Rattle.sb_machine.specs.Keyed.{changed}
use Rattle.sb_txn.specs.Queued.{is_earlier, AreNumbered}
use Rattle.sb_txn.specs.Txns.{Opened, begun, has_txn}
use Rattle.sb_txn.proofs.Placed.{placed_here, placed_other, placed_past}

-- ---- of each, and of each two

module _ {X : Type 0} where
  pub each_more : (P Q : X → Type 0) → ((x : X) → P x → Q x) → (xs : List X) → Each P xs → Each Q xs
  each_more P Q f [] h = tt
  each_more P Q f (x ∷ xs) h = (f x h.0, each_more P Q f xs h.1)

  pub each_filter : (P : X → Type 0) (p : X → Bool) (xs : List X) → Each P xs → Each P (filter p xs)
  each_filter P p [] h = tt
  each_filter P p (x ∷ xs) h = elim (p x) as (λ b. Each P (cond b (x ∷ filter p xs) (filter p xs))) [ true ↦ (h.0, each_filter P p xs h.1) | false ↦ each_filter P p xs h.1 ]

  pub pairs_filter : (R : X → X → Type 0) (p : X → Bool) (xs : List X) → Pairs R xs → Pairs R (filter p xs)
  pairs_filter R p [] h = tt
  pairs_filter R p (x ∷ xs) h = elim (p x) as (λ b. Pairs R (cond b (x ∷ filter p xs) (filter p xs))) [ true ↦ (each_filter (R x) p xs h.0, pairs_filter R p xs h.1) | false ↦ pairs_filter R p xs h.1 ]

  pub each_push : (P : X → Type 0) (y : X) (xs : List X) → Each P xs → P y → Each P (xs ++ y ∷ [])
  each_push P y [] h own = (own, tt)
  each_push P y (x ∷ xs) h own = (h.0, each_push P y xs h.1 own)

  pub pairs_push : (R : X → X → Type 0) (y : X) (xs : List X) → Pairs R xs → Each (λ x. R x y) xs → Pairs R (xs ++ y ∷ [])
  pairs_push R y [] h own = (tt, tt)
  pairs_push R y (x ∷ xs) h own = (each_push (R x) y xs h.0 own.0, pairs_push R y xs h.1 own.1)

  pub each_dropped : (P : X → Type 0) (p : X → Bool) (xs : List X) → Each P xs → Each P (changed p (λ x. []) xs)
  each_dropped P p [] h = tt
  each_dropped P p (x ∷ xs) h = elim (p x) as (λ b. Each P (cond b xs (x ∷ changed p (λ y. []) xs))) [ true ↦ h.1 | false ↦ (h.0, each_dropped P p xs h.1) ]

  pub pairs_dropped : (R : X → X → Type 0) (p : X → Bool) (xs : List X) → Pairs R xs → Pairs R (changed p (λ x. []) xs)
  pairs_dropped R p [] h = tt
  pairs_dropped R p (x ∷ xs) h = elim (p x) as (λ b. Pairs R (cond b xs (x ∷ changed p (λ y. []) xs))) [ true ↦ h.1 | false ↦ (each_dropped (R x) p xs h.0, pairs_dropped R p xs h.1) ]

  module _ (P : X → Type 0) (p : X → Bool) (f : X → X) (same : (x : X) → P x → P (f x)) where
    pub each_changed : (xs : List X) → Each P xs → Each P (changed p (λ x. f x ∷ []) xs)
    each_changed [] h = tt
    each_changed (x ∷ xs) h = elim (p x) as (λ b. Each P (cond b (f x ∷ xs) (x ∷ changed p (λ y. f y ∷ []) xs))) [ true ↦ (same x h.0, h.1) | false ↦ (h.0, each_changed xs h.1) ]

  module _ (R : X → X → Type 0) (p : X → Bool) (f : X → X) (first : (x y : X) → R x y → R (f x) y) (second : (x y : X) → R x y → R x (f y)) where
    pub pairs_changed : (xs : List X) → Pairs R xs → Pairs R (changed p (λ x. f x ∷ []) xs)
    pairs_changed [] h = tt
    pairs_changed (x ∷ xs) h = elim (p x) as (λ b. Pairs R (cond b (f x ∷ xs) (x ∷ changed p (λ y. f y ∷ []) xs))) [
      | true ↦ (each_more (R x) (R (f x)) (λ y r. first x y r) xs h.0, h.1)
      | false ↦ (each_changed (R x) p f (λ y r. second x y r) xs h.0, pairs_changed xs h.1)
    ]

-- ---- the order stays

pub numbered_filter : (p : Opened → Bool) (rows : List Opened) → AreNumbered rows → AreNumbered (filter p rows)
numbered_filter p rows h = (pairs_filter (λ (x y : Opened). x.transaction.number < y.transaction.number) p rows h.0, each_filter (λ (r : Opened). r.transaction.number < 2 ^ 64) p rows h.1)

pub numbered_dropped : (p : Opened → Bool) (rows : List Opened) → AreNumbered rows → AreNumbered (changed p (λ r. []) rows)
numbered_dropped p rows h = (pairs_dropped (λ (x y : Opened). x.transaction.number < y.transaction.number) p rows h.0, each_dropped (λ (r : Opened). r.transaction.number < 2 ^ 64) p rows h.1)

pub numbered_push : (y : Opened) (rows : List Opened) → AreNumbered rows → Each (λ r. r.transaction.number < y.transaction.number) rows → y.transaction.number < 2 ^ 64 → AreNumbered (rows ++ y ∷ [])
numbered_push y rows h above within = (pairs_push (λ (x y : Opened). x.transaction.number < y.transaction.number) y rows h.0 above, each_push (λ (r : Opened). r.transaction.number < 2 ^ 64) y rows h.1 within)

pub numbered_changed : (p : Opened → Bool) (f : Opened → Opened) → ((r : Opened) → (f r).transaction.number ≡ r.transaction.number) → (rows : List Opened) → AreNumbered rows → AreNumbered (changed p (λ r. f r ∷ []) rows)
numbered_changed p f same rows h = (
  pairs_changed (λ (x y : Opened). x.transaction.number < y.transaction.number) p f (λ x y lt. omega (arith, same x, lt)) (λ x y lt. omega (arith, same y, lt)) rows h.0,
  each_changed (λ (r : Opened). r.transaction.number < 2 ^ 64) p f (λ r lt. omega (arith, same r, lt)) rows h.1,
)

-- ---- where the one of a number stands

lower : (n : ℕ) (x : Opened) (xs : List Opened) (j : ℕ) (d : Opened) → Each (λ y. x.transaction.number < y.transaction.number) xs → j < length xs → is_earlier n (get_or xs j d) ≡ true → is_earlier n x ≡ true
lower n x [] j d h lt e = absurd (omega (arith, lt))
lower n x (y ∷ ys) zero d h lt e = let p : x.transaction.number < y.transaction.number = h.0 in below x.transaction.number y.transaction.number n p e where
  below : (a b n : ℕ) → a < b → nat_lt b n ≡ true → nat_lt a n ≡ true
  below a b n p e = grind (arith, nat_tests)
lower n x (y ∷ ys) (suc j) d h lt e = lower n x ys j d h.1 (omega (arith, lt)) e

pub earlier_first : (n : ℕ) (rows : List Opened) → AreNumbered rows → IsPartitionedBy (is_earlier n) rows
earlier_first n rows h = parted rows h.0 where
  parted : (rows : List Opened) → Pairs (λ x y. x.transaction.number < y.transaction.number) rows → IsPartitionedBy (is_earlier n) rows
  parted [] h i j d le lt e = absurd (omega (arith, lt))
  parted (x ∷ xs) h zero zero d le lt e = e
  parted (x ∷ xs) h zero (suc j) d le lt e = lower n x xs j d h.0 (omega (arith, lt)) e
  parted (x ∷ xs) h (suc i) zero d le lt e = absurd (omega (arith, le))
  parted (x ∷ xs) h (suc i) (suc j) d le lt e = parted xs h.1 i j d (omega (arith, le)) (omega (arith, lt)) e

pub entry_is : (n : ℕ) (rows : List Opened) (i : ℕ) → i ≤ length rows → IsPartitionPoint (λ y. is_earlier n y ≡ true) (λ y. is_earlier n y ≡ false) rows i → i ≡ prefix_len (is_earlier n) rows
entry_is n rows i within point =
    let d : Opened = record { transaction = begun 0 0 0; spare = 0 } in
    sym (prefix_len_is (is_earlier n) rows i d within (λ k lt. point.0 k d (omega arith) lt) (λ lt. point.1 i d (omega arith) lt))

-- one that stands before isn't the one, nor is one behind the first that doesn't
earlier_other : (n : ℕ) (x : Opened) → is_earlier n x ≡ true → has_txn n x ≡ false
earlier_other n x e = apart x.transaction.number n e where
  apart : (a n : ℕ) → nat_lt a n ≡ true → (a == n) ≡ false
  apart a n e = grind (arith, nat_tests)

later_other : (n : ℕ) (x y : Opened) → x.transaction.number < y.transaction.number → is_earlier n x ≡ false → has_txn n y ≡ false
later_other n x y lt e = apart x.transaction.number y.transaction.number n lt e where
  apart : (a b n : ℕ) → a < b → nat_lt a n ≡ false → (b == n) ≡ false
  apart a b n lt e = grind (arith, nat_tests)

pub number_here : (n : ℕ) (rows : List Opened) (i : ℕ) (r : Opened) → AreNumbered rows → i ≡ prefix_len (is_earlier n) rows → Some r ≡ slice_get rows i → has_txn n r ≡ true → Some i ≡ position (has_txn n) rows
number_here n rows i r h place got has =
    rw place (placed_here (λ (x y : Opened). x.transaction.number < y.transaction.number) (is_earlier n) (has_txn n) (earlier_other n) (later_other n) rows h.0 r (sym (got ∙ ap (slice_get rows) place)) has)

pub number_other : (n : ℕ) (rows : List Opened) (i : ℕ) (r : Opened) → AreNumbered rows → i ≡ prefix_len (is_earlier n) rows → Some r ≡ slice_get rows i → has_txn n r ≡ false → None ≡ position (has_txn n) rows
number_other n rows i r h place got has =
    placed_other (λ (x y : Opened). x.transaction.number < y.transaction.number) (is_earlier n) (has_txn n) (earlier_other n) (later_other n) rows h.0 r (sym (got ∙ ap (slice_get rows) place)) has

pub number_past : (n : ℕ) (rows : List Opened) (i : ℕ) → AreNumbered rows → i ≡ prefix_len (is_earlier n) rows → None ≡ slice_get rows i → None ≡ position (has_txn n) rows
number_past n rows i h place got =
    placed_past (λ (x y : Opened). x.transaction.number < y.transaction.number) (is_earlier n) (has_txn n) (earlier_other n) (later_other n) rows h.0 (sym (got ∙ ap (slice_get rows) place))
