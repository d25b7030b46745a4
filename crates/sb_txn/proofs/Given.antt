-- Transactions as they are given, with the index of what is queued in them.
use Rattle.std.proofs.Common.{◌≡◌, ℕ, ◌^◌, ◌<◌, refl, ap, ◌∙◌, ◌||◌, List, [], ◌∷◌, map, arith, subst, sym}
use Rattle.std.proofs.lemmas.List.Sums.{sum_by-cons}
use Rattle.std.specs.List.{list_any}
use Rattle.sb_index.specs.Rows.{is_at, Indexed}
use Rattle.sb_machine.specs.Each.{Each, Pairs}
use Rattle.sb_machine.specs.declared.state.Transaction.{Transaction}
use Rattle.sb_txn.specs.Queued.{has_keyed, is_keyed_in, slots_of, IsKept}
use Rattle.sb_txn.specs.Txns.{Opened, full, transactions_of}

pub given_seen : (xs : List Transaction) → transactions_of (map full xs) ≡ xs
given_seen [] = refl
given_seen (x ∷ xs) = ap (λ (l : List Transaction). x ∷ l) (given_seen xs)

pub given_slots : (xs : List Transaction) → slots_of (map full xs) ≡ 0
given_slots [] = refl
given_slots (x ∷ xs) = omega (arith, sum_by-cons (λ (r : Opened). r.spare) (full x) (map full xs), given_slots xs)

each_given : (P : Transaction → Type 0) (xs : List Transaction) → Each P xs → Each (λ r. P r.transaction) (map full xs)
each_given P [] h = tt
each_given P (x ∷ xs) h = (h.0, each_given P xs h.1)

pairs_given : (R : Transaction → Transaction → Type 0) (xs : List Transaction) → Pairs R xs → Pairs (λ x y. R x.transaction y.transaction) (map full xs)
pairs_given R [] h = tt
pairs_given R (x ∷ xs) h = (each_given (R x) xs h.0, pairs_given R xs h.1)

keyed_given : (k : ℕ) (xs : List Transaction) → list_any (has_keyed k) (map full xs) ≡ list_any (is_keyed_in k) xs
keyed_given k [] = refl
keyed_given k (x ∷ xs) = ap (λ b. is_keyed_in k x || b) (keyed_given k xs)

pub given_kept : (xs : List Transaction) (rows : List Opened) (keys : Indexed) → rows ≡ map full xs → Pairs (λ x y. x.number < y.number) xs → Each (λ x. x.number < 2 ^ 64) xs → ((k : ℕ) → list_any (is_at k) keys.rows ≡ list_any (is_keyed_in k) xs) → IsKept rows keys
given_kept xs rows keys is rising small keyed = subst (λ (l : List Opened). IsKept l keys) (sym is) (
  (pairs_given (λ x y. x.number < y.number) xs rising, each_given (λ x. x.number < 2 ^ 64) xs small),
  (λ k. keyed k ∙ sym (keyed_given k xs)),
  omega (arith, given_slots xs),
)
