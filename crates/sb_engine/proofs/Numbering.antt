-- The numbers behind changes are those before them and those that they give.
use Rattle.std.proofs.Common.{◌≡◌, ℕ, ◌+◌, ◌-◌, ◌^◌, Bool, nat_le, min, List, [], ◌∷◌, refl, ap, ◌∙◌, sum_by, arith}
use Rattle.std.proofs.lemmas.Bool.Decides.{nat_tests}
use Rattle.std.proofs.lemmas.List.Sums.{sum_by-cons}
use Rattle.sb_machine.specs.Changes.{after, after_all, max_number}
use Rattle.sb_machine.specs.declared.change.Change.{Change}
use Rattle.sb_machine.specs.declared.change.Change.TheVariants.{InLeaf, Notes, Makes, Removes, AddsRule, DropsRule, Begins, Queues, Drops}
use Rattle.sb_machine.specs.declared.state.Space.{Space}
use Rattle.sb_engine.specs.Numbers.{entities_in, locks_in, transactions_in}

-- ---- one change

entity_after : (t : ℕ) (c : Change) (s : Space) → (after t c s).last_entity ≡ s.last_entity + entities_in c
entity_after t (InLeaf key c) s = omega arith
entity_after t (Notes n id) s = omega arith
entity_after t (Makes kind path description rules) s = refl
entity_after t (Removes n) s = omega arith
entity_after t (AddsRule n rule) s = omega arith
entity_after t (DropsRule n name) s = omega arith
entity_after t (Begins n deadline) s = omega arith
entity_after t (Queues n deadline operation) s = omega arith
entity_after t (Drops n) s = omega arith

lock_after : (t : ℕ) (c : Change) (s : Space) → (after t c s).last_lock ≡ s.last_lock + locks_in c
lock_after t (InLeaf key c) s = refl
lock_after t (Notes n id) s = omega arith
lock_after t (Makes kind path description rules) s = omega arith
lock_after t (Removes n) s = omega arith
lock_after t (AddsRule n rule) s = omega arith
lock_after t (DropsRule n name) s = omega arith
lock_after t (Begins n deadline) s = omega arith
lock_after t (Queues n deadline operation) s = omega arith
lock_after t (Drops n) s = omega arith

txn_after : (t : ℕ) (c : Change) (s : Space) → (after t c s).last_txn ≡ s.last_txn + transactions_in c
txn_after t (InLeaf key c) s = omega arith
txn_after t (Notes n id) s = omega arith
txn_after t (Makes kind path description rules) s = omega arith
txn_after t (Removes n) s = omega arith
txn_after t (AddsRule n rule) s = omega arith
txn_after t (DropsRule n name) s = omega arith
txn_after t (Begins n deadline) s = refl
txn_after t (Queues n deadline operation) s = omega arith
txn_after t (Drops n) s = omega arith

-- ---- all of them

pub entities_after : (t : ℕ) (cs : List Change) (s : Space) → (after_all t cs s).last_entity ≡ s.last_entity + sum_by entities_in cs
entities_after t [] s = omega arith
entities_after t (c ∷ cs) s = omega (arith, entities_after t cs (after t c s), entity_after t c s, sum_by-cons entities_in c cs)

pub locks_after : (t : ℕ) (cs : List Change) (s : Space) → (after_all t cs s).last_lock ≡ s.last_lock + sum_by locks_in cs
locks_after t [] s = omega arith
locks_after t (c ∷ cs) s = omega (arith, locks_after t cs (after t c s), lock_after t c s, sum_by-cons locks_in c cs)

pub txns_after : (t : ℕ) (cs : List Change) (s : Space) → (after_all t cs s).last_txn ≡ s.last_txn + sum_by transactions_in cs
txns_after t [] s = omega arith
txns_after t (c ∷ cs) s = omega (arith, txns_after t cs (after t c s), txn_after t c s, sum_by-cons transactions_in c cs)

-- a sum that is cut at 2^64 - 1 passes the greatest number where it does uncut
pub cut_fits : (n g : ℕ) → nat_le (min n (2 ^ 64 - 1) + g) max_number ≡ nat_le (n + g) max_number
cut_fits n g = grind (arith, nat_tests)

-- the test of a sum is that of what it comes to
pub fits_as : {b : Bool} (last given before sum later : ℕ) → b ≡ nat_le (last + given) max_number → last ≡ before → given ≡ sum → later ≡ before + sum → b ≡ nat_le later max_number
fits_as last given before sum later is last_is given_is later_is = is ∙ ap (λ n. nat_le n max_number) (omega (arith, last_is, given_is, later_is))
