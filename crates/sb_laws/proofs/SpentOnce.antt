-- A lock is given once and settled once.
use Rattle.std.proofs.Common.{Bool, List, None, Option, Some, [], ap, arith, false, nat_le, refl, true, ℕ, ◌++◌, ◌+◌, ◌<◌, ◌==◌, ◌∙◌, ◌∷◌, ◌≡◌, ◌≤◌}
use Rattle.std.proofs.lemmas.Bool.Decides.{nat_tests}
use Rattle.std.proofs.lemmas.List.Sums.{sum_by-append}
use Rattle.std.specs.Prelude.{if◌then◌else◌, sum_by}
use Rattle.sb_laws.proofs.Along.{kept_by}
use Rattle.sb_laws.proofs.Deeds.{entry_frees}
use Rattle.sb_laws.proofs.Eachs.{each_front}
use Rattle.sb_laws.proofs.Keeping.{copy_times, locked_of, times_in}
use Rattle.sb_laws.proofs.Lists.{changed_none, changed_sum, sum_single}
use Rattle.sb_laws.proofs.Locking.{FreesLock, FreesLocks, IsLocked, copy_once, held_in, held_in_leaf, held_with, leaf_locks, locks_after, newly, newly_in, times_held}
use Rattle.sb_laws.proofs.Measures.{nowhere}
use Rattle.sb_laws.specs.Counting.{one, times}
use Rattle.sb_machine.specs.Accounts.{spent_locks}
use Rattle.sb_machine.specs.Changes.{after}
use Rattle.sb_machine.specs.Consistent.{IsConsistent, locks_of, queued_locks}
use Rattle.sb_machine.specs.Ends.{leaf_spends, lock_of, spends_in}
use Rattle.sb_machine.specs.History.{fresh_log, state_after}
use Rattle.sb_machine.specs.Keyed.{changed}
use Rattle.sb_machine.specs.Leaves.{copy_in, has_number, leaf_after, locks_given}
use Rattle.sb_machine.specs.Namespace.{entity_of, is_entity, leaf_of, with_leaf}
use Rattle.sb_machine.specs.declared.change.Change.{Change}
use Rattle.sb_machine.specs.declared.change.Change.TheVariants.{AddsRule, Begins, Drops, DropsRule, InLeaf, Makes, Notes, Queues, Removes}
use Rattle.sb_machine.specs.declared.change.LeafChange.{LeafChange}
use Rattle.sb_machine.specs.declared.change.LeafChange.TheVariants.{Closes, Ends, Enters, Holds, Opens, Passes, Prolongs, Renews, Stands, Writes}
use Rattle.sb_machine.specs.declared.history.Entry.{Entry}
use Rattle.sb_machine.specs.declared.state.Entity.{Entity}
use Rattle.sb_machine.specs.declared.state.Leaf.{Leaf}
use Rattle.sb_machine.specs.declared.state.Space.{Space}
use Rattle.sb_machine.specs.declared.state.State.{State}
use Rattle.sb_machine.specs.declared.state.StoredCopy.{StoredCopy}

-- ---- in one part

spent_most : (k : ℕ) (b : Bool) (o : Option StoredCopy) → times_in k (if b then lock_of o else []) ≤ times_in k (lock_of o)
spent_most k true o = omega arith
spent_most k false o = omega arith

-- a copy that goes, or stands free of this lock
one_spent : (k n : ℕ) (settled : Bool) (g : StoredCopy → List StoredCopy) (leaf : Leaf) → ((c : StoredCopy) → sum_by (copy_once k) (g c) ≡ 0) → sum_by (copy_once k) (changed (has_number n) g leaf.copies) + times_in k (if settled then lock_of (copy_in n leaf) else []) ≤ sum_by (copy_once k) leaf.copies
one_spent k n settled g leaf none = at (copy_in n leaf) refl where
  at : (o : Option StoredCopy) → copy_in n leaf ≡ o → sum_by (copy_once k) (changed (has_number n) g leaf.copies) + times_in k (if settled then lock_of (copy_in n leaf) else []) ≤ sum_by (copy_once k) leaf.copies
  at None is =
      let same = ap (λ (cs : List StoredCopy). sum_by (copy_once k) cs) (changed_none (has_number n) g leaf.copies is) in
      let nothing : times_in k (lock_of (copy_in n leaf)) ≡ 0 = ap (λ (o : Option StoredCopy). times_in k (lock_of o)) is in
      omega (arith, same, nothing, spent_most k settled (copy_in n leaf))
  at (Some c) is =
      let spent : times_in k (lock_of (copy_in n leaf)) ≡ copy_once k c = ap (λ (o : Option StoredCopy). times_in k (lock_of o)) is ∙ copy_times k c in
      omega (arith, spent, spent_most k settled (copy_in n leaf), changed_sum (copy_once k) (has_number n) g c leaf.copies is, none c)

leaf_spent : (k lock t : ℕ) (c : LeafChange) (leaf : Leaf) → FreesLock k c → held_in_leaf k (leaf_after lock t c leaf) + times_in k (leaf_spends c leaf) ≤ held_in_leaf k leaf + newly k lock c
leaf_spent k lock t (Ends n settled cause) leaf frees = omega (arith, one_spent k n settled (λ c. []) leaf (λ c. refl))
leaf_spent k lock t (Stands n settled count standing) leaf frees = omega (arith, one_spent k n settled (λ c. record c { count = count; standing = standing } ∷ []) leaf (λ c. sum_single (copy_once k) (record c { count = count; standing = standing }) ∙ ap one frees))
leaf_spent k lock t (Enters fresh) leaf frees = omega (arith, leaf_locks k lock t (Enters fresh) leaf frees)
leaf_spent k lock t (Passes cause) leaf frees = omega (arith, leaf_locks k lock t (Passes cause) leaf frees)
leaf_spent k lock t (Holds n hold) leaf frees = omega (arith, leaf_locks k lock t (Holds n hold) leaf frees)
leaf_spent k lock t (Renews n until) leaf frees = omega (arith, leaf_locks k lock t (Renews n until) leaf frees)
leaf_spent k lock t (Opens id until) leaf frees = omega (arith, leaf_locks k lock t (Opens id until) leaf frees)
leaf_spent k lock t (Closes l) leaf frees = omega (arith, leaf_locks k lock t (Closes l) leaf frees)
leaf_spent k lock t (Prolongs l until) leaf frees = omega (arith, leaf_locks k lock t (Prolongs l until) leaf frees)
leaf_spent k lock t (Writes l state) leaf frees = omega (arith, leaf_locks k lock t (Writes l state) leaf frees)

-- ---- each change

locks_spent : (k t : ℕ) (c : Change) (s : Space) → FreesLocks k c → times_held k (after t c s) + times_in k (spends_in t c s) ≤ times_held k s + newly_in k c s
locks_spent k t (InLeaf key c) s frees = at (entity_of key.entity s) refl where
  at : (o : Option Entity) → entity_of key.entity s ≡ o → times_held k (after t (InLeaf key c) s) + times_in k (spends_in t (InLeaf key c) s) ≤ times_held k s + newly k (s.last_lock + 1) c
  at None is =
      let same = ap (λ (es : List Entity). sum_by (held_in k) es) (nowhere t key c s is) in
      let none : times_in k (spends_in t (InLeaf key c) s) ≡ 0 = rw is refl in
      omega (arith, same, none)
  at (Some e) is =
      let new = leaf_after (s.last_lock + 1) t c (leaf_of key.part e) in
      let spent : times_in k (spends_in t (InLeaf key c) s) ≡ times_in k (leaf_spends c (leaf_of key.part e)) = rw is refl in
      omega (arith, changed_sum (held_in k) (is_entity key.entity) (λ d. with_leaf key.part (leaf_after (s.last_lock + 1) t c (leaf_of key.part d)) d ∷ []) e s.entities is, sum_single (held_in k) (with_leaf key.part new e), held_with k key.part new e, leaf_spent k (s.last_lock + 1) t c (leaf_of key.part e) frees, spent)
locks_spent k t (Notes n id) s frees = omega (arith, locks_after k t (Notes n id) s frees)
locks_spent k t (Makes kind path description rules) s frees = omega (arith, locks_after k t (Makes kind path description rules) s frees)
locks_spent k t (Removes n) s frees = omega (arith, locks_after k t (Removes n) s frees)
locks_spent k t (AddsRule n rule) s frees = omega (arith, locks_after k t (AddsRule n rule) s frees)
locks_spent k t (DropsRule n name) s frees = omega (arith, locks_after k t (DropsRule n name) s frees)
locks_spent k t (Begins n deadline) s frees = omega (arith, locks_after k t (Begins n deadline) s frees)
locks_spent k t (Queues n deadline operation) s frees = omega (arith, locks_after k t (Queues n deadline operation) s frees)
locks_spent k t (Drops n) s frees = omega (arith, locks_after k t (Drops n) s frees)

-- what is given is the next number
next_given : (k t : ℕ) (c : Change) (s : Space) → newly_in k c s + one (nat_le k s.last_lock) ≤ one (nat_le k (after t c s).last_lock)
next_given k t (InLeaf key c) s = on (locks_given c) where
  on : (g : ℕ) → (if g == 1 then one (s.last_lock + 1 == k) else 0) + one (nat_le k s.last_lock) ≤ one (nat_le k (s.last_lock + g))
  on g = grind (arith, nat_tests)
next_given k t (Notes n id) s = omega arith
next_given k t (Makes kind path description rules) s = omega arith
next_given k t (Removes n) s = omega arith
next_given k t (AddsRule n rule) s = omega arith
next_given k t (DropsRule n name) s = omega arith
next_given k t (Begins n deadline) s = omega arith
next_given k t (Queues n deadline operation) s = omega arith
next_given k t (Drops n) s = omega arith

-- ---- the fact: a lock holds or was settled at most once, and not before it was given

abbrev IsSpentOnce : Space → List ℕ → Type 0
IsSpentOnce s spent = (k : ℕ) → times_held k s + times_in k spent ≤ one (nat_le k s.last_lock)

keeps_spent : (t : ℕ) (c : Change) (s : Space) (spent : List ℕ) → ((k : ℕ) → FreesLocks k c) → IsSpentOnce s spent → IsSpentOnce (after t c s) (spent ++ spends_in t c s)
keeps_spent t c s spent frees h = λ k. omega (arith, locks_spent k t c s (frees k), next_given k t c s, sum_by-append (λ l. one (l == k)) spent (spends_in t c s), h k)

starts_spent : (s : Space) → IsLocked s → IsSpentOnce s []
starts_spent s h = λ k. at k (times_held k s) (h.most k) (h.fresh k) where
  at : (k n : ℕ) → n ≤ 1 → (s.last_lock < k → n ≡ 0) → n + 0 ≤ one (nat_le k s.last_lock)
  at k n few fresh = on (nat_le k s.last_lock) refl where
    above : nat_le k s.last_lock ≡ false → s.last_lock < k
    above e = grind (arith, nat_tests)

    on : (b : Bool) → nat_le k s.last_lock ≡ b → n + 0 ≤ one b
    on true is = omega (arith, few)
    on false is = omega (arith, fresh (above is))

one_most : (b : Bool) → one b ≤ 1
one_most true = omega arith
one_most false = omega arith

pub spent_once : (s : State) (h : List Entry) (lock : ℕ) → IsConsistent s → times (λ l. l == lock) (spent_locks (fresh_log s) h) ≤ 1
spent_once s h lock consistent =
    let start = starts_spent s.space (locked_of s.space consistent.locks (each_front (λ l. (0 < l) × (l ≤ s.space.last_lock)) (locks_of s.space) (queued_locks s.space) consistent.few_locks)) in
    let whole = kept_by spends_in IsSpentOnce (λ c. (k : ℕ) → FreesLocks k c) keeps_spent entry_frees h (fresh_log s) [] start in
    omega (arith, whole lock, one_most (nat_le lock (state_after s h).space.last_lock))
