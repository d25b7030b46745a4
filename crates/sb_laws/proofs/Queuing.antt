-- Locks of queued settlements: no two alike, and no session's.
use Rattle.std.proofs.Common.{Bool, List, None, Option, Some, [], ap, arith, false, nat_le, not, refl, rules, subst, suc, sym, true, zero, ℕ, ◌+◌, ◌<◌, ◌==◌, ◌||◌, ◌∷◌, ◌≡◌, ◌≤◌}
use Rattle.std.proofs.lemmas.Bool.Decides.{nat_tests}
use Rattle.std.proofs.lemmas.List.Filters.{sum_by-filter_both}
use Rattle.std.proofs.lemmas.List.Sums.{sum_by-append, sum_by-cons, sum_by-le-sum_by}
use Rattle.std.specs.List.{list_any}
use Rattle.std.specs.Prelude.{find, sum_by}
use Rattle.sb_laws.proofs.Eachs.{is_equal}
use Rattle.sb_laws.proofs.Keeping.{times_in}
use Rattle.sb_laws.proofs.Lists.{changed_none, changed_sum, found_behind, found_here, sum_single}
use Rattle.sb_laws.proofs.Locking.{IsLocked, changed_most, closed_once, copy_once, held_in, holder_once, one, remembered_once, session_once, sorted_sum, taken_once, times_held}
use Rattle.sb_laws.proofs.Measures.{sum_on}
use Rattle.sb_laws.proofs.Sorting.{none_same}
use Rattle.sb_machine.specs.Changes.{after, is_transaction, noted, rule_added, rule_dropped, with_operation, with_rules}
use Rattle.sb_machine.specs.Consistent.{queued_lock}
use Rattle.sb_machine.specs.Each.{Each, has_lock}
use Rattle.sb_machine.specs.Keyed.{changed, with_sorted}
use Rattle.sb_machine.specs.Leaves.{has_id, holder_new, is_held_under, leaf_after, prolonged_holder, remembered, session_in, taken}
use Rattle.sb_machine.specs.Names.{is_before}
use Rattle.sb_machine.specs.Namespace.{entity_of, is_entity, leaf_of, new_entity, with_leaf}
use Rattle.sb_machine.specs.SettleRow.{pending_in, settles}
use Rattle.sb_machine.specs.declared.call.Part.{Part}
use Rattle.sb_machine.specs.declared.call.Part.TheVariants.{Dead, Main, Transfer}
use Rattle.sb_machine.specs.declared.change.Change.{Change}
use Rattle.sb_machine.specs.declared.change.Change.TheVariants.{AddsRule, Begins, Drops, DropsRule, InLeaf, Makes, Notes, Queues, Removes}
use Rattle.sb_machine.specs.declared.change.LeafChange.{LeafChange}
use Rattle.sb_machine.specs.declared.change.LeafChange.TheVariants.{Closes, Ends, Enters, Holds, Opens, Passes, Prolongs, Renews, Stands, Writes}
use Rattle.sb_machine.specs.declared.change.LeafKey.{LeafKey}
use Rattle.sb_machine.specs.declared.state.Entity.{Entity}
use Rattle.sb_machine.specs.declared.state.Leaf.{Leaf}
use Rattle.sb_machine.specs.declared.state.Operation.{Operation}
use Rattle.sb_machine.specs.declared.state.Session.{Session}
use Rattle.sb_machine.specs.declared.state.Space.{Space}
use Rattle.sb_machine.specs.declared.state.StoredCopy.{StoredCopy}
use Rattle.sb_machine.specs.declared.state.Transaction.{Transaction}
use Rattle.sb_machine.specs.declared.state.Operation.TheVariants.{Send as SendLater, Settle as SettleLater}

abbrev pub holders_in : ℕ → Entity → ℕ
holders_in k e = sum_by (session_once k) e.main.sessions + sum_by (session_once k) e.dead.sessions + sum_by (session_once k) e.transfer.sessions

-- how many sessions a lock holds
abbrev pub times_holding : ℕ → Space → ℕ
times_holding k s = sum_by (holders_in k) s.entities

abbrev pub op_times : ℕ → Operation → ℕ
op_times k o = times_in k (queued_lock o)

abbrev pub txn_times : ℕ → Transaction → ℕ
txn_times k x = sum_by (op_times k) x.operations

-- how many queued settlements a lock has
abbrev pub times_queued : ℕ → Space → ℕ
times_queued k s = sum_by (txn_times k) s.transactions

pub record IsClaimed (s : Space) : Type 0 where
  pub most : (k : ℕ) → times_queued k s + times_holding k s ≤ 1
  pub fresh : (k : ℕ) → s.last_lock < k → times_queued k s ≡ 0
  pub none : times_queued 0 s ≡ 0

-- ---- sessions

abbrev pub opened_once : ℕ → ℕ → LeafChange → ℕ
opened_once k lock (Opens id until) = one (lock == k)
opened_once k lock _ = 0

leaf_holders : (k lock t : ℕ) (c : LeafChange) (leaf : Leaf) → sum_by (session_once k) (leaf_after lock t c leaf).sessions ≤ sum_by (session_once k) leaf.sessions + opened_once k lock c
leaf_holders k lock t (Enters fresh) leaf = omega arith
leaf_holders k lock t (Passes cause) leaf = omega arith
leaf_holders k lock t (Ends n by_settlement cause) leaf = omega arith
leaf_holders k lock t (Holds n hold) leaf = omega arith
leaf_holders k lock t (Stands n by_settlement count standing) leaf = omega arith
leaf_holders k lock t (Renews n until) leaf = omega arith
leaf_holders k lock t (Opens id until) leaf = at (session_in id leaf) where
  at : (o : Option Session) → sum_by (session_once k) (elim o as (λ _. List Session) [ Some x ↦ changed (has_id id) (λ y. taken lock until y ∷ []) leaf.sessions | None ↦ with_sorted (λ y. is_before y.id id) (record { id = id; state = None; holder = Some (holder_new lock until) }) leaf.sessions ])
      ≤ sum_by (session_once k) leaf.sessions + one (lock == k)
  at None = omega (arith, sorted_sum (session_once k) (λ y. is_before y.id id) (record { id = id; state = None; holder = Some (holder_new lock until) }) leaf.sessions)
  at (Some x) = omega (arith, changed_most (session_once k) (has_id id) (λ y. taken lock until y ∷ []) (one (lock == k)) leaf.sessions (λ y. omega (arith, sum_single (session_once k) (taken lock until y), taken_once k lock until y)))
leaf_holders k lock t (Closes l) leaf = omega (arith, changed_most (session_once k) (is_held_under l) (λ x. remembered (record x { holder = None })) 0 leaf.sessions (λ x. omega (arith, remembered_once k (record x { holder = None }), closed_once k x)))
leaf_holders k lock t (Prolongs l until) leaf =
    omega (arith, changed_most (session_once k) (is_held_under l) (λ x. record x { holder = prolonged_holder until x.holder } ∷ []) 0 leaf.sessions (λ x. omega (arith, sum_single (session_once k) (record x { holder = prolonged_holder until x.holder }), ap one (holder_once k until x.holder))))
leaf_holders k lock t (Writes l state) leaf = omega (arith, changed_most (session_once k) (is_held_under l) (λ x. remembered (record x { state = state })) 0 leaf.sessions (λ x. omega (arith, remembered_once k (record x { state = state }))))

holders_with : (k : ℕ) (part : Part) (leaf : Leaf) (e : Entity) → holders_in k (with_leaf part leaf e) + sum_by (session_once k) (leaf_of part e).sessions ≡ holders_in k e + sum_by (session_once k) leaf.sessions
holders_with k Main leaf e = omega arith
holders_with k Dead leaf e = omega arith
holders_with k Transfer leaf e = omega arith

abbrev pub opened_in : ℕ → Change → Space → ℕ
opened_in k (InLeaf key c) s = opened_once k (s.last_lock + 1) c
opened_in k _ s = 0

holders_after : (k t : ℕ) (c : Change) (s : Space) → times_holding k (after t c s) ≤ times_holding k s + opened_in k c s
holders_after k t (InLeaf key c) s = at (entity_of key.entity s) refl where
  at : (o : Option Entity) → entity_of key.entity s ≡ o → times_holding k (after t (InLeaf key c) s) ≤ times_holding k s + opened_once k (s.last_lock + 1) c
  at None is = let same = ap (λ (l : List Entity). sum_by (holders_in k) l) (changed_none (is_entity key.entity) (λ e. with_leaf key.part (leaf_after (s.last_lock + 1) t c (leaf_of key.part e)) e ∷ []) s.entities is) in omega (arith, same)
  at (Some e) is =
      let new = leaf_after (s.last_lock + 1) t c (leaf_of key.part e) in
      omega (arith, changed_sum (holders_in k) (is_entity key.entity) (λ d. with_leaf key.part (leaf_after (s.last_lock + 1) t c (leaf_of key.part d)) d ∷ []) e s.entities is, sum_single (holders_in k) (with_leaf key.part new e), holders_with k key.part new e, leaf_holders k (s.last_lock + 1) t c (leaf_of key.part e))
holders_after k t (Notes n id) s = omega (arith, sum_on (holders_in k) n (λ e. record e { ids = noted e.about.description.window id t e.ids }) s.entities (λ e. refl))
holders_after k t (Makes kind path description rules) s =
    let new = new_entity (record { number = s.last_entity + 1; kind = kind; path = path; description = description; rules = rules }) in
    omega (arith, sum_by-append (holders_in k) s.entities (new ∷ []), sum_single (holders_in k) new)
holders_after k t (Removes n) s = omega (arith, sum_by-filter_both (is_entity n) (λ e. not (is_entity n e)) (λ e. refl) (holders_in k) s.entities)
holders_after k t (AddsRule n rule) s = omega (arith, sum_on (holders_in k) n (with_rules (rule_added rule)) s.entities (λ e. refl))
holders_after k t (DropsRule n name) s = omega (arith, sum_on (holders_in k) n (with_rules (rule_dropped name)) s.entities (λ e. refl))
holders_after k t (Begins n deadline) s = omega arith
holders_after k t (Queues n deadline operation) s = omega arith
holders_after k t (Drops n) s = omega arith

-- ---- queued settlements

abbrev pub queued_in : ℕ → Change → ℕ
queued_in k (Queues n deadline operation) = op_times k operation
queued_in k _ = 0

queued_after : (k t : ℕ) (c : Change) (s : Space) → times_queued k (after t c s) ≤ times_queued k s + queued_in k c
queued_after k t (InLeaf key c) s = omega arith
queued_after k t (Notes n id) s = omega arith
queued_after k t (Makes kind path description rules) s = omega arith
queued_after k t (Removes n) s = omega (arith, sum_by-filter_both (λ x. x.entity == n) (λ x. not (x.entity == n)) (λ x. refl) (txn_times k) s.transactions)
queued_after k t (AddsRule n rule) s = omega arith
queued_after k t (DropsRule n name) s = omega arith
queued_after k t (Begins n deadline) s =
    let new : Transaction = record { number = s.last_txn + 1; entity = n; deadline = deadline; operations = [] } in
    omega (arith, sum_by-append (txn_times k) s.transactions (new ∷ []), sum_single (txn_times k) new)
queued_after k t (Queues n deadline operation) s =
    omega (
      arith,
      changed_most (txn_times k) (is_transaction n) (λ x. with_operation deadline operation x ∷ []) (op_times k operation) s.transactions
          (λ x. omega (arith, sum_single (txn_times k) (with_operation deadline operation x), sum_by-append (op_times k) x.operations (operation ∷ []), sum_single (op_times k) operation)),
    )
queued_after k t (Drops n) s = omega (arith, changed_most (txn_times k) (is_transaction n) (λ x. []) 0 s.transactions (λ x. omega arith))

-- ---- every change but two keeps it

holding_few : (k : ℕ) (s : Space) → times_holding k s ≤ times_held k s
holding_few k s = sum_by-le-sum_by (holders_in k) (held_in k) s.entities (λ e. omega arith)

lock_later : (t : ℕ) (c : Change) (s : Space) → s.last_lock ≤ (after t c s).last_lock
lock_later t (InLeaf key c) s = omega arith
lock_later t (Notes n id) s = omega arith
lock_later t (Makes kind path description rules) s = omega arith
lock_later t (Removes n) s = omega arith
lock_later t (AddsRule n rule) s = omega arith
lock_later t (DropsRule n name) s = omega arith
lock_later t (Begins n deadline) s = omega arith
lock_later t (Queues n deadline operation) s = omega arith
lock_later t (Drops n) s = omega arith

pub claimed_plainly : (t : ℕ) (c : Change) (s : Space) → ((k : ℕ) → opened_in k c s ≡ 0) → ((k : ℕ) → queued_in k c ≡ 0) → IsClaimed s → IsClaimed (after t c s)
claimed_plainly t c s no_open no_queue h = record {
  most = λ k. omega (arith, h.most k, holders_after k t c s, queued_after k t c s, no_open k, no_queue k);
  fresh = λ k over. let none = h.fresh k (omega (arith, over, lock_later t c s)) in omega (arith, none, queued_after k t c s, no_queue k);
  none = omega (arith, h.none, queued_after 0 t c s, no_queue 0);
}

pub opens_claimed : (t : ℕ) (key : LeafKey) (id : List ℕ) (until : ℕ) (s : Space) → IsLocked s → IsClaimed s → IsClaimed (after t (InLeaf key (Opens id until)) s)
opens_claimed t key id until s locked h = record {
  most = λ k. at k (s.last_lock + 1 == k) refl;
  fresh = λ k over. let none = h.fresh k (omega (arith, over)) in omega (arith, none, queued_after k t (InLeaf key (Opens id until)) s);
  none = omega (arith, h.none, queued_after 0 t (InLeaf key (Opens id until)) s);
} where
  at : (k : ℕ) (b : Bool) → (s.last_lock + 1 == k) ≡ b → times_queued k (after t (InLeaf key (Opens id until)) s) + times_holding k (after t (InLeaf key (Opens id until)) s) ≤ 1
  at k true is =
      let above_so : s.last_lock < k = omega (arith, is_equal (s.last_lock + 1) k is) in
      omega (arith, h.fresh k above_so, locked.fresh k above_so, holding_few k s, holders_after k t (InLeaf key (Opens id until)) s, queued_after k t (InLeaf key (Opens id until)) s, ap one is)
  at k false is = omega (arith, h.most k, holders_after k t (InLeaf key (Opens id until)) s, queued_after k t (InLeaf key (Opens id until)) s, ap one is)

-- a settlement that is queued is of a lock that no other has and that holds no session
abbrev pub QueueFits : Space → Operation → Type 0
QueueFits s (SendLater to messages) = Unit {0}
QueueFits s (SettleLater from number token session how) = (times_queued token.lock s ≡ 0) × (times_holding token.lock s ≡ 0) × (0 < token.lock) × (token.lock ≤ s.last_lock)

pub queues_claimed : (t n deadline : ℕ) (o : Operation) (s : Space) → QueueFits s o → IsClaimed s → IsClaimed (after t (Queues n deadline o) s)
queues_claimed t n deadline (SendLater to messages) s fits h = claimed_plainly t (Queues n deadline (SendLater to messages)) s (λ k. refl) (λ k. refl) h
queues_claimed t n deadline (SettleLater from number token session how) s fits h = record {
  most = λ k. at k (token.lock == k) refl;
  fresh = λ k over. let none = h.fresh k over in omega (arith, none, queued_after k t (Queues n deadline (SettleLater from number token session how)) s, sum_single (λ l. one (l == k)) token.lock, off k over);
  none = omega (arith, h.none, queued_after 0 t (Queues n deadline (SettleLater from number token session how)) s, sum_single (λ l. one (l == 0)) token.lock, off_zero);
} where
  off : (k : ℕ) → s.last_lock < k → one (token.lock == k) ≡ 0
  off k over = let le : token.lock ≤ s.last_lock = fits.3 in grind (arith, nat_tests)

  off_zero : one (token.lock == 0) ≡ 0
  off_zero = let lt : 0 < token.lock = fits.2 in grind (arith, nat_tests)

  at : (k : ℕ) (b : Bool) → (token.lock == k) ≡ b → times_queued k (after t (Queues n deadline (SettleLater from number token session how)) s) + times_holding k (after t (Queues n deadline (SettleLater from number token session how)) s) ≤ 1
  at k true is =
      let none_queued : times_queued k s ≡ 0 = subst (λ (l : ℕ). times_queued l s ≡ 0) (is_equal token.lock k is) fits.0 in
      let none_holding : times_holding k s ≡ 0 = subst (λ (l : ℕ). times_holding l s ≡ 0) (is_equal token.lock k is) fits.1 in
      omega (arith, none_queued, none_holding, queued_after k t (Queues n deadline (SettleLater from number token session how)) s, sum_single (λ l. one (l == k)) token.lock, ap one is)
  at k false is = omega (arith, h.most k, queued_after k t (Queues n deadline (SettleLater from number token session how)) s, sum_single (λ l. one (l == k)) token.lock, ap one is)

-- ---- what a lease and the want of a pending settlement say

sum_member : {X : Type 0} (f : X → ℕ) (p : X → Bool) (e : X) (xs : List X) → find p xs ≡ Some e → f e ≤ sum_by f xs
sum_member f p e [] is = absurd cc
sum_member f p e (x ∷ xs) is = at (p x) refl (sum_member f p e xs) where
  at : (b : Bool) → p x ≡ b → (find p xs ≡ Some e → f e ≤ sum_by f xs) → f e ≤ sum_by f (x ∷ xs)
  at true passes ih = let same = found_here p x e xs passes is in omega (arith, sum_by-cons f x xs, ap f same)
  at false passes ih = omega (arith, sum_by-cons f x xs, ih (found_behind p x xs (Some e) passes is))

sum_strict : {X : Type 0} (f g : X → ℕ) (p : X → Bool) (e : X) (xs : List X) → ((x : X) → f x ≤ g x) → f e + 1 ≤ g e → find p xs ≡ Some e → sum_by f xs + 1 ≤ sum_by g xs
sum_strict f g p e [] le lt is = absurd cc
sum_strict f g p e (x ∷ xs) le lt is = at (p x) refl (sum_strict f g p e xs le lt) where
  at : (b : Bool) → p x ≡ b → (find p xs ≡ Some e → sum_by f xs + 1 ≤ sum_by g xs) → sum_by f (x ∷ xs) + 1 ≤ sum_by g (x ∷ xs)
  at true passes ih = let same = found_here p x e xs passes is in omega (arith, sum_by-cons f x xs, sum_by-cons g x xs, ap f same, ap g same, lt, sum_by-le-sum_by f g xs le)
  at false passes ih = omega (arith, sum_by-cons f x xs, sum_by-cons g x xs, le x, ih (found_behind p x xs (Some e) passes is))

pub at_or_above : (l last times : ℕ) → 1 ≤ times → (last < l → times ≡ 0) → (l ≡ 0 → times ≡ 0) → (0 < l) × (l ≤ last)
at_or_above zero last times le fresh none = let zero_so = none refl in absurd (omega (arith, le, zero_so))
at_or_above (suc l) last times le fresh none = at (nat_le (suc l) last) refl where
  at : (b : Bool) → nat_le (suc l) last ≡ b → (0 < suc l) × (suc l ≤ last)
  at true is = (omega arith, grind (arith, nat_tests))
  at false is = let zero_so = fresh (grind (arith, nat_tests)) in absurd (omega (arith, le, zero_so))

held_more : (l : ℕ) (part : Part) (e : Entity) → 1 ≤ sum_by (copy_once l) (leaf_of part e).copies → holders_in l e + 1 ≤ held_in l e
held_more l Main e le = omega (arith, le)
held_more l Dead e le = omega (arith, le)
held_more l Transfer e le = omega (arith, le)

pub leased_alone : (s : Space) (l : ℕ) (part : Part) (p : Entity → Bool) (e : Entity) (q : StoredCopy → Bool) (c : StoredCopy) → IsLocked s → find p s.entities ≡ Some e → find q (leaf_of part e).copies ≡ Some c → has_lock l c.standing ≡ true
    → (times_holding l s ≡ 0) × (0 < l) × (l ≤ s.last_lock)
leased_alone s l part p e q c locked there found held =
    let one_copy : 1 ≤ sum_by (copy_once l) (leaf_of part e).copies = omega (arith, sum_member (copy_once l) q c (leaf_of part e).copies found, ap one held) in
    let more : times_holding l s + 1 ≤ times_held l s = sum_strict (holders_in l) (held_in l) p e s.entities (λ e. omega arith) (held_more l part e one_copy) there in
    let range = at_or_above l s.last_lock (times_held l s) (omega (arith, more)) (λ over. locked.fresh l over) (λ is. subst (λ (k : ℕ). times_held k s ≡ 0) (sym is) locked.none) in
    (omega (arith, more, locked.most l), range.0, range.1)

pub none_pending : (l : ℕ) (s : Space) → pending_in l s ≡ None → times_queued l s ≡ 0
none_pending l s none = over s.transactions (none_same (λ x. list_any (settles l) x.operations) s.transactions none) where
  op_none : (o : Operation) → settles l o ≡ false → op_times l o ≡ 0
  op_none (SendLater to messages) off = refl
  op_none (SettleLater from number token session how) off = omega (arith, sum_single (λ k. one (k == l)) token.lock, ap one off)

  split : (a b : Bool) → (a || b) ≡ false → (a ≡ false) × (b ≡ false)
  split false b e = (refl, e)
  split true b e = absurd cc

  ops_none : (os : List Operation) → list_any (settles l) os ≡ false → sum_by (op_times l) os ≡ 0
  ops_none [] off = refl
  ops_none (o ∷ os) off = let parts = split (settles l o) (list_any (settles l) os) off in omega (arith, sum_by-cons (op_times l) o os, op_none o parts.0, ops_none os parts.1)

  over : (xs : List Transaction) → Each (λ x. list_any (settles l) x.operations ≡ false) xs → sum_by (txn_times l) xs ≡ 0
  over [] h = refl
  over (x ∷ xs) h = omega (arith, sum_by-cons (txn_times l) x xs, ops_none x.operations h.0, over xs h.1)
