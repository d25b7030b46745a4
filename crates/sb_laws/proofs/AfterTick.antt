-- Behind a tick nothing is due at its moment: its sweeps put together.
use Rattle.std.proofs.Common.{Bool, List, None, Option, Some, [], arith, false, filter, map, nat_le, not, refl, rules, subst, sym, true, ℕ, ◌&&◌, ◌++◌, ◌+◌, ◌==◌, ◌||◌, ◌∷◌, ◌≡◌}
use Rattle.std.proofs.lemmas.Bool.Decides.{nat_tests}
use Rattle.std.specs.List.{flat_map, list_any}
use Rattle.sb_laws.proofs.Closing.{AreHeldOn, has_run_out}
use Rattle.sb_laws.proofs.Eachs.{each_by_key, each_changed, each_implied, each_settled, is_equal, like_gone, like_one, rising_append, rising_changed, rising_filter}
use Rattle.sb_laws.proofs.Entities.{copy_number, entity_number}
use Rattle.sb_laws.proofs.NothingDue.{under_no_ended, until_over}
use Rattle.sb_laws.proofs.Swept.{AreFine, Test}
use Rattle.sb_machine.specs.Changes.{after, after_all, is_transaction, with_operation}
use Rattle.sb_machine.specs.Due.{closes_due, closes_in, due_transactions, items_in, items_of}
use Rattle.sb_machine.specs.Each.{Each}
use Rattle.sb_machine.specs.Keyed.{AreRising, changed}
use Rattle.sb_machine.specs.Leases.{has_ended, is_ended_holder}
use Rattle.sb_machine.specs.Leaves.{is_held_under}
use Rattle.sb_machine.specs.Namespace.{leaf_of}
use Rattle.sb_machine.specs.declared.call.Part.{Part}
use Rattle.sb_machine.specs.declared.call.Part.TheVariants.{Dead, Main, Transfer}
use Rattle.sb_machine.specs.declared.change.Change.{Change}
use Rattle.sb_machine.specs.declared.change.Change.TheVariants.{AddsRule, Begins, Drops, DropsRule, InLeaf, Makes, Notes, Queues, Removes}
use Rattle.sb_machine.specs.declared.change.LeafKey.{LeafKey}
use Rattle.sb_machine.specs.declared.state.Entity.{Entity}
use Rattle.sb_machine.specs.declared.state.Holder.{Holder}
use Rattle.sb_machine.specs.declared.state.Leaf.{Leaf}
use Rattle.sb_machine.specs.declared.state.Session.{Session}
use Rattle.sb_machine.specs.declared.state.Space.{Space}
use Rattle.sb_machine.specs.declared.state.Standing.{Standing}
use Rattle.sb_machine.specs.declared.state.Standing.TheVariants.{Deferred, Held, Ready, Scheduled}
use Rattle.sb_machine.specs.declared.state.StoredCopy.{StoredCopy}
use Rattle.sb_machine.specs.declared.state.Transaction.{Transaction}
use Rattle.sb_machine.specs.declared.state.Hold.TheVariants.{Until, Session as UnderSession}

-- ---- what holds of each number, part and lock holds of all

pub swapped : {X : Type 0} {K : Type 0} (R : K → X → Type 0) (xs : List X) → ((k : K) → Each (R k) xs) → Each (λ x. (k : K) → R k x) xs
swapped R [] h = tt
swapped R (x ∷ xs) h = ((λ k. (h k).0), swapped R xs (λ k. (h k).1))

pub all_copies : (q : Test) (part : Part) (s : Space) → ((key : LeafKey) (n : ℕ) → AreFine q key n s) → Each (λ e. Each (λ c. q part c ≡ true) (leaf_of part e).copies) s.entities
all_copies q part s h = each_by_key (λ e. Each (λ c. q part c ≡ true) (leaf_of part e).copies) entity_number s.entities (λ k. by k) where
  by : (k : ℕ) → Each (λ e. e.about.number ≡ k → Each (λ c. q part c ≡ true) (leaf_of part e).copies) s.entities
  by k = each_implied (λ e. (n : ℕ) → e.about.number ≡ k → Each (λ c. c.number ≡ n → q part c ≡ true) (leaf_of part e).copies) (λ e. e.about.number ≡ k → Each (λ c. q part c ≡ true) (leaf_of part e).copies)
      (λ e all own. each_by_key (λ c. q part c ≡ true) copy_number (leaf_of part e).copies (λ n. all n own)) s.entities
      (swapped (λ n e. e.about.number ≡ k → Each (λ c. c.number ≡ n → q part c ≡ true) (leaf_of part e).copies) s.entities (λ n. h (record { entity = k; part = part }) n))

pub all_sessions : (t : ℕ) (part : Part) (s : Space) → ((key : LeafKey) (l : ℕ) → AreHeldOn t key l s) → Each (λ e. Each (λ x. has_run_out t x ≡ false) (leaf_of part e).sessions) s.entities
all_sessions t part s h = each_by_key (λ e. Each (λ x. has_run_out t x ≡ false) (leaf_of part e).sessions) entity_number s.entities (λ k. by k) where
  one : (o : Option Holder) → ((l : ℕ) → ◌≡◌ {A = Bool} (elim o [ Some h ↦ h.lock == l | None ↦ false ]) true → ◌≡◌ {A = Bool} (elim o [ Some h ↦ nat_le h.until t | None ↦ false ]) false) → ◌≡◌ {A = Bool} (elim o [ Some h ↦ nat_le h.until t | None ↦ false ]) false
  one None all = refl
  one (Some h) all = all h.lock (equal h.lock) where
    equal : (a : ℕ) → (a == a) ≡ true
    equal a = grind (arith, nat_tests)

  by : (k : ℕ) → Each (λ e. e.about.number ≡ k → Each (λ x. has_run_out t x ≡ false) (leaf_of part e).sessions) s.entities
  by k = each_implied (λ e. (l : ℕ) → e.about.number ≡ k → Each (λ x. is_held_under l x ≡ true → has_run_out t x ≡ false) (leaf_of part e).sessions) (λ e. e.about.number ≡ k → Each (λ x. has_run_out t x ≡ false) (leaf_of part e).sessions)
      (λ e all own. each_implied (λ x. (l : ℕ) → is_held_under l x ≡ true → has_run_out t x ≡ false) (λ x. has_run_out t x ≡ false) (λ x each. one x.holder each) (leaf_of part e).sessions
      (swapped (λ l x. is_held_under l x ≡ true → has_run_out t x ≡ false) (leaf_of part e).sessions (λ l. all l own))) s.entities
      (swapped (λ l e. e.about.number ≡ k → Each (λ x. is_held_under l x ≡ true → has_run_out t x ≡ false) (leaf_of part e).sessions) s.entities (λ l. h (record { entity = k; part = part }) l))

-- ---- then nothing is found

pub filter_none : {X : Type 0} (p : X → Bool) (xs : List X) → Each (λ x. p x ≡ false) xs → filter p xs ≡ []
filter_none p [] h = refl
filter_none p (x ∷ xs) h = rw h.0 (filter_none p xs h.1)

pub flat_none : {X Y : Type 0} (f : X → List Y) (xs : List X) → Each (λ x. f x ≡ []) xs → flat_map f xs ≡ []
flat_none f [] h = refl
flat_none f (x ∷ xs) h = rw h.0 (flat_none f xs h.1)

pub no_items_in : (p : Leaf → StoredCopy → Bool) (e : Entity) (part : Part) → Each (λ c. p (leaf_of part e) c ≡ false) (leaf_of part e).copies → items_in p e part ≡ []
no_items_in p e part h = rw (filter_none (p (leaf_of part e)) (leaf_of part e).copies h) refl

pub no_items : (p : Leaf → StoredCopy → Bool) (es : List Entity) → ((part : Part) → Each (λ e. Each (λ c. p (leaf_of part e) c ≡ false) (leaf_of part e).copies) es) → flat_map (items_of p) es ≡ []
no_items p es h = flat_none (items_of p) es (over es (h Main) (h Dead) (h Transfer)) where
  over : (es : List Entity) → Each (λ e. Each (λ c. p e.main c ≡ false) e.main.copies) es → Each (λ e. Each (λ c. p e.dead c ≡ false) e.dead.copies) es → Each (λ e. Each (λ c. p e.transfer c ≡ false) e.transfer.copies) es → Each (λ e. items_of p e ≡ []) es
  over [] a b c = tt
  over (e ∷ es) a b c = ((rw (no_items_in p e Main a.0, no_items_in p e Dead b.0, no_items_in p e Transfer c.0) refl), over es a.1 b.1 c.1)

pub is_off : (b : Bool) → not b ≡ true → b ≡ false
is_off true e = absurd cc
is_off false e = refl

pub both_each : (t : ℕ) (part : Part) (es : List Entity) → Each (λ e. Each (λ c. under_no_ended t part c ≡ true) (leaf_of part e).copies) es → Each (λ e. Each (λ x. has_run_out t x ≡ false) (leaf_of part e).sessions) es
    → Each (λ e. Each (λ c. has_ended t (leaf_of part e).sessions c.standing ≡ false) (leaf_of part e).copies) es
both_each t part [] h k = tt
both_each t part (e ∷ es) h k = (each_implied (λ c. under_no_ended t part c ≡ true) (λ c. has_ended t (leaf_of part e).sessions c.standing ≡ false) (λ c so. over c.standing so) (leaf_of part e).copies h.0, both_each t part es h.1 k.1) where
  none_ended : (l : ℕ) (xs : List Session) → Each (λ x. has_run_out t x ≡ false) xs → list_any (is_ended_holder t l) xs ≡ false
  none_ended l [] h = refl
  none_ended l (x ∷ xs) h = rw (at x.holder h.0) (none_ended l xs h.1) where
    at : (o : Option Holder) → ◌≡◌ {A = Bool} (elim o [ Some h ↦ nat_le h.until t | None ↦ false ]) false → ◌≡◌ {A = Bool} (elim o [ Some h ↦ (h.lock == l) && nat_le h.until t | None ↦ false ]) false
    at None is = refl
    at (Some h) is = rw is (go (h.lock == l)) where
      go : (b : Bool) → (b && false) ≡ false
      go true = refl
      go false = refl

  over : (standing : Standing) → not (until_over t standing) ≡ true → has_ended t (leaf_of part e).sessions standing ≡ false
  over (Held lock (Until u) deferred) so = is_off (nat_le u t) so
  over (Held lock (UnderSession l) deferred) so = none_ended l (leaf_of part e).sessions k.0
  over Ready so = refl
  over Deferred so = refl
  over (Scheduled moment) so = refl

-- ---- transactions

abbrev pub txn_number : Transaction → ℕ
txn_number x = x.number

-- open transactions stand in rising number
abbrev pub TransactionsRise : Space → Type 0
TransactionsRise s = AreRising txn_number 0 s.last_txn s.transactions

pub transactions_rise : (t : ℕ) (c : Change) (s : Space) → TransactionsRise s → TransactionsRise (after t c s)
transactions_rise t (InLeaf key c) s h = h
transactions_rise t (Notes n id) s h = h
transactions_rise t (Makes kind path description rules) s h = h
transactions_rise t (Removes n) s h = rising_filter txn_number (λ x. not (x.entity == n)) 0 s.last_txn s.transactions h
transactions_rise t (AddsRule n rule) s h = h
transactions_rise t (DropsRule n name) s h = h
transactions_rise t (Begins n deadline) s h = rising_append txn_number 0 s.last_txn (record { number = s.last_txn + 1; entity = n; deadline = deadline; operations = [] }) s.transactions refl h
transactions_rise t (Queues n deadline operation) s h = rising_changed txn_number (is_transaction n) (λ x. with_operation deadline operation x ∷ []) 0 s.last_txn s.transactions (λ x. like_one refl) h
transactions_rise t (Drops n) s h = rising_changed txn_number (is_transaction n) (λ x. []) 0 s.last_txn s.transactions (λ x. like_gone) h

pub transactions_rise_all : (t : ℕ) (cs : List Change) (s : Space) → TransactionsRise s → TransactionsRise (after_all t cs s)
transactions_rise_all t [] s h = h
transactions_rise_all t (c ∷ cs) s h = transactions_rise_all t cs (after t c s) (transactions_rise t c s h)

module _ (t : ℕ) (m : ℕ) where
  abbrev pub AreRunning : Space → Type 0
  AreRunning s = Each (λ x. x.number ≡ m → nat_le x.deadline t ≡ false) s.transactions

  pub running_behind : (ds : List Transaction) (s : Space) → TransactionsRise s → (list_any (is_transaction m) ds ≡ false → AreRunning s) → AreRunning (after_all t (map (λ x. Drops x.number) ds) s)
  running_behind [] s rise h = h refl
  running_behind (d ∷ ds) s rise h = running_behind ds (after t (Drops d.number) s) (transactions_rise t (Drops d.number) s rise) (at (is_transaction m d) refl) where
    at : (b : Bool) → is_transaction m d ≡ b → list_any (is_transaction m) ds ≡ false → AreRunning (after t (Drops d.number) s)
    at true is none = subst (λ (n : ℕ). Each (λ x. x.number ≡ m → nat_le x.deadline t ≡ false) (changed (is_transaction n) (λ x. []) s.transactions)) (sym (is_equal d.number m is))
        (each_settled (λ x. nat_le x.deadline t ≡ false) txn_number m (λ x. []) 0 s.last_txn s.transactions rise (λ x there. tt))
    at false is none = each_changed (λ x. x.number ≡ m → nat_le x.deadline t ≡ false) (is_transaction d.number) (λ x. []) s.transactions (λ x there on. tt) (h (rw is none))

  pub running_at : (xs : List Transaction) → list_any (is_transaction m) (filter (λ x. nat_le x.deadline t) xs) ≡ false → Each (λ x. x.number ≡ m → nat_le x.deadline t ≡ false) xs
  running_at [] none = tt
  running_at (x ∷ xs) none = at (nat_le x.deadline t) refl (running_at xs) where
    equal : (a b : ℕ) → a ≡ b → (a == b) ≡ true
    equal a b is = grind (arith, nat_tests)

    split : (a b : Bool) → (a || b) ≡ false → (a ≡ false) × (b ≡ false)
    split false b e = (refl, e)
    split true b e = absurd cc

    at : (b : Bool) → nat_le x.deadline t ≡ b → (list_any (is_transaction m) (filter (λ x. nat_le x.deadline t) xs) ≡ false → Each (λ x. x.number ≡ m → nat_le x.deadline t ≡ false) xs) → Each (λ x. x.number ≡ m → nat_le x.deadline t ≡ false) (x ∷ xs)
    at true is ih =
        let parts = split (is_transaction m x) (list_any (is_transaction m) (filter (λ x. nat_le x.deadline t) xs)) (rw is at none) in
        ((λ same. let bad : true ≡ false = rw (equal x.number m same) at parts.0 in absurd cc), ih parts.1)
    at false is ih = ((λ same. is), ih (rw is at none))

pub no_transactions : (t : ℕ) (s : Space) → ((m : ℕ) → AreRunning t m s) → due_transactions t s ≡ []
no_transactions t s h = rw (filter_none (λ x. nat_le x.deadline t) s.transactions (each_by_key (λ x. nat_le x.deadline t ≡ false) txn_number s.transactions h)) refl

-- ---- no session is closed where none has run out

pub no_sessions : (t : ℕ) (es : List Entity) → ((part : Part) → Each (λ e. Each (λ x. has_run_out t x ≡ false) (leaf_of part e).sessions) es) → flat_map (λ e. closes_in t e Main ++ closes_in t e Dead ++ closes_in t e Transfer) es ≡ []
no_sessions t es h = flat_none (λ e. closes_in t e Main ++ closes_in t e Dead ++ closes_in t e Transfer) es (over es (h Main) (h Dead) (h Transfer)) where
  none : (e : Entity) (part : Part) (xs : List Session) → Each (λ x. has_run_out t x ≡ false) xs → flat_map (λ x. closes_due t e part x.holder) xs ≡ []
  none e part [] h = refl
  none e part (x ∷ xs) h = rw (at x.holder h.0) (none e part xs h.1) where
    at : (o : Option Holder) → ◌≡◌ {A = Bool} (elim o [ Some h ↦ nat_le h.until t | None ↦ false ]) false → closes_due t e part o ≡ []
    at None is = refl
    at (Some h) is = rw is refl

  over : (es : List Entity) → Each (λ e. Each (λ x. has_run_out t x ≡ false) e.main.sessions) es → Each (λ e. Each (λ x. has_run_out t x ≡ false) e.dead.sessions) es → Each (λ e. Each (λ x. has_run_out t x ≡ false) e.transfer.sessions) es
      → Each (λ e. (closes_in t e Main ++ closes_in t e Dead ++ closes_in t e Transfer) ≡ []) es
  over [] a b c = tt
  over (e ∷ es) a b c = ((rw (none e Main e.main.sessions a.0, none e Dead e.dead.sessions b.0, none e Transfer e.transfer.sessions c.0) refl), over es a.1 b.1 c.1)
