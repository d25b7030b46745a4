-- What is queued in a transaction: addresses, numbers and locks stay as they were queued.
use Rattle.std.proofs.Common.{Bool, List, None, Option, Some, [], ap, arith, false, filter, length, map, refl, subst, sym, true, ℕ, ◌+◌, ◌==◌, ◌∙◌, ◌∷◌, ◌≡◌, ◌≤◌}
use Rattle.std.specs.Prelude.{find, is_none, is_some, not}
use Rattle.sb_laws.proofs.Carried.{IsOfAct, act_closes, act_drops, act_ends, act_enters, act_frees, act_frees_locks, act_notes, act_passes, act_waits}
use Rattle.sb_laws.proofs.Carrying.{kept_by_all}
use Rattle.sb_laws.proofs.Eachs.{each_append, each_changed, each_implied}
use Rattle.sb_laws.proofs.Entities.{about_with_leaf}
use Rattle.sb_laws.proofs.Lists.{found_first}
use Rattle.sb_laws.proofs.Locking.{FreesLocks}
use Rattle.sb_laws.proofs.OwnLocks.{HoldsThat, holds_kept, key_at}
use Rattle.sb_laws.proofs.Owning.{AreOwned, IsOwned, other_removed, owned_steps}
use Rattle.sb_laws.proofs.Shapes.{Arrives}
use Rattle.sb_machine.specs.Changes.{after, after_all, is_transaction, noted, rule_added, rule_dropped, with_operation, with_rules}
use Rattle.sb_machine.specs.Each.{Each}
use Rattle.sb_machine.specs.Fields.{is_between, is_number, max_messages}
use Rattle.sb_machine.specs.Keyed.{changed}
use Rattle.sb_machine.specs.Leaves.{leaf_after}
use Rattle.sb_machine.specs.Names.{is_address, is_main, is_same_entity}
use Rattle.sb_machine.specs.Namespace.{entity_of, is_entity, leaf_of, with_leaf}
use Rattle.sb_machine.specs.Settlement.{goes_with}
use Rattle.sb_machine.specs.declared.call.Path.{Path}
use Rattle.sb_machine.specs.declared.change.Change.{Change}
use Rattle.sb_machine.specs.declared.change.Change.TheVariants.{AddsRule, Begins, Drops, DropsRule, InLeaf, Makes, Notes, Queues, Removes}
use Rattle.sb_machine.specs.declared.state.Entity.{Entity}
use Rattle.sb_machine.specs.declared.state.Listed.{Listed}
use Rattle.sb_machine.specs.declared.state.Operation.{Operation}
use Rattle.sb_machine.specs.declared.state.Operation.TheVariants.{Send as SendLater, Settle as SettleLater}
use Rattle.sb_machine.specs.declared.state.Space.{Space}
use Rattle.sb_machine.specs.declared.state.Transaction.{Transaction}

-- ---- an entity's address stays as long as its number is there

path_on : (k n : ℕ) (g : Entity → Entity) (es : List Entity) (d : Entity) → ((e : Entity) → (g e).about.number ≡ e.about.number) → ((e : Entity) → (g e).about.path ≡ e.about.path) → find (is_entity k) (changed (is_entity n) (λ e. g e ∷ []) es) ≡ Some d
    → (e : Entity) × (find (is_entity k) es ≡ Some e) × (d.about.path ≡ e.about.path)
path_on k n g [] d number_is path_is there = absurd cc
path_on k n g (x ∷ xs) d number_is path_is there = at (is_entity n x) refl (is_entity k x) refl (path_on k n g xs d number_is path_is) where
  moved_number : is_entity k (g x) ≡ is_entity k x
  moved_number = ap (λ (m : ℕ). m == k) (number_is x)

  same_one : (y : Entity) → ◌≡◌ {A = Option Entity} (Some y) (Some d) → d ≡ y
  same_one y e = cc

  behind : is_entity k x ≡ false → (e : Entity) × (find (is_entity k) xs ≡ Some e) × (d.about.path ≡ e.about.path) → (e : Entity) × (find (is_entity k) (x ∷ xs) ≡ Some e) × (d.about.path ≡ e.about.path)
  behind off found = (found.0, rw off found.1, found.2)

  at : (b : Bool) → is_entity n x ≡ b → (c : Bool) → is_entity k x ≡ c → (find (is_entity k) (changed (is_entity n) (λ e. g e ∷ []) xs) ≡ Some d → (e : Entity) × (find (is_entity k) xs ≡ Some e) × (d.about.path ≡ e.about.path)) → (e : Entity) × (find (is_entity k) (x ∷ xs) ≡ Some e) × (d.about.path ≡ e.about.path)
  at true is true here ih = let now : ◌≡◌ {A = Option Entity} (Some (g x)) (Some d) = rw (is, moved_number, here) at there in (x, rw here refl, ap (λ (y : Entity). y.about.path) (same_one (g x) now) ∙ path_is x)
  at true is false here ih = let now : find (is_entity k) xs ≡ Some d = rw (is, moved_number, here) at there in behind here (d, now, refl)
  at false is true here ih = let now : ◌≡◌ {A = Option Entity} (Some x) (Some d) = rw (is, here) at there in (x, rw here refl, ap (λ (y : Entity). y.about.path) (same_one x now))
  at false is false here ih = let now : find (is_entity k) (changed (is_entity n) (λ e. g e ∷ []) xs) ≡ Some d = rw (is, here) at there in behind here (ih now)

abbrev PathStays : ℕ → Space → Space → Type 0
PathStays k s later = (d : Entity) → entity_of k later ≡ Some d → (e : Entity) × (entity_of k s ≡ Some e) × (d.about.path ≡ e.about.path)

path_stays : (k t : ℕ) (c : Change) (s : Space) → is_some (entity_of k s) ≡ true → ((n : ℕ) → c ≡ Removes n → (k == n) ≡ false) → PathStays k s (after t c s)
path_stays k t (InLeaf key c) s owned other = λ d there. path_on k key.entity (λ e. with_leaf key.part (leaf_after (s.last_lock + 1) t c (leaf_of key.part e)) e) s.entities d
    (λ e. ap (λ (about : Listed). about.number) (about_with_leaf key.part (leaf_after (s.last_lock + 1) t c (leaf_of key.part e)) e)) (λ e. ap (λ (about : Listed). about.path) (about_with_leaf key.part (leaf_after (s.last_lock + 1) t c (leaf_of key.part e)) e)) there
path_stays k t (Notes n id) s owned other = λ d there. path_on k n (λ e. record e { ids = noted e.about.description.window id t e.ids }) s.entities d (λ e. refl) (λ e. refl) there
path_stays k t (Makes kind path description rules) s owned other = λ d there. at d (find (is_entity k) s.entities) refl owned there where
  same_one : (y d : Entity) → ◌≡◌ {A = Option Entity} (Some y) (Some d) → d ≡ y
  same_one y d e = cc

  at : (d : Entity) (o : Option Entity) → find (is_entity k) s.entities ≡ o → is_some o ≡ true → find (is_entity k) (after t (Makes kind path description rules) s).entities ≡ Some d → (e : Entity) × (find (is_entity k) s.entities ≡ Some e) × (d.about.path ≡ e.about.path)
  at d None is owned there = absurd cc
  at d (Some e) is owned there = (e, is, ap (λ (y : Entity). y.about.path) (same_one e d (sym (found_first (is_entity k) e s.entities _ is) ∙ there)))
path_stays k t (Removes n) s owned other = λ d there. (d, sym (other_removed k n s.entities (other n refl)) ∙ there, refl)
path_stays k t (AddsRule n rule) s owned other = λ d there. path_on k n (with_rules (rule_added rule)) s.entities d (λ e. refl) (λ e. refl) there
path_stays k t (DropsRule n name) s owned other = λ d there. path_on k n (with_rules (rule_dropped name)) s.entities d (λ e. refl) (λ e. refl) there
path_stays k t (Begins n deadline) s owned other = λ d there. (d, there, refl)
path_stays k t (Queues n deadline operation) s owned other = λ d there. (d, there, refl)
path_stays k t (Drops n) s owned other = λ d there. (d, there, refl)

-- ---- operations

-- as an operation was queued on the entity of this address
abbrev pub IsPlaced : Path → Operation → Type 0
IsPlaced path (SendLater to messages) =
    (is_address to ≡ true) × (is_main to.part ≡ true) × (is_none to.subscription ≡ true) × (is_between 1 max_messages (length messages) ≡ true) × (is_same_entity to path ≡ false → Each (λ m. m.schedule ≡ None) messages)
IsPlaced path (SettleLater from number token session how) = (is_same_entity from path ≡ true) × (is_number number ≡ true) × (goes_with how from.part ≡ true)

-- what a queued settlement's lock holds is the copy that it names
abbrev pub OwnsLock : Space → ℕ → Operation → Type 0
OwnsLock s n (SendLater to messages) = Unit {0}
OwnsLock s n (SettleLater from number token session how) = (token.lock ≤ s.last_lock) × HoldsThat token.lock (key_at n from.part) number s

pub record IsQueuedIn (s : Space) (x : Transaction) : Type 0 where
  pub placed : (e : Entity) → entity_of x.entity s ≡ Some e → Each (IsPlaced e.about.path) x.operations
  pub owns : Each (OwnsLock s x.entity) x.operations

abbrev pub ArePlaced : Space → Type 0
ArePlaced s = Each (IsQueuedIn s) s.transactions

later_lock : (t : ℕ) (c : Change) (s : Space) → s.last_lock ≤ (after t c s).last_lock
later_lock t (InLeaf key c) s = omega arith
later_lock t (Notes n id) s = omega arith
later_lock t (Makes kind path description rules) s = omega arith
later_lock t (Removes n) s = omega arith
later_lock t (AddsRule n rule) s = omega arith
later_lock t (DropsRule n name) s = omega arith
later_lock t (Begins n deadline) s = omega arith
later_lock t (Queues n deadline operation) s = omega arith
later_lock t (Drops n) s = omega arith

owns_later : (t : ℕ) (c : Change) (s : Space) (n : ℕ) → ((k : ℕ) → FreesLocks k c) → (o : Operation) → OwnsLock s n o → OwnsLock (after t c s) n o
owns_later t c s n frees (SendLater to messages) is = tt
owns_later t c s n frees (SettleLater from number token session how) is = (omega (arith, is.0, later_lock t c s), holds_kept token.lock (key_at n from.part) number t c s is.0 (frees token.lock) is.1)

queued_later : (t : ℕ) (c : Change) (s : Space) (x : Transaction) → ((k : ℕ) → FreesLocks k c) → ((n : ℕ) → c ≡ Removes n → (x.entity == n) ≡ false) → IsOwned s x → IsQueuedIn s x → IsQueuedIn (after t c s) x
queued_later t c s x frees other owned is = record {
  placed = λ d there. let before = path_stays x.entity t c s owned other d there in subst (λ (p : Path). Each (IsPlaced p) x.operations) (sym before.2) (is.placed before.0 before.1);
  owns = each_implied (OwnsLock s x.entity) (OwnsLock (after t c s) x.entity) (owns_later t c s x.entity frees) x.operations is.owns;
}

-- what a change queues is placed so
abbrev pub QueuesPlaced : Change → Space → Type 0
QueuesPlaced (Queues n deadline o) s = (x : Transaction) → find (is_transaction n) s.transactions ≡ Some x → OwnsLock s x.entity o × ((e : Entity) → entity_of x.entity s ≡ Some e → IsPlaced e.about.path o)
QueuesPlaced _ s = Unit {0}

all_later : (t : ℕ) (c : Change) (s : Space) → ((k : ℕ) → FreesLocks k c) → ((n : ℕ) → c ≡ Removes n → ⊥) → (xs : List Transaction) → Each (IsOwned s) xs → Each (IsQueuedIn s) xs → Each (IsQueuedIn (after t c s)) xs
all_later t c s frees keeps [] owned h = tt
all_later t c s frees keeps (x ∷ xs) owned h = (queued_later t c s x frees (λ n is. absurd (keeps n is)) owned.0 h.0, all_later t c s frees keeps xs owned.1 h.1)

others_later : (t n : ℕ) (s : Space) (xs : List Transaction) → Each (IsOwned s) xs → Each (IsQueuedIn s) xs → Each (IsQueuedIn (after t (Removes n) s)) (filter (λ x. not (x.entity == n)) xs)
others_later t n s [] owned h = tt
others_later t n s (x ∷ xs) owned h = at (x.entity == n) refl (others_later t n s xs owned.1 h.1) where
  number_is : (m : ℕ) → ◌≡◌ {A = Change} (Removes n) (Removes m) → n ≡ m
  number_is m e = cc

  at : (b : Bool) → (x.entity == n) ≡ b → Each (IsQueuedIn (after t (Removes n) s)) (filter (λ x. not (x.entity == n)) xs) → Each (IsQueuedIn (after t (Removes n) s)) (filter (λ x. not (x.entity == n)) (x ∷ xs))
  at true is ih = rw is ih
  at false is ih = rw is (queued_later t (Removes n) s x (λ k. tt) (λ m e. subst (λ (l : ℕ). (x.entity == l) ≡ false) (number_is m e) is) owned.0 h.0, ih)

pub placed_step : (t : ℕ) (c : Change) (s : Space) → ((k : ℕ) → FreesLocks k c) → QueuesPlaced c s → AreOwned s → ArePlaced s → ArePlaced (after t c s)
placed_step t (InLeaf key c) s frees queues owned h = all_later t (InLeaf key c) s frees (λ n is. cc) s.transactions owned h
placed_step t (Notes n id) s frees queues owned h = all_later t (Notes n id) s frees (λ n is. cc) s.transactions owned h
placed_step t (Makes kind path description rules) s frees queues owned h = all_later t (Makes kind path description rules) s frees (λ n is. cc) s.transactions owned h
placed_step t (Removes n) s frees queues owned h = others_later t n s s.transactions owned h
placed_step t (AddsRule n rule) s frees queues owned h = all_later t (AddsRule n rule) s frees (λ n is. cc) s.transactions owned h
placed_step t (DropsRule n name) s frees queues owned h = all_later t (DropsRule n name) s frees (λ n is. cc) s.transactions owned h
placed_step t (Begins n deadline) s frees queues owned h =
    each_append (IsQueuedIn (after t (Begins n deadline) s)) s.transactions _ (all_later t (Begins n deadline) s frees (λ n is. cc) s.transactions owned h) (record { placed = λ e there. tt; owns = tt }, tt)
placed_step t (Queues n deadline o) s frees queues owned h =
    each_changed (IsQueuedIn (after t (Queues n deadline o) s)) (is_transaction n) (λ x. with_operation deadline o x ∷ []) s.transactions
    (λ x there is. (record { placed = λ e at_e. each_append (IsPlaced e.about.path) x.operations (o ∷ []) (is.placed e at_e) ((queues x there).1 e at_e, tt); owns = each_append (OwnsLock (after t (Queues n deadline o) s) x.entity) x.operations (o ∷ []) is.owns (owns_later t (Queues n deadline o) s x.entity frees o (queues x there).0, tt) }, tt))
    (all_later t (Queues n deadline o) s frees (λ n is. cc) s.transactions owned h)
placed_step t (Drops n) s frees queues owned h = each_changed (IsQueuedIn (after t (Drops n) s)) (is_transaction n) (λ x. []) s.transactions (λ x there is. tt) (all_later t (Drops n) s frees (λ n is. cc) s.transactions owned h)

-- ---- lists of changes that queue nothing

act_queues_none : (t : ℕ) (c : Change) (s : Space) → IsOfAct Arrives t c → QueuesPlaced c s
act_queues_none t _ s (act_enters key seq hops m few p) = tt
act_queues_none t _ s (act_waits key moment m later p) = tt
act_queues_none t _ s (act_passes key cause) = tt
act_queues_none t _ s (act_ends key n by_settlement cause) = tt
act_queues_none t _ s (act_frees key n by_settlement count standing free few) = tt
act_queues_none t _ s (act_closes key l) = tt
act_queues_none t _ s (act_notes n id) = tt
act_queues_none t _ s (act_drops n) = tt

abbrev pub IsSettled : Space → Type 0
IsSettled s = AreOwned s × ArePlaced s

pub acts_placed : (t : ℕ) (cs : List Change) (s : Space) → Each (IsOfAct Arrives t) cs → IsSettled s → IsSettled (after_all t cs s)
acts_placed t cs s acts h = kept_by_all (IsOfAct Arrives t) IsSettled t (λ c now is so. ((owned_steps t s).acts c now is so.0, placed_step t c now (λ k. act_frees_locks Arrives t c k is) (act_queues_none t c now is) so.0 so.1)) cs s acts h

pub removed_placed : (t : ℕ) (es : List Entity) (s : Space) → IsSettled s → IsSettled (after_all t (map (λ x. Removes x.about.number) es) s)
removed_placed t [] s h = h
removed_placed t (e ∷ es) s h = removed_placed t es (after t (Removes e.about.number) s) ((owned_steps t s).removes e.about.number s h.0, placed_step t (Removes e.about.number) s (λ k. tt) tt h.0 h.1)
