-- What a tick's changes are.
use Rattle.std.proofs.Common.{Bool, List, None, Option, Some, [], arith, false, filter, map, nat_le, refl, true, ℕ, ◌&&◌, ◌++◌, ◌∷◌, ◌≡◌, ◌≤◌}
use Rattle.std.specs.List.{flat_map}
use Rattle.std.specs.Prelude.{if◌then◌else◌}
use Rattle.sb_laws.proofs.Carrying.{Brings, Carries, each_flat, each_in_turn, each_item_in, item, listed_carried, stays_carried}
use Rattle.sb_laws.proofs.Eachs.{each_append, each_both, each_implied, each_of_all}
use Rattle.sb_laws.proofs.Entities.{EachLeaf, leaf_each}
use Rattle.sb_laws.proofs.Mild.{IsCarried, IsMild, delivered_mild, expired_mild, raised_most, released_mild}
use Rattle.sb_laws.proofs.Visiting.{Travels, visits_hold}
use Rattle.sb_machine.specs.Changes.{after}
use Rattle.sb_machine.specs.Delivery.{back_to, carried, expired, in_part, is_expired, max_count, raised, released}
use Rattle.sb_machine.specs.Due.{Item, activated, closes_due, closes_in, due_expired, due_locks, due_scheduled, due_sessions, due_transactions, items_in, items_of, sweep_expired, sweep_locks, sweep_scheduled}
use Rattle.sb_machine.specs.Each.{Each}
use Rattle.sb_machine.specs.Leases.{has_come, has_ended, is_ready, was_deferred}
use Rattle.sb_machine.specs.Namespace.{key_of, leaf_of, listed}
use Rattle.sb_machine.specs.Visits.{max_hops, visits}
use Rattle.sb_machine.specs.declared.call.Part.{Part}
use Rattle.sb_machine.specs.declared.call.Part.TheVariants.{Dead, Main, Transfer}
use Rattle.sb_machine.specs.declared.change.Cause.{Cause}
use Rattle.sb_machine.specs.declared.change.Cause.TheVariants.{Activated}
use Rattle.sb_machine.specs.declared.change.Change.{Change}
use Rattle.sb_machine.specs.declared.change.Change.TheVariants.{Drops, InLeaf}
use Rattle.sb_machine.specs.declared.change.LeafChange.TheVariants.{Closes, Ends, Enters, Passes, Stands}
use Rattle.sb_machine.specs.declared.change.LeafKey.{LeafKey}
use Rattle.sb_model.specs.declared.message.Message.{Message}
use Rattle.sb_machine.specs.declared.rule.Rule.{Rule}
use Rattle.sb_machine.specs.declared.state.Entity.{Entity}
use Rattle.sb_machine.specs.declared.state.Holder.{Holder}
use Rattle.sb_machine.specs.declared.state.Leaf.{Leaf}
use Rattle.sb_machine.specs.declared.state.Listed.{Listed}
use Rattle.sb_machine.specs.declared.state.Session.{Session}
use Rattle.sb_machine.specs.declared.state.Space.{Space}
use Rattle.sb_machine.specs.declared.state.Standing.{Standing}
use Rattle.sb_machine.specs.declared.state.Standing.TheVariants.{Deferred, Held, Ready, Scheduled}
use Rattle.sb_machine.specs.declared.state.StoredCopy.{StoredCopy}
use Rattle.sb_machine.specs.declared.state.Transaction.{Transaction}

abbrev pub is_free : Standing → Bool
is_free Ready = true
is_free Deferred = true
is_free (Held lock hold deferred) = false
is_free (Scheduled at) = false

-- a change of a tick; of the first sweep, or of the others
pub data IsOfTick (P : Message → Type 0) : Bool → Change → Type 0 where
  tick_enters : {first_one : Bool} (key : LeafKey) (seq : Option ℕ) (hops : ℕ) (m : Message) → hops ≤ max_hops → P m → IsOfTick P first_one (InLeaf key (Enters (record { seq = seq; hops = hops; standing = Ready; message = m })))
  tick_passes : {first_one : Bool} (key : LeafKey) (cause : Cause) → IsOfTick P first_one (InLeaf key (Passes cause))
  tick_ends : {first_one : Bool} (key : LeafKey) (n : ℕ) (by_settlement : Bool) (cause : Cause) → IsOfTick P first_one (InLeaf key (Ends n by_settlement cause))
  tick_drops : {first_one : Bool} (n : ℕ) → IsOfTick P first_one (Drops n)
  tick_frees : (key : LeafKey) (n : ℕ) (by_settlement : Bool) (count : ℕ) (standing : Standing) → is_free standing ≡ true → count ≤ max_count → IsOfTick P true (InLeaf key (Stands n by_settlement count standing))
  tick_closes : (key : LeafKey) (l : ℕ) → IsOfTick P true (InLeaf key (Closes l))

pub tick_mild : (P : Message → Type 0) (first_one : Bool) → IsMild P (IsOfTick P first_one)
tick_mild P first_one = record { enters = λ key seq hops m few p. tick_enters key seq hops m few p; passes = λ key cause. tick_passes key cause; goes = λ key n by_settlement cause. tick_ends key n by_settlement cause }

pub back_is_free : (standing : Standing) → is_free (back_to standing) ≡ true
back_is_free standing = go (was_deferred standing) where
  go : (b : Bool) → is_free (if b then Deferred else Ready) ≡ true
  go true = refl
  go false = refl

pub first_of_any : (P : Message → Type 0) (c : Change) → IsOfTick P false c → IsOfTick P true c
first_of_any P _ (tick_enters key seq hops m few p) = tick_enters key seq hops m few p
first_of_any P _ (tick_passes key cause) = tick_passes key cause
first_of_any P _ (tick_ends key n by_settlement cause) = tick_ends key n by_settlement cause
first_of_any P _ (tick_drops n) = tick_drops n

pub tick_brings : (P : Message → Type 0) (G : Listed → Type 0) (first_one : Bool) (c : Change) (s : Space) → IsOfTick P first_one c → Brings P G c s
tick_brings P G first_one _ s (tick_enters key seq hops m few p) = (few, p)
tick_brings P G first_one _ s (tick_passes key cause) = tt
tick_brings P G first_one _ s (tick_ends key n by_settlement cause) = tt
tick_brings P G first_one _ s (tick_drops n) = tt
tick_brings P G first_one _ s (tick_frees key n by_settlement count standing free few) = few
tick_brings P G first_one _ s (tick_closes key l) = tt

module _ {P : Message → Type 0} {G : Listed → Type 0} {H : Rule → Type 0} (travels : Travels P G H) where
  -- an item of a namespace that carries such messages
  pub record IsItem (i : Item) : Type 0 where
    pub about : G i.entity.about
    pub copy : IsCarried P i.copy

  item_in : (p : Leaf → StoredCopy → Bool) (e : Entity) (part : Part) → G e.about → EachLeaf (λ part leaf. Each (IsCarried P) leaf.copies) e → Each IsItem (items_in p e part)
  item_in p e part g carried = each_item_in p IsItem e part (each_implied (IsCarried P) (λ c. p (leaf_of part e) c ≡ true → IsItem (item e part c)) (λ c may is. record { about = g; copy = may }) (leaf_of part e).copies (leaf_each (λ part leaf. Each (IsCarried P) leaf.copies) part e carried))

  abbrev EntityCarried : Entity → Type 0
  EntityCarried e = G e.about × EachLeaf (λ part leaf. Each (IsCarried P) leaf.copies) e

  entities_carried : (s : Space) → Carries P G s → Each EntityCarried s.entities
  entities_carried s h = each_both (λ e. G e.about) (EachLeaf (λ part leaf. Each (IsCarried P) leaf.copies)) s.entities h.abouts h.copies

  all_items : (p : Leaf → StoredCopy → Bool) (s : Space) → Carries P G s → Each IsItem (flat_map (items_of p) s.entities)
  all_items p s h = each_flat EntityCarried IsItem (items_of p) s.entities
      (λ e is. each_append IsItem (items_in p e Main ++ items_in p e Dead) (items_in p e Transfer) (each_append IsItem (items_in p e Main) (items_in p e Dead) (item_in p e Main is.0 is.1) (item_in p e Dead is.0 is.1)) (item_in p e Transfer is.0 is.1))
      (entities_carried s h)

  main_items : (p : Leaf → StoredCopy → Bool) (s : Space) → Carries P G s → Each IsItem (flat_map (λ e. items_in p e Main) s.entities)
  main_items p s h = each_flat EntityCarried IsItem (λ e. items_in p e Main) s.entities (λ e is. item_in p e Main is.0 is.1) (entities_carried s h)

  closes_of_tick : (t : ℕ) (e : Entity) (part : Part) (xs : List Session) → Each (IsOfTick P true) (flat_map (λ x. closes_due t e part x.holder) xs)
  closes_of_tick t e part [] = tt
  closes_of_tick t e part (x ∷ xs) = each_append (IsOfTick P true) (closes_due t e part x.holder) (flat_map (λ x. closes_due t e part x.holder) xs) (at x.holder) (closes_of_tick t e part xs) where
    at : (o : Option Holder) → Each (IsOfTick P true) (closes_due t e part o)
    at None = tt
    at (Some h) = go (nat_le h.until t) where
      go : (b : Bool) → Each (IsOfTick P true) (if b then in_part part e (Closes h.lock) ∷ [] else [])
      go true = (tick_closes (key_of part e) h.lock, tt)
      go false = tt

  pub sessions_of_tick : (t : ℕ) (s : Space) → Each (IsOfTick P true) (due_sessions t s)
  sessions_of_tick t s = each_flat (λ e. Unit {0}) (IsOfTick P true) (λ e. closes_in t e Main ++ closes_in t e Dead ++ closes_in t e Transfer) s.entities
      (λ e any. each_append (IsOfTick P true) (closes_in t e Main ++ closes_in t e Dead) (closes_in t e Transfer)
      (each_append (IsOfTick P true) (closes_in t e Main) (closes_in t e Dead) (closes_of_tick t e Main e.main.sessions) (closes_of_tick t e Dead e.dead.sessions)) (closes_of_tick t e Transfer e.transfer.sessions))
      (each_of_all (λ e. Unit {0}) (λ e. tt) s.entities)

  pub locks_of_tick : (t : ℕ) (s : Space) → Carries P G s → Each (IsOfTick P true) (sweep_locks t s)
  locks_of_tick t s h = each_append (IsOfTick P true) (due_sessions t s) (flat_map (λ i. released (listed s) t i.entity i.part i.copy true false) (due_locks t s)) (sessions_of_tick t s)
      (each_flat IsItem (IsOfTick P true) (λ i. released (listed s) t i.entity i.part i.copy true false) (due_locks t s)
      (λ i is. released_mild travels (IsOfTick P true) (tick_mild P true) (listed s) (listed_carried P G s.entities h.abouts) i.entity is.about t i.part i.copy true false is.copy
      (tick_frees (key_of i.part i.entity) i.copy.number false (raised true i.copy.count) (back_to i.copy.standing) (back_is_free i.copy.standing) (raised_most true i.copy.count is.copy.count)))
      (all_items (λ leaf c. has_ended t leaf.sessions c.standing) s h))

  pub expired_of_tick : (t : ℕ) (s : Space) → Carries P G s → Each (IsOfTick P false) (sweep_expired t s)
  expired_of_tick t s h = each_flat IsItem (IsOfTick P false) (λ i. expired (listed s) i.entity i.copy false) (due_expired t s)
      (λ i is. expired_mild travels (IsOfTick P false) (tick_mild P false) (listed s) (listed_carried P G s.entities h.abouts) i.entity is.about i.copy false is.copy)
      (main_items (λ leaf c. is_ready c.standing && is_expired t c) s h)

  pub kept_by_tick : (first_one : Bool) (t : ℕ) (c : Change) (s : Space) → IsOfTick P first_one c → Carries P G s → Carries P G (after t c s)
  kept_by_tick first_one t c s is h = stays_carried P G t c s (tick_brings P G first_one c s is) h

  pub scheduled_of_tick : (t : ℕ) (s : Space) → Carries P G s → Each (IsOfTick P false) (sweep_scheduled t s)
  scheduled_of_tick t s h = each_in_turn (IsOfTick P false) (Carries P G) IsItem activated t
      (λ i now is carried. (
        tick_ends (key_of i.part i.entity) i.copy.number false Activated,
        delivered_mild travels (IsOfTick P false) (tick_mild P false) None (visits (listed now) 0 i.entity.about i.copy.message) now (visits_hold travels (listed now) 0 i.entity.about i.copy.message (listed_carried P G now.entities carried.abouts) (omega arith) is.about is.copy.message),
      ))
      (λ c now is carried. kept_by_tick false t c now is carried)
      (due_scheduled t s) s (all_items (λ leaf c. has_come t c.standing) s h) h

  pub transactions_of_tick : (t : ℕ) (s : Space) → Each (IsOfTick P false) (due_transactions t s)
  transactions_of_tick t s = drops (filter (λ x. nat_le x.deadline t) s.transactions) where
    drops : (xs : List Transaction) → Each (IsOfTick P false) (map (λ x. Drops x.number) xs)
    drops [] = tt
    drops (x ∷ xs) = (tick_drops x.number, drops xs)
