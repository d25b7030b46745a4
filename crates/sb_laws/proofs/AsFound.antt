-- A tick's changes are those of its sweeps over what is due as it begins.
use Rattle.std.proofs.Common.{Bool, List, None, Option, Some, [], ap, append_assoc, false, filter, map, nat_le, not, refl, subst, sym, true, ℕ, ◌&&◌, ◌++◌, ◌<◌, ◌∙◌, ◌∷◌, ◌≡◌, ◌≤◌}
use Rattle.std.proofs.lemmas.List.{map-append}
use Rattle.std.specs.List.{flat_map}
use Rattle.std.specs.Prelude.{if◌then◌else◌}
use Rattle.sb_laws.proofs.Alike.{AreAlike, IsAlike, OfCopy, Takes, alike_behind, all_alike, bare, flat_alike, items_alike, listed_alike, of_copy_implied}
use Rattle.sb_laws.proofs.Carrying.{each_flat, each_in_turn, each_item_in, item}
use Rattle.sb_laws.proofs.Eachs.{each_append, each_both, each_implied, each_of_all, rising_above}
use Rattle.sb_laws.proofs.Entities.{EachLeaf, IsOrdered, LeafRises, copy_number, entity_number, leaf_each}
use Rattle.sb_laws.proofs.Mild.{main_part}
use Rattle.sb_laws.proofs.NothingDue.{Lasts, carries, fresh_lasts, lasts_travels, ordered}
use Rattle.sb_laws.proofs.Sparing.{MayBe, rising_alone, with_state}
use Rattle.sb_laws.proofs.Swept.{three}
use Rattle.sb_laws.proofs.Sweeps.{after_append}
use Rattle.sb_laws.proofs.Tick.{IsOfTick, expired_of_tick, first_of_any, locks_of_tick}
use Rattle.sb_laws.specs.AsFound.{as_found, freed, woken}
use Rattle.sb_laws.specs.Sweepable.{IsSweepable}
use Rattle.sb_machine.specs.Changes.{after, after_all, in_turn}
use Rattle.sb_machine.specs.Delivery.{back_to, dead_for, delivered, expired, in_part, is_expired, landing, raised, released, visit_change, visit_key}
use Rattle.sb_machine.specs.Due.{Item, activated, closes_due, closes_in, due_expired, due_locks, due_scheduled, due_sessions, due_transactions, items_in, items_of, sweep_expired, sweep_locks, sweep_scheduled, tick_changes}
use Rattle.sb_machine.specs.Each.{Each}
use Rattle.sb_machine.specs.Leases.{has_come, has_ended, is_ready, is_scheduled, was_deferred}
use Rattle.sb_machine.specs.Leaves.{stored}
use Rattle.sb_machine.specs.Names.{is_main}
use Rattle.sb_machine.specs.Namespace.{key_of, leaf_of, listed}
use Rattle.sb_machine.specs.Reasons.{for_reason}
use Rattle.sb_machine.specs.Visits.{Lot, Visit, burial, ends, stays, visits}
use Rattle.sb_machine.specs.declared.call.Part.{Part}
use Rattle.sb_machine.specs.declared.call.Part.TheVariants.{Dead, Main, Transfer}
use Rattle.sb_machine.specs.declared.change.Cause.{Cause}
use Rattle.sb_machine.specs.declared.change.Cause.TheVariants.{DeadLettered, Expired as ByTime}
use Rattle.sb_machine.specs.declared.change.Change.{Change}
use Rattle.sb_machine.specs.declared.change.Change.TheVariants.{Drops, InLeaf}
use Rattle.sb_machine.specs.declared.change.Fresh.{Fresh}
use Rattle.sb_machine.specs.declared.change.LeafChange.TheVariants.{Closes, Ends, Enters, Passes, Stands}
use Rattle.sb_machine.specs.declared.change.LeafKey.{LeafKey}
use Rattle.sb_machine.specs.declared.reason.DeadReason.{DeadReason}
use Rattle.sb_machine.specs.declared.reason.DeadReason.TheVariants.{Expired, TooOften}
use Rattle.sb_machine.specs.declared.state.Entity.{Entity}
use Rattle.sb_machine.specs.declared.state.Holder.{Holder}
use Rattle.sb_machine.specs.declared.state.Leaf.{Leaf}
use Rattle.sb_machine.specs.declared.state.Listed.{Listed}
use Rattle.sb_machine.specs.declared.state.Session.{Session}
use Rattle.sb_machine.specs.declared.state.Space.{Space}
use Rattle.sb_machine.specs.declared.state.Standing.{Standing}
use Rattle.sb_machine.specs.declared.state.Standing.TheVariants.{Deferred, Held, Ready, Scheduled}
use Rattle.sb_machine.specs.declared.state.StoredCopy.{StoredCopy}
use Rattle.sb_machine.specs.declared.state.Transaction.{Transaction}
use Rattle.sb_model.specs.declared.message.Message.{Message}

-- ---- what holds of the changes of a sweep

-- C holds of the changes that give a number
pub record IsGiving (C : Change → Type 0) : Type 0 where
  pub enters : (key : LeafKey) (fresh : Fresh) → C (InLeaf key (Enters fresh))
  pub passes : (key : LeafKey) (cause : Cause) → C (InLeaf key (Passes cause))

module _ (C : Change → Type 0) (gives : IsGiving C) where
  visit_gives : (seq : Option ℕ) (v : Visit) → C (visit_change seq v)
  visit_gives seq v = at v.lot where
    at : (lot : Lot) → C (InLeaf (visit_key v) (landing seq lot))
    at (stays hops m) = gives.enters (visit_key v) (record { seq = seq; hops = hops; standing = Ready; message = m })
    at (ends cause) = gives.passes (visit_key v) cause

  visits_give : (seq : Option ℕ) (vs : List Visit) → Each C (map (visit_change seq) vs)
  visits_give seq [] = tt
  visits_give seq (v ∷ vs) = (visit_gives seq v, visits_give seq vs)

  pub delivered_gives : (seq : Option ℕ) (vs : List Visit) (s : Space) → Each C (delivered seq vs s)
  delivered_gives seq [] s = tt
  delivered_gives seq (v ∷ vs) s = (visit_gives seq v, visits_give _ vs)

  module _ (es : List Listed) (e : Entity) (c : StoredCopy) where
    abbrev EndsIn : Part → Type 0
    EndsIn part = (cause : Cause) → C (in_part part e (Ends c.number false cause))

    dead_gives : EndsIn Main → (reason : DeadReason) → Each C (dead_for es e c false reason)
    dead_gives own reason = (own DeadLettered, visits_give (Some c.enqueued_seq) (burial es c.hops e.about (for_reason reason c.message)))

    pub expired_gives : EndsIn Main → Each C (expired es e c false)
    expired_gives own = go e.about.description.dead_on_expiry where
      go : (b : Bool) → Each C (if b then dead_for es e c false Expired else in_part Main e (Ends c.number false ByTime) ∷ [])
      go true = dead_gives own Expired
      go false = (own ByTime, tt)

    abbrev pub is_over_in : ℕ → Part → Bool
    is_over_in t part = is_main part && not (was_deferred c.standing) && is_expired t c

    pub released_gives : (t : ℕ) (part : Part) → EndsIn part → (is_over_in t part ≡ false → C (in_part part e (Stands c.number false (raised true c.count) (back_to c.standing)))) → Each C (released es t e part c true false)
    released_gives t part own back = go (is_main part && true && nat_le e.about.description.max_delivery (raised true c.count)) refl (is_over_in t part) refl where
      in_main : (a b : Bool) → (is_main part && a && b) ≡ true → EndsIn Main
      in_main a b so = subst EndsIn (main_part part (three (is_main part) a b so).0) own

      go : (a : Bool) → (is_main part && true && nat_le e.about.description.max_delivery (raised true c.count)) ≡ a → (b : Bool) → is_over_in t part ≡ b
          → Each C (if a then dead_for es e c false TooOften else (if b then expired es e c false else in_part part e (Stands c.number false (raised true c.count) (back_to c.standing)) ∷ []))
      go true x b y = dead_gives (in_main true (nat_le e.about.description.max_delivery (raised true c.count)) x) TooOften
      go false x true y = expired_gives (in_main (not (was_deferred c.standing)) (is_expired t c) y)
      go false x false y = (back y, tt)

  closes_give : ((key : LeafKey) (l : ℕ) → C (InLeaf key (Closes l))) → (t : ℕ) (e : Entity) (part : Part) (xs : List Session) → Each C (flat_map (λ x. closes_due t e part x.holder) xs)
  closes_give closes t e part [] = tt
  closes_give closes t e part (x ∷ xs) = each_append C (closes_due t e part x.holder) (flat_map (λ x. closes_due t e part x.holder) xs) (at x.holder) (closes_give closes t e part xs) where
    at : (o : Option Holder) → Each C (closes_due t e part o)
    at None = tt
    at (Some h) = go (nat_le h.until t) where
      go : (b : Bool) → Each C (if b then in_part part e (Closes h.lock) ∷ [] else [])
      go true = (closes (key_of part e) h.lock, tt)
      go false = tt

  pub sessions_give : ((key : LeafKey) (l : ℕ) → C (InLeaf key (Closes l))) → (t : ℕ) (s : Space) → Each C (due_sessions t s)
  sessions_give closes t s = each_flat (λ e. Unit {0}) C (λ e. closes_in t e Main ++ closes_in t e Dead ++ closes_in t e Transfer) s.entities
      (λ e any. each_append C (closes_in t e Main ++ closes_in t e Dead) (closes_in t e Transfer)
      (each_append C (closes_in t e Main) (closes_in t e Dead) (closes_give closes t e Main e.main.sessions) (closes_give closes t e Dead e.dead.sessions)) (closes_give closes t e Transfer e.transfer.sessions))
      (each_of_all (λ e. Unit {0}) (λ e. tt) s.entities)

  module _ (F : Item → Type 0) (t : ℕ) (s : Space) where
    pub locks_give : ((key : LeafKey) (l : ℕ) → C (InLeaf key (Closes l))) → ((i : Item) → F i → (cause : Cause) → C (in_part i.part i.entity (Ends i.copy.number false cause)))
        → ((i : Item) → F i → is_over_in (listed s) i.entity i.copy t i.part ≡ false → C (in_part i.part i.entity (Stands i.copy.number false (raised true i.copy.count) (back_to i.copy.standing)))) → Each F (due_locks t s) → Each C (sweep_locks t s)
    locks_give closes own back h = each_append C (due_sessions t s) (flat_map (λ i. released (listed s) t i.entity i.part i.copy true false) (due_locks t s)) (sessions_give closes t s)
        (each_flat F C (λ i. released (listed s) t i.entity i.part i.copy true false) (due_locks t s) (λ i is. released_gives (listed s) i.entity i.copy t i.part (own i is) (back i is)) h)

    pub expired_give : ((i : Item) → F i → (cause : Cause) → C (in_part Main i.entity (Ends i.copy.number false cause))) → Each F (due_expired t s) → Each C (sweep_expired t s)
    expired_give own h = each_flat F C (λ i. expired (listed s) i.entity i.copy false) (due_expired t s) (λ i is. expired_gives (listed s) i.entity i.copy (own i is)) h

-- ---- transactions stay

abbrev pub IsOfPart : Change → Type 0
IsOfPart (InLeaf key c) = Unit {0}
IsOfPart _ = ⊥

part_gives : IsGiving IsOfPart
part_gives = record { enters = λ key fresh. tt; passes = λ key cause. tt }

pub transactions_stay : (t : ℕ) (cs : List Change) (s : Space) → Each IsOfPart cs → (after_all t cs s).transactions ≡ s.transactions
transactions_stay t [] s h = refl
transactions_stay t (c ∷ cs) s h = transactions_stay t cs (after t c s) h.1 ∙ one c h.0 where
  one : (c : Change) → IsOfPart c → (after t c s).transactions ≡ s.transactions
  one (InLeaf key c) is = refl
  one _ is = absurd is

locks_of_parts : (t : ℕ) (s : Space) → Each IsOfPart (sweep_locks t s)
locks_of_parts t s = locks_give IsOfPart part_gives (λ i. Unit {0}) t s (λ key l. tt) (λ i any cause. tt) (λ i any so. tt) (each_of_all (λ i. Unit {0}) (λ i. tt) (due_locks t s))

expired_of_parts : (t : ℕ) (s : Space) → Each IsOfPart (sweep_expired t s)
expired_of_parts t s = expired_give IsOfPart part_gives (λ i. Unit {0}) t s (λ i any cause. tt) (each_of_all (λ i. Unit {0}) (λ i. tt) (due_expired t s))

scheduled_of_parts : (t : ℕ) (s : Space) → Each IsOfPart (sweep_scheduled t s)
scheduled_of_parts t s = each_in_turn IsOfPart (λ now. Unit {0}) (λ i. Unit {0}) activated t (λ i now any so. (tt, delivered_gives IsOfPart part_gives None (visits (listed now) 0 i.entity.about i.copy.message) now)) (λ c now is any. tt) (due_scheduled t s) s
    (each_of_all (λ i. Unit {0}) (λ i. tt) (due_scheduled t s)) tt

-- ---- items

-- an item's changes go by what is listed of its entity
pub flat_bare : {Y : Type 0} (f : Item → List Y) → ((i : Item) → f (bare i) ≡ f i) → (is : List Item) → flat_map f (map bare is) ≡ flat_map f is
flat_bare f same [] = refl
flat_bare f same (i ∷ is) = ap (λ l. l ++ flat_map f (map bare is)) (same i) ∙ ap (λ l. f i ++ l) (flat_bare f same is)

pub in_turn_bare : (f : Item → Space → List Change) → ((i : Item) (s : Space) → f (bare i) s ≡ f i s) → (t : ℕ) (is : List Item) (s : Space) → in_turn f t (map bare is) s ≡ in_turn f t is s
in_turn_bare f same t [] s = refl
in_turn_bare f same t (i ∷ is) s =
    ap (λ (l : List Change). l ++ in_turn f t (map bare is) (after_all t l s)) (same i s) ∙ ap (λ (l : List Change). f i s ++ l) (in_turn_bare f same t is (after_all t (f i s) s))

module _ (s : Space) (o : IsOrdered s) where
  abbrev Own : Part → Entity → StoredCopy → Type 0
  Own part e c = OfCopy (key_of part e) c.number (λ d. d ≡ c) s.entities

  abbrev IsAlone : Entity → Type 0
  IsAlone e = Each (λ x. x.about.number ≡ e.about.number → x ≡ e) s.entities

  -- the copy of a number in a part is the one that stands there
  own_in : (part : Part) (e : Entity) → IsAlone e → EachLeaf LeafRises e → Each (Own part e) (leaf_of part e).copies
  own_in part e alone rises =
      let leaf = leaf_of part e in
      let numbers : LeafRises part leaf = leaf_each LeafRises part e rises in
      each_implied (λ c. ((0 < c.number) × (c.number ≤ leaf.last)) × Each (λ d. d.number ≡ c.number → d ≡ c) leaf.copies) (Own part e)
      (λ c both. each_implied (λ x. x.about.number ≡ e.about.number → x ≡ e) (λ x. x.about.number ≡ e.about.number → (c.number ≤ (leaf_of part x).last) × Each (λ d. d.number ≡ c.number → d ≡ c) (leaf_of part x).copies)
      (λ x same own. subst (λ (y : Entity). (c.number ≤ (leaf_of part y).last) × Each (λ d. d.number ≡ c.number → d ≡ c) (leaf_of part y).copies) (sym (same own)) (both.0.1, both.1)) s.entities alone)
      leaf.copies (each_both (λ c. (0 < c.number) × (c.number ≤ leaf.last)) (λ c. Each (λ d. d.number ≡ c.number → d ≡ c) leaf.copies) leaf.copies (rising_above copy_number 0 leaf.last leaf.copies numbers) (rising_alone copy_number 0 leaf.last leaf.copies numbers))

  -- an item's copy is the one of its number, and passes Q
  abbrev pub IsFound : (Part → StoredCopy → Bool) → Item → Type 0
  IsFound Q i = Own i.part i.entity i.copy × (Q i.part i.copy ≡ true)

  abbrev IsFine : Entity → Type 0
  IsFine e = IsAlone e × EachLeaf LeafRises e

  all_fine : Each IsFine s.entities
  all_fine = each_both IsAlone (EachLeaf LeafRises) s.entities (rising_alone entity_number 0 s.last_entity s.entities o.entities) o.copies

  module _ (p : Leaf → StoredCopy → Bool) (Q : Part → StoredCopy → Bool) (so : (part : Part) (leaf : Leaf) (c : StoredCopy) → p leaf c ≡ true → Q part c ≡ true) where
    found_in : (part : Part) (e : Entity) → IsFine e → Each (IsFound Q) (items_in p e part)
    found_in part e is = each_item_in p (IsFound Q) e part (each_implied (Own part e) (λ c. p (leaf_of part e) c ≡ true → IsFound Q (item e part c)) (λ c own passes. (own, so part (leaf_of part e) c passes)) (leaf_of part e).copies (own_in part e is.0 is.1))

    pub found_main : Each (IsFound Q) (flat_map (λ e. items_in p e Main) s.entities)
    found_main = each_flat IsFine (IsFound Q) (λ e. items_in p e Main) s.entities (λ e is. found_in Main e is) all_fine

    pub found_all : Each (IsFound Q) (flat_map (items_of p) s.entities)
    found_all = each_flat IsFine (IsFound Q) (items_of p) s.entities
        (λ e is. each_append (IsFound Q) (items_in p e Main ++ items_in p e Dead) (items_in p e Transfer) (each_append (IsFound Q) (items_in p e Main) (items_in p e Dead) (found_in Main e is) (found_in Dead e is)) (found_in Transfer e is)) all_fine

  -- ---- what a sweep takes

  module _ (T P : Part → StoredCopy → Bool) (t : ℕ) where
    pub takes_giving : IsGiving (Takes T P t s.entities)
    takes_giving = record { enters = λ key fresh. tt; passes = λ key cause. tt }

    pub takes_end : (part : Part) (e : Entity) (c : StoredCopy) → Own part e c → T part c ≡ true → (cause : Cause) → Takes T P t s.entities (in_part part e (Ends c.number false cause))
    takes_end part e c own passes cause = of_copy_implied (key_of part e) c.number (λ d. d ≡ c) (MayBe (T part) (P part) None) (λ d is. subst (λ (x : StoredCopy). T part x ≡ true) (sym is) passes) s.entities own

    pub takes_back : (part : Part) (e : Entity) (c : StoredCopy) (count : ℕ) (standing : Standing) → Own part e c → T part c ≡ true → P part (with_state count standing c) ≡ false → Takes T P t s.entities (in_part part e (Stands c.number false count standing))
    takes_back part e c count standing own passes fails = of_copy_implied (key_of part e) c.number (λ d. d ≡ c) (MayBe (T part) (P part) (Some (count, standing)))
        (λ d is. subst (λ (x : StoredCopy). (T part x ≡ true) × (P part (with_state count standing x) ≡ false)) (sym is) (passes, fails)) s.entities own

-- ---- what the sweeps take, and what the later ones look for

abbrev under_lock : Part → StoredCopy → Bool
under_lock part c = elim c.standing [ Held lock hold deferred ↦ true | Ready ↦ false | Deferred ↦ false | Scheduled at ↦ false ]

abbrev expiring : ℕ → Part → StoredCopy → Bool
expiring t Main c = is_ready c.standing && is_expired t c
expiring t Dead c = false
expiring t Transfer c = false

abbrev in_time : Part → StoredCopy → Bool
in_time part c = not (is_scheduled c.standing)

abbrev coming : ℕ → Part → StoredCopy → Bool
coming t part c = has_come t c.standing

held_not_expiring : (t : ℕ) (part : Part) (c : StoredCopy) → under_lock part c ≡ true → expiring t part c ≡ false
held_not_expiring t Main c is = at c.standing is where
  at : (standing : Standing) → ◌≡◌ {A = Bool} (elim standing [ Held lock hold deferred ↦ true | Ready ↦ false | Deferred ↦ false | Scheduled moment ↦ false ]) true → (is_ready standing && is_expired t c) ≡ false
  at Ready is = absurd cc
  at Deferred is = refl
  at (Held lock hold deferred) is = refl
  at (Scheduled moment) is = refl
held_not_expiring t Dead c is = refl
held_not_expiring t Transfer c is = refl

fresh_not_expiring : (t : ℕ) (part : Part) (seq : Option ℕ) (hops n : ℕ) (m : Message) → Lasts m → expiring t part (stored n t (record { seq = seq; hops = hops; standing = Ready; message = m })) ≡ false
fresh_not_expiring t Main seq hops n m p = fresh_lasts t m.ttl p
fresh_not_expiring t Dead seq hops n m p = refl
fresh_not_expiring t Transfer seq hops n m p = refl

in_time_not_coming : (t : ℕ) (part : Part) (c : StoredCopy) → in_time part c ≡ true → coming t part c ≡ false
in_time_not_coming t part c is = at c.standing is where
  at : (standing : Standing) → not (is_scheduled standing) ≡ true → has_come t standing ≡ false
  at Ready is = refl
  at Deferred is = refl
  at (Held lock hold deferred) is = refl
  at (Scheduled moment) is = absurd cc

ended_under_lock : (t : ℕ) (part : Part) (leaf : Leaf) (c : StoredCopy) → has_ended t leaf.sessions c.standing ≡ true → under_lock part c ≡ true
ended_under_lock t part leaf c is = at c.standing is where
  at : (standing : Standing) → has_ended t leaf.sessions standing ≡ true → ◌≡◌ {A = Bool} (elim standing [ Held lock hold deferred ↦ true | Ready ↦ false | Deferred ↦ false | Scheduled moment ↦ false ]) true
  at Ready is = absurd cc
  at Deferred is = absurd cc
  at (Held lock hold deferred) is = refl
  at (Scheduled moment) is = absurd cc

ended_in_time : (t : ℕ) (part : Part) (leaf : Leaf) (c : StoredCopy) → has_ended t leaf.sessions c.standing ≡ true → in_time part c ≡ true
ended_in_time t part leaf c is = at c.standing is where
  at : (standing : Standing) → has_ended t leaf.sessions standing ≡ true → not (is_scheduled standing) ≡ true
  at Ready is = refl
  at Deferred is = refl
  at (Held lock hold deferred) is = refl
  at (Scheduled moment) is = absurd cc

ready_in_time : (t : ℕ) (part : Part) (leaf : Leaf) (c : StoredCopy) → (is_ready c.standing && is_expired t c) ≡ true → in_time part c ≡ true
ready_in_time t part leaf c is = at c.standing is where
  at : (standing : Standing) → (is_ready standing && is_expired t c) ≡ true → not (is_scheduled standing) ≡ true
  at Ready is = refl
  at Deferred is = refl
  at (Held lock hold deferred) is = refl
  at (Scheduled moment) is = absurd cc

-- what goes back isn't expired, or not looked at
back_not_expiring : (t : ℕ) (part : Part) (c : StoredCopy) (count : ℕ) → (is_main part && not (was_deferred c.standing) && is_expired t c) ≡ false → expiring t part (with_state count (back_to c.standing) c) ≡ false
back_not_expiring t Main c count over = at (was_deferred c.standing) (is_expired t c) over where
  at : (deferred old : Bool) → (not deferred && old) ≡ false → (is_ready (if deferred then Deferred else Ready) && old) ≡ false
  at true old e = refl
  at false old e = e
back_not_expiring t Dead c count over = refl
back_not_expiring t Transfer c count over = refl

back_not_coming : (t : ℕ) (standing : Standing) → has_come t (back_to standing) ≡ false
back_not_coming t standing = at (was_deferred standing) where
  at : (deferred : Bool) → has_come t (if deferred then Deferred else Ready) ≡ false
  at true = refl
  at false = refl

-- ---- the sweeps, over what is due as the tick begins

three_parts : (f g : Part → List Item) → ((part : Part) → map bare (f part) ≡ map bare (g part)) → map bare (f Main ++ f Dead ++ f Transfer) ≡ map bare (g Main ++ g Dead ++ g Transfer)
three_parts f g same =
    map-append bare (f Main ++ f Dead) (f Transfer)
    ∙ ap (λ (l : List Item). l ++ map bare (f Transfer)) (map-append bare (f Main) (f Dead))
    ∙ ap (λ (l : List Item). (l ++ map bare (f Dead)) ++ map bare (f Transfer)) (same Main)
    ∙ ap (λ (l : List Item). (map bare (g Main) ++ l) ++ map bare (f Transfer)) (same Dead)
    ∙ ap (λ (l : List Item). (map bare (g Main) ++ map bare (g Dead)) ++ l) (same Transfer)
    ∙ ap (λ (l : List Item). l ++ map bare (g Transfer)) (sym (map-append bare (g Main) (g Dead)))
    ∙ sym (map-append bare (g Main ++ g Dead) (g Transfer))

joined : (a b c d : List Change) → a ++ (b ++ (c ++ d)) ≡ ((a ++ b) ++ c) ++ d
joined a b c d = sym (append_assoc (a ++ b) c d ∙ append_assoc a b (c ++ d))

module _ (t : ℕ) (s : Space) (may : IsSweepable s) where
  abbrev s1 : Space
  s1 = after_all t (sweep_locks t s) s

  abbrev s2 : Space
  s2 = after_all t (freed t s) s

  rises : IsOrdered s
  rises = ordered s may

  of_locks : Each (IsOfTick Lasts true) (sweep_locks t s)
  of_locks = locks_of_tick lasts_travels t s (carries s may)

  of_expired : Each (IsOfTick Lasts true) (sweep_expired t s)
  of_expired = each_implied (IsOfTick Lasts false) (IsOfTick Lasts true) (first_of_any Lasts) (sweep_expired t s) (expired_of_tick lasts_travels t s (carries s may))

  -- the first sweep leaves alone what the second looks for
  alike1 : AreAlike under_lock (expiring t) t s.entities s1.entities
  alike1 = alike_behind under_lock (expiring t) t (λ part seq hops n m p. fresh_not_expiring t part seq hops n m p) true (sweep_locks t s) s s.entities
      (each_both (IsOfTick Lasts true) (Takes under_lock (expiring t) t s.entities) (sweep_locks t s) of_locks
      (locks_give (Takes under_lock (expiring t) t s.entities) (takes_giving s rises under_lock (expiring t) t) (IsFound s rises under_lock) t s (λ key l. tt)
      (λ i is cause. takes_end s rises under_lock (expiring t) t i.part i.entity i.copy is.0 is.1 cause)
      (λ i is over. takes_back s rises under_lock (expiring t) t i.part i.entity i.copy (raised true i.copy.count) (back_to i.copy.standing) is.0 is.1 (back_not_expiring t i.part i.copy (raised true i.copy.count) over))
      (found_all s rises (λ leaf c. has_ended t leaf.sessions c.standing) under_lock (ended_under_lock t))))
      (all_alike under_lock (expiring t) t s.entities)

  same_expired : sweep_expired t s1 ≡ sweep_expired t s
  same_expired =
      ap (λ (es : List Listed). flat_map (λ i. expired es i.entity i.copy false) (due_expired t s1)) (listed_alike under_lock (expiring t) t s.entities s1.entities alike1)
      ∙ sym (flat_bare (λ i. expired (listed s) i.entity i.copy false) (λ i. refl) (due_expired t s1))
      ∙ ap (flat_map (λ i. expired (listed s) i.entity i.copy false))
      (flat_alike under_lock (expiring t) t (held_not_expiring t) (λ e. items_in (λ leaf c. is_ready c.standing && is_expired t c) e Main) (λ e x is. items_alike under_lock (expiring t) t (held_not_expiring t) Main e x is) s.entities s1.entities alike1)
      ∙ flat_bare (λ i. expired (listed s) i.entity i.copy false) (λ i. refl) (due_expired t s)

  -- the first two leave alone what the third looks for
  abbrev TakesEarly : Change → Type 0
  TakesEarly = Takes in_time (coming t) t s.entities

  alike2 : AreAlike in_time (coming t) t s.entities s2.entities
  alike2 = alike_behind in_time (coming t) t (λ part seq hops n m p. refl) true (freed t s) s s.entities
      (each_both (IsOfTick Lasts true) TakesEarly (freed t s) (each_append (IsOfTick Lasts true) (sweep_locks t s) (sweep_expired t s) of_locks of_expired) (each_append TakesEarly (sweep_locks t s) (sweep_expired t s)
      (locks_give TakesEarly (takes_giving s rises in_time (coming t) t) (IsFound s rises in_time) t s (λ key l. tt)
      (λ i is cause. takes_end s rises in_time (coming t) t i.part i.entity i.copy is.0 is.1 cause)
      (λ i is over. takes_back s rises in_time (coming t) t i.part i.entity i.copy (raised true i.copy.count) (back_to i.copy.standing) is.0 is.1 (back_not_coming t i.copy.standing))
      (found_all s rises (λ leaf c. has_ended t leaf.sessions c.standing) in_time (ended_in_time t)))
      (expired_give TakesEarly (takes_giving s rises in_time (coming t) t) (λ i. IsFound s rises in_time i × (i.part ≡ Main)) t s
      (λ i is cause. subst (λ (part : Part). TakesEarly (in_part part i.entity (Ends i.copy.number false cause))) is.1 (takes_end s rises in_time (coming t) t i.part i.entity i.copy is.0.0 is.0.1 cause))
      (each_both (IsFound s rises in_time) (λ i. i.part ≡ Main) (due_expired t s) (found_main s rises (λ leaf c. is_ready c.standing && is_expired t c) in_time (ready_in_time t)) (main_alone s.entities)))))
      (all_alike in_time (coming t) t s.entities)
    where
      main_alone : (es : List Entity) → Each (λ i. i.part ≡ Main) (flat_map (λ e. items_in (λ leaf c. is_ready c.standing && is_expired t c) e Main) es)
      main_alone es = each_flat (λ e. Unit {0}) (λ i. i.part ≡ Main) (λ e. items_in (λ leaf c. is_ready c.standing && is_expired t c) e Main) es
          (λ e any. each_item_in (λ leaf c. is_ready c.standing && is_expired t c) (λ i. i.part ≡ Main) e Main (each_of_all (λ c. (is_ready c.standing && is_expired t c) ≡ true → ◌≡◌ {A = Part} Main Main) (λ c is. refl) e.main.copies))
          (each_of_all (λ e. Unit {0}) (λ e. tt) es)

  same_scheduled : sweep_scheduled t s2 ≡ woken t s
  same_scheduled =
      sym (in_turn_bare activated (λ i now. refl) t (due_scheduled t s2) s2)
      ∙ ap (λ (is : List Item). in_turn activated t is s2)
      (flat_alike in_time (coming t) t (in_time_not_coming t) (items_of (λ leaf c. has_come t c.standing)) (λ e x is. parts e x is) s.entities s2.entities alike2)
      ∙ in_turn_bare activated (λ i now. refl) t (due_scheduled t s) s2
    where
      one : (part : Part) (e x : Entity) → IsAlike in_time (coming t) t e x → map bare (items_in (λ leaf c. has_come t c.standing) x part) ≡ map bare (items_in (λ leaf c. has_come t c.standing) e part)
      one part e x is = items_alike in_time (coming t) t (in_time_not_coming t) part e x is

      parts : (e x : Entity) → IsAlike in_time (coming t) t e x → map bare (items_of (λ leaf c. has_come t c.standing) x) ≡ map bare (items_of (λ leaf c. has_come t c.standing) e)
      parts e x is = three_parts (λ part. items_in (λ leaf c. has_come t c.standing) x part) (λ part. items_in (λ leaf c. has_come t c.standing) e part) (λ part. one part e x is)

  same_transactions : due_transactions t (after_all t (woken t s) s2) ≡ due_transactions t s
  same_transactions = ap (λ (xs : List Transaction). map (λ x. Drops x.number) (filter (λ x. nat_le x.deadline t) xs))
      (transactions_stay t (woken t s) s2 (subst (Each IsOfPart) same_scheduled (scheduled_of_parts t s2)) ∙ transactions_stay t (freed t s) s (each_append IsOfPart (sweep_locks t s) (sweep_expired t s) (locks_of_parts t s) (expired_of_parts t s)))

  -- what follows the second sweep's changes
  abbrev behind : List Change → Space → List Change
  behind woken now = woken ++ due_transactions t (after_all t woken now)

  abbrev onward : List Change → Space → List Change
  onward early now = early ++ behind (sweep_scheduled t (after_all t early now)) (after_all t early now)

  pub tick_as_found : tick_changes t s ≡ as_found t s
  tick_as_found =
      ap (λ (early : List Change). sweep_locks t s ++ onward early s1) same_expired
      ∙ ap (λ (now : Space). sweep_locks t s ++ (sweep_expired t s ++ behind (sweep_scheduled t now) now)) (sym (after_append t (sweep_locks t s) (sweep_expired t s) s))
      ∙ ap (λ (late : List Change). sweep_locks t s ++ (sweep_expired t s ++ behind late s2)) same_scheduled
      ∙ ap (λ (ends : List Change). sweep_locks t s ++ (sweep_expired t s ++ (woken t s ++ ends))) same_transactions
      ∙ joined (sweep_locks t s) (sweep_expired t s) (woken t s) (due_transactions t s)
