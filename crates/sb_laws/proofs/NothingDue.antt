-- Behind a tick nothing is due at its moment.
use Rattle.std.proofs.Common.{Bool, Err, List, None, Ok, Option, Result, Some, [], ap, arith, false, filter, nat_le, not, refl, subst, sym, true, ℕ, ◌&&◌, ◌*◌, ◌++◌, ◌+◌, ◌<◌, ◌==◌, ◌||◌, ◌∙◌, ◌∷◌, ◌≡◌, ◌≢◌}
use Rattle.std.proofs.lemmas.Bool.Decides.{nat_tests}
use Rattle.std.specs.List.{flat_map, list_any}
use Rattle.sb_laws.proofs.Carrying.{Carries, each_mapped, flat_each, item, mapped_each}
use Rattle.sb_laws.proofs.Closing.{AreHeldOn, HeldApart, SessionsApart, closes_lock, has_run_out, is_false}
use Rattle.sb_laws.proofs.Eachs.{each_back, each_both, each_front, each_implied, each_of_all, is_equal, pairs_back, pairs_between}
use Rattle.sb_laws.proofs.Entities.{EachLeaf, IsOrdered, LeafRises, each_leaf}
use Rattle.sb_laws.proofs.Mild.{IsCarried, expired_settles, is_at, released_settles}
use Rattle.sb_laws.proofs.Swept.{AreFine, IsSafe, Test, settles_copy}
use Rattle.sb_laws.proofs.Tick.{IsOfTick, is_free, tick_closes, tick_drops, tick_ends, tick_enters, tick_frees, tick_passes}
use Rattle.sb_laws.proofs.Visiting.{Travels}
use Rattle.sb_laws.specs.Sweepable.{IsLasting, IsSweepable, IsSweepableCopy, IsSweepableEntity}
use Rattle.sb_machine.specs.Changes.{after_all, in_turn}
use Rattle.sb_machine.specs.Consistent.{holder_lock}
use Rattle.sb_machine.specs.Delivery.{expired, is_expired, released}
use Rattle.sb_machine.specs.Due.{Item, activated, closes_due, closes_in, due_expired, due_locks, due_scheduled, due_sessions, items_in, items_of, sweep_expired, sweep_locks, sweep_scheduled}
use Rattle.sb_machine.specs.Each.{Each, Pairs}
use Rattle.sb_model.specs.Effects.{after_action}
use Rattle.sb_machine.specs.Leases.{has_come, has_ended, is_ready}
use Rattle.sb_machine.specs.Leaves.{is_held_under, stored}
use Rattle.sb_machine.specs.Names.{is_same_part}
use Rattle.sb_machine.specs.Namespace.{leaf_of, listed}
use Rattle.sb_machine.specs.Selection.{acted_on, after_steps, on_read}
use Rattle.sb_model.specs.Texts.{action_in}
use Rattle.sb_machine.specs.Visits.{shorter}
use Rattle.sb_machine.specs.declared.call.Part.{Part}
use Rattle.sb_machine.specs.declared.call.Part.TheVariants.{Dead, Main, Transfer}
use Rattle.sb_machine.specs.declared.change.Change.{Change}
use Rattle.sb_machine.specs.declared.change.LeafKey.{LeafKey}
use Rattle.sb_model.specs.declared.evaluation.EvalFault.{EvalFault}
use Rattle.sb_model.specs.declared.message.Message.{Message}
use Rattle.sb_machine.specs.declared.state.Entity.{Entity}
use Rattle.sb_machine.specs.declared.state.Holder.{Holder}
use Rattle.sb_machine.specs.declared.state.Leaf.{Leaf}
use Rattle.sb_machine.specs.declared.state.Listed.{Listed}
use Rattle.sb_machine.specs.declared.state.Session.{Session}
use Rattle.sb_machine.specs.declared.state.Space.{Space}
use Rattle.sb_machine.specs.declared.state.Standing.{Standing}
use Rattle.sb_machine.specs.declared.state.Standing.TheVariants.{Deferred, Held, Ready, Scheduled}
use Rattle.sb_machine.specs.declared.state.StoredCopy.{StoredCopy}
use Rattle.sb_machine.specs.declared.state.Hold.TheVariants.{Until, Session as UnderSession}
use Rattle.sb_model.specs.Expressions.{Change as Step}
use Rattle.sb_model.proofs.Acting.{keeps_messages}
use Rattle.std.proofs.lemmas.List.Folds.{list_any-append}

-- ---- what the sweeps look for

abbrev pub until_over : ℕ → Standing → Bool
until_over t (Held lock (Until u) deferred) = nat_le u t
until_over t (Held lock (UnderSession l) deferred) = false
until_over t Ready = false
until_over t Deferred = false
until_over t (Scheduled at) = false

abbrev pub under_no_ended : ℕ → Test
under_no_ended t part c = not (until_over t c.standing)

abbrev pub not_expired : ℕ → Test
not_expired t Main c = not (is_ready c.standing && is_expired t c)
not_expired t Dead c = true
not_expired t Transfer c = true

abbrev pub not_come : ℕ → Test
not_come t part c = not (has_come t c.standing)

abbrev pub Lasts : Message → Type 0
Lasts m = IsLasting m.ttl

abbrev pub LastsIn : Listed → Type 0
LastsIn about = IsLasting about.description.ttl

-- ---- times to live, as messages travel

pub shorter_lasts : (a b : Option ℕ) → IsLasting a → IsLasting b → IsLasting (shorter a b)
shorter_lasts None b h k = k
shorter_lasts (Some n) None h k = h
shorter_lasts (Some n) (Some m) h k = omega (arith, h, k)

pub acted_lasts : (m : Message) (action : Option (List ℕ)) → Lasts m → Lasts (acted_on m action)
acted_lasts m None h = h
acted_lasts m (Some text) h = at (action_in text) where
  at : (o : Result (List Step) ℕ) → Lasts (on_read m (after_steps m) o)
  at (Err place) = h
  at (Ok steps) = on (after_action m steps) refl where
    on : (r : Result Message EvalFault) → after_action m steps ≡ r → Lasts (elim r [ Ok new ↦ new | Err fault ↦ m ])
    on (Err fault) is = h
    on (Ok new) is = subst IsLasting (sym (keeps_messages m new steps is).0.ttl) h

pub lasts_travels : Travels Lasts LastsIn (λ r. Unit {0})
lasts_travels = record {
  cut = λ e m g p. shorter_lasts m.ttl e.description.ttl p g;
  dead = λ reason m p. p;
  rules = λ e g. each_of_all (λ r. Unit {0}) (λ r. tt) e.rules;
  acted = λ r m any p. acted_lasts m r.action p;
}

-- ---- from a namespace that can be swept

copies_lasting : (cs : List StoredCopy) → Each IsSweepableCopy cs → Each (IsCarried Lasts) cs
copies_lasting cs h = each_implied IsSweepableCopy (IsCarried Lasts) (λ c may. record { hops = may.hops; count = may.count; message = may.ttl }) cs h

pub carries : (s : Space) → IsSweepable s → Carries Lasts LastsIn s
carries s h = record {
  abouts = each_implied IsSweepableEntity (λ e. LastsIn e.about) (λ e may. may.ttl) s.entities h.entities;
  copies = each_implied IsSweepableEntity (EachLeaf (λ part leaf. Each (IsCarried Lasts) leaf.copies)) (λ e may. each_leaf (copies_lasting e.main.copies may.main.copies) (copies_lasting e.dead.copies may.dead.copies) (copies_lasting e.transfer.copies may.transfer.copies)) s.entities h.entities;
}

pub ordered : (s : Space) → IsSweepable s → IsOrdered s
ordered s h = record {
  entities = h.numbers;
  copies = each_implied IsSweepableEntity (EachLeaf LeafRises) (λ e may. each_leaf may.main.numbers may.dead.numbers may.transfer.numbers) s.entities h.entities;
}

apart_from : (xs : List Session) → Pairs (λ l m. l ≢ m) (flat_map holder_lock xs) → Pairs HeldApart xs
apart_from [] h = tt
apart_from (x ∷ xs) h = (each_apart xs (pairs_between (λ l m. l ≢ m) (holder_lock x) (flat_map holder_lock xs) h), apart_from xs (pairs_back (λ l m. l ≢ m) (holder_lock x) (flat_map holder_lock xs) h)) where
  two : (o p : Option Holder) → Each (λ l. Each (λ m. l ≢ m) (elim p [ Some k ↦ k.lock ∷ [] | None ↦ [] ])) (elim o [ Some k ↦ k.lock ∷ [] | None ↦ [] ]) → (l : ℕ)
      → ◌≡◌ {A = Bool} (elim o [ Some k ↦ k.lock == l | None ↦ false ]) true → ◌≡◌ {A = Bool} (elim p [ Some k ↦ k.lock == l | None ↦ false ]) false
  two None p h l held = absurd cc
  two (Some k) None h l held = refl
  two (Some k) (Some j) h l held = is_false (j.lock == l) (λ too. absurd (h.0.0 (is_equal k.lock l held ∙ sym (is_equal j.lock l too))))

  each_apart : (ys : List Session) → Each (λ l. Each (λ m. l ≢ m) (flat_map holder_lock ys)) (holder_lock x) → Each (HeldApart x) ys
  each_apart [] h = tt
  each_apart (y ∷ ys) h = (
    two x.holder y.holder (each_implied (λ l. Each (λ m. l ≢ m) (flat_map holder_lock (y ∷ ys))) (λ l. Each (λ m. l ≢ m) (holder_lock y)) (λ l k. each_front (λ m. l ≢ m) (holder_lock y) (flat_map holder_lock ys) k) (holder_lock x) h),
    each_apart ys (each_implied (λ l. Each (λ m. l ≢ m) (flat_map holder_lock (y ∷ ys))) (λ l. Each (λ m. l ≢ m) (flat_map holder_lock ys)) (λ l k. each_back (λ m. l ≢ m) (holder_lock y) (flat_map holder_lock ys) k) (holder_lock x) h),
  )

pub sessions_apart : (s : Space) → IsSweepable s → Each (EachLeaf SessionsApart) s.entities
sessions_apart s h = each_implied IsSweepableEntity (EachLeaf SessionsApart) (λ e may. each_leaf (apart_from e.main.sessions may.main.holders) (apart_from e.dead.sessions may.dead.holders) (apart_from e.transfer.sessions may.transfer.holders)) s.entities h.entities

-- ---- changes of a tick are safe

pub safe_of : (q : Test) (t : ℕ) (first_one : Bool) (c : Change) → ((key : LeafKey) (seq : Option ℕ) (hops n : ℕ) (m : Message) → Lasts m → q key.part (stored n t (record { seq = seq; hops = hops; standing = Ready; message = m })) ≡ true)
    → (first_one ≡ true → (part : Part) (c : StoredCopy) (count : ℕ) (standing : Standing) → is_free standing ≡ true → q part (record c { count = count; standing = standing }) ≡ true) → IsOfTick Lasts first_one c → IsSafe q t c
safe_of q t _ _ enters frees (tick_enters key seq hops m few p) = λ n. enters key seq hops n m p
safe_of q t _ _ enters frees (tick_passes key cause) = tt
safe_of q t _ _ enters frees (tick_ends key n by_settlement cause) = tt
safe_of q t _ _ enters frees (tick_drops n) = tt
safe_of q t _ _ enters frees (tick_frees key n by_settlement count standing free few) = λ c. frees refl key.part c count standing free
safe_of q t _ _ enters frees (tick_closes key l) = tt

pub lock_safe : (t : ℕ) (first_one : Bool) (c : Change) → IsOfTick Lasts first_one c → IsSafe (under_no_ended t) t c
lock_safe t first_one c is = safe_of (under_no_ended t) t first_one c (λ key seq hops n m p. refl) (λ so part c count standing free. at standing free) is where
  at : (standing : Standing) → is_free standing ≡ true → not (until_over t standing) ≡ true
  at Ready e = refl
  at Deferred e = refl
  at (Held lock hold deferred) e = absurd cc
  at (Scheduled moment) e = absurd cc

pub fresh_lasts : (t : ℕ) (ttl : Option ℕ) → IsLasting ttl → ◌≡◌ {A = Bool} (elim ttl [ Some seconds ↦ nat_le (t + 1000 * seconds) t | None ↦ false ]) false
fresh_lasts t None h = refl
fresh_lasts t (Some seconds) h = later (t + 1000 * seconds) t (omega (arith, h)) where
  later : (a b : ℕ) → b < a → nat_le a b ≡ false
  later a b lt = grind (arith, nat_tests)

pub expired_safe : (t : ℕ) (c : Change) → IsOfTick Lasts false c → IsSafe (not_expired t) t c
expired_safe t c is = safe_of (not_expired t) t false c (λ key seq hops n m p. at key.part seq hops n m p) (λ so. absurd cc) is where
  at : (part : Part) (seq : Option ℕ) (hops n : ℕ) (m : Message) → Lasts m → not_expired t part (stored n t (record { seq = seq; hops = hops; standing = Ready; message = m })) ≡ true
  at Main seq hops n m p = ap not (fresh_lasts t m.ttl p)
  at Dead seq hops n m p = refl
  at Transfer seq hops n m p = refl

pub come_safe : (t : ℕ) (c : Change) → IsOfTick Lasts false c → IsSafe (not_come t) t c
come_safe t c is = safe_of (not_come t) t false c (λ key seq hops n m p. refl) (λ so. absurd cc) is

-- ---- each sweep takes up all that is due as it begins

module _ (key : LeafKey) (n : ℕ) where
  abbrev pub IsOther : Entity → Part → StoredCopy → Type 0
  IsOther e part c = is_at key n e part c.number ≡ false

  pub none_of : (c d : List Change) → list_any (settles_copy key n) (c ++ d) ≡ false → (list_any (settles_copy key n) c ≡ false) × (list_any (settles_copy key n) d ≡ false)
  none_of c d none = at (list_any (settles_copy key n) c) (list_any (settles_copy key n) d) (sym (list_any-append (settles_copy key n) c d) ∙ none) where
    at : (a b : Bool) → (a || b) ≡ false → (a ≡ false) × (b ≡ false)
    at false b e = (refl, e)
    at true b e = absurd cc

  pub others_in : {X : Type 0} (f : X → List Change) (F : X → Type 0) (items : List X) → ((i : X) → list_any (settles_copy key n) (f i) ≡ false → F i) → list_any (settles_copy key n) (flat_map f items) ≡ false → Each F items
  others_in f F [] more none = tt
  others_in f F (i ∷ items) more none = let parts = none_of (f i) (flat_map f items) none in (more i parts.0, others_in f F items more parts.1)

  others_in_turn : (f : Item → Space → List Change) (F : Item → Type 0) (t : ℕ) (items : List Item) (s : Space) → ((i : Item) (s : Space) → list_any (settles_copy key n) (f i s) ≡ false → F i) → list_any (settles_copy key n) (in_turn f t items s) ≡ false → Each F items
  others_in_turn f F t [] s more none = tt
  others_in_turn f F t (i ∷ items) s more none = let parts = none_of (f i s) (in_turn f t items (after_all t (f i s) s)) none in (more i s parts.0, others_in_turn f F t items (after_all t (f i s) s) more parts.1)

  pub not_at : (b : Bool) → (b ≡ true → ⊥) → b ≡ false
  not_at b h = is_false b h

  pub clash : (b : Bool) → b ≡ true → b ≡ false → ⊥
  clash b on off = cc

  -- an item that isn't the one of this part and number
  pub here_fine : (q : Test) (p : Leaf → StoredCopy → Bool) (e : Entity) → ((c : StoredCopy) → p (leaf_of key.part e) c ≡ false → q key.part c ≡ true) → Each (λ i. IsOther i.entity i.part i.copy) (items_in p e key.part) → e.about.number ≡ key.entity
      → Each (λ c. c.number ≡ n → q key.part c ≡ true) (leaf_of key.part e).copies
  here_fine q p e fine others own = from (leaf_of key.part e).copies (mapped_each (λ i. IsOther i.entity i.part i.copy) (item e key.part) (filter (p (leaf_of key.part e)) (leaf_of key.part e).copies) others) where
    same : (part : Part) → is_same_part part part ≡ true
    same Main = refl
    same Dead = refl
    same Transfer = refl

    equal : (a b : ℕ) → a ≡ b → (a == b) ≡ true
    equal a b e = grind (arith, nat_tests)

    hit : (c : StoredCopy) → c.number ≡ n → is_at key n e key.part c.number ≡ true
    hit c is = rw (equal e.about.number key.entity own, same key.part, equal c.number n is) refl

    from : (cs : List StoredCopy) → Each (λ c. IsOther e key.part c) (filter (p (leaf_of key.part e)) cs) → Each (λ c. c.number ≡ n → q key.part c ≡ true) cs
    from [] h = tt
    from (c ∷ cs) h = at (p (leaf_of key.part e) c) refl (from cs) where
      at : (b : Bool) → p (leaf_of key.part e) c ≡ b → (Each (λ c. IsOther e key.part c) (filter (p (leaf_of key.part e)) cs) → Each (λ c. c.number ≡ n → q key.part c ≡ true) cs) → Each (λ c. c.number ≡ n → q key.part c ≡ true) (c ∷ cs)
      at true is ih = let both_of : (IsOther e key.part c) × Each (λ c. IsOther e key.part c) (filter (p (leaf_of key.part e)) cs) = rw is at h in ((λ same'. absurd (clash (is_at key n e key.part c.number) (hit c same') both_of.0)), ih both_of.1)
      at false is ih = let rest : Each (λ c. IsOther e key.part c) (filter (p (leaf_of key.part e)) cs) = rw is at h in ((λ same'. fine c is), ih rest)

  all_fine : (q : Test) (p : Leaf → StoredCopy → Bool) (es : List Entity) → Each (λ e. e.about.number ≡ key.entity → (c : StoredCopy) → p (leaf_of key.part e) c ≡ false → q key.part c ≡ true) es → Each (λ i. IsOther i.entity i.part i.copy) (flat_map (items_of p) es)
      → Each (λ e. e.about.number ≡ key.entity → Each (λ c. c.number ≡ n → q key.part c ≡ true) (leaf_of key.part e).copies) es
  all_fine q p es fine others = each_implied (λ e. (e.about.number ≡ key.entity → (c : StoredCopy) → p (leaf_of key.part e) c ≡ false → q key.part c ≡ true) × Each (λ i. IsOther i.entity i.part i.copy) (items_of p e)) (λ e. e.about.number ≡ key.entity → Each (λ c. c.number ≡ n → q key.part c ≡ true) (leaf_of key.part e).copies)
      (λ e h own. here_fine q p e (h.0 own) (at key.part e h.1) own) es (each_both (λ e. e.about.number ≡ key.entity → (c : StoredCopy) → p (leaf_of key.part e) c ≡ false → q key.part c ≡ true) (λ e. Each (λ i. IsOther i.entity i.part i.copy) (items_of p e)) es fine (flat_each (λ i. IsOther i.entity i.part i.copy) (items_of p) es others)) where
        at : (part : Part) (e : Entity) → Each (λ i. IsOther i.entity i.part i.copy) (items_of p e) → Each (λ i. IsOther i.entity i.part i.copy) (items_in p e part)
        at Main e h = each_front (λ i. IsOther i.entity i.part i.copy) (items_in p e Main) (items_in p e Dead) (each_front (λ i. IsOther i.entity i.part i.copy) (items_in p e Main ++ items_in p e Dead) (items_in p e Transfer) h)
        at Dead e h = each_back (λ i. IsOther i.entity i.part i.copy) (items_in p e Main) (items_in p e Dead) (each_front (λ i. IsOther i.entity i.part i.copy) (items_in p e Main ++ items_in p e Dead) (items_in p e Transfer) h)
        at Transfer e h = each_back (λ i. IsOther i.entity i.part i.copy) (items_in p e Main ++ items_in p e Dead) (items_in p e Transfer) h

  -- a copy that the first sweep doesn't settle is under no lock that has ended
  pub locks_settled : (q : Test) (t : ℕ) (s : Space) → Each (λ e. e.about.number ≡ key.entity → (c : StoredCopy) → has_ended t (leaf_of key.part e).sessions c.standing ≡ false → q key.part c ≡ true) s.entities → list_any (settles_copy key n) (sweep_locks t s) ≡ false → AreFine q key n s
  locks_settled q t s fine none = all_fine q (λ leaf c. has_ended t leaf.sessions c.standing) s.entities fine
      (others_in (λ i. released (listed s) t i.entity i.part i.copy true false) (λ i. IsOther i.entity i.part i.copy) (due_locks t s)
      (λ i off. not_at (is_at key n i.entity i.part i.copy.number) (λ hit. clash (list_any (settles_copy key n) (released (listed s) t i.entity i.part i.copy true false)) (released_settles key n (listed s) t i.entity i.part i.copy true false hit) off))
      (none_of (due_sessions t s) (flat_map (λ i. released (listed s) t i.entity i.part i.copy true false) (due_locks t s)) none).1)

  pub locks_fine : (t : ℕ) (s : Space) → list_any (settles_copy key n) (sweep_locks t s) ≡ false → AreFine (under_no_ended t) key n s
  locks_fine t s none = locks_settled (under_no_ended t) t s (each_of_all (λ e. e.about.number ≡ key.entity → (c : StoredCopy) → has_ended t (leaf_of key.part e).sessions c.standing ≡ false → under_no_ended t key.part c ≡ true) (λ e own c off. fine (leaf_of key.part e).sessions c.standing off) s.entities) none where
    fine : (sessions : List Session) (standing : Standing) → has_ended t sessions standing ≡ false → not (until_over t standing) ≡ true
    fine sessions (Held lock (Until u) deferred) e = ap not e
    fine sessions (Held lock (UnderSession l) deferred) e = refl
    fine sessions Ready e = refl
    fine sessions Deferred e = refl
    fine sessions (Scheduled moment) e = refl

  pub scheduled_fine : (t : ℕ) (s : Space) → list_any (settles_copy key n) (sweep_scheduled t s) ≡ false → AreFine (not_come t) key n s
  scheduled_fine t s none = all_fine (not_come t) (λ leaf c. has_come t c.standing) s.entities (each_of_all (λ e. e.about.number ≡ key.entity → (c : StoredCopy) → has_come t c.standing ≡ false → not_come t key.part c ≡ true) (λ e own c off. ap not off) s.entities)
      (others_in_turn activated (λ i. IsOther i.entity i.part i.copy) t (due_scheduled t s) s
      (λ i now off. not_at (is_at key n i.entity i.part i.copy.number) (λ hit. clash (list_any (settles_copy key n) (activated i now)) (rw hit refl) off)) none)

  pub expired_fine : (t : ℕ) (s : Space) → list_any (settles_copy key n) (sweep_expired t s) ≡ false → AreFine (not_expired t) key n s
  expired_fine t s none = at key.part refl where
    main : Each (λ i. is_at key n i.entity Main i.copy.number ≡ false) (due_expired t s)
    main = others_in (λ i. expired (listed s) i.entity i.copy false) (λ i. is_at key n i.entity Main i.copy.number ≡ false) (due_expired t s)
        (λ i off. not_at (is_at key n i.entity Main i.copy.number) (λ hit. clash (list_any (settles_copy key n) (expired (listed s) i.entity i.copy false)) (expired_settles key n (listed s) i.entity i.copy false hit) off)) none

    looked_for : Leaf → StoredCopy → Bool
    looked_for leaf c = is_ready c.standing && is_expired t c

    any_part : (part : Part) → ((c : StoredCopy) → not_expired t part c ≡ true) → Each (λ e. e.about.number ≡ key.entity → Each (λ c. c.number ≡ n → not_expired t part c ≡ true) (leaf_of part e).copies) s.entities
    any_part part all = each_of_all (λ e. e.about.number ≡ key.entity → Each (λ c. c.number ≡ n → not_expired t part c ≡ true) (leaf_of part e).copies) (λ e own. each_of_all (λ c. c.number ≡ n → not_expired t part c ≡ true) (λ c same. all c) (leaf_of part e).copies) s.entities

    at : (part : Part) → key.part ≡ part → AreFine (not_expired t) key n s
    at Dead is = subst (λ (part : Part). Each (λ e. e.about.number ≡ key.entity → Each (λ c. c.number ≡ n → not_expired t part c ≡ true) (leaf_of part e).copies) s.entities) (sym is) (any_part Dead (λ c. refl))
    at Transfer is = subst (λ (part : Part). Each (λ e. e.about.number ≡ key.entity → Each (λ c. c.number ≡ n → not_expired t part c ≡ true) (leaf_of part e).copies) s.entities) (sym is) (any_part Transfer (λ c. refl))
    at Main is = each_implied (λ e. Each (λ i. is_at key n i.entity Main i.copy.number ≡ false) (items_in looked_for e Main)) (λ e. e.about.number ≡ key.entity → Each (λ c. c.number ≡ n → not_expired t key.part c ≡ true) (leaf_of key.part e).copies)
        (λ e h. here_fine (not_expired t) looked_for e (λ c off. subst (λ (part : Part). not_expired t part c ≡ true) (sym is) (ap not off)) (moved e h)) s.entities
        (flat_each (λ i. is_at key n i.entity Main i.copy.number ≡ false) (λ e. items_in looked_for e Main) s.entities main) where
          moved : (e : Entity) → Each (λ i. is_at key n i.entity Main i.copy.number ≡ false) (items_in looked_for e Main) → Each (λ i. IsOther i.entity i.part i.copy) (items_in looked_for e key.part)
          moved e h = subst (λ (part : Part). Each (λ i. IsOther i.entity i.part i.copy) (items_in looked_for e part)) (sym is)
              (each_mapped (λ i. IsOther i.entity i.part i.copy) (item e Main) (filter (looked_for e.main) e.main.copies) (mapped_each (λ i. is_at key n i.entity Main i.copy.number ≡ false) (item e Main) (filter (looked_for e.main) e.main.copies) h))

-- ---- sessions

module _ (key : LeafKey) (l : ℕ) where
  pub none_closed : (c d : List Change) → list_any (closes_lock key l) (c ++ d) ≡ false → (list_any (closes_lock key l) c ≡ false) × (list_any (closes_lock key l) d ≡ false)
  none_closed c d none = at (list_any (closes_lock key l) c) (list_any (closes_lock key l) d) (sym (list_any-append (closes_lock key l) c d) ∙ none) where
    at : (a b : Bool) → (a || b) ≡ false → (a ≡ false) × (b ≡ false)
    at false b e = (refl, e)
    at true b e = absurd cc

  -- closes of a part of an entity close its sessions whose locks have ended
  part_on : (t : ℕ) (e : Entity) (xs : List Session) → list_any (closes_lock key l) (flat_map (λ x. closes_due t e key.part x.holder) xs) ≡ false → e.about.number ≡ key.entity → Each (λ x. is_held_under l x ≡ true → has_run_out t x ≡ false) xs
  part_on t e [] none own = tt
  part_on t e (x ∷ xs) none own = let parts = none_closed (closes_due t e key.part x.holder) (flat_map (λ x. closes_due t e key.part x.holder) xs) none in (at x.holder parts.0, part_on t e xs parts.1 own) where
    same : (part : Part) → is_same_part part part ≡ true
    same Main = refl
    same Dead = refl
    same Transfer = refl

    equal : (a b : ℕ) → a ≡ b → (a == b) ≡ true
    equal a b is = grind (arith, nat_tests)

    at : (o : Option Holder) → list_any (closes_lock key l) (closes_due t e key.part o) ≡ false → ◌≡◌ {A = Bool} (elim o [ Some h ↦ h.lock == l | None ↦ false ]) true → ◌≡◌ {A = Bool} (elim o [ Some h ↦ nat_le h.until t | None ↦ false ]) false
    at None off held = absurd cc
    at (Some h) off held = go (nat_le h.until t) refl where
      go : (b : Bool) → nat_le h.until t ≡ b → b ≡ false
      go false is = refl
      go true is = let bad : true ≡ false = rw (is, equal e.about.number key.entity own, same key.part, held) at off in absurd cc

  pub sessions_on : (t : ℕ) (s : Space) → list_any (closes_lock key l) (due_sessions t s) ≡ false → AreHeldOn t key l s
  sessions_on t s none = over s.entities none where
    at : (part : Part) (e : Entity) → key.part ≡ part → list_any (closes_lock key l) (closes_in t e Main ++ closes_in t e Dead ++ closes_in t e Transfer) ≡ false → list_any (closes_lock key l) (closes_in t e part) ≡ false
    at Main e is none = (none_closed (closes_in t e Main) (closes_in t e Dead) (none_closed (closes_in t e Main ++ closes_in t e Dead) (closes_in t e Transfer) none).0).0
    at Dead e is none = (none_closed (closes_in t e Main) (closes_in t e Dead) (none_closed (closes_in t e Main ++ closes_in t e Dead) (closes_in t e Transfer) none).0).1
    at Transfer e is none = (none_closed (closes_in t e Main ++ closes_in t e Dead) (closes_in t e Transfer) none).1

    over : (es : List Entity) → list_any (closes_lock key l) (flat_map (λ e. closes_in t e Main ++ closes_in t e Dead ++ closes_in t e Transfer) es) ≡ false
        → Each (λ e. e.about.number ≡ key.entity → Each (λ x. is_held_under l x ≡ true → has_run_out t x ≡ false) (leaf_of key.part e).sessions) es
    over [] none = tt
    over (e ∷ es) none =
        let parts = none_closed (closes_in t e Main ++ closes_in t e Dead ++ closes_in t e Transfer) (flat_map (λ e. closes_in t e Main ++ closes_in t e Dead ++ closes_in t e Transfer) es) none in
        ((λ own. part_on t e (leaf_of key.part e).sessions (at key.part e refl parts.0) own), over es parts.1)
