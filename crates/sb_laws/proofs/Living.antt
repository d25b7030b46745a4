-- Where nothing is due and each copy under a session's lock names its holder, each lock that a copy is held under lives.
use Rattle.std.proofs.Common.{Bool, List, None, Option, Some, [], ap, arith, false, filter, inl, inr, map, nat_le, nat_lt, not, refl, subst, sym, true, ℕ, ◌&&◌, ◌++◌, ◌+◌, ◌==◌, ◌||◌, ◌∙◌, ◌∷◌, ◌≡◌}
use Rattle.std.proofs.lemmas.Bool.Decides.{nat_tests}
use Rattle.std.specs.List.{flat_map, list_any}
use Rattle.std.specs.Prelude.{if◌then◌else◌}
use Rattle.sb_laws.proofs.Anyone.{any_append, any_changed, any_found, any_gone, or_left, or_map}
use Rattle.sb_laws.proofs.Calm.{IsCalm, calm_drops, calm_ends, calm_enters, calm_frees, calm_notes, calm_passes}
use Rattle.sb_laws.proofs.Deeds.{IsJoint, IsUnspent, free_unheld, joint_begins, joint_calm, joint_writes, unheld_lock}
use Rattle.sb_laws.proofs.Dueness.{found_none}
use Rattle.sb_laws.proofs.Eachs.{each_append, each_both, each_implied}
use Rattle.sb_laws.proofs.Freed.{AreNamed, none_exempt}
use Rattle.sb_laws.proofs.Loose.{IsHeldOr, LooseIn, under_exempt}
use Rattle.sb_laws.proofs.Opening.{nothing_left}
use Rattle.sb_laws.proofs.Sameness.{two}
use Rattle.sb_machine.specs.Changes.{after, along, noted}
use Rattle.sb_machine.specs.Delivery.{in_part}
use Rattle.sb_machine.specs.Due.{closes_due, closes_in, due_expired, due_locks, due_scheduled, due_sessions, due_transactions, is_due, is_none_in, items_in, items_of}
use Rattle.sb_machine.specs.Each.{Each, has_lock, is_text_of}
use Rattle.sb_machine.specs.Ends.{leaf_spends, lock_in, lock_of, spends_in}
use Rattle.sb_machine.specs.Fit.{IsHold}
use Rattle.sb_machine.specs.Leases.{has_ended, is_living, is_living_holder, lives, lives_in_leaf}
use Rattle.sb_machine.specs.Leaves.{copy_in, has_number, is_held_under, leaf_after, stored}
use Rattle.sb_machine.specs.Messages.{text_of}
use Rattle.sb_machine.specs.Namespace.{entity_of, is_entity, key_of, leaf_of, with_leaf}
use Rattle.sb_machine.specs.declared.call.Part.{Part}
use Rattle.sb_machine.specs.declared.call.Part.TheVariants.{Dead, Main, Transfer}
use Rattle.sb_machine.specs.declared.change.Change.{Change}
use Rattle.sb_machine.specs.declared.change.Change.TheVariants.{AddsRule, Begins, Drops, DropsRule, InLeaf, Makes, Notes, Queues, Removes}
use Rattle.sb_machine.specs.declared.change.LeafChange.{LeafChange}
use Rattle.sb_machine.specs.declared.change.LeafChange.TheVariants.{Closes, Ends, Enters, Holds, Opens, Passes, Prolongs, Renews, Stands, Writes}
use Rattle.sb_machine.specs.declared.change.LeafKey.{LeafKey}
use Rattle.sb_machine.specs.declared.state.Entity.{Entity}
use Rattle.sb_machine.specs.declared.state.Hold.TheVariants.{Until, Session as UnderSession}
use Rattle.sb_machine.specs.declared.state.Holder.{Holder}
use Rattle.sb_machine.specs.declared.state.Leaf.{Leaf}
use Rattle.sb_machine.specs.declared.state.Session.{Session}
use Rattle.sb_machine.specs.declared.state.Space.{Space}
use Rattle.sb_machine.specs.declared.state.Standing.{Standing}
use Rattle.sb_machine.specs.declared.state.Standing.TheVariants.{Deferred, Held, Ready, Scheduled}
use Rattle.sb_machine.specs.declared.state.StoredCopy.{StoredCopy}
use Rattle.sb_model.specs.declared.message.SystemName.TheVariants.{SessionId}

-- a copy is held under this lock
abbrev pub under_leaf : ℕ → Leaf → Bool
under_leaf k leaf = list_any (λ c. has_lock k c.standing) leaf.copies

abbrev pub under_in : ℕ → Entity → Bool
under_in k e = under_leaf k e.main || under_leaf k e.dead || under_leaf k e.transfer

abbrev pub under : ℕ → Space → Bool
under k s = list_any (under_in k) s.entities

-- ---- one of three

second_of : (d e f : Bool) → e ≡ true → (d || e || f) ≡ true
second_of true e f is = refl
second_of false e f is = rw is refl

third_of : (d e f : Bool) → f ≡ true → (d || e || f) ≡ true
third_of true e f is = refl
third_of false true f is = refl
third_of false false f is = is

first_of : (d e f : Bool) → d ≡ true → (d || e || f) ≡ true
first_of d e f is = rw is refl

three_map : (a b c d e f : Bool) → (a ≡ true → d ≡ true) → (b ≡ true → e ≡ true) → (c ≡ true → f ≡ true) → (a || b || c) ≡ true → (d || e || f) ≡ true
three_map true b c d e f p q r is = first_of d e f (p refl)
three_map false true c d e f p q r is = second_of d e f (q refl)
three_map false false true d e f p q r is = third_of d e f (r refl)
three_map false false false d e f p q r is = absurd cc

-- a part's is one of the three
of_part : (part : Part) (f : Leaf → Bool) (e : Entity) → f (leaf_of part e) ≡ true → (f e.main || f e.dead || f e.transfer) ≡ true
of_part Main f e is = first_of (f e.main) (f e.dead) (f e.transfer) is
of_part Dead f e is = second_of (f e.main) (f e.dead) (f e.transfer) is
of_part Transfer f e is = third_of (f e.main) (f e.dead) (f e.transfer) is

-- ---- calm changes put no copy under a lock

module _ (k t : ℕ) where
  entity_under : (part : Part) (leaf : Leaf) (e : Entity) → (under_leaf k leaf ≡ true → under_leaf k (leaf_of part e) ≡ true) → under_in k (with_leaf part leaf e) ≡ true → under_in k e ≡ true
  entity_under Main leaf e back is = three_map (under_leaf k leaf) (under_leaf k e.dead) (under_leaf k e.transfer) (under_leaf k e.main) (under_leaf k e.dead) (under_leaf k e.transfer) back (λ h. h) (λ h. h) is
  entity_under Dead leaf e back is = three_map (under_leaf k e.main) (under_leaf k leaf) (under_leaf k e.transfer) (under_leaf k e.main) (under_leaf k e.dead) (under_leaf k e.transfer) (λ h. h) back (λ h. h) is
  entity_under Transfer leaf e back is = three_map (under_leaf k e.main) (under_leaf k e.dead) (under_leaf k leaf) (under_leaf k e.main) (under_leaf k e.dead) (under_leaf k e.transfer) (λ h. h) (λ h. h) back is

  part_under : (key : LeafKey) (c : LeafChange) (s : Space) → ((leaf : Leaf) → under_leaf k (leaf_after (s.last_lock + 1) t c leaf) ≡ true → under_leaf k leaf ≡ true) → under k (after t (InLeaf key c) s) ≡ true → under k s ≡ true
  part_under key c s back is = any_changed (under_in k) (is_entity key.entity) (λ e. with_leaf key.part (leaf_after (s.last_lock + 1) t c (leaf_of key.part e)) e) s.entities (λ e. entity_under key.part (leaf_after (s.last_lock + 1) t c (leaf_of key.part e)) e (back (leaf_of key.part e))) is

  pub falls_under : (b : Bool) (c : Change) (s : Space) → IsCalm b c → under k (after t c s) ≡ true → under k s ≡ true
  falls_under b _ s (calm_enters key fresh unheld) is = part_under key (Enters fresh) s (λ leaf so. any_append (λ c. has_lock k c.standing) leaf.copies (stored (leaf.last + 1) t fresh ∷ []) so (none fresh.standing (unheld_lock k fresh.standing unheld))) is where
    none : (standing : Standing) → has_lock k standing ≡ false → (has_lock k standing || false) ≡ false
    none standing off = rw off refl
  falls_under b _ s (calm_passes key cause) is = part_under key (Passes cause) s (λ leaf so. so) is
  falls_under b _ s (calm_ends key n cause) is = part_under key (Ends n b cause) s (λ leaf so. any_gone (λ c. has_lock k c.standing) (has_number n) leaf.copies so) is
  falls_under b _ s (calm_frees key n count standing free) is = part_under key (Stands n b count standing) s
      (λ leaf so. any_changed (λ c. has_lock k c.standing) (has_number n) (λ c. record c { count = count; standing = standing }) leaf.copies (λ c held. let bad : true ≡ false = sym held ∙ unheld_lock k standing (free_unheld standing free) in absurd cc) so) is
  falls_under b _ s (calm_notes n id) is = any_changed (under_in k) (is_entity n) (λ e. record e { ids = noted e.about.description.window id t e.ids }) s.entities (λ e so. so) is
  falls_under b _ s (calm_drops n) is = is

-- ---- what is settled was held

lock_is : (standing : Standing) → Each (λ k. has_lock k standing ≡ true) (lock_in standing)
lock_is Ready = tt
lock_is Deferred = tt
lock_is (Scheduled moment) = tt
lock_is (Held lock hold deferred) = (self lock, tt) where
  self : (l : ℕ) → (l == l) ≡ true
  self l = grind (arith, nat_tests)

leaf_spent : (c : LeafChange) (leaf : Leaf) → Each (λ k. under_leaf k leaf ≡ true) (leaf_spends c leaf)
leaf_spent c leaf = by c where
  one_copy : (n : ℕ) (settled : Bool) → Each (λ k. under_leaf k leaf ≡ true) (if settled then lock_of (copy_in n leaf) else [])
  one_copy n false = tt
  one_copy n true = at (copy_in n leaf) refl where
    at : (o : Option StoredCopy) → copy_in n leaf ≡ o → Each (λ k. under_leaf k leaf ≡ true) (lock_of o)
    at None is = tt
    at (Some c) is = each_implied (λ k. has_lock k c.standing ≡ true) (λ k. under_leaf k leaf ≡ true) (λ k held. any_found (λ d. has_lock k d.standing) (has_number n) c leaf.copies is held) (lock_in c.standing) (lock_is c.standing)

  by : (c : LeafChange) → Each (λ k. under_leaf k leaf ≡ true) (leaf_spends c leaf)
  by (Ends n settled cause) = one_copy n settled
  by (Stands n settled count standing) = one_copy n settled
  by (Enters fresh) = tt
  by (Passes cause) = tt
  by (Holds n hold) = tt
  by (Renews n until) = tt
  by (Opens id until) = tt
  by (Closes l) = tt
  by (Prolongs l until) = tt
  by (Writes l bytes) = tt

spends_under : (t : ℕ) (c : Change) (s : Space) → Each (λ k. under k s ≡ true) (spends_in t c s)
spends_under t (InLeaf key c) s = at (entity_of key.entity s) refl where
  at : (o : Option Entity) → entity_of key.entity s ≡ o → Each (λ k. under k s ≡ true) (spends_in t (InLeaf key c) s)
  at None is = let none : spends_in t (InLeaf key c) s ≡ [] = rw (is, spends_in) refl in subst (Each (λ k. under k s ≡ true)) (sym none) tt
  at (Some e) is =
      let spends : spends_in t (InLeaf key c) s ≡ leaf_spends c (leaf_of key.part e) = rw (is, spends_in) refl in
      subst (Each (λ k. under k s ≡ true)) (sym spends) (each_implied (λ k. under_leaf k (leaf_of key.part e) ≡ true) (λ k. under k s ≡ true)
      (λ k held. any_found (under_in k) (is_entity key.entity) e s.entities is (of_part key.part (under_leaf k) e held)) (leaf_spends c (leaf_of key.part e)) (leaf_spent c (leaf_of key.part e)))
spends_under t (Notes n id) s = tt
spends_under t (Makes kind path description rs) s = tt
spends_under t (Removes n) s = tt
spends_under t (AddsRule n rule) s = tt
spends_under t (DropsRule n name) s = tt
spends_under t (Begins n deadline) s = tt
spends_under t (Queues n deadline operation) s = tt
spends_under t (Drops n) s = tt

-- so do the changes of operations that act together
pub joint_falls : (k t : ℕ) (c : Change) (s : Space) → IsJoint c → under k (after t c s) ≡ true → under k s ≡ true
joint_falls k t _ s (joint_begins n deadline) is = is
joint_falls k t _ s (joint_writes key lock bytes) is = part_under k t key (Writes lock bytes) s (λ leaf so. so) is
joint_falls k t _ s (joint_calm c calm) is = falls_under k t true c s calm is

-- along changes that put no copy under a lock, only locks of copies that were held before them are settled
pub along_under : (C : Change → Type 0) (t : ℕ) → ((k : ℕ) (c : Change) (s : Space) → C c → under k (after t c s) ≡ true → under k s ≡ true)
    → (start : Space) (cs : List Change) (s : Space) → ((k : ℕ) → under k s ≡ true → under k start ≡ true) → Each C cs → Each (λ k. under k start ≡ true) (along spends_in t cs s)
along_under C t falls start [] s back all = tt
along_under C t falls start (c ∷ cs) s back all = each_append (λ k. under k start ≡ true) (spends_in t c s) (along spends_in t cs (after t c s)) (each_implied (λ k. under k s ≡ true) (λ k. under k start ≡ true) back (spends_in t c s) (spends_under t c s))
    (along_under C t falls start cs (after t c s) (λ k held. back k (falls k c s all.0 held)) all.1)

nothing_spent : (t : ℕ) (c : Change) (s : Space) → IsUnspent c → spends_in t c s ≡ []
nothing_spent t (InLeaf key c) s h = at (entity_of key.entity s) refl where
  none : (c : LeafChange) (leaf : Leaf) → IsUnspent (InLeaf key c) → leaf_spends c leaf ≡ []
  none (Ends n settled cause) leaf is = ap (λ (b : Bool). if b then lock_of (copy_in n leaf) else []) is
  none (Stands n settled count standing) leaf is = ap (λ (b : Bool). if b then lock_of (copy_in n leaf) else []) is
  none (Enters fresh) leaf is = refl
  none (Passes cause) leaf is = refl
  none (Holds n hold) leaf is = refl
  none (Renews n until) leaf is = refl
  none (Opens id until) leaf is = refl
  none (Closes l) leaf is = refl
  none (Prolongs l until) leaf is = refl
  none (Writes l bytes) leaf is = refl

  at : (o : Option Entity) → entity_of key.entity s ≡ o → spends_in t (InLeaf key c) s ≡ []
  at None is = rw (is, spends_in) refl
  at (Some e) is = rw (is, spends_in) (none c (leaf_of key.part e) h)
nothing_spent t (Notes n id) s h = refl
nothing_spent t (Makes kind path description rs) s h = refl
nothing_spent t (Removes n) s h = refl
nothing_spent t (AddsRule n rule) s h = refl
nothing_spent t (DropsRule n name) s h = refl
nothing_spent t (Begins n deadline) s h = refl
nothing_spent t (Queues n deadline operation) s h = refl
nothing_spent t (Drops n) s h = refl

pub none_spent : (t : ℕ) (cs : List Change) (s : Space) → Each IsUnspent cs → along spends_in t cs s ≡ []
none_spent t [] s h = refl
none_spent t (c ∷ cs) s h = ap (λ (l : List ℕ). l ++ along spends_in t cs (after t c s)) (nothing_spent t c s h.0) ∙ none_spent t cs (after t c s) h.1

-- ---- each held copy's lock lives

any_implied : {X : Type 0} (p q : X → Bool) (xs : List X) → Each (λ x. p x ≡ true → q x ≡ true) xs → list_any p xs ≡ true → list_any q xs ≡ true
any_implied p q [] h is = absurd cc
any_implied p q (x ∷ xs) h is = or_map (p x) (list_any p xs) (q x) (list_any q xs) h.0 (any_implied p q xs h.1) is

none_passes : {X : Type 0} (p : X → Bool) (xs : List X) → filter p xs ≡ [] → Each (λ x. p x ≡ false) xs
none_passes p [] e = tt
none_passes p (x ∷ xs) e = at (p x) refl (λ rest. none_passes p xs rest) where
  at : (b : Bool) → p x ≡ b → (filter p xs ≡ [] → Each (λ y. p y ≡ false) xs) → Each (λ y. p y ≡ false) (x ∷ xs)
  at true is ih = let bad : x ∷ filter p xs ≡ [] = rw is at e in absurd cc
  at false is ih = (is, ih (rw is at e))

unmapped : {X Y : Type 0} (f : X → Y) (xs : List X) → map f xs ≡ [] → xs ≡ []
unmapped f [] e = refl
unmapped f (x ∷ xs) e = absurd cc

flat_none : {X Y : Type 0} (f : X → List Y) (xs : List X) → flat_map f xs ≡ [] → Each (λ x. f x ≡ []) xs
flat_none f [] e = tt
flat_none f (x ∷ xs) e = let parts = nothing_left (f x) (flat_map f xs) e in (parts.0, flat_none f xs parts.1)

none_due : (a b c d e : Bool) → not (a && b && c && d && e) ≡ false → (a ≡ true) × (b ≡ true)
none_due true true c d e so = (refl, refl)
none_due true false c d e so = absurd cc
none_due false b c d e so = absurd cc

module _ (t : ℕ) where
  runs : (h : ℕ) → nat_le h t ≡ false → nat_lt t h ≡ true
  runs h is = grind (arith, nat_tests)

  -- a holder that isn't due lives
  holder_lives : (e : Entity) (part : Part) (l : ℕ) (x : Session) → closes_due t e part x.holder ≡ [] → is_held_under l x ≡ true → is_living_holder t l x ≡ true
  holder_lives e part l x none held = at x.holder none held where
    at : (o : Option Holder) → closes_due t e part o ≡ [] → ◌≡◌ {A = Bool} (elim o [ Some h ↦ h.lock == l | None ↦ false ]) true → ◌≡◌ {A = Bool} (elim o [ Some h ↦ (h.lock == l) && nat_lt t h.until | None ↦ false ]) true
    at None none held = absurd cc
    at (Some h) none held = go (nat_le h.until t) refl none where
      go : (b : Bool) → nat_le h.until t ≡ b → (if b then in_part part e (Closes h.lock) ∷ [] else []) ≡ [] → ((h.lock == l) && nat_lt t h.until) ≡ true
      go true is none = absurd cc
      go false is none = rw (held, runs h.until is) refl

  copy_lives : (e : Entity) (part : Part) (k : ℕ) (c : StoredCopy) → Each (λ x. closes_due t e part x.holder ≡ []) (leaf_of part e).sessions → has_ended t (leaf_of part e).sessions c.standing ≡ false → IsHold t (leaf_of part e).sessions c c.standing → has_lock k c.standing ≡ true → is_living t (leaf_of part e).sessions k c.standing ≡ true
  copy_lives e part k c none = by c.standing where
    by : (standing : Standing) → has_ended t (leaf_of part e).sessions standing ≡ false → IsHold t (leaf_of part e).sessions c standing → has_lock k standing ≡ true → is_living t (leaf_of part e).sessions k standing ≡ true
    by Ready over named held = absurd cc
    by Deferred over named held = absurd cc
    by (Scheduled moment) over named held = absurd cc
    by (Held lock (Until u) deferred) over named held = rw (held, runs u over) refl
    by (Held lock (UnderSession l) deferred) over named held =
        let living : list_any (is_living_holder t l) (leaf_of part e).sessions ≡ true = any_implied (λ x. is_held_under l x && is_text_of x.id (text_of SessionId c.message)) (is_living_holder t l) (leaf_of part e).sessions
        (each_implied (λ x. closes_due t e part x.holder ≡ []) (λ x. (is_held_under l x && is_text_of x.id (text_of SessionId c.message)) ≡ true → is_living_holder t l x ≡ true)
        (λ x off is. holder_lives e part l x off (two (is_held_under l x) (is_text_of x.id (text_of SessionId c.message)) is).0) (leaf_of part e).sessions none) named in
        rw (held, living) refl

  leaf_lives : (e : Entity) (part : Part) (k : ℕ) → closes_in t e part ≡ [] → items_in (λ leaf c. has_ended t leaf.sessions c.standing) e part ≡ [] → LooseIn none_exempt t (key_of part e) (leaf_of part e) → under_leaf k (leaf_of part e) ≡ true → lives_in_leaf t k (leaf_of part e) ≡ true
  leaf_lives e part k no_close no_item named is =
      let no_session = flat_none (λ x. closes_due t e part x.holder) (leaf_of part e).sessions no_close in
      let none_over = none_passes (λ c. has_ended t (leaf_of part e).sessions c.standing) (leaf_of part e).copies (unmapped _ (filter (λ c. has_ended t (leaf_of part e).sessions c.standing) (leaf_of part e).copies) no_item) in
      or_left (list_any (λ c. is_living t (leaf_of part e).sessions k c.standing) (leaf_of part e).copies) (list_any (is_living_holder t k) (leaf_of part e).sessions)
      (any_implied (λ c. has_lock k c.standing) (λ c. is_living t (leaf_of part e).sessions k c.standing) (leaf_of part e).copies
      (each_implied (λ c. (has_ended t (leaf_of part e).sessions c.standing ≡ false) × IsHeldOr none_exempt t (key_of part e) (leaf_of part e).sessions c) (λ c. has_lock k c.standing ≡ true → is_living t (leaf_of part e).sessions k c.standing ≡ true)
      (λ c both held. copy_lives e part k c no_session both.0 (held_so c both.1) held) (leaf_of part e).copies
      (each_both (λ c. has_ended t (leaf_of part e).sessions c.standing ≡ false) (IsHeldOr none_exempt t (key_of part e) (leaf_of part e).sessions) (leaf_of part e).copies none_over named)) is)
    where
      never : (standing : Standing) → under_exempt none_exempt (key_of part e) standing ≡ false
      never Ready = refl
      never Deferred = refl
      never (Scheduled moment) = refl
      never (Held lock (Until u) deferred) = refl
      never (Held lock (UnderSession l) deferred) = refl

      held_so : (c : StoredCopy) → IsHeldOr none_exempt t (key_of part e) (leaf_of part e).sessions c → IsHold t (leaf_of part e).sessions c c.standing
      held_so c (inl so) = so
      held_so c (inr out) = let bad : true ≡ false = sym out ∙ never c.standing in absurd cc

  entity_lives : (k : ℕ) (e : Entity) → closes_in t e Main ++ closes_in t e Dead ++ closes_in t e Transfer ≡ [] → items_of (λ leaf c. has_ended t leaf.sessions c.standing) e ≡ [] → ((part : Part) → LooseIn none_exempt t (key_of part e) (leaf_of part e))
      → under_in k e ≡ true → (lives_in_leaf t k e.main || lives_in_leaf t k e.dead || lives_in_leaf t k e.transfer) ≡ true
  entity_lives k e no_close no_item named is =
      let closes = nothing_left (closes_in t e Main ++ closes_in t e Dead) (closes_in t e Transfer) no_close in
      let front = nothing_left (closes_in t e Main) (closes_in t e Dead) closes.0 in
      let items = nothing_left (items_in (λ leaf c. has_ended t leaf.sessions c.standing) e Main ++ items_in (λ leaf c. has_ended t leaf.sessions c.standing) e Dead) (items_in (λ leaf c. has_ended t leaf.sessions c.standing) e Transfer) no_item in
      let front_items = nothing_left (items_in (λ leaf c. has_ended t leaf.sessions c.standing) e Main) (items_in (λ leaf c. has_ended t leaf.sessions c.standing) e Dead) items.0 in
      three_map (under_leaf k e.main) (under_leaf k e.dead) (under_leaf k e.transfer) (lives_in_leaf t k e.main) (lives_in_leaf t k e.dead) (lives_in_leaf t k e.transfer)
      (leaf_lives e Main k front.0 front_items.0 (named Main)) (leaf_lives e Dead k front.1 front_items.1 (named Dead)) (leaf_lives e Transfer k closes.1 items.1 (named Transfer)) is

  pub living : (s : Space) → is_due t s ≡ false → AreNamed t s → (k : ℕ) → under k s ≡ true → lives t k s ≡ true
  living s quiet named k is =
      let none = none_due (is_none_in (due_sessions t s)) (is_none_in (due_locks t s)) (is_none_in (due_expired t s)) (is_none_in (due_scheduled t s)) (is_none_in (due_transactions t s)) quiet in
      let no_close = flat_none (λ e. closes_in t e Main ++ closes_in t e Dead ++ closes_in t e Transfer) s.entities (found_none (due_sessions t s) none.0) in
      let no_item = flat_none (items_of (λ leaf c. has_ended t leaf.sessions c.standing)) s.entities (found_none (due_locks t s) none.1) in
      any_implied (under_in k) (λ e. lives_in_leaf t k e.main || lives_in_leaf t k e.dead || lives_in_leaf t k e.transfer) s.entities
      (each_implied (λ e. (closes_in t e Main ++ closes_in t e Dead ++ closes_in t e Transfer ≡ []) × ((items_of (λ leaf c. has_ended t leaf.sessions c.standing) e ≡ []) × ((part : Part) → LooseIn none_exempt t (key_of part e) (leaf_of part e))))
      (λ e. under_in k e ≡ true → (lives_in_leaf t k e.main || lives_in_leaf t k e.dead || lives_in_leaf t k e.transfer) ≡ true) (λ e h. entity_lives k e h.0 h.1.0 h.1.1) s.entities
      (each_both (λ e. closes_in t e Main ++ closes_in t e Dead ++ closes_in t e Transfer ≡ []) (λ e. (items_of (λ leaf c. has_ended t leaf.sessions c.standing) e ≡ []) × ((part : Part) → LooseIn none_exempt t (key_of part e) (leaf_of part e))) s.entities no_close
      (each_both (λ e. items_of (λ leaf c. has_ended t leaf.sessions c.standing) e ≡ []) (λ e. (part : Part) → LooseIn none_exempt t (key_of part e) (leaf_of part e)) s.entities no_item named))) is
