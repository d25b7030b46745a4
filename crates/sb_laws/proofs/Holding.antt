-- A session keeps its holder through each change that doesn't close it or remove its entity.
use Rattle.std.proofs.Common.{Bool, List, None, Option, Some, [], ap, arith, false, refl, subst, sym, true, ℕ, ◌++◌, ◌+◌, ◌==◌, ◌∙◌, ◌∷◌, ◌≡◌}
use Rattle.std.proofs.lemmas.Bool.Decides.{nat_tests}
use Rattle.std.specs.Prelude.{bytes_eq, find, if◌then◌else◌, is_some}
use Rattle.sb_laws.proofs.Deeds.{IsQuiet}
use Rattle.sb_laws.proofs.Ending.{other_stays}
use Rattle.sb_laws.proofs.Entities.{about_with_leaf}
use Rattle.sb_laws.proofs.FoundOn.{found_on, put_in}
use Rattle.sb_laws.proofs.Lists.{found_append, found_behind, found_first, found_here}
use Rattle.sb_laws.proofs.Placed.{found_past}
use Rattle.sb_laws.proofs.Sameness.{same_bytes}
use Rattle.sb_laws.proofs.Swept.{leaf_of_own, leaf_of_with, same_part}
use Rattle.sb_laws.specs.Holders.{SessionKey}
use Rattle.sb_machine.specs.Changes.{after, noted, on_entity, rule_added, rule_dropped, with_rules}
use Rattle.sb_machine.specs.Keyed.{changed, with_sorted}
use Rattle.sb_machine.specs.Leaves.{has_id, holder_new, is_held_under, leaf_after, prolonged_holder, remembered, session_in, taken}
use Rattle.sb_machine.specs.Names.{is_before, is_same_part}
use Rattle.sb_machine.specs.Namespace.{entity_of, is_entity, leaf_of, new_entity, with_leaf}
use Rattle.sb_machine.specs.declared.call.Part.{Part}
use Rattle.sb_machine.specs.declared.call.Part.TheVariants.{Dead, Main, Transfer}
use Rattle.sb_machine.specs.declared.change.Change.{Change}
use Rattle.sb_machine.specs.declared.change.Change.TheVariants.{AddsRule, Begins, Drops, DropsRule, InLeaf, Makes, Notes, Queues, Removes}
use Rattle.sb_machine.specs.declared.change.LeafChange.{LeafChange}
use Rattle.sb_machine.specs.declared.change.LeafChange.TheVariants.{Closes, Ends, Enters, Holds, Opens, Passes, Prolongs, Renews, Stands, Writes}
use Rattle.sb_machine.specs.declared.change.LeafKey.{LeafKey}
use Rattle.sb_machine.specs.declared.state.Entity.{Entity}
use Rattle.sb_machine.specs.declared.state.Holder.{Holder}
use Rattle.sb_machine.specs.declared.state.Leaf.{Leaf}
use Rattle.sb_machine.specs.declared.state.Listed.{Listed}
use Rattle.sb_machine.specs.declared.state.Session.{Session}
use Rattle.sb_machine.specs.declared.state.Space.{Space}

-- the session of this id is held under this lock
pub record HeldIn (k : ℕ) (id : List ℕ) (xs : List Session) : Type 0 where
  pub session : Session
  pub found : find (has_id id) xs ≡ Some session
  pub under : is_held_under k session ≡ true

-- what a change makes of such a session: the same id, the same holder
abbrev KeepsIt : ℕ → List ℕ → List Session → Type 0
KeepsIt k id ys = (y : Session) × (ys ≡ y ∷ []) × (has_id id y ≡ true) × (is_held_under k y ≡ true)

held_changed : (k : ℕ) (id : List ℕ) (p : Session → Bool) (g : Session → List Session) (xs : List Session)
    → ((x : Session) → p x ≡ true → has_id id x ≡ true → is_held_under k x ≡ true → KeepsIt k id (g x))
    → ((x : Session) → p x ≡ true → has_id id x ≡ false → find (has_id id) (g x) ≡ None)
    → HeldIn k id xs → HeldIn k id (changed p g xs)
held_changed k id p g [] keeps other h = let bad : None ≡ Some h.session = h.found in absurd cc
held_changed k id p g (x ∷ xs) keeps other h = at (p x) (has_id id x) refl refl (λ later. held_changed k id p g xs keeps other later) where
  at : (a b : Bool) → p x ≡ a → has_id id x ≡ b → (HeldIn k id xs → HeldIn k id (changed p g xs)) → HeldIn k id (changed p g (x ∷ xs))
  at true true ea eb ih =
      let same = found_here (has_id id) x h.session xs eb h.found in
      let it = keeps x ea eb (subst (λ (y : Session). is_held_under k y ≡ true) (sym same) h.under) in
      let list : changed p g (x ∷ xs) ≡ it.0 ∷ xs = rw ea (ap (λ (l : List Session). l ++ xs) it.1) in
      subst (HeldIn k id) (sym list) (record { session = it.0; found = rw it.2 refl; under = it.3 })
  at true false ea eb ih =
      let list : changed p g (x ∷ xs) ≡ g x ++ xs = rw ea refl in
      subst (HeldIn k id) (sym list) (record { session = h.session; found = found_append (has_id id) (g x) xs (other x ea eb) ∙ found_behind (has_id id) x xs (Some h.session) eb h.found; under = h.under })
  at false true ea eb ih =
      let list : changed p g (x ∷ xs) ≡ x ∷ changed p g xs = rw ea refl in
      let same = found_here (has_id id) x h.session xs eb h.found in
      subst (HeldIn k id) (sym list) (record { session = x; found = rw eb refl; under = subst (λ (y : Session). is_held_under k y ≡ true) (sym same) h.under })
  at false false ea eb ih =
      let list : changed p g (x ∷ xs) ≡ x ∷ changed p g xs = rw ea refl in
      let rest = ih (record { session = h.session; found = found_behind (has_id id) x xs (Some h.session) eb h.found; under = h.under }) in
      subst (HeldIn k id) (sym list) (record { session = rest.session; found = rw eb rest.found; under = rest.under })

-- ---- one session

alone : (id : List ℕ) (x : Session) → has_id id x ≡ false → find (has_id id) (x ∷ []) ≡ None
alone id x e = rw e refl

remembered_other : (id : List ℕ) (x : Session) → has_id id x ≡ false → find (has_id id) (remembered x) ≡ None
remembered_other id x e = at (is_some x.holder) (is_some x.state) where
  at : (a b : Bool) → find (has_id id) (if a then x ∷ [] else (if b then x ∷ [] else [])) ≡ None
  at true b = alone id x e
  at false true = alone id x e
  at false false = refl

pub has_holder : (k : ℕ) (o : Option Holder) → ◌≡◌ {A = Bool} (elim o [ Some h ↦ h.lock == k | None ↦ false ]) true → is_some o ≡ true
has_holder k None e = absurd cc
has_holder k (Some h) e = refl

pub taken_under : (k lock until : ℕ) (x : Session) → is_held_under k x ≡ true → is_held_under k (taken lock until x) ≡ true
taken_under k lock until x e = at x.holder e where
  at : (o : Option Holder) → ◌≡◌ {A = Bool} (elim o [ Some h ↦ h.lock == k | None ↦ false ]) true → ◌≡◌ {A = Bool} (elim (elim o as (λ _. Option Holder) [ Some h ↦ Some h | None ↦ Some (holder_new lock until) ]) [ Some h ↦ h.lock == k | None ↦ false ]) true
  at None e = absurd cc
  at (Some h) e = e

pub prolonged_under : (k until : ℕ) (x : Session) → is_held_under k x ≡ true → is_held_under k (record x { holder = prolonged_holder until x.holder }) ≡ true
prolonged_under k until x e = at x.holder e where
  at : (o : Option Holder) → ◌≡◌ {A = Bool} (elim o [ Some h ↦ h.lock == k | None ↦ false ]) true → ◌≡◌ {A = Bool} (elim (prolonged_holder until o) [ Some h ↦ h.lock == k | None ↦ false ]) true
  at None e = absurd cc
  at (Some h) e = e

pub one_lock : (k l : ℕ) (x : Session) → is_held_under k x ≡ true → is_held_under l x ≡ true → (l == k) ≡ true
one_lock k l x a b = at x.holder a b where
  both : (m : ℕ) → (m == k) ≡ true → (m == l) ≡ true → (l == k) ≡ true
  both m p q = grind (arith, nat_tests)

  at : (o : Option Holder) → ◌≡◌ {A = Bool} (elim o [ Some h ↦ h.lock == k | None ↦ false ]) true → ◌≡◌ {A = Bool} (elim o [ Some h ↦ h.lock == l | None ↦ false ]) true → (l == k) ≡ true
  at None a b = absurd cc
  at (Some h) a b = both h.lock a b

-- ---- in one part

abbrev IsQuietIn : ℕ → LeafChange → Type 0
IsQuietIn k (Closes l) = (l == k) ≡ false
IsQuietIn k _ = Unit {0}

leaf_held : (k lock t : ℕ) (id : List ℕ) (c : LeafChange) (leaf : Leaf) → IsQuietIn k c → HeldIn k id leaf.sessions → HeldIn k id (leaf_after lock t c leaf).sessions
leaf_held k lock t id (Opens other until) leaf quiet h = at (session_in other leaf) refl where
  new : Session
  new = record { id = other; state = None; holder = Some (holder_new lock until) }

  off : session_in other leaf ≡ None → (b : Bool) → bytes_eq other id ≡ b → b ≡ false
  off none true is = let bad : Some h.session ≡ None = sym h.found ∙ subst (λ (x : List ℕ). find (has_id x) leaf.sessions ≡ None) (same_bytes other id is) none in absurd cc
  off none false is = refl

  at : (o : Option Session) → session_in other leaf ≡ o
      → HeldIn k id (elim o as (λ _. List Session) [ Some x ↦ changed (has_id other) (λ y. taken lock until y ∷ []) leaf.sessions | None ↦ with_sorted (λ y. is_before y.id other) (record { id = other; state = None; holder = Some (holder_new lock until) }) leaf.sessions ])
  at None none = record { session = h.session; found = found_past (has_id id) (λ y. is_before y.id other) (record { id = other; state = None; holder = Some (holder_new lock until) }) leaf.sessions (off none (bytes_eq other id) refl) ∙ h.found; under = h.under }
  at (Some x) there = held_changed k id (has_id other) (λ y. taken lock until y ∷ []) leaf.sessions
      (λ y p i u. (taken lock until y, refl, i, taken_under k lock until y u))
      (λ y p i. alone id (taken lock until y) i) h
leaf_held k lock t id (Closes l) leaf quiet h =
    held_changed k id (is_held_under l) (λ x. remembered (record x { holder = None })) leaf.sessions
    (λ x p i u. let bad : true ≡ false = sym (one_lock k l x u p) ∙ quiet in absurd cc)
    (λ x p i. remembered_other id (record x { holder = None }) i) h
leaf_held k lock t id (Prolongs l until) leaf quiet h =
    held_changed k id (is_held_under l) (λ x. record x { holder = prolonged_holder until x.holder } ∷ []) leaf.sessions
    (λ x p i u. (record x { holder = prolonged_holder until x.holder }, refl, i, prolonged_under k until x u))
    (λ x p i. alone id (record x { holder = prolonged_holder until x.holder }) i) h
leaf_held k lock t id (Writes l bytes) leaf quiet h =
    held_changed k id (is_held_under l) (λ x. remembered (record x { state = bytes })) leaf.sessions
    (λ x p i u. (record x { state = bytes }, rw (has_holder k x.holder u) refl, i, u))
    (λ x p i. remembered_other id (record x { state = bytes }) i) h
leaf_held k lock t id (Enters fresh) leaf quiet h = h
leaf_held k lock t id (Passes cause) leaf quiet h = h
leaf_held k lock t id (Ends n settled cause) leaf quiet h = h
leaf_held k lock t id (Holds n hold) leaf quiet h = h
leaf_held k lock t id (Stands n settled count standing) leaf quiet h = h
leaf_held k lock t id (Renews n until) leaf quiet h = h

-- ---- in the namespace

-- the fact of a namespace: the session is held under this lock
pub record HeldBy (key : SessionKey) (k : ℕ) (s : Space) : Type 0 where
  pub entity : Entity
  pub there : entity_of key.leaf.entity s ≡ Some entity
  pub held : HeldIn k key.id (leaf_of key.leaf.part entity).sessions

moved_held : (k lock t : ℕ) (id : List ℕ) (p q : Part) (c : LeafChange) (e : Entity) → IsQuietIn k c → HeldIn k id (leaf_of q e).sessions → HeldIn k id (leaf_of q (with_leaf p (leaf_after lock t c (leaf_of p e)) e)).sessions
moved_held k lock t id p q c e quiet h = at (is_same_part p q) refl where
  at : (b : Bool) → is_same_part p q ≡ b → HeldIn k id (leaf_of q (with_leaf p (leaf_after lock t c (leaf_of p e)) e)).sessions
  at false other = subst (λ (leaf : Leaf). HeldIn k id leaf.sessions) (sym (leaf_of_with p q (leaf_after lock t c (leaf_of p e)) e other)) h
  at true own = subst (λ (r : Part). HeldIn k id (leaf_of r (with_leaf p (leaf_after lock t c (leaf_of p e)) e)).sessions) (same_part p q own)
      (subst (λ (leaf : Leaf). HeldIn k id leaf.sessions) (sym (leaf_of_own p (leaf_after lock t c (leaf_of p e)) e)) (leaf_held k lock t id c (leaf_of p e) quiet (subst (λ (r : Part). HeldIn k id (leaf_of r e).sessions) (sym (same_part p q own)) h)))

held_on : (key : SessionKey) (k n : ℕ) (g : Entity → Entity) (s later : Space) → later.entities ≡ on_entity n g s → ((e : Entity) → (g e).about.number ≡ e.about.number)
    → ((e : Entity) → HeldIn k key.id (leaf_of key.leaf.part e).sessions → HeldIn k key.id (leaf_of key.leaf.part (g e)).sessions) → HeldBy key k s → HeldBy key k later
held_on key k n g s later is numbers keeps h = at (key.leaf.entity == n) refl where
  found : entity_of key.leaf.entity later ≡ put_in (key.leaf.entity == n) g (Some h.entity)
  found = ap (λ (es : List Entity). find (is_entity key.leaf.entity) es) is ∙ found_on key.leaf.entity n g s.entities numbers ∙ ap (put_in (key.leaf.entity == n) g) h.there

  at : (b : Bool) → (key.leaf.entity == n) ≡ b → HeldBy key k later
  at true same = record { entity = g h.entity; there = found ∙ ap (λ (b : Bool). put_in b g (Some h.entity)) same; held = keeps h.entity h.held }
  at false other = record { entity = h.entity; there = found ∙ ap (λ (b : Bool). put_in b g (Some h.entity)) other; held = h.held }

noted_held : (k t : ℕ) (id text : List ℕ) (q : Part) (e : Entity) → HeldIn k id (leaf_of q e).sessions → HeldIn k id (leaf_of q (record e { ids = noted e.about.description.window text t e.ids })).sessions
noted_held k t id text Main e h = h
noted_held k t id text Dead e h = h
noted_held k t id text Transfer e h = h

quiet_in : (k n : ℕ) (key : LeafKey) (c : LeafChange) → IsQuiet k n (InLeaf key c) → IsQuietIn k c
quiet_in k n key (Closes l) quiet = quiet
quiet_in k n key (Enters fresh) quiet = tt
quiet_in k n key (Passes cause) quiet = tt
quiet_in k n key (Ends m settled cause) quiet = tt
quiet_in k n key (Holds m hold) quiet = tt
quiet_in k n key (Stands m settled count standing) quiet = tt
quiet_in k n key (Renews m until) quiet = tt
quiet_in k n key (Opens id until) quiet = tt
quiet_in k n key (Prolongs l until) quiet = tt
quiet_in k n key (Writes l bytes) quiet = tt

turned : (a b : ℕ) → (a == b) ≡ false → (b == a) ≡ false
turned a b e = grind (arith, nat_tests)

pub held_after : (key : SessionKey) (k t : ℕ) (c : Change) (s : Space) → IsQuiet k key.leaf.entity c → HeldBy key k s → HeldBy key k (after t c s)
held_after key k t (InLeaf at c) s quiet h = held_on key k at.entity (λ e. with_leaf at.part (leaf_after (s.last_lock + 1) t c (leaf_of at.part e)) e) s (after t (InLeaf at c) s) refl
    (λ e. ap (λ (about : Listed). about.number) (about_with_leaf at.part (leaf_after (s.last_lock + 1) t c (leaf_of at.part e)) e)) (λ e so. moved_held k (s.last_lock + 1) t key.id at.part key.leaf.part c e (quiet_in k key.leaf.entity at c quiet) so) h
held_after key k t (Notes n text) s quiet h = held_on key k n (λ e. record e { ids = noted e.about.description.window text t e.ids }) s (after t (Notes n text) s) refl (λ e. refl) (λ e so. noted_held k t key.id text key.leaf.part e so) h
held_after key k t (Makes kind path description rs) s quiet h = record { entity = h.entity; there = found_first (is_entity key.leaf.entity) h.entity s.entities (new_entity (record { number = s.last_entity + 1; kind = kind; path = path; description = description; rules = rs }) ∷ []) h.there; held = h.held }
held_after key k t (Removes n) s quiet h = record { entity = h.entity; there = other_stays key.leaf.entity n s.entities (turned n key.leaf.entity quiet) ∙ h.there; held = h.held }
held_after key k t (AddsRule n rule) s quiet h = held_on key k n (with_rules (rule_added rule)) s (after t (AddsRule n rule) s) refl (λ e. refl) (λ e so. ruled key.leaf.part e so) h where
  ruled : (q : Part) (e : Entity) → HeldIn k key.id (leaf_of q e).sessions → HeldIn k key.id (leaf_of q (with_rules (rule_added rule) e)).sessions
  ruled Main e so = so
  ruled Dead e so = so
  ruled Transfer e so = so
held_after key k t (DropsRule n name) s quiet h = held_on key k n (with_rules (rule_dropped name)) s (after t (DropsRule n name) s) refl (λ e. refl) (λ e so. ruled key.leaf.part e so) h where
  ruled : (q : Part) (e : Entity) → HeldIn k key.id (leaf_of q e).sessions → HeldIn k key.id (leaf_of q (with_rules (rule_dropped name) e)).sessions
  ruled Main e so = so
  ruled Dead e so = so
  ruled Transfer e so = so
held_after key k t (Begins n deadline) s quiet h = record { entity = h.entity; there = h.there; held = h.held }
held_after key k t (Queues n deadline operation) s quiet h = record { entity = h.entity; there = h.there; held = h.held }
held_after key k t (Drops n) s quiet h = record { entity = h.entity; there = h.there; held = h.held }
