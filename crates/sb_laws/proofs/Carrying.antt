-- Messages of copies and descriptions of entities, as each change keeps them.
use Rattle.std.proofs.Common.{Bool, List, Some, [], arith, false, filter, map, refl, rules, subst, sym, true, ℕ, ◌+◌, ◌∷◌, ◌≡◌, ◌≤◌}
use Rattle.std.specs.List.{flat_map}
use Rattle.sb_laws.proofs.Eachs.{each_append, each_back, each_changed, each_front}
use Rattle.sb_laws.proofs.Entities.{EachLeaf, KeepsEntity, KeepsLeaf, about_with_leaf, entities_keep, leaves_keep}
use Rattle.sb_laws.proofs.Mild.{IsCarried}
use Rattle.sb_machine.specs.Changes.{after, after_all, in_turn, rule_added, rule_dropped, with_rules}
use Rattle.sb_machine.specs.Delivery.{max_count}
use Rattle.sb_machine.specs.Due.{Item, items_in}
use Rattle.sb_machine.specs.Each.{Each}
use Rattle.sb_machine.specs.Keyed.{changed}
use Rattle.sb_machine.specs.Leaves.{has_number, is_deferred, leaf_after, prolonged_standing, stored}
use Rattle.sb_machine.specs.Namespace.{entity_of, leaf_of}
use Rattle.sb_machine.specs.Visits.{max_hops}
use Rattle.sb_machine.specs.declared.call.Part.{Part}
use Rattle.sb_machine.specs.declared.change.Change.{Change}
use Rattle.sb_machine.specs.declared.change.Change.TheVariants.{AddsRule, Begins, Drops, DropsRule, InLeaf, Makes, Notes, Queues, Removes}
use Rattle.sb_machine.specs.declared.change.LeafChange.{LeafChange}
use Rattle.sb_machine.specs.declared.change.LeafChange.TheVariants.{Closes, Ends, Enters, Holds, Opens, Passes, Prolongs, Renews, Stands, Writes}
use Rattle.sb_machine.specs.declared.change.LeafKey.{LeafKey}
use Rattle.sb_model.specs.declared.message.Message.{Message}
use Rattle.sb_machine.specs.declared.state.Entity.{Entity}
use Rattle.sb_machine.specs.declared.state.Leaf.{Leaf}
use Rattle.sb_machine.specs.declared.state.Listed.{Listed}
use Rattle.sb_machine.specs.declared.state.Space.{Space}
use Rattle.sb_machine.specs.declared.state.Standing.TheVariants.{Held}
use Rattle.sb_machine.specs.declared.state.StoredCopy.{StoredCopy}

-- P of the message of each copy, and G of what is listed of each entity
pub record Carries (P : Message → Type 0) (G : Listed → Type 0) (s : Space) : Type 0 where
  pub abouts : Each (λ e. G e.about) s.entities
  pub copies : Each (EachLeaf (λ part leaf. Each (IsCarried P) leaf.copies)) s.entities

-- a change brings such messages and entities alone
abbrev pub Brings : (Message → Type 0) → (Listed → Type 0) → Change → Space → Type 0
Brings P G (InLeaf key (Enters fresh)) s = (fresh.hops ≤ max_hops) × P fresh.message
Brings P G (InLeaf key (Stands n by_settlement count standing)) s = count ≤ max_count
Brings P G (Makes kind path description rules) s = G (record { number = s.last_entity + 1; kind = kind; path = path; description = description; rules = rules })
Brings P G (AddsRule n rule) s = (e : Entity) → entity_of n s ≡ Some e → G e.about → G (with_rules (rule_added rule) e).about
Brings P G (DropsRule n name) s = (e : Entity) → entity_of n s ≡ Some e → G e.about → G (with_rules (rule_dropped name) e).about
Brings P G _ s = Unit {0}

module _ (P : Message → Type 0) (G : Listed → Type 0) where
  abbrev CopiesCarried : Part → Leaf → Type 0
  CopiesCarried part leaf = Each (IsCarried P) leaf.copies

  abouts_kept : (t : ℕ) (c : Change) (s : Space) → Brings P G c s → Each (λ e. G e.about) s.entities → Each (λ e. G e.about) (after t c s).entities
  abouts_kept t c s brings h = entities_keep (λ e. G e.about) t c s (by c brings) h where
    by : (c : Change) → Brings P G c s → KeepsEntity (λ e. G e.about) t c s
    by (InLeaf key c) brings = λ e there g. subst G (sym (about_with_leaf key.part (leaf_after (s.last_lock + 1) t c (leaf_of key.part e)) e)) g
    by (Notes n id) brings = λ e there g. g
    by (Makes kind path description rules) brings = brings
    by (AddsRule n rule) brings = brings
    by (DropsRule n name) brings = brings
    by (Removes n) brings = tt
    by (Begins n deadline) brings = tt
    by (Queues n deadline operation) brings = tt
    by (Drops n) brings = tt

  abbrev CopyKept : (StoredCopy → List StoredCopy) → Type 0
  CopyKept g = (c : StoredCopy) → IsCarried P c → Each (IsCarried P) (g c)

  copies_changed : (n : ℕ) (g : StoredCopy → List StoredCopy) (leaf : Leaf) → CopyKept g → Each (IsCarried P) leaf.copies → Each (IsCarried P) (changed (has_number n) g leaf.copies)
  copies_changed n g leaf keeps h = each_changed (IsCarried P) (has_number n) g leaf.copies (λ c there p. keeps c p) h

  leaf_carried : (lock t : ℕ) (key : LeafKey) (c : LeafChange) (s : Space) (leaf : Leaf) → Brings P G (InLeaf key c) s → Each (IsCarried P) leaf.copies → Each (IsCarried P) (leaf_after lock t c leaf).copies
  leaf_carried lock t key (Enters fresh) s leaf brings h = each_append (IsCarried P) leaf.copies (stored (leaf.last + 1) t fresh ∷ []) h (record { hops = brings.0; count = omega arith; message = brings.1 }, tt)
  leaf_carried lock t key (Passes cause) s leaf brings h = h
  leaf_carried lock t key (Ends n by_settlement cause) s leaf brings h = copies_changed n (λ c. []) leaf (λ c p. tt) h
  leaf_carried lock t key (Holds n hold) s leaf brings h = copies_changed n (λ c. record c { standing = Held lock hold (is_deferred c.standing) } ∷ []) leaf (λ c p. (record { hops = p.hops; count = p.count; message = p.message }, tt)) h
  leaf_carried lock t key (Stands n by_settlement count standing) s leaf brings h = copies_changed n (λ c. record c { count = count; standing = standing } ∷ []) leaf (λ c p. (record { hops = p.hops; count = brings; message = p.message }, tt)) h
  leaf_carried lock t key (Renews n until) s leaf brings h = copies_changed n (λ c. record c { standing = prolonged_standing until c.standing } ∷ []) leaf (λ c p. (record { hops = p.hops; count = p.count; message = p.message }, tt)) h
  leaf_carried lock t key (Opens id until) s leaf brings h = h
  leaf_carried lock t key (Closes l) s leaf brings h = h
  leaf_carried lock t key (Prolongs l until) s leaf brings h = h
  leaf_carried lock t key (Writes l state) s leaf brings h = h

  pub stays_carried : (t : ℕ) (c : Change) (s : Space) → Brings P G c s → Carries P G s → Carries P G (after t c s)
  stays_carried t c s brings h = record { abouts = abouts_kept t c s brings h.abouts; copies = leaves_keep CopiesCarried t c s (by c brings) h.copies } where
    by : (c : Change) → Brings P G c s → KeepsLeaf CopiesCarried t c s
    by (InLeaf key c) brings = λ e there h. leaf_carried (s.last_lock + 1) t key c s (leaf_of key.part e) brings h
    by (Makes kind path description rules) brings = λ part. tt
    by (Notes n id) brings = tt
    by (AddsRule n rule) brings = tt
    by (DropsRule n name) brings = tt
    by (Removes n) brings = tt
    by (Begins n deadline) brings = tt
    by (Queues n deadline operation) brings = tt
    by (Drops n) brings = tt

  pub listed_carried : (es : List Entity) → Each (λ e. G e.about) es → Each G (map (λ e. e.about) es)
  listed_carried [] h = tt
  listed_carried (e ∷ es) h = (h.0, listed_carried es h.1)

-- ---- items, and changes for each of them

pub each_flat : {X Y : Type 0} (P : X → Type 0) (Q : Y → Type 0) (f : X → List Y) (xs : List X) → ((x : X) → P x → Each Q (f x)) → Each P xs → Each Q (flat_map f xs)
each_flat P Q f [] more h = tt
each_flat P Q f (x ∷ xs) more h = each_append Q (f x) (flat_map f xs) (more x h.0) (each_flat P Q f xs more h.1)

pub flat_each : {X Y : Type 0} (Q : Y → Type 0) (f : X → List Y) (xs : List X) → Each Q (flat_map f xs) → Each (λ x. Each Q (f x)) xs
flat_each Q f [] h = tt
flat_each Q f (x ∷ xs) h = (each_front Q (f x) (flat_map f xs) h, flat_each Q f xs (each_back Q (f x) (flat_map f xs) h))

pub each_mapped : {X Y : Type 0} (Q : Y → Type 0) (f : X → Y) (xs : List X) → Each (λ x. Q (f x)) xs → Each Q (map f xs)
each_mapped Q f [] h = tt
each_mapped Q f (x ∷ xs) h = (h.0, each_mapped Q f xs h.1)

pub mapped_each : {X Y : Type 0} (Q : Y → Type 0) (f : X → Y) (xs : List X) → Each Q (map f xs) → Each (λ x. Q (f x)) xs
mapped_each Q f [] h = tt
mapped_each Q f (x ∷ xs) h = (h.0, mapped_each Q f xs h.1)

abbrev pub item : Entity → Part → StoredCopy → Item
item e part c = record { entity = e; part = part; copy = c }

pub each_item_in : (p : Leaf → StoredCopy → Bool) (F : Item → Type 0) (e : Entity) (part : Part) → Each (λ c. p (leaf_of part e) c ≡ true → F (item e part c)) (leaf_of part e).copies → Each F (items_in p e part)
each_item_in p F e part h = each_mapped F (item e part) (filter (p (leaf_of part e)) (leaf_of part e).copies) (passed (p (leaf_of part e)) (leaf_of part e).copies h) where
  passed : (r : StoredCopy → Bool) (cs : List StoredCopy) → Each (λ c. r c ≡ true → F (item e part c)) cs → Each (λ c. F (item e part c)) (filter r cs)
  passed r [] h = tt
  passed r (c ∷ cs) h = at (r c) refl (passed r cs h.1) where
    at : (b : Bool) → r c ≡ b → Each (λ d. F (item e part d)) (filter r cs) → Each (λ d. F (item e part d)) (filter r (c ∷ cs))
    at true is ih = rw is (h.0 is, ih)
    at false is ih = rw is ih

pub kept_by_all : (C : Change → Type 0) (I : Space → Type 0) (t : ℕ) → ((c : Change) (s : Space) → C c → I s → I (after t c s)) → (cs : List Change) (s : Space) → Each C cs → I s → I (after_all t cs s)
kept_by_all C I t keeps [] s h i = i
kept_by_all C I t keeps (c ∷ cs) s h i = kept_by_all C I t keeps cs (after t c s) h.1 (keeps c s h.0 i)

-- for each item in turn, on what those before it leave
pub each_in_turn : {X : Type 0} (C : Change → Type 0) (I : Space → Type 0) (F : X → Type 0) (f : X → Space → List Change) (t : ℕ) → ((x : X) (s : Space) → F x → I s → Each C (f x s)) → ((c : Change) (s : Space) → C c → I s → I (after t c s))
    → (xs : List X) (s : Space) → Each F xs → I s → Each C (in_turn f t xs s)
each_in_turn C I F f t gives keeps [] s h i = tt
each_in_turn C I F f t gives keeps (x ∷ xs) s h i =
    each_append C (f x s) (in_turn f t xs (after_all t (f x s) s)) (gives x s h.0 i) (each_in_turn C I F f t gives keeps xs (after_all t (f x s) s) h.1 (kept_by_all C I t keeps (f x s) s (gives x s h.0 i) i))
