-- What each entity keeps as a change is made, and that the numbers of entities and of copies rise.
use Rattle.std.proofs.Common.{List, Some, [], ap, arith, not, refl, rules, ℕ, ◌+◌, ◌∷◌, ◌≡◌}
use Rattle.sb_laws.proofs.Eachs.{each_append, each_changed, each_filter, like_gone, like_one, rising_append, rising_changed, rising_filter, rising_further}
use Rattle.sb_machine.specs.Changes.{after, after_all, noted, on_entity, rule_added, rule_dropped, with_rules}
use Rattle.sb_machine.specs.Each.{Each}
use Rattle.sb_machine.specs.Keyed.{AreRising}
use Rattle.sb_machine.specs.Leaves.{has_number, is_deferred, leaf_after, prolonged_standing, stored}
use Rattle.sb_machine.specs.Namespace.{empty_leaf, entity_of, is_entity, leaf_of, new_entity, with_leaf}
use Rattle.sb_machine.specs.declared.call.Part.{Part}
use Rattle.sb_machine.specs.declared.call.Part.TheVariants.{Dead, Main, Transfer}
use Rattle.sb_machine.specs.declared.change.Change.{Change}
use Rattle.sb_machine.specs.declared.change.Change.TheVariants.{AddsRule, Begins, Drops, DropsRule, InLeaf, Makes, Notes, Queues, Removes}
use Rattle.sb_machine.specs.declared.change.LeafChange.{LeafChange}
use Rattle.sb_machine.specs.declared.change.LeafChange.TheVariants.{Closes, Ends, Enters, Holds, Opens, Passes, Prolongs, Renews, Stands, Writes}
use Rattle.sb_machine.specs.declared.state.Entity.{Entity}
use Rattle.sb_machine.specs.declared.state.Leaf.{Leaf}
use Rattle.sb_machine.specs.declared.state.Listed.{Listed}
use Rattle.sb_machine.specs.declared.state.Space.{Space}
use Rattle.sb_machine.specs.declared.state.Standing.TheVariants.{Held}
use Rattle.sb_machine.specs.declared.state.StoredCopy.{StoredCopy}

-- ---- a change keeps something of the entity that it changes

abbrev pub KeepsEntity : (Entity → Type 0) → ℕ → Change → Space → Type 0
KeepsEntity P t (InLeaf key c) s = (e : Entity) → entity_of key.entity s ≡ Some e → P e → P (with_leaf key.part (leaf_after (s.last_lock + 1) t c (leaf_of key.part e)) e)
KeepsEntity P t (Notes n id) s = (e : Entity) → entity_of n s ≡ Some e → P e → P (record e { ids = noted e.about.description.window id t e.ids })
KeepsEntity P t (Makes kind path description rules) s = P (new_entity (record { number = s.last_entity + 1; kind = kind; path = path; description = description; rules = rules }))
KeepsEntity P t (AddsRule n rule) s = (e : Entity) → entity_of n s ≡ Some e → P e → P (with_rules (rule_added rule) e)
KeepsEntity P t (DropsRule n name) s = (e : Entity) → entity_of n s ≡ Some e → P e → P (with_rules (rule_dropped name) e)
KeepsEntity P t (Removes n) s = Unit {0}
KeepsEntity P t (Begins n deadline) s = Unit {0}
KeepsEntity P t (Queues n deadline operation) s = Unit {0}
KeepsEntity P t (Drops n) s = Unit {0}

pub entities_keep : (P : Entity → Type 0) (t : ℕ) (c : Change) (s : Space) → KeepsEntity P t c s → Each P s.entities → Each P (after t c s).entities
entities_keep P t (InLeaf key c) s keeps h = each_changed P (is_entity key.entity) (λ e. with_leaf key.part (leaf_after (s.last_lock + 1) t c (leaf_of key.part e)) e ∷ []) s.entities (λ e there p. (keeps e there p, tt)) h
entities_keep P t (Notes n id) s keeps h = each_changed P (is_entity n) (λ e. record e { ids = noted e.about.description.window id t e.ids } ∷ []) s.entities (λ e there p. (keeps e there p, tt)) h
entities_keep P t (Makes kind path description rules) s keeps h = each_append P s.entities _ h (keeps, tt)
entities_keep P t (AddsRule n rule) s keeps h = each_changed P (is_entity n) (λ e. with_rules (rule_added rule) e ∷ []) s.entities (λ e there p. (keeps e there p, tt)) h
entities_keep P t (DropsRule n name) s keeps h = each_changed P (is_entity n) (λ e. with_rules (rule_dropped name) e ∷ []) s.entities (λ e there p. (keeps e there p, tt)) h
entities_keep P t (Removes n) s keeps h = each_filter P (λ e. not (is_entity n e)) s.entities h
entities_keep P t (Begins n deadline) s keeps h = h
entities_keep P t (Queues n deadline operation) s keeps h = h
entities_keep P t (Drops n) s keeps h = h

-- ---- parts

pub data EachLeaf (P : Part → Leaf → Type 0) (e : Entity) : Type 0 where
  each_leaf : P Main e.main → P Dead e.dead → P Transfer e.transfer → EachLeaf P e

pub leaf_each : (P : Part → Leaf → Type 0) (part : Part) (e : Entity) → EachLeaf P e → P part (leaf_of part e)
leaf_each P Main e (each_leaf main dead transfer) = main
leaf_each P Dead e (each_leaf main dead transfer) = dead
leaf_each P Transfer e (each_leaf main dead transfer) = transfer

pub with_leaf_each : (P : Part → Leaf → Type 0) (part : Part) (leaf : Leaf) (e : Entity) → P part leaf → EachLeaf P e → EachLeaf P (with_leaf part leaf e)
with_leaf_each P Main leaf e new (each_leaf main dead transfer) = each_leaf new dead transfer
with_leaf_each P Dead leaf e new (each_leaf main dead transfer) = each_leaf main new transfer
with_leaf_each P Transfer leaf e new (each_leaf main dead transfer) = each_leaf main dead new

pub about_with_leaf : (part : Part) (leaf : Leaf) (e : Entity) → (with_leaf part leaf e).about ≡ e.about
about_with_leaf Main leaf e = refl
about_with_leaf Dead leaf e = refl
about_with_leaf Transfer leaf e = refl

pub ids_with_leaf : (part : Part) (leaf : Leaf) (e : Entity) → (with_leaf part leaf e).ids ≡ e.ids
ids_with_leaf Main leaf e = refl
ids_with_leaf Dead leaf e = refl
ids_with_leaf Transfer leaf e = refl

-- a change of a part keeps something of the part that it changes
abbrev pub KeepsLeaf : (Part → Leaf → Type 0) → ℕ → Change → Space → Type 0
KeepsLeaf P t (InLeaf key c) s = (e : Entity) → entity_of key.entity s ≡ Some e → P key.part (leaf_of key.part e) → P key.part (leaf_after (s.last_lock + 1) t c (leaf_of key.part e))
KeepsLeaf P t (Makes kind path description rules) s = (part : Part) → P part empty_leaf
KeepsLeaf P t _ s = Unit {0}

pub leaves_keep : (P : Part → Leaf → Type 0) (t : ℕ) (c : Change) (s : Space) → KeepsLeaf P t c s → Each (EachLeaf P) s.entities → Each (EachLeaf P) (after t c s).entities
leaves_keep P t c s keeps h = entities_keep (EachLeaf P) t c s (by c keeps) h where
  by : (c : Change) → KeepsLeaf P t c s → KeepsEntity (EachLeaf P) t c s
  by (InLeaf key c) keeps = λ e there p. with_leaf_each P key.part (leaf_after (s.last_lock + 1) t c (leaf_of key.part e)) e (keeps e there (leaf_each P key.part e p)) p
  by (Notes n id) keeps = λ e there p. at e p where
    at : (e : Entity) → EachLeaf P e → EachLeaf P (record e { ids = noted e.about.description.window id t e.ids })
    at e (each_leaf main dead transfer) = each_leaf main dead transfer
  by (Makes kind path description rules) keeps = each_leaf (keeps Main) (keeps Dead) (keeps Transfer)
  by (AddsRule n rule) keeps = λ e there p. at e p where
    at : (e : Entity) → EachLeaf P e → EachLeaf P (with_rules (rule_added rule) e)
    at e (each_leaf main dead transfer) = each_leaf main dead transfer
  by (DropsRule n name) keeps = λ e there p. at e p where
    at : (e : Entity) → EachLeaf P e → EachLeaf P (with_rules (rule_dropped name) e)
    at e (each_leaf main dead transfer) = each_leaf main dead transfer
  by (Removes n) keeps = tt
  by (Begins n deadline) keeps = tt
  by (Queues n deadline operation) keeps = tt
  by (Drops n) keeps = tt

-- ---- numbers rise

abbrev pub copy_number : StoredCopy → ℕ
copy_number c = c.number

abbrev pub entity_number : Entity → ℕ
entity_number e = e.about.number

abbrev pub LeafRises : Part → Leaf → Type 0
LeafRises part leaf = AreRising copy_number 0 leaf.last leaf.copies

-- entities and, in each part, copies stand in rising number, up to the last that was given
pub record IsOrdered (s : Space) : Type 0 where
  pub entities : AreRising entity_number 0 s.last_entity s.entities
  pub copies : Each (EachLeaf LeafRises) s.entities

leaf_rises : (lock t : ℕ) (part : Part) (c : LeafChange) (leaf : Leaf) → LeafRises part leaf → LeafRises part (leaf_after lock t c leaf)
leaf_rises lock t part (Enters fresh) leaf h = rising_append copy_number 0 leaf.last (stored (leaf.last + 1) t fresh) leaf.copies refl h
leaf_rises lock t part (Passes cause) leaf h = rising_further copy_number 0 leaf.last leaf.copies h
leaf_rises lock t part (Ends n settled cause) leaf h = rising_changed copy_number (has_number n) (λ c. []) 0 leaf.last leaf.copies (λ c. like_gone) h
leaf_rises lock t part (Holds n hold) leaf h = rising_changed copy_number (has_number n) (λ c. record c { standing = Held lock hold (is_deferred c.standing) } ∷ []) 0 leaf.last leaf.copies (λ c. like_one refl) h
leaf_rises lock t part (Stands n settled count standing) leaf h = rising_changed copy_number (has_number n) (λ c. record c { count = count; standing = standing } ∷ []) 0 leaf.last leaf.copies (λ c. like_one refl) h
leaf_rises lock t part (Renews n until) leaf h = rising_changed copy_number (has_number n) (λ c. record c { standing = prolonged_standing until c.standing } ∷ []) 0 leaf.last leaf.copies (λ c. like_one refl) h
leaf_rises lock t part (Opens id until) leaf h = h
leaf_rises lock t part (Closes l) leaf h = h
leaf_rises lock t part (Prolongs l until) leaf h = h
leaf_rises lock t part (Writes l state) leaf h = h

keeps_rises : (t : ℕ) (c : Change) (s : Space) → KeepsLeaf LeafRises t c s
keeps_rises t (InLeaf key c) s = λ e there h. leaf_rises (s.last_lock + 1) t key.part c (leaf_of key.part e) h
keeps_rises t (Makes kind path description rules) s = λ part. omega arith
keeps_rises t (Notes n id) s = tt
keeps_rises t (AddsRule n rule) s = tt
keeps_rises t (DropsRule n name) s = tt
keeps_rises t (Removes n) s = tt
keeps_rises t (Begins n deadline) s = tt
keeps_rises t (Queues n deadline operation) s = tt
keeps_rises t (Drops n) s = tt

abbrev RisesTo : Space → Type 0
RisesTo s = AreRising entity_number 0 s.last_entity s.entities

rises_on : (n : ℕ) (f : Entity → Entity) (s : Space) → ((e : Entity) → (f e).about.number ≡ e.about.number) → RisesTo s → AreRising entity_number 0 s.last_entity (on_entity n f s)
rises_on n f s same h = rising_changed entity_number (is_entity n) (λ e. f e ∷ []) 0 s.last_entity s.entities (λ e. like_one (same e)) h

entities_rise : (t : ℕ) (c : Change) (s : Space) → RisesTo s → RisesTo (after t c s)
entities_rise t (InLeaf key c) s h = rises_on key.entity (λ e. with_leaf key.part (leaf_after (s.last_lock + 1) t c (leaf_of key.part e)) e) s (λ e. ap (λ (about : Listed). about.number) (about_with_leaf key.part (leaf_after (s.last_lock + 1) t c (leaf_of key.part e)) e)) h
entities_rise t (Notes n id) s h = rises_on n (λ e. record e { ids = noted e.about.description.window id t e.ids }) s (λ e. refl) h
entities_rise t (Makes kind path description rules) s h = rising_append entity_number 0 s.last_entity (new_entity (record { number = s.last_entity + 1; kind = kind; path = path; description = description; rules = rules })) s.entities refl h
entities_rise t (AddsRule n rule) s h = rises_on n (with_rules (rule_added rule)) s (λ e. refl) h
entities_rise t (DropsRule n name) s h = rises_on n (with_rules (rule_dropped name)) s (λ e. refl) h
entities_rise t (Removes n) s h = rising_filter entity_number (λ e. not (is_entity n e)) 0 s.last_entity s.entities h
entities_rise t (Begins n deadline) s h = h
entities_rise t (Queues n deadline operation) s h = h
entities_rise t (Drops n) s h = h

pub stays_ordered : (t : ℕ) (c : Change) (s : Space) → IsOrdered s → IsOrdered (after t c s)
stays_ordered t c s h = record { entities = entities_rise t c s h.entities; copies = leaves_keep LeafRises t c s (keeps_rises t c s) h.copies }

pub stays_ordered_all : (t : ℕ) (cs : List Change) (s : Space) → IsOrdered s → IsOrdered (after_all t cs s)
stays_ordered_all t [] s h = h
stays_ordered_all t (c ∷ cs) s h = stays_ordered_all t cs (after t c s) (stays_ordered t c s h)
