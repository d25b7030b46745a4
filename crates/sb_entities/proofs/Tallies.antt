-- What a change does to the copies that live and to the numbers made: in a part, in an entity, in all.
use Rattle.std.proofs.Common.{◌≡◌, ℕ, ◌+◌, ◌-◌, ◌<◌, ◌≤◌, not, Bool, true, false, List, [], ◌∷◌, filter, length, get_or, map, refl, sym, ap, ◌∙◌, arith}
use Rattle.std.specs.Prelude.{slice_set, sum_by}
use Rattle.std.proofs.lemmas.List.{length-append, map-set, length-map, get_or-map}
use Rattle.std.proofs.lemmas.List.Filters.{sum_by-filter_both}
use Rattle.std.proofs.lemmas.List.Sums.{sum_by-set}
use Rattle.sb_machine.specs.Keyed.{changed}
use Rattle.sb_machine.specs.Leaves.{leaf_after, copies_given, has_number as is_copy, is_deferred, prolonged_standing, stored}
use Rattle.sb_machine.specs.Namespace.{live_in, made, made_in, new_entity}
use Rattle.sb_machine.specs.declared.change.LeafChange.{LeafChange}
use Rattle.sb_machine.specs.declared.change.LeafChange.TheVariants.{Enters, Passes, Ends, Holds, Stands, Renews, Opens, Closes, Prolongs, Writes}
use Rattle.sb_machine.specs.declared.state.Entity.{Entity}
use Rattle.sb_machine.specs.declared.state.Leaf.{Leaf}
use Rattle.sb_machine.specs.declared.state.Standing.TheVariants.{Held}
use Rattle.sb_entities.specs.Stocks.{Entry, has_number, space_of}
use Rattle.sb_entities.specs.Stores.{entity_in, entities_in, entries_in, stock_in}
use Rattle.sb_entities.specs.Tallies.{Tells, TellsOfLeaf, TellsOfEntity, TellsOfAll}
use Rattle.sb_entities.specs.declared.entity.EntityStore.{EntityStore}
use Rattle.sb_entities.specs.declared.space.SpaceStore.{SpaceStore}
use Rattle.sb_entities.specs.declared.tally.Tally.{Tally}
use Rattle.sb_entities.proofs.Numbering.{leaf_last}
use Rattle.sb_entities.proofs.Seen.{sum_seen}
use Rattle.sb_entities.proofs.Stocking.{entity_of, entities_seen}

-- ---- a part

one_for_one : {X : Type 0} (p : X → Bool) (f : X → X) (xs : List X) → length (changed p (λ x. f x ∷ []) xs) ≡ length xs
one_for_one p f [] = refl
one_for_one p f (x ∷ xs) = at (p x) refl (one_for_one p f xs) where
  at : (b : Bool) → p x ≡ b → length (changed p (λ y. f y ∷ []) xs) ≡ length xs → length (changed p (λ y. f y ∷ []) (x ∷ xs)) ≡ length (x ∷ xs)
  at true is ih = rw is refl
  at false is ih = rw is (omega (arith, ih))

no_more : {X : Type 0} (p : X → Bool) (xs : List X) → length (changed p (λ x. []) xs) ≤ length xs
no_more p [] = omega arith
no_more p (x ∷ xs) = at (p x) refl (no_more p xs) where
  at : (b : Bool) → p x ≡ b → length (changed p (λ y. []) xs) ≤ length xs → length (changed p (λ y. []) (x ∷ xs)) ≤ length (x ∷ xs)
  at true is ih = rw is (omega arith)
  at false is ih = rw is (omega (arith, ih))

-- no more copies than numbers
few : (lock t : ℕ) (c : LeafChange) (leaf : Leaf) → length (leaf_after lock t c leaf).copies ≤ length leaf.copies + copies_given c
few lock t (Enters fresh) leaf = omega (arith, length-append leaf.copies (stored (leaf.last + 1) t fresh ∷ []))
few lock t (Passes cause) leaf = omega arith
few lock t (Ends n settled cause) leaf = omega (arith, no_more (is_copy n) leaf.copies)
few lock t (Holds n hold) leaf = omega (arith, one_for_one (is_copy n) (λ c. record c { standing = Held lock hold (is_deferred c.standing) }) leaf.copies)
few lock t (Stands n settled count standing) leaf = omega (arith, one_for_one (is_copy n) (λ c. record c { count = count; standing = standing }) leaf.copies)
few lock t (Renews n until) leaf = omega (arith, one_for_one (is_copy n) (λ c. record c { standing = prolonged_standing until c.standing }) leaf.copies)
few lock t (Opens id until) leaf = omega arith
few lock t (Closes l) leaf = omega arith
few lock t (Prolongs l until) leaf = omega arith
few lock t (Writes l state) leaf = omega arith

pub grows : (lock t : ℕ) (c : LeafChange) (leaf new : Leaf) → new ≡ leaf_after lock t c leaf → new.last ≡ leaf.last + copies_given c
grows lock t c leaf new is = ap (λ (x : Leaf). x.last) is ∙ leaf_last lock t c leaf

pub tells : (lock t : ℕ) (c : LeafChange) (r : Tally) (leaf new : Leaf) → new ≡ leaf_after lock t c leaf → r.entered ≡ length new.copies - length leaf.copies → r.ended ≡ length leaf.copies - length new.copies → r.given ≡ new.last - leaf.last → TellsOfLeaf r leaf new
tells lock t c r leaf new is entered ended given =
    let last = grows lock t c leaf new is in
    let most : length new.copies ≤ length leaf.copies + copies_given c = omega (arith, ap (λ (x : Leaf). length x.copies) is, few lock t c leaf) in
    record {
      lives = omega (arith, entered, ended);
      ended = omega (arith, ended);
      made = omega (arith, given, last);
      numbered = omega (arith, entered, given, last, most);
    }

-- ---- beside what stays

pub beside : (r : Tally) (l m x y a b c d p q : ℕ) → a ≡ l + p → b ≡ m + q → c ≡ x + p → d ≡ y + q → Tells r l m x y → Tells r a b c d
beside r l m x y a b c d p q e f g h t = record {
  lives = omega (arith, e, g, t.lives);
  ended = omega (arith, e, t.ended);
  made = omega (arith, f, h, t.made);
  numbered = t.numbered;
}

-- ---- all

pub set_tells : (r : Tally) (i : ℕ) (e x : EntityStore) (rows : List EntityStore) → i < length rows → e ≡ get_or rows i e → TellsOfEntity r (entity_in e) (entity_in x) → TellsOfAll r (entities_in rows) (entities_in (slice_set rows i x))
set_tells r i e x rows here is t =
    let es = entities_in rows in
    let set : entities_in (slice_set rows i x) ≡ slice_set es i (entity_in x) = map-set entity_in rows i x in
    let within : i < length es = omega (arith, here, length-map rows entity_in) in
    let there : get_or es i (entity_in e) ≡ entity_in e = get_or-map entity_in rows i e (entity_in e) here ∙ ap entity_in (sym is) in
    record {
      lives = omega (arith, t.lives, ap (sum_by live_in) set, ap live_in there, sum_by-set live_in es i (entity_in x) (entity_in e) within);
      ended = omega (arith, t.ended, ap live_in there, sum_by-set live_in es i (new_entity e.listing.about) (entity_in e) within);
      made = omega (arith, t.made, ap (sum_by made_in) set, ap made_in there, sum_by-set made_in es i (entity_in x) (entity_in e) within);
      numbered = t.numbered;
    }

-- ---- those of a number taken out

pub sum_within : (f : Entity → ℕ) (n : ℕ) (rows : List EntityStore) → sum_by (λ x. f x.entity) (filter (has_number n) (entries_in rows)) ≤ sum_by f (entities_in rows)
sum_within f n rows =
    omega (
      arith,
      ap (sum_by f) (entities_seen rows),
      sum_seen entity_of f (entries_in rows),
      sum_by-filter_both (has_number n) (λ x. not (has_number n x)) (λ x. refl) (λ (x : Entry). f x.entity) (entries_in rows),
    )

pub sum_left : (f : Entity → ℕ) (n : ℕ) (rows new : List EntityStore) → entries_in new ≡ filter (λ x. not (has_number n x)) (entries_in rows) → sum_by f (entities_in new) + sum_by (λ x. f x.entity) (filter (has_number n) (entries_in rows)) ≡ sum_by f (entities_in rows)
sum_left f n rows new is =
    omega (
      arith,
      ap (sum_by f) (entities_seen new ∙ ap (map entity_of) is),
      ap (sum_by f) (entities_seen rows),
      sum_seen entity_of f (filter (λ x. not (has_number n x)) (entries_in rows)),
      sum_seen entity_of f (entries_in rows),
      sum_by-filter_both (has_number n) (λ x. not (has_number n x)) (λ x. refl) (λ (x : Entry). f x.entity) (entries_in rows),
    )

-- ---- the namespace

pub made_same : (s : SpaceStore) → s.made ≡ made (space_of (stock_in s))
made_same s = s.given ∙ ap (λ (l : List Entity). s.removed + sum_by made_in l) (entities_seen s.entities.rows)
