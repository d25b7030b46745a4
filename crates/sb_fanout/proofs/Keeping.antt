-- What numbers stand for, behind changes that no delivery makes.
use Rattle.std.proofs.Common.{◌≡◌, ℕ, ◌+◌, Bool, true, false, List, Option, Some, None, refl, ap, sym, ◌∙◌, subst}
use Rattle.std.specs.Prelude.{find, ◌==◌}
use Rattle.std.specs.Option.{option_map}
use Rattle.sb_machine.specs.Changes.{after, noted}
use Rattle.sb_machine.specs.Leaves.{leaf_after, copies_given}
use Rattle.sb_machine.specs.Namespace.{is_entity, leaf_of, last_in}
use Rattle.sb_machine.specs.declared.call.Part.{Part}
use Rattle.sb_machine.specs.declared.call.Part.TheVariants.{Main, Dead, Transfer}
use Rattle.sb_machine.specs.declared.change.Change.{Change}
use Rattle.sb_machine.specs.declared.change.Change.TheVariants.{InLeaf, Notes, Makes, Removes, AddsRule, DropsRule, Begins, Queues, Drops}
use Rattle.sb_machine.specs.declared.change.LeafChange.{LeafChange}
use Rattle.sb_machine.specs.declared.change.LeafChange.TheVariants.{Enters, Passes, Ends, Holds, Stands, Renews, Opens, Closes, Prolongs, Writes}
use Rattle.sb_machine.specs.declared.change.LeafKey.{LeafKey}
use Rattle.sb_machine.specs.declared.state.Entity.{Entity}
use Rattle.sb_machine.specs.declared.state.Leaf.{Leaf}
use Rattle.sb_machine.specs.declared.state.Listed.{Listed}
use Rattle.sb_machine.specs.declared.state.Space.{Space}
use Rattle.sb_fanout.specs.Lasts.{Given, StandsFor}
use Rattle.sb_fanout.specs.Laws.{keeps_numbers, NumbersStand}
use Rattle.sb_fanout.proofs.Places.{same_number, KeepsAbout, one_changed, abouts_kept, find_here, find_apart, Raises, in_leaf, about_kept, last_of_key}
use Rattle.sb_fanout.proofs.Standing.{stands_raised}

abbrev KeepsLast : (Entity → Entity) → Type 0
KeepsLast f = (part : Part) (e : Entity) → (leaf_of part (f e)).last ≡ (leaf_of part e).last

last_kept : (n : ℕ) (f : Entity → Entity) → KeepsAbout f → KeepsLast f → (key : LeafKey) (es : List Entity) → last_of_key key (one_changed n f es) ≡ last_of_key key es
last_kept n f keeps lasts key es = go (n == key.entity) refl
  where
    found : (o : Option Entity) → last_in key.part (option_map f o) ≡ last_in key.part o
    found None = refl
    found (Some e) = lasts key.part e

    go : (b : Bool) → (n == key.entity) ≡ b → last_of_key key (one_changed n f es) ≡ last_of_key key es
    go true same =
        let number : n ≡ key.entity = same_number n key.entity same in
        let here : find (is_entity key.entity) (one_changed n f es) ≡ option_map f (find (is_entity key.entity) es) = subst (λ (k : ℕ). find (is_entity key.entity) (one_changed k f es) ≡ option_map f (find (is_entity key.entity) es)) (sym number) (find_here key.entity f keeps es) in
        ap (last_in key.part) here ∙ found (find (is_entity key.entity) es)
    go false apart = ap (last_in key.part) (find_apart n key.entity f keeps apart es)

stands_by : (es : List Listed) (last given : Given) (n : ℕ) (f : Entity → Entity) (s after : Space) → after.entities ≡ one_changed n f s.entities → KeepsAbout f → KeepsLast f → StandsFor es last given s → StandsFor es last given after
stands_by es last given n f s after are keeps lasts stands = record {
  entities = ap (λ (xs : List Entity). Rattle.std.specs.Prelude.map (λ (e : Entity). e.about) xs) are ∙ abouts_kept n f keeps s.entities ∙ stands.entities;
  lasts = λ key there. ap (last_of_key key) are ∙ last_kept n f keeps lasts key s.entities ∙ stands.lasts key there;
}

stands_where : (es : List Listed) (last given : Given) (s after : Space) → after.entities ≡ s.entities → StandsFor es last given s → StandsFor es last given after
stands_where es last given s after are stands = record {
  entities = ap (λ (xs : List Entity). Rattle.std.specs.Prelude.map (λ (e : Entity). e.about) xs) are ∙ stands.entities;
  lasts = λ key there. ap (last_of_key key) are ∙ stands.lasts key there;
}

leaf_keeps : (lock t : ℕ) (c : LeafChange) → (copies_given c == 0) ≡ true → (leaf : Leaf) → (leaf_after lock t c leaf).last ≡ leaf.last
leaf_keeps lock t (Enters fresh) gives leaf = absurd cc
leaf_keeps lock t (Passes cause) gives leaf = absurd cc
leaf_keeps lock t (Ends n settled cause) gives leaf = refl
leaf_keeps lock t (Holds n hold) gives leaf = refl
leaf_keeps lock t (Stands n settled count standing) gives leaf = refl
leaf_keeps lock t (Renews n until) gives leaf = refl
leaf_keeps lock t (Opens id until) gives leaf = refl
leaf_keeps lock t (Closes l) gives leaf = refl
leaf_keeps lock t (Prolongs l until) gives leaf = refl
leaf_keeps lock t (Writes l state) gives leaf = refl

leaf_raises : (lock t : ℕ) (c : LeafChange) → copies_given c ≡ 1 → Raises (leaf_after lock t c)
leaf_raises lock t (Enters fresh) gives leaf = refl
leaf_raises lock t (Passes cause) gives leaf = refl
leaf_raises lock t (Ends n settled cause) gives leaf = absurd cc
leaf_raises lock t (Holds n hold) gives leaf = absurd cc
leaf_raises lock t (Stands n settled count standing) gives leaf = absurd cc
leaf_raises lock t (Renews n until) gives leaf = absurd cc
leaf_raises lock t (Opens id until) gives leaf = absurd cc
leaf_raises lock t (Closes l) gives leaf = absurd cc
leaf_raises lock t (Prolongs l until) gives leaf = absurd cc
leaf_raises lock t (Writes l state) gives leaf = absurd cc

part_keeps : (part : Part) (g : Leaf → Leaf) → ((leaf : Leaf) → (g leaf).last ≡ leaf.last) → KeepsLast (in_leaf part g)
part_keeps Main g keeps Main e = keeps e.main
part_keeps Main g keeps Dead e = refl
part_keeps Main g keeps Transfer e = refl
part_keeps Dead g keeps Main e = refl
part_keeps Dead g keeps Dead e = keeps e.dead
part_keeps Dead g keeps Transfer e = refl
part_keeps Transfer g keeps Main e = refl
part_keeps Transfer g keeps Dead e = refl
part_keeps Transfer g keeps Transfer e = keeps e.transfer

noted_keeps : (id : List ℕ) (t : ℕ) → KeepsLast (λ e. record e { ids = noted e.about.description.window id t e.ids })
noted_keeps id t Main e = refl
noted_keeps id t Dead e = refl
noted_keeps id t Transfer e = refl

kept : (es : List Listed) (last given : Given) (t : ℕ) (c : Change) (s : Space) → keeps_numbers c ≡ true → StandsFor es last given s → StandsFor es last given (after t c s)
kept es last given t (InLeaf key c) s keeps stands =
    stands_by es last given key.entity (in_leaf key.part (leaf_after (s.last_lock + 1) t c)) s (after t (InLeaf key c) s) refl (λ e. about_kept key.part (leaf_after (s.last_lock + 1) t c (leaf_of key.part e)) e) (part_keeps key.part (leaf_after (s.last_lock + 1) t c) (leaf_keeps (s.last_lock + 1) t c keeps)) stands
kept es last given t (Notes n id) s keeps stands = stands_by es last given n (λ e. record e { ids = noted e.about.description.window id t e.ids }) s (after t (Notes n id) s) refl (λ e. refl) (noted_keeps id t) stands
kept es last given t (Begins n deadline) s keeps stands = stands_where es last given s (after t (Begins n deadline) s) refl stands
kept es last given t (Queues n deadline operation) s keeps stands = stands_where es last given s (after t (Queues n deadline operation) s) refl stands
kept es last given t (Drops n) s keeps stands = stands_where es last given s (after t (Drops n) s) refl stands
kept es last given t (Makes kind path description rules) s keeps stands = absurd cc
kept es last given t (Removes n) s keeps stands = absurd cc
kept es last given t (AddsRule n rule) s keeps stands = absurd cc
kept es last given t (DropsRule n name) s keeps stands = absurd cc

pub numbers_stand : NumbersStand
numbers_stand = record {
  raising = λ es last given t key c s gives stands. stands_raised es last given t key c s (leaf_raises (s.last_lock + 1) t c gives) stands;
  keeping = kept;
}
