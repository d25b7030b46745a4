-- Ids that are accepted as the messages of a send are planned, one after another.
use Rattle.std.proofs.Common.{Bool, List, None, Option, Some, [], ap, arith, false, filter, map, refl, subst, sym, true, ℕ, ◌&&◌, ◌*◌, ◌+◌, ◌==◌, ◌∙◌, ◌∷◌, ◌≡◌, one-add}
use Rattle.std.specs.Prelude.{bytes_eq, find, if◌then◌else◌, nat_lt, ◌||◌}
use Rattle.std.specs.List.{list_any}
use Rattle.std.proofs.lemmas.Bool.Decides.{nat_tests}
use Rattle.std.proofs.lemmas.Slice.Eq.{bytes_eq-Decides}
use Rattle.sb_machine.specs.Changes.{is_earlier, is_known, is_recent, noted}
use Rattle.std.specs.Option.{option_map}
use Rattle.sb_machine.specs.Changes.{after, after_all}
use Rattle.sb_machine.specs.Delivery.{delivered, landing, visit_change, visit_key}
use Rattle.sb_machine.specs.Keyed.{changed, with_sorted}
use Rattle.sb_machine.specs.Leaves.{leaf_after}
use Rattle.sb_machine.specs.Namespace.{is_entity, last_at, leaf_of, with_leaf}
use Rattle.sb_engine.specs.Sendings.{View, seen_in, view_of}
use Rattle.sb_machine.specs.Visits.{Visit}
use Rattle.sb_machine.specs.declared.call.Part.{Part}
use Rattle.sb_machine.specs.declared.call.Part.TheVariants.{Dead, Main, Transfer}
use Rattle.sb_machine.specs.declared.change.Change.TheVariants.{InLeaf, Notes}
use Rattle.sb_machine.specs.declared.change.LeafChange.{LeafChange}
use Rattle.sb_machine.specs.declared.change.LeafKey.{LeafKey}
use Rattle.sb_machine.specs.declared.state.Entity.{Entity}
use Rattle.sb_machine.specs.declared.state.Leaf.{Leaf}
use Rattle.sb_machine.specs.declared.state.Listed.{Listed}
use Rattle.sb_machine.specs.declared.state.Space.{Space}
use Rattle.sb_machine.specs.declared.state.AcceptedId.{AcceptedId}

-- ---- any of a list with one more

either_swap : (a b c : Bool) → (a || (b || c)) ≡ (b || (a || c))
either_swap true true c = refl
either_swap true false c = refl
either_swap false true c = refl
either_swap false false c = refl

any_placed : {X : Type 0} (q before : X → Bool) (x : X) (xs : List X) → list_any q (with_sorted before x xs) ≡ (q x || list_any q xs)
any_placed q before x [] = refl
any_placed q before x (y ∷ ys) = at (before y) refl (any_placed q before x ys) where
  at : (b : Bool) → before y ≡ b → list_any q (with_sorted before x ys) ≡ (q x || list_any q ys) → list_any q (with_sorted before x (y ∷ ys)) ≡ (q x || list_any q (y ∷ ys))
  at true is ih = rw (is, one-add) (ap (λ (b : Bool). q y || b) ih ∙ either_swap (q y) (q x) (list_any q ys))
  at false is ih = rw is refl

any_within : {X : Type 0} (p r : X → Bool) (xs : List X) → list_any (λ x. p x && r x) (filter r xs) ≡ list_any (λ x. p x && r x) xs
any_within p r [] = refl
any_within p r (x ∷ xs) = go (r x) refl (any_within p r xs) where
  off : (a b c : Bool) → b ≡ false → c ≡ ((a && b) || c)
  off true true c e = absurd cc
  off true false c e = refl
  off false b c e = refl

  go : (b : Bool) → r x ≡ b → list_any (λ x. p x && r x) (filter r xs) ≡ list_any (λ x. p x && r x) xs → list_any (λ x. p x && r x) (if b then x ∷ filter r xs else filter r xs) ≡ ((p x && r x) || list_any (λ x. p x && r x) xs)
  go true is ih = ap (λ (b : Bool). (p x && r x) || b) ih
  go false is ih = ih ∙ off (p x) (r x) (list_any (λ x. p x && r x) xs) is

-- ---- ids

-- noted at a moment, an id is known at it where the window lasts
just_noted : (window t : ℕ) → nat_lt t (t + 1000 * window) ≡ nat_lt 0 window
just_noted window t = grind (arith, nat_tests)

any_same : (p : AcceptedId → Bool) (id other : List ℕ) (window t : ℕ) (ids : List AcceptedId) → is_known window id t ids ≡ true → bytes_eq id other ≡ true → is_known window other t ids ≡ true
any_same p id other window t ids known same = subst (λ (x : List ℕ). is_known window x t ids ≡ true) ((bytes_eq-Decides id other).0 same) known

turned : (a b : Bool) → (a || b) ≡ (b || a)
turned true true = refl
turned true false = refl
turned false true = refl
turned false false = refl

-- what is known once an id was noted
pub known_after : (window : ℕ) (id other : List ℕ) (t : ℕ) (ids : List AcceptedId) → is_known window other t (noted (Some window) id t ids) ≡ (is_known window other t ids || (bytes_eq id other && nat_lt 0 window))
known_after window id other t ids = at (is_known window id t ids) refl where
  at : (b : Bool) → is_known window id t ids ≡ b → is_known window other t (if b then ids else with_sorted (is_earlier t id) (record { moment = t; id = id }) (filter (is_recent window t) ids)) ≡ (is_known window other t ids || (bytes_eq id other && nat_lt 0 window))
  at true is = on (bytes_eq id other) refl where
    on : (c : Bool) → bytes_eq id other ≡ c → is_known window other t ids ≡ (is_known window other t ids || (c && nat_lt 0 window))
    on true same = rw (any_same (λ a. true) id other window t ids is same) refl
    on false same = sym (turned (is_known window other t ids) false)
  at false is =
      any_placed (λ a. bytes_eq a.id other && is_recent window t a) (is_earlier t id) (record { moment = t; id = id }) (filter (is_recent window t) ids)
      ∙ ap (λ (b : Bool). (bytes_eq id other && nat_lt t (t + 1000 * window)) || b) (any_within (λ a. bytes_eq a.id other) (is_recent window t) ids)
      ∙ ap (λ (b : Bool). (bytes_eq id other && b) || is_known window other t ids) (just_noted window t)
      ∙ turned (bytes_eq id other && nat_lt 0 window) (is_known window other t ids)

-- ---- what is seen of an entity as its parts change

-- a view of an entity that a change of one of its number keeps
seen_on : {X : Type 0} (f : Entity → X) (k n : ℕ) (g : Entity → Entity) (es : List Entity) → ((e : Entity) → (g e).about.number ≡ e.about.number) → ((e : Entity) → f (g e) ≡ f e) → option_map f (find (is_entity k) (changed (is_entity n) (λ e. g e ∷ []) es)) ≡ option_map f (find (is_entity k) es)
seen_on f k n g [] number_is same = refl
seen_on {X = X} f k n g (x ∷ xs) number_is same = at (is_entity n x) refl (is_entity k x) refl (seen_on f k n g xs number_is same) where
  moved_number : is_entity k (g x) ≡ is_entity k x
  moved_number = ap (λ (m : ℕ). m == k) (number_is x)

  at : (b : Bool) → is_entity n x ≡ b → (c : Bool) → is_entity k x ≡ c → option_map f (find (is_entity k) (changed (is_entity n) (λ e. g e ∷ []) xs)) ≡ option_map f (find (is_entity k) xs)
      → option_map f (find (is_entity k) (changed (is_entity n) (λ e. g e ∷ []) (x ∷ xs))) ≡ option_map f (find (is_entity k) (x ∷ xs))
  at true is true here ih = rw (is, moved_number, here) (ap (λ (y : X). Some y) (same x))
  at true is false here ih = rw (is, moved_number, here) refl
  at false is true here ih = rw (is, here) refl
  at false is false here ih = rw (is, here) ih

with_leaf_seen : (part : Part) (leaf : Leaf) (e : Entity) → ◌≡◌ {A = View} ((with_leaf part leaf e).about, (with_leaf part leaf e).ids) (e.about, e.ids)
with_leaf_seen Main leaf e = refl
with_leaf_seen Dead leaf e = refl
with_leaf_seen Transfer leaf e = refl

with_leaf_number : (part : Part) (leaf : Leaf) (e : Entity) → (with_leaf part leaf e).about.number ≡ e.about.number
with_leaf_number Main leaf e = refl
with_leaf_number Dead leaf e = refl
with_leaf_number Transfer leaf e = refl

pub seen_leaf : (n t : ℕ) (key : LeafKey) (c : LeafChange) (s : Space) → seen_in n (after t (InLeaf key c) s) ≡ seen_in n s
seen_leaf n t key c s = seen_on view_of n key.entity (λ e. with_leaf key.part (leaf_after (s.last_lock + 1) t c (leaf_of key.part e)) e) s.entities
    (λ e. with_leaf_number key.part (leaf_after (s.last_lock + 1) t c (leaf_of key.part e)) e) (λ e. with_leaf_seen key.part (leaf_after (s.last_lock + 1) t c (leaf_of key.part e)) e)

pub seen_visits : (n t : ℕ) (seq : Option ℕ) (vs : List Visit) (s : Space) → seen_in n (after_all t (map (visit_change seq) vs) s) ≡ seen_in n s
seen_visits n t seq [] s = refl
seen_visits n t seq (v ∷ vs) s = seen_visits n t seq vs (after t (visit_change seq v) s) ∙ seen_leaf n t (visit_key v) (landing seq v.lot) s

pub seen_delivered : (n t : ℕ) (vs : List Visit) (s r : Space) → seen_in n (after_all t (delivered None vs r) s) ≡ seen_in n s
seen_delivered n t [] s r = refl
seen_delivered n t (v ∷ vs) s r = seen_visits n t (Some (last_at (visit_key v) r + 1)) vs (after t (visit_change None v) s) ∙ seen_leaf n t (visit_key v) (landing None v.lot) s

-- where an id is noted
pub seen_noted : (n t : ℕ) (id : List ℕ) (about : Listed) (ids : List AcceptedId) (s : Space) → seen_in n s ≡ Some (about, ids) → seen_in n (after t (Notes n id) s) ≡ Some (about, noted about.description.window id t ids)
seen_noted n t id about ids s is = over s.entities is where
  pair_is : (a : Listed) (i : List AcceptedId) → ◌≡◌ {A = Option View} (Some (a, i)) (Some (about, ids)) → ◌≡◌ {A = Option View} (Some (a, noted a.description.window id t i)) (Some (about, noted about.description.window id t ids))
  pair_is a i e = ap (λ (o : Option View). option_map {U = View} (λ x. (x.0, noted x.0.description.window id t x.1)) o) e

  over : (es : List Entity) → option_map view_of (find (is_entity n) es) ≡ Some (about, ids)
      → option_map view_of (find (is_entity n) (changed (is_entity n) (λ e. record e { ids = noted e.about.description.window id t e.ids } ∷ []) es)) ≡ Some (about, noted about.description.window id t ids)
  over [] is = absurd cc
  over (x ∷ xs) is = at (is_entity n x) refl (over xs) is where
    at : (b : Bool) → is_entity n x ≡ b → (option_map view_of (find (is_entity n) xs) ≡ Some (about, ids) → option_map view_of (find (is_entity n) (changed (is_entity n) (λ e. record e { ids = noted e.about.description.window id t e.ids } ∷ []) xs)) ≡ Some (about, noted about.description.window id t ids))
        → option_map view_of (find (is_entity n) (x ∷ xs)) ≡ Some (about, ids)
        → option_map view_of (find (is_entity n) (changed (is_entity n) (λ e. record e { ids = noted e.about.description.window id t e.ids } ∷ []) (x ∷ xs))) ≡ Some (about, noted about.description.window id t ids)
    at true here rest is = rw (here, here) (pair_is x.about x.ids (rw here at is))
    at false here rest is = rw (here, here) (rest (rw here at is))

-- and where no entity is
pub seen_unnoted : (n t : ℕ) (id : List ℕ) (s : Space) → seen_in n s ≡ None → seen_in n (after t (Notes n id) s) ≡ None
seen_unnoted n t id s is = over s.entities is where
  over : (es : List Entity) → option_map view_of (find (is_entity n) es) ≡ None → option_map view_of (find (is_entity n) (changed (is_entity n) (λ e. record e { ids = noted e.about.description.window id t e.ids } ∷ []) es)) ≡ None
  over [] is = refl
  over (x ∷ xs) is = at (is_entity n x) refl (over xs) is where
    at : (b : Bool) → is_entity n x ≡ b → (option_map view_of (find (is_entity n) xs) ≡ None → option_map view_of (find (is_entity n) (changed (is_entity n) (λ e. record e { ids = noted e.about.description.window id t e.ids } ∷ []) xs)) ≡ None)
        → option_map view_of (find (is_entity n) (x ∷ xs)) ≡ None
        → option_map view_of (find (is_entity n) (changed (is_entity n) (λ e. record e { ids = noted e.about.description.window id t e.ids } ∷ []) (x ∷ xs))) ≡ None
    at true here rest is = let found : Some (view_of x) ≡ None = rw here at is in absurd cc
    at false here rest is = rw (here, here) (rest (rw here at is))
