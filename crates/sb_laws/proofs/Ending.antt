-- What a change makes live, ends and gives, of each number of each part.
use Rattle.std.proofs.Common.{Bool, List, None, Option, Some, [], ap, arith, false, filter, map, nat_le, not, refl, subst, sym, true, ℕ, ◌&&◌, ◌++◌, ◌+◌, ◌<◌, ◌==◌, ◌∙◌, ◌∷◌, ◌≡◌, ◌≤◌}
use Rattle.std.proofs.lemmas.Bool.Decides.{nat_tests}
use Rattle.std.proofs.lemmas.List.Sums.{sum_by-append, sum_by-cons}
use Rattle.std.specs.List.{flat_map}
use Rattle.std.specs.Prelude.{find, if◌then◌else◌, sum_by}
use Rattle.sb_laws.proofs.EndCounts.{ended_elsewhere, given, leaf_counts, live_number}
use Rattle.sb_laws.proofs.Eachs.{each_found, is_equal, rising_above}
use Rattle.sb_laws.proofs.Entities.{IsOrdered, about_with_leaf, entity_number}
use Rattle.sb_laws.proofs.Lists.{changed_none, changed_sum, found_append, found_changed, found_first, found_passes, sum_single}
use Rattle.sb_laws.proofs.Sameness.{two}
use Rattle.sb_laws.proofs.Swept.{leaf_of_own, leaf_of_with, same_part}
use Rattle.sb_laws.specs.Counting.{one, times}
use Rattle.sb_laws.specs.Ended.{is_end, is_leaf, live_here, times_ended, times_live}
use Rattle.sb_machine.specs.Changes.{after, noted, on_entity, rule_added, rule_dropped, with_rules}
use Rattle.sb_machine.specs.Ends.{End, ended, ends_in, leaf_ends, removed_in, removed_with}
use Rattle.sb_machine.specs.Keyed.{changed}
use Rattle.sb_machine.specs.Leaves.{has_number, leaf_after}
use Rattle.sb_machine.specs.Names.{is_same_part}
use Rattle.sb_machine.specs.Namespace.{entity_of, is_entity, key_of, leaf_of, new_entity, with_leaf}
use Rattle.sb_machine.specs.declared.call.Description.{Description}
use Rattle.sb_machine.specs.declared.call.Part.{Part}
use Rattle.sb_machine.specs.declared.call.Part.TheVariants.{Dead, Main, Transfer}
use Rattle.sb_machine.specs.declared.call.Path.{Path}
use Rattle.sb_machine.specs.declared.change.Cause.TheVariants.{Removed}
use Rattle.sb_machine.specs.declared.change.Change.{Change}
use Rattle.sb_machine.specs.declared.change.Change.TheVariants.{AddsRule, Begins, Drops, DropsRule, InLeaf, Makes, Notes, Queues, Removes}
use Rattle.sb_machine.specs.declared.change.LeafChange.{LeafChange}
use Rattle.sb_machine.specs.declared.change.LeafKey.{LeafKey}
use Rattle.sb_machine.specs.declared.rule.Rule.{Rule}
use Rattle.sb_machine.specs.declared.state.Entity.{Entity}
use Rattle.sb_machine.specs.declared.state.EntityKind.{EntityKind}
use Rattle.sb_machine.specs.declared.state.Leaf.{Leaf}
use Rattle.sb_machine.specs.declared.state.Listed.{Listed}
use Rattle.sb_machine.specs.declared.state.Space.{Space}
use Rattle.sb_machine.specs.declared.state.StoredCopy.{StoredCopy}

-- 1 where a number of a part may have been given: up to the last of the part, or of an entity that is gone
abbrev pub stand : LeafKey → ℕ → ℕ → Option Entity → ℕ
stand key x last (Some e) = given x (leaf_of key.part e).last
stand key x last None = given key.entity last

abbrev pub stands : LeafKey → ℕ → Space → ℕ
stands key x s = stand key x s.last_entity (entity_of key.entity s)

-- what is live later or ended was live or is given now
abbrev Counts : LeafKey → ℕ → Space → Space → List End → Type 0
Counts key x s later ends = times_live key x later + times_ended key x ends + stands key x s ≤ times_live key x s + stands key x later

both_equal : (a m n : ℕ) → (a == n) ≡ true → (a == m) ≡ true → (n == m) ≡ true
both_equal a m n p q = grind (arith, nat_tests)

-- ---- changes of another part

module _ (key : LeafKey) (x last n : ℕ) (g : Entity → Entity) (numbers : (e : Entity) → (g e).about.number ≡ e.about.number) (leaves : (n == key.entity) ≡ true → (e : Entity) → leaf_of key.part (g e) ≡ leaf_of key.part e) where
  beside_number : (e : Entity) → is_entity key.entity (g e) ≡ is_entity key.entity e
  beside_number e = ap (λ (m : ℕ). m == key.entity) (numbers e)

  beside_stand : (es : List Entity) → stand key x last (find (is_entity key.entity) (changed (is_entity n) (λ e. g e ∷ []) es)) ≡ stand key x last (find (is_entity key.entity) es)
  beside_stand [] = refl
  beside_stand (e ∷ es) = at (is_entity n e) refl (is_entity key.entity e) refl (beside_stand es) where
    at : (b : Bool) → is_entity n e ≡ b → (c : Bool) → is_entity key.entity e ≡ c → stand key x last (find (is_entity key.entity) (changed (is_entity n) (λ e. g e ∷ []) es)) ≡ stand key x last (find (is_entity key.entity) es)
        → stand key x last (find (is_entity key.entity) (changed (is_entity n) (λ e. g e ∷ []) (e ∷ es))) ≡ stand key x last (find (is_entity key.entity) (e ∷ es))
    at true is true here ih = rw (is, beside_number e, here) (ap (λ (leaf : Leaf). given x leaf.last) (leaves (both_equal e.about.number key.entity n is here) e))
    at true is false here ih = rw (is, beside_number e, here) refl
    at false is true here ih = rw (is, here) refl
    at false is false here ih = rw (is, here) ih

  beside_live : (es : List Entity) → sum_by (live_here key x) (changed (is_entity n) (λ e. g e ∷ []) es) ≡ sum_by (live_here key x) es
  beside_live es = at (find (is_entity n) es) refl where
    same : (e : Entity) → is_entity n e ≡ true → live_here key x (g e) ≡ live_here key x e
    same e is = on (is_entity key.entity e) refl where
      on : (b : Bool) → is_entity key.entity e ≡ b → live_here key x (g e) ≡ live_here key x e
      on true here = rw (beside_number e, here) (ap (live_number x) (leaves (both_equal e.about.number key.entity n is here) e))
      on false here = rw (beside_number e, here) refl

    at : (o : Option Entity) → find (is_entity n) es ≡ o → sum_by (live_here key x) (changed (is_entity n) (λ e. g e ∷ []) es) ≡ sum_by (live_here key x) es
    at None is = ap (λ (l : List Entity). sum_by (live_here key x) l) (changed_none (is_entity n) (λ e. g e ∷ []) es is)
    at (Some e) is = omega (arith, changed_sum (live_here key x) (is_entity n) (λ e. g e ∷ []) e es is, sum_single (live_here key x) (g e), same e (found_passes (is_entity n) e es is))

counts_beside : (key : LeafKey) (x n : ℕ) (g : Entity → Entity) (s later : Space) (ends : List End) → later.entities ≡ on_entity n g s → later.last_entity ≡ s.last_entity → times_ended key x ends ≡ 0
    → ((e : Entity) → (g e).about.number ≡ e.about.number) → ((n == key.entity) ≡ true → (e : Entity) → leaf_of key.part (g e) ≡ leaf_of key.part e) → Counts key x s later ends
counts_beside key x n g s later ends is same none numbers leaves =
    let live : times_live key x later ≡ times_live key x s = ap (λ (es : List Entity). sum_by (live_here key x) es) is ∙ beside_live key x s.last_entity n g numbers leaves s.entities in
    let given_so : stands key x later ≡ stands key x s = ap (λ (m : ℕ). stand key x m (entity_of key.entity later)) same ∙ ap (λ (es : List Entity). stand key x s.last_entity (find (is_entity key.entity) es)) is ∙ beside_stand key x s.last_entity n g numbers leaves s.entities in
    omega (arith, live, given_so, none)

-- ---- a change of the part itself

abbrev moved : LeafKey → ℕ → ℕ → LeafChange → Entity → Entity
moved key lock t c e = with_leaf key.part (leaf_after lock t c (leaf_of key.part e)) e

moved_number : (key : LeafKey) (lock t : ℕ) (c : LeafChange) (e : Entity) → (moved key lock t c e).about.number ≡ e.about.number
moved_number key lock t c e = ap (λ (about : Listed). about.number) (about_with_leaf key.part (leaf_after lock t c (leaf_of key.part e)) e)

live_there : (key : LeafKey) (x : ℕ) (e : Entity) → is_entity key.entity e ≡ true → live_here key x e ≡ live_number x (leaf_of key.part e)
live_there key x e is = rw is refl

in_itself : (key : LeafKey) (x t : ℕ) (c : LeafChange) (s : Space) (e : Entity) → entity_of key.entity s ≡ Some e → Counts key x s (after t (InLeaf key c) s) (leaf_ends key c (leaf_of key.part e))
in_itself key x t c s e there =
    let lock = s.last_lock + 1 in
    let old = leaf_of key.part e in
    let new = leaf_after lock t c old in
    let is = found_passes (is_entity key.entity) e s.entities there in
    let is_later : is_entity key.entity (moved key lock t c e) ≡ true = ap (λ (m : ℕ). m == key.entity) (moved_number key lock t c e) ∙ is in
    let back : leaf_of key.part (moved key lock t c e) ≡ new = leaf_of_own key.part new e in
    let behind : live_here key x (moved key lock t c e) ≡ live_number x new = live_there key x (moved key lock t c e) is_later ∙ ap (live_number x) back in
    let found_later : entity_of key.entity (after t (InLeaf key c) s) ≡ Some (moved key lock t c e) = found_changed (is_entity key.entity) (λ d. moved key lock t c d ∷ []) e (moved key lock t c e) s.entities there refl is_later in
    let stood : stands key x s ≡ given x old.last = ap (stand key x s.last_entity) there in
    let stands_later : stands key x (after t (InLeaf key c) s) ≡ given x new.last = ap (stand key x s.last_entity) found_later ∙ ap (λ (leaf : Leaf). given x leaf.last) back in
    omega (arith, sum_single (live_here key x) (moved key lock t c e), changed_sum (live_here key x) (is_entity key.entity) (λ d. moved key lock t c d ∷ []) e s.entities there, live_there key x e is, behind, leaf_counts lock t x key c old, stood, stands_later)

pub one_key : (a b : LeafKey) → is_leaf a b ≡ true → a ≡ b
one_key a b is = let parts = two (a.entity == b.entity) (is_same_part a.part b.part) is in joined a.entity b.entity a.part b.part (is_equal a.entity b.entity parts.0) (same_part a.part b.part parts.1) where
  joined : (m n : ℕ) (p q : Part) → m ≡ n → p ≡ q → ◌≡◌ {A = LeafKey} (record { entity = m; part = p }) (record { entity = n; part = q })
  joined m n p q a b = cc

in_part : (key other : LeafKey) (x t : ℕ) (c : LeafChange) (s : Space) (e : Entity) → entity_of other.entity s ≡ Some e → Counts key x s (after t (InLeaf other c) s) (leaf_ends other c (leaf_of other.part e))
in_part key other x t c s e there = at (is_leaf other key) refl where
  apart : (a b : Bool) → (a && b) ≡ false → a ≡ true → b ≡ false
  apart true b no' yes' = no'
  apart false b no' yes' = absurd cc

  at : (b : Bool) → is_leaf other key ≡ b → Counts key x s (after t (InLeaf other c) s) (leaf_ends other c (leaf_of other.part e))
  at true is = subst (λ (k : LeafKey). Counts k x s (after t (InLeaf other c) s) (leaf_ends other c (leaf_of other.part e))) (one_key other key is) (in_itself other x t c s e there)
  at false is = counts_beside key x other.entity (moved other (s.last_lock + 1) t c) s (after t (InLeaf other c) s) (leaf_ends other c (leaf_of other.part e)) refl refl (ended_elsewhere key other x c (leaf_of other.part e) is) (moved_number other (s.last_lock + 1) t c)
      (λ same d. leaf_of_with other.part key.part (leaf_after (s.last_lock + 1) t c (leaf_of other.part d)) d (apart (other.entity == key.entity) (is_same_part other.part key.part) is same))

counts_part : (key other : LeafKey) (x t : ℕ) (c : LeafChange) (s : Space) → Counts key x s (after t (InLeaf other c) s) (ends_in t (InLeaf other c) s)
counts_part key other x t c s = at (entity_of other.entity s) refl where
  at : (o : Option Entity) → entity_of other.entity s ≡ o → Counts key x s (after t (InLeaf other c) s) (ends_in t (InLeaf other c) s)
  at None is =
      let same : (after t (InLeaf other c) s).entities ≡ s.entities = changed_none (is_entity other.entity) (λ d. moved other (s.last_lock + 1) t c d ∷ []) s.entities is in
      let none : times_ended key x (ends_in t (InLeaf other c) s) ≡ 0 = rw is refl in
      omega (arith, ap (λ (es : List Entity). sum_by (live_here key x) es) same, ap (λ (es : List Entity). stand key x s.last_entity (find (is_entity key.entity) es)) same, none)
  at (Some e) is =
      let ends_so : ends_in t (InLeaf other c) s ≡ leaf_ends other c (leaf_of other.part e) = rw is refl in
      subst (λ (ends : List End). Counts key x s (after t (InLeaf other c) s) ends) (sym ends_so) (in_part key other x t c s e is)

-- ---- an entity made

counts_made : (key : LeafKey) (x t : ℕ) (kind : EntityKind) (path : Path) (d : Description) (rs : List Rule) (s : Space) → Counts key x s (after t (Makes kind path d rs) s) []
counts_made key x t kind path d rs s =
    omega (arith, sum_by-append (live_here key x) s.entities (new_entity (record { number = s.last_entity + 1; kind = kind; path = path; description = d; rules = rs }) ∷ []), sum_single (live_here key x) (new_entity (record { number = s.last_entity + 1; kind = kind; path = path; description = d; rules = rs })), none key.part (is_entity key.entity (new_entity (record { number = s.last_entity + 1; kind = kind; path = path; description = d; rules = rs }))), at (entity_of key.entity s) refl)
  where
    new : Entity
    new = new_entity (record { number = s.last_entity + 1; kind = kind; path = path; description = d; rules = rs })

    none : (p : Part) (b : Bool) → (if b then live_number x (leaf_of p new) else 0) ≡ 0
    none Main true = refl
    none Dead true = refl
    none Transfer true = refl
    none p false = refl

    next_given : (m last : ℕ) → (last + 1 == m) ≡ true → given m last ≡ 0
    next_given m last is = grind (arith, nat_tests)

    more_given : (m last : ℕ) → given m last ≤ given m (last + 1)
    more_given m last = grind (arith, nat_tests)

    at : (o : Option Entity) → entity_of key.entity s ≡ o → stands key x s ≤ stands key x (after t (Makes kind path d rs) s)
    at (Some e) there =
        let before : stands key x s ≡ given x (leaf_of key.part e).last = ap (stand key x s.last_entity) there in
        let behind : stands key x (after t (Makes kind path d rs) s) ≡ given x (leaf_of key.part e).last = ap (stand key x (s.last_entity + 1)) (found_first (is_entity key.entity) e s.entities (new ∷ []) there) in
        omega (arith, before, behind)
    at None absent = on (is_entity key.entity new) refl where
      before : stands key x s ≡ given key.entity s.last_entity
      before = ap (stand key x s.last_entity) absent

      on : (b : Bool) → is_entity key.entity new ≡ b → stands key x s ≤ stands key x (after t (Makes kind path d rs) s)
      on true is = omega (arith, before, next_given key.entity s.last_entity is)
      on false is =
          let gone : entity_of key.entity (after t (Makes kind path d rs) s) ≡ None = found_append (is_entity key.entity) s.entities (new ∷ []) absent ∙ rw is refl in
          omega (arith, before, ap (stand key x (s.last_entity + 1)) gone, more_given key.entity s.last_entity)

-- ---- an entity removed

pub times_append : (key : LeafKey) (x : ℕ) (a b : List End) → times_ended key x (a ++ b) ≡ times_ended key x a + times_ended key x b
times_append key x a b = sum_by-append (λ d. one (is_end key x d)) a b

abbrev here_copies : LeafKey → LeafKey → ℕ → List StoredCopy → ℕ
here_copies key other x copies = if is_leaf other key then times (has_number x) copies else 0

removed_part : (key other : LeafKey) (x : ℕ) (copies : List StoredCopy) → times_ended key x (map (λ c. ended other Removed c.number) copies) ≡ here_copies key other x copies
removed_part key other x copies = at (is_leaf other key) refl where
  at : (b : Bool) → is_leaf other key ≡ b → times_ended key x (map (λ c. ended other Removed c.number) copies) ≡ (if b then times (has_number x) copies else 0)
  at true is = on copies where
    on : (cs : List StoredCopy) → times_ended key x (map (λ c. ended other Removed c.number) cs) ≡ times (has_number x) cs
    on [] = refl
    on (c ∷ cs) =
        let head : one (is_end key x (ended other Removed c.number)) ≡ one (has_number x c) = ap (λ (b : Bool). one (b && (c.number == x))) is in
        omega (arith, sum_by-cons (λ d. one (is_end key x d)) (ended other Removed c.number) (map (λ c. ended other Removed c.number) cs), sum_by-cons (λ d. one (has_number x d)) c cs, on cs, head)
  at false is = on copies where
    on : (cs : List StoredCopy) → times_ended key x (map (λ c. ended other Removed c.number) cs) ≡ 0
    on [] = refl
    on (c ∷ cs) =
        let head : one (is_end key x (ended other Removed c.number)) ≡ 0 = ap (λ (b : Bool). one (b && (c.number == x))) is in
        omega (arith, sum_by-cons (λ d. one (is_end key x d)) (ended other Removed c.number) (map (λ c. ended other Removed c.number) cs), on cs, head)

removed_entity : (key : LeafKey) (x : ℕ) (e : Entity) → times_ended key x (removed_with e) ≡ live_here key x e
removed_entity key x e =
    omega (arith, times_append key x (removed_in e Main ++ removed_in e Dead) (removed_in e Transfer), times_append key x (removed_in e Main) (removed_in e Dead), removed_part key (key_of Main e) x e.main.copies, removed_part key (key_of Dead e) x e.dead.copies, removed_part key (key_of Transfer e) x e.transfer.copies, at key.part (e.about.number == key.entity))
  where
    at : (p : Part) (b : Bool) → (if b && is_same_part Main p then times (has_number x) e.main.copies else 0) + (if b && is_same_part Dead p then times (has_number x) e.dead.copies else 0) + (if b && is_same_part Transfer p then times (has_number x) e.transfer.copies else 0) ≡ (if b then times (has_number x) (leaf_of p e).copies else 0)
    at p false = refl
    at Main true = omega arith
    at Dead true = omega arith
    at Transfer true = omega arith

removed_counts : (key : LeafKey) (x n : ℕ) (es : List Entity) → sum_by (live_here key x) (filter (λ e. not (is_entity n e)) es) + times_ended key x (flat_map removed_with (filter (is_entity n) es)) ≡ sum_by (live_here key x) es
removed_counts key x n [] = refl
removed_counts key x n (e ∷ es) = at (is_entity n e) refl (removed_counts key x n es) where
  at : (b : Bool) → is_entity n e ≡ b → sum_by (live_here key x) (filter (λ d. not (is_entity n d)) es) + times_ended key x (flat_map removed_with (filter (is_entity n) es)) ≡ sum_by (live_here key x) es
      → sum_by (live_here key x) (filter (λ d. not (is_entity n d)) (e ∷ es)) + times_ended key x (flat_map removed_with (filter (is_entity n) (e ∷ es))) ≡ sum_by (live_here key x) (e ∷ es)
  at true is ih = rw is (omega (arith, ih, sum_by-cons (live_here key x) e es, times_append key x (removed_with e) (flat_map removed_with (filter (is_entity n) es)), removed_entity key x e))
  at false is ih = rw is (omega (arith, ih, sum_by-cons (live_here key x) e es, sum_by-cons (live_here key x) e (filter (λ d. not (is_entity n d)) es)))

pub none_left : (n : ℕ) (es : List Entity) → find (is_entity n) (filter (λ e. not (is_entity n e)) es) ≡ None
none_left n [] = refl
none_left n (e ∷ es) = at (is_entity n e) refl (none_left n es) where
  at : (b : Bool) → is_entity n e ≡ b → find (is_entity n) (filter (λ d. not (is_entity n d)) es) ≡ None → find (is_entity n) (filter (λ d. not (is_entity n d)) (e ∷ es)) ≡ None
  at true is ih = rw is ih
  at false is ih = rw is (rw is ih)

-- another's removal leaves it there
pub other_stays : (k n : ℕ) (es : List Entity) → (k == n) ≡ false → find (is_entity k) (filter (λ e. not (is_entity n e)) es) ≡ find (is_entity k) es
other_stays k n [] other = refl
other_stays k n (x ∷ xs) other = at (is_entity n x) refl (is_entity k x) refl (other_stays k n xs other) where
  clash : (a : ℕ) → (a == n) ≡ true → (a == k) ≡ true → (k == n) ≡ false → ⊥
  clash a p q r = absurd (grind (arith, nat_tests))

  at : (b : Bool) → is_entity n x ≡ b → (c : Bool) → is_entity k x ≡ c → find (is_entity k) (filter (λ e. not (is_entity n e)) xs) ≡ find (is_entity k) xs → find (is_entity k) (filter (λ e. not (is_entity n e)) (x ∷ xs)) ≡ find (is_entity k) (x ∷ xs)
  at true is true here ih = absurd (clash x.about.number is here other)
  at true is false here ih = rw (is, here) ih
  at false is true here ih = rw (is, here) refl
  at false is false here ih = rw (is, here) ih

-- an entity that is there has a number that was given
pub number_given : (m : ℕ) (s : Space) (e : Entity) → IsOrdered s → entity_of m s ≡ Some e → m ≤ s.last_entity
number_given m s e o there =
    let up = each_found (λ d. (0 < d.about.number) × (d.about.number ≤ s.last_entity)) (is_entity m) e s.entities (rising_above entity_number 0 s.last_entity s.entities o.entities) there in
    let same = is_equal e.about.number m (found_passes (is_entity m) e s.entities there) in
    omega (arith, up.1, same)

counts_removed : (key : LeafKey) (x t n : ℕ) (s : Space) → IsOrdered s → Counts key x s (after t (Removes n) s) (ends_in t (Removes n) s)
counts_removed key x t n s o = omega (arith, removed_counts key x n s.entities, at (key.entity == n) refl) where
  most : (b : Bool) → one b ≤ 1
  most true = omega arith
  most false = omega arith

  all_given : (m last : ℕ) → m ≤ last → given m last ≡ 1
  all_given m last le = grind (arith, nat_tests)

  at : (b : Bool) → (key.entity == n) ≡ b → stands key x s ≤ stands key x (after t (Removes n) s)
  at false apart = let same = ap (stand key x s.last_entity) (other_stays key.entity n s.entities apart) in omega (arith, same)
  at true is = on (entity_of key.entity s) refl where
    gone : stands key x (after t (Removes n) s) ≡ given key.entity s.last_entity
    gone = ap (stand key x s.last_entity) (subst (λ (m : ℕ). find (is_entity m) (filter (λ e. not (is_entity n e)) s.entities) ≡ None) (sym (is_equal key.entity n is)) (none_left n s.entities))

    on : (o' : Option Entity) → entity_of key.entity s ≡ o' → stands key x s ≤ stands key x (after t (Removes n) s)
    on None absent = omega (arith, gone, ap (stand key x s.last_entity) absent)
    on (Some e) there = omega (arith, gone, ap (stand key x s.last_entity) there, most (nat_le x (leaf_of key.part e).last), all_given key.entity s.last_entity (number_given key.entity s e o there))

-- ---- each change

counts_same : (key : LeafKey) (x : ℕ) (s later : Space) → later.entities ≡ s.entities → later.last_entity ≡ s.last_entity → Counts key x s later []
counts_same key x s later es last = omega (arith, ap (λ (l : List Entity). sum_by (live_here key x) l) es, ap (λ (l : List Entity). stand key x later.last_entity (find (is_entity key.entity) l)) es, ap (λ (m : ℕ). stand key x m (find (is_entity key.entity) s.entities)) last)

noted_leaves : (t : ℕ) (id : List ℕ) (p : Part) (e : Entity) → leaf_of p (record e { ids = noted e.about.description.window id t e.ids }) ≡ leaf_of p e
noted_leaves t id Main e = refl
noted_leaves t id Dead e = refl
noted_leaves t id Transfer e = refl

ruled_leaves : (f : List Rule → List Rule) (p : Part) (e : Entity) → leaf_of p (with_rules f e) ≡ leaf_of p e
ruled_leaves f Main e = refl
ruled_leaves f Dead e = refl
ruled_leaves f Transfer e = refl

pub counts : (key : LeafKey) (x t : ℕ) (c : Change) (s : Space) → IsOrdered s → Counts key x s (after t c s) (ends_in t c s)
counts key x t (InLeaf other c) s o = counts_part key other x t c s
counts key x t (Notes n id) s o = counts_beside key x n (λ e. record e { ids = noted e.about.description.window id t e.ids }) s (after t (Notes n id) s) [] refl refl refl (λ e. refl) (λ same e. noted_leaves t id key.part e)
counts key x t (Makes kind path d rs) s o = counts_made key x t kind path d rs s
counts key x t (Removes n) s o = counts_removed key x t n s o
counts key x t (AddsRule n rule) s o = counts_beside key x n (with_rules (rule_added rule)) s (after t (AddsRule n rule) s) [] refl refl refl (λ e. refl) (λ same e. ruled_leaves (rule_added rule) key.part e)
counts key x t (DropsRule n name) s o = counts_beside key x n (with_rules (rule_dropped name)) s (after t (DropsRule n name) s) [] refl refl refl (λ e. refl) (λ same e. ruled_leaves (rule_dropped name) key.part e)
counts key x t (Begins n deadline) s o = counts_same key x s (after t (Begins n deadline) s) refl refl
counts key x t (Queues n deadline operation) s o = counts_same key x s (after t (Queues n deadline operation) s) refl refl
counts key x t (Drops n) s o = counts_same key x s (after t (Drops n) s) refl refl
