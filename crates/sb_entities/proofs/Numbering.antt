-- No number passes the greatest, change by change.
use Rattle.std.proofs.Common.{◌≡◌, ℕ, ◌+◌, ◌≤◌, ◌&&◌, nat_le, not, Bool, true, false, List, [], ◌∷◌, find, map, refl, arith}
use Rattle.std.proofs.lemmas.Bool.Decides.{nat_tests}
use Rattle.std.proofs.lemmas.List.Filters.{sum_by-filter_both}
use Rattle.std.proofs.lemmas.List.Sums.{sum_by-cons, sum_by_push}
use Rattle.std.specs.Prelude.{sum_by, IfSome}
use Rattle.sb_machine.specs.Changes.{after, after_all, noted, numbers_in, numbers_given, max_number, is_numbered, with_rules, rule_added, rule_dropped}
use Rattle.sb_machine.specs.Keyed.{changed}
use Rattle.sb_machine.specs.Leaves.{leaf_after, copies_given}
use Rattle.sb_machine.specs.Namespace.{is_entity, leaf_of, made, made_in, new_entity, with_leaf}
use Rattle.sb_machine.specs.declared.call.Part.{Part}
use Rattle.sb_machine.specs.declared.call.Part.TheVariants.{Main, Dead, Transfer}
use Rattle.sb_machine.specs.declared.change.Change.{Change}
use Rattle.sb_machine.specs.declared.change.Change.TheVariants.{InLeaf, Notes, Makes, Removes, AddsRule, DropsRule, Begins, Queues, Drops}
use Rattle.sb_machine.specs.declared.change.LeafChange.{LeafChange}
use Rattle.sb_machine.specs.declared.change.LeafChange.TheVariants.{Enters, Passes, Ends, Holds, Stands, Renews, Opens, Closes, Prolongs, Writes}
use Rattle.sb_machine.specs.declared.state.Entity.{Entity}
use Rattle.sb_machine.specs.declared.state.Leaf.{Leaf}
use Rattle.sb_machine.specs.declared.state.Space.{Space}
use Rattle.sb_entities.specs.Numbers.{Fits}
use Rattle.sb_entities.specs.Rooms.{HasRoom}
use Rattle.sb_entities.specs.Stocks.{Entry, has_number, given_in, IsReady}
use Rattle.sb_entities.specs.declared.change.EntityChange.{EntityChange}

-- ---- copy numbers

pub leaf_last : (lock t : ℕ) (c : LeafChange) (leaf : Leaf) → (leaf_after lock t c leaf).last ≡ leaf.last + copies_given c
leaf_last lock t (Enters fresh) leaf = refl
leaf_last lock t (Passes cause) leaf = refl
leaf_last lock t (Ends n settled cause) leaf = omega arith
leaf_last lock t (Holds n hold) leaf = omega arith
leaf_last lock t (Stands n settled count standing) leaf = omega arith
leaf_last lock t (Renews n until) leaf = omega arith
leaf_last lock t (Opens id until) leaf = omega arith
leaf_last lock t (Closes l) leaf = omega arith
leaf_last lock t (Prolongs l until) leaf = omega arith
leaf_last lock t (Writes l state) leaf = omega arith

made_with : (part : Part) (leaf : Leaf) (e : Entity) → made_in (with_leaf part leaf e) + (leaf_of part e).last ≡ made_in e + leaf.last
made_with Main leaf e = omega arith
made_with Dead leaf e = omega arith
made_with Transfer leaf e = omega arith

pub last_within : (part : Part) (e : Entity) → (leaf_of part e).last ≤ made_in e
last_within Main e = omega arith
last_within Dead e = omega arith
last_within Transfer e = omega arith

sum_changed : (p : Entity → Bool) (g : Entity → Entity) (n : ℕ) (es : List Entity) → ((e : Entity) → made_in (g e) ≤ made_in e + n) → sum_by made_in (changed p (λ e. g e ∷ []) es) ≤ sum_by made_in es + n
sum_changed p g n [] most = omega arith
sum_changed p g n (e ∷ es) most = at (p e) refl (sum_changed p g n es most) where
  at : (b : Bool) → p e ≡ b → sum_by made_in (changed p (λ x. g x ∷ []) es) ≤ sum_by made_in es + n → sum_by made_in (changed p (λ x. g x ∷ []) (e ∷ es)) ≤ sum_by made_in (e ∷ es) + n
  at true is ih = rw is (omega (arith, most e, sum_by-cons made_in (g e) es, sum_by-cons made_in e es))
  at false is ih = rw is (omega (arith, ih, sum_by-cons made_in e (changed p (λ x. g x ∷ []) es), sum_by-cons made_in e es))

made_after : (t : ℕ) (c : Change) (s : Space) → made (after t c s) ≤ made s + numbers_in c
made_after t (InLeaf key c) s =
    omega (
      arith,
      sum_changed (is_entity key.entity) (λ e. with_leaf key.part (leaf_after (s.last_lock + 1) t c (leaf_of key.part e)) e) (copies_given c) s.entities
          (λ e. omega (arith, made_with key.part (leaf_after (s.last_lock + 1) t c (leaf_of key.part e)) e, leaf_last (s.last_lock + 1) t c (leaf_of key.part e))),
    )
made_after t (Notes n id) s = omega (arith, sum_changed (is_entity n) (λ e. record e { ids = noted e.about.description.window id t e.ids }) 0 s.entities (λ e. omega arith))
made_after t (Makes kind path description rules) s = omega (arith, sum_by_push made_in s.entities (new_entity (record { number = s.last_entity + 1; kind = kind; path = path; description = description; rules = rules })))
made_after t (Removes n) s = omega (arith, sum_by-filter_both (is_entity n) (λ e. not (is_entity n e)) (λ e. refl) made_in s.entities)
made_after t (AddsRule n rule) s = omega (arith, sum_changed (is_entity n) (with_rules (rule_added rule)) 0 s.entities (λ e. omega arith))
made_after t (DropsRule n name) s = omega (arith, sum_changed (is_entity n) (with_rules (rule_dropped name)) 0 s.entities (λ e. omega arith))
made_after t (Begins n deadline) s = omega arith
made_after t (Queues n deadline operation) s = omega arith
made_after t (Drops n) s = omega arith

-- ---- numbers of entities, locks and transactions

record Later (s l : Space) : Type 0 where
  entity : s.last_entity ≤ l.last_entity
  lock : s.last_lock ≤ l.last_lock
  txn : s.last_txn ≤ l.last_txn

later_one : (t : ℕ) (c : Change) (s : Space) → Later s (after t c s)
later_one t (InLeaf key c) s = record { entity = omega arith; lock = omega arith; txn = omega arith }
later_one t (Notes n id) s = record { entity = omega arith; lock = omega arith; txn = omega arith }
later_one t (Makes kind path description rules) s = record { entity = omega arith; lock = omega arith; txn = omega arith }
later_one t (Removes n) s = record { entity = omega arith; lock = omega arith; txn = omega arith }
later_one t (AddsRule n rule) s = record { entity = omega arith; lock = omega arith; txn = omega arith }
later_one t (DropsRule n name) s = record { entity = omega arith; lock = omega arith; txn = omega arith }
later_one t (Begins n deadline) s = record { entity = omega arith; lock = omega arith; txn = omega arith }
later_one t (Queues n deadline operation) s = record { entity = omega arith; lock = omega arith; txn = omega arith }
later_one t (Drops n) s = record { entity = omega arith; lock = omega arith; txn = omega arith }

later_all : (t : ℕ) (cs : List Change) (s : Space) → Later s (after_all t cs s)
later_all t [] s = record { entity = omega arith; lock = omega arith; txn = omega arith }
later_all t (c ∷ cs) s =
    let here = later_one t c s in
    let then_ = later_all t cs (after t c s) in
    record { entity = omega (arith, here.entity, then_.entity); lock = omega (arith, here.lock, then_.lock); txn = omega (arith, here.txn, then_.txn) }

-- ---- the test

is_within : (m n : ℕ) → nat_le m n ≡ true → m ≤ n
is_within m n h = grind (arith, nat_tests)

within_is : (m n : ℕ) → m ≤ n → nat_le m n ≡ true
within_is m n h = grind (arith, nat_tests)

all_four : (a b c d : Bool) → (a && b && c && d) ≡ true → (a ≡ true) × (b ≡ true) × (c ≡ true) × (d ≡ true)
all_four true true true true h = (refl, refl, refl, refl)
all_four true true true false h = absurd cc
all_four true true false d h = absurd cc
all_four true false c d h = absurd cc
all_four false b c d h = absurd cc

all_true : (a b c d : Bool) → a ≡ true → b ≡ true → c ≡ true → d ≡ true → (a && b && c && d) ≡ true
all_true a b c d e f g h = rw (e, f, g, h) refl

record Within (t : ℕ) (cs : List Change) (s : Space) : Type 0 where
  made : made s + numbers_given cs ≤ max_number
  entity : (after_all t cs s).last_entity ≤ max_number
  lock : (after_all t cs s).last_lock ≤ max_number
  txn : (after_all t cs s).last_txn ≤ max_number

within : (t : ℕ) (cs : List Change) (s : Space) → is_numbered t cs s ≡ true → Within t cs s
within t cs s h =
    let it = all_four (nat_le (made s + numbers_given cs) max_number) (nat_le (after_all t cs s).last_entity max_number) (nat_le (after_all t cs s).last_lock max_number) (nat_le (after_all t cs s).last_txn max_number) h in
    record { made = is_within _ _ it.0; entity = is_within _ _ it.1; lock = is_within _ _ it.2; txn = is_within _ _ it.3 }

pub numbered_first : (t : ℕ) (c : Change) (cs : List Change) (s : Space) → is_numbered t (c ∷ cs) s ≡ true → Fits t c s
numbered_first t c cs s h =
    let it = within t (c ∷ cs) s h in
    let then_ = later_all t cs (after t c s) in
    record {
      made = omega (arith, it.made, sum_by-cons numbers_in c cs);
      entity = omega (arith, it.entity, then_.entity);
      lock = omega (arith, it.lock, then_.lock);
      txn = omega (arith, it.txn, then_.txn);
    }

pub numbered_rest : (t : ℕ) (c : Change) (cs : List Change) (s : Space) → is_numbered t (c ∷ cs) s ≡ true → is_numbered t cs (after t c s) ≡ true
numbered_rest t c cs s h =
    let it = within t (c ∷ cs) s h in
    let made_ = within_is (made (after t c s) + numbers_given cs) max_number (omega (arith, it.made, made_after t c s, sum_by-cons numbers_in c cs)) in
    all_true (nat_le (made (after t c s) + numbers_given cs) max_number) (nat_le (after_all t cs (after t c s)).last_entity max_number) (nat_le (after_all t cs (after t c s)).last_lock max_number) (nat_le (after_all t cs (after t c s)).last_txn max_number)
    made_ (within_is _ _ it.entity) (within_is _ _ it.lock) (within_is _ _ it.txn)

-- ---- one entity's numbers are among all

abbrev entity_of : Entry → Entity
entity_of x = x.entity

pub ready : (n all : ℕ) (c : EntityChange) (xs : List Entry) → sum_by made_in (map (λ (x : Entry). x.entity) xs) ≤ all → all + given_in c ≤ max_number → IfSome (find (has_number n) xs) (λ x. HasRoom c x.room) → IfSome (find (has_number n) xs) (IsReady c)
ready n all c [] most fits h = tt
ready n all c (x ∷ xs) most fits h = at (has_number n x) refl (ready n all c xs (omega (arith, most, sum_by-cons made_in x.entity (map entity_of xs))) fits) where
  at : (b : Bool) → has_number n x ≡ b → (IfSome (find (has_number n) xs) (λ y. HasRoom c y.room) → IfSome (find (has_number n) xs) (IsReady c)) → IfSome (find (has_number n) (x ∷ xs)) (IsReady c)
  at true is ih = let it : HasRoom c x.room = rw is at h in rw is (it, omega (arith, most, fits, sum_by-cons made_in x.entity (map entity_of xs)))
  at false is ih = let it : IfSome (find (has_number n) xs) (λ y. HasRoom c y.room) = rw is at h in rw is (ih it)
