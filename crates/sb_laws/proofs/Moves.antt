-- An accepted act that has changes really changes the namespace.
use Rattle.std.proofs.Common.{Bool, List, None, Some, [], ap, arith, false, nat_le, not, refl, subst, sym, true, ℕ, ◌&&◌, ◌++◌, ◌+◌, ◌<◌, ◌==◌, ◌∙◌, ◌∷◌, ◌≡◌, ◌≤◌}
use Rattle.std.proofs.lemmas.Bool.Decides.{nat_tests}
use Rattle.std.specs.Prelude.{find, if◌then◌else◌}
use Rattle.sb_laws.proofs.Eachs.{each_found, rising_above}
use Rattle.sb_laws.proofs.Entities.{EachLeaf, IsOrdered, LeafRises, copy_number, entity_number, leaf_each}
use Rattle.sb_laws.proofs.Lists.{found_behind, found_here, found_passes}
use Rattle.sb_laws.proofs.Measures.{all_grow, dead_at, made_at}
use Rattle.sb_laws.proofs.Mild.{main_part}
use Rattle.sb_laws.proofs.Sameness.{numbers_equal, two}
use Rattle.sb_laws.proofs.Swept.{leaf_of_own, three}
use Rattle.sb_laws.proofs.Tick.{back_is_free, is_free}
use Rattle.sb_machine.specs.Changes.{after, after_all}
use Rattle.sb_machine.specs.Delivery.{back_to, carried, dead_for, dead_lettered, expired, in_part, is_expired, raised, released}
use Rattle.sb_machine.specs.Keyed.{AreRising, changed}
use Rattle.sb_machine.specs.Leases.{is_living, is_named, leased, was_deferred}
use Rattle.sb_machine.specs.Leaves.{copies_given, copy_in, has_number, leaf_after, prolonged_standing}
use Rattle.sb_machine.specs.Names.{is_main, is_same_entity}
use Rattle.sb_machine.specs.Namespace.{entity_at, entity_of, is_entity, key_of, leaf_of, listed, live, made, with_leaf}
use Rattle.sb_machine.specs.Reasons.{for_reason, with_reason}
use Rattle.sb_machine.specs.Settlement.{goes_with, settled}
use Rattle.sb_machine.specs.Visits.{burial}
use Rattle.sb_machine.specs.declared.call.How.{How}
use Rattle.sb_machine.specs.declared.call.How.TheVariants.{Abandon, Complete, DeadLetter, Defer}
use Rattle.sb_machine.specs.declared.call.Part.{Part}
use Rattle.sb_machine.specs.declared.call.Part.TheVariants.{Main}
use Rattle.sb_machine.specs.declared.call.Path.{Path}
use Rattle.sb_machine.specs.declared.call.Token.{Token}
use Rattle.sb_machine.specs.declared.call.Which.{Which}
use Rattle.sb_machine.specs.declared.change.Cause.{Cause}
use Rattle.sb_machine.specs.declared.change.Change.{Change}
use Rattle.sb_machine.specs.declared.change.Change.TheVariants.{InLeaf}
use Rattle.sb_machine.specs.declared.change.LeafChange.{LeafChange}
use Rattle.sb_machine.specs.declared.change.LeafChange.TheVariants.{Ends, Renews, Stands}
use Rattle.sb_machine.specs.declared.change.LeafKey.{LeafKey}
use Rattle.sb_model.specs.declared.message.Message.{Message}
use Rattle.sb_machine.specs.declared.state.Entity.{Entity}
use Rattle.sb_machine.specs.declared.state.Leaf.{Leaf}
use Rattle.sb_machine.specs.declared.state.Session.{Session}
use Rattle.sb_machine.specs.declared.state.Space.{Space}
use Rattle.sb_machine.specs.declared.state.Standing.{Standing}
use Rattle.sb_machine.specs.declared.state.Standing.TheVariants.{Deferred, Held, Ready, Scheduled}
use Rattle.sb_machine.specs.declared.state.StoredCopy.{StoredCopy}
use Rattle.sb_machine.specs.declared.change.Cause.TheVariants.{Completed, DeadLettered, Expired as ByTime}
use Rattle.sb_machine.specs.declared.reason.DeadReason.TheVariants.{Expired, TooOften}

-- ---- lists

pub other_number : (a b : ℕ) → a < b → (a == b) ≡ false
other_number a b lt = grind (arith, nat_tests)

module _ {X : Type 0} where
  pub found_by_key : (key : X → ℕ) (p : X → Bool) (above last : ℕ) (e : X) (xs : List X) → AreRising key above last xs → find p xs ≡ Some e → find (λ x. key x == key e) xs ≡ Some e
  found_by_key key p above last e [] rises is = absurd cc
  found_by_key key p above last e (x ∷ xs) rises is = at (p x) refl (found_by_key key p (key x) last e xs rises.1) where
    at : (b : Bool) → p x ≡ b → (find p xs ≡ Some e → find (λ y. key y == key e) xs ≡ Some e) → find (λ y. key y == key e) (x ∷ xs) ≡ Some e
    at true passes ih = subst (λ (y : X). find (λ z. key z == key y) (x ∷ xs) ≡ Some y) (found_here p x e xs passes is) (rw (numbers_equal (key x)) refl)
    at false passes ih =
        let behind = found_behind p x xs (Some e) passes is in
        let up : (key x < key e) × (key e ≤ last) = each_found (λ y. (key x < key y) × (key y ≤ last)) p e xs (rising_above key (key x) last xs rises.1) behind in
        rw (other_number (key x) (key e) up.0) (ih behind)

  tail_is : (x : X) (xs ys : List X) → x ∷ xs ≡ x ∷ ys → xs ≡ ys
  tail_is x xs ys same = cc

  pub head_is : (x y : X) (xs ys : List X) → x ∷ xs ≡ y ∷ ys → x ≡ y
  head_is x y xs ys same = cc

  -- where a change in the place of the first leaves the list, it leaves the first
  pub changed_same : (p : X → Bool) (g : X → List X) (e : X) (xs : List X) → find p xs ≡ Some e → changed p g xs ≡ xs → (ys : List X) × (g e ++ ys ≡ e ∷ ys)
  changed_same p g e [] is same = absurd cc
  changed_same p g e (x ∷ xs) is same = at (p x) refl (changed_same p g e xs) where
    at : (b : Bool) → p x ≡ b → (find p xs ≡ Some e → changed p g xs ≡ xs → (ys : List X) × (g e ++ ys ≡ e ∷ ys)) → (ys : List X) × (g e ++ ys ≡ e ∷ ys)
    at true passes ih = let so : g x ++ xs ≡ x ∷ xs = rw passes at same in (xs, subst (λ (y : X). g y ++ xs ≡ y ∷ xs) (found_here p x e xs passes is) so)
    at false passes ih = let so : x ∷ changed p g xs ≡ x ∷ xs = rw passes at same in ih (found_behind p x xs (Some e) passes is) (tail_is x (changed p g xs) xs so)

  pub one_same : (p : X → Bool) (g : X → X) (e : X) (xs : List X) → find p xs ≡ Some e → changed p (λ x. g x ∷ []) xs ≡ xs → g e ≡ e
  one_same p g e xs is same = let so = changed_same p (λ x. g x ∷ []) e xs is same in head_is (g e) e so.0 so.0 so.1

-- ---- single changes

pub leaf_same : (t : ℕ) (key : LeafKey) (c : LeafChange) (s : Space) (e : Entity) → entity_of key.entity s ≡ Some e → after t (InLeaf key c) s ≡ s → leaf_after (s.last_lock + 1) t c (leaf_of key.part e) ≡ leaf_of key.part e
leaf_same t key c s e there same =
    let entity_same : with_leaf key.part (leaf_after (s.last_lock + 1) t c (leaf_of key.part e)) e ≡ e = one_same (is_entity key.entity) (λ d. with_leaf key.part (leaf_after (s.last_lock + 1) t c (leaf_of key.part d)) d) e s.entities there (ap (λ (x : Space). x.entities) same) in
    sym (leaf_of_own key.part (leaf_after (s.last_lock + 1) t c (leaf_of key.part e)) e) ∙ ap (λ (x : Entity). leaf_of key.part x) entity_same

pub copy_same : (t : ℕ) (key : LeafKey) (n : ℕ) (by_settlement : Bool) (count : ℕ) (standing : Standing) (s : Space) (e : Entity) (c : StoredCopy) → entity_of key.entity s ≡ Some e → copy_in n (leaf_of key.part e) ≡ Some c
    → after t (InLeaf key (Stands n by_settlement count standing)) s ≡ s → standing ≡ c.standing
copy_same t key n by_settlement count standing s e c there found same =
    let leaves = leaf_same t key (Stands n by_settlement count standing) s e there same in
    ap (λ (x : StoredCopy). x.standing) (one_same (has_number n) (λ d. record d { count = count; standing = standing }) c (leaf_of key.part e).copies found (ap (λ (x : Leaf). x.copies) leaves))

pub renewed_same : (t : ℕ) (key : LeafKey) (n until : ℕ) (s : Space) (e : Entity) (c : StoredCopy) → entity_of key.entity s ≡ Some e → copy_in n (leaf_of key.part e) ≡ Some c → after t (InLeaf key (Renews n until)) s ≡ s → prolonged_standing until c.standing ≡ c.standing
renewed_same t key n until s e c there found same =
    let leaves = leaf_same t key (Renews n until) s e there same in
    ap (λ (x : StoredCopy). x.standing) (one_same (has_number n) (λ d. record d { standing = prolonged_standing until d.standing }) c (leaf_of key.part e).copies found (ap (λ (x : Leaf). x.copies) leaves))

-- ---- counts that differ

less : (a b : ℕ) → a < b → a ≡ b → ⊥
less a b lt same = absurd (omega (arith, lt, same))

-- a copy that ends, whatever follows
pub ends_differ : (t : ℕ) (key : LeafKey) (n : ℕ) (by_settlement : Bool) (cause : Cause) (cs : List Change) (s : Space) (e : Entity) (c : StoredCopy) → entity_of key.entity s ≡ Some e → copy_in n (leaf_of key.part e) ≡ Some c
    → after_all t (InLeaf key (Ends n by_settlement cause) ∷ cs) s ≡ s → ⊥
ends_differ t key n by_settlement cause cs s e c there found same =
    let here = dead_at t key n by_settlement cause s e c there found in
    let rest = (all_grow t cs (after t (InLeaf key (Ends n by_settlement cause)) s)).dead_more in
    absurd (omega (arith, here, rest, ap made same, ap live same))

-- numbers that are given, whatever follows
gives_differ : (t : ℕ) (key : LeafKey) (c : LeafChange) (cs : List Change) (s : Space) (e : Entity) → entity_of key.entity s ≡ Some e → copies_given c ≡ 1 → after_all t (InLeaf key c ∷ cs) s ≡ s → ⊥
gives_differ t key c cs s e there given same =
    absurd (omega (arith, made_at t key c s e there, given, (all_grow t cs (after t (InLeaf key c) s)).made_more, ap made same))

module _ (s : Space) (t : ℕ) (ordered : IsOrdered s) where
  -- what is found by an address has its number
  pub by_number : (path : Path) (e : Entity) → entity_at path s ≡ Some e → entity_of e.about.number s ≡ Some e
  by_number path e there = found_by_key entity_number (λ x. is_same_entity x.about.path path) 0 s.last_entity e s.entities ordered.entities there

  pub copy_by_number : (part : Part) (e : Entity) (p : Entity → Bool) (c : StoredCopy) (r : StoredCopy → Bool) → find p s.entities ≡ Some e → find r (leaf_of part e).copies ≡ Some c → copy_in c.number (leaf_of part e) ≡ Some c
  copy_by_number part e p c r there found = found_by_key copy_number r 0 (leaf_of part e).last c (leaf_of part e).copies (leaf_each LeafRises part e (each_found (EachLeaf LeafRises) p e s.entities ordered.copies there)) found

  dead_differs : (e : Entity) (c : StoredCopy) (by_settlement : Bool) (m : Message) → entity_of e.about.number s ≡ Some e → copy_in c.number e.main ≡ Some c → after_all t (dead_lettered (listed s) e c by_settlement m) s ≡ s → ⊥
  dead_differs e c by_settlement m there found same = ends_differ t (key_of Main e) c.number by_settlement DeadLettered (carried c.enqueued_seq (burial (listed s) c.hops e.about m)) s e c there found same

  pub expired_differs : (e : Entity) (c : StoredCopy) (by_settlement : Bool) → entity_of e.about.number s ≡ Some e → copy_in c.number e.main ≡ Some c → after_all t (expired (listed s) e c by_settlement) s ≡ s → ⊥
  expired_differs e c by_settlement there found same = go e.about.description.dead_on_expiry same where
    go : (b : Bool) → after_all t (if b then dead_for (listed s) e c by_settlement Expired else in_part Main e (Ends c.number by_settlement ByTime) ∷ []) s ≡ s → ⊥
    go true same = dead_differs e c by_settlement (for_reason Expired c.message) there found same
    go false same = ends_differ t (key_of Main e) c.number by_settlement ByTime [] s e c there found same

  released_differs : (e : Entity) (part : Part) (c : StoredCopy) (raise by_settlement : Bool) → entity_of e.about.number s ≡ Some e → copy_in c.number (leaf_of part e) ≡ Some c → is_free c.standing ≡ false → after_all t (released (listed s) t e part c raise by_settlement) s ≡ s → ⊥
  released_differs e part c raise by_settlement there found held same = go (is_main part && raise && nat_le e.about.description.max_delivery (raised raise c.count)) refl (is_main part && not (was_deferred c.standing) && is_expired t c) refl same where
    in_main : (a b : Bool) → (is_main part && a && b) ≡ true → copy_in c.number e.main ≡ Some c
    in_main a b so = subst (λ (p : Part). copy_in c.number (leaf_of p e) ≡ Some c) (main_part part (three (is_main part) a b so).0) found

    clash : (standing : Standing) → is_free standing ≡ true → standing ≡ c.standing → ⊥
    clash standing free is = let bad = sym (ap is_free is) ∙ free in absurd cc

    go : (a : Bool) → (is_main part && raise && nat_le e.about.description.max_delivery (raised raise c.count)) ≡ a → (b : Bool) → (is_main part && not (was_deferred c.standing) && is_expired t c) ≡ b
        → after_all t (if a then dead_for (listed s) e c by_settlement TooOften else (if b then expired (listed s) e c by_settlement else in_part part e (Stands c.number by_settlement (raised raise c.count) (back_to c.standing)) ∷ [])) s ≡ s → ⊥
    go true x b y same = dead_differs e c by_settlement (for_reason TooOften c.message) there (in_main raise (nat_le e.about.description.max_delivery (raised raise c.count)) x) same
    go false x true y same = expired_differs e c by_settlement there (in_main (not (was_deferred c.standing)) (is_expired t c) y) same
    go false x false y same = clash (back_to c.standing) (back_is_free c.standing) (copy_same t (key_of part e) c.number by_settlement (raised raise c.count) (back_to c.standing) s e c there found same)

  -- a leased copy is under a lock
  pub leased_held : (token : Token) (which : Which) (leaf : Leaf) (c : StoredCopy) → leased s t token which leaf ≡ Some c → (find (λ d. is_living t leaf.sessions token.lock d.standing && is_named which d) leaf.copies ≡ Some c) × (is_living t leaf.sessions token.lock c.standing ≡ true)
  leased_held token which leaf c is = go (token.salt == s.salt) is where
    go : (b : Bool) → (if b then find (λ d. is_living t leaf.sessions token.lock d.standing && is_named which d) leaf.copies else None) ≡ Some c
        → (find (λ d. is_living t leaf.sessions token.lock d.standing && is_named which d) leaf.copies ≡ Some c) × (is_living t leaf.sessions token.lock c.standing ≡ true)
    go true is = (is, (two (is_living t leaf.sessions token.lock c.standing) (is_named which c) (found_passes (λ d. is_living t leaf.sessions token.lock d.standing && is_named which d) c leaf.copies is)).0)
    go false is = absurd cc

  pub living_held : (sessions : List Session) (l : ℕ) (standing : Standing) → is_living t sessions l standing ≡ true → is_free standing ≡ false
  living_held sessions l (Held lock hold deferred) is = refl
  living_held sessions l Ready is = absurd cc
  living_held sessions l Deferred is = absurd cc
  living_held sessions l (Scheduled moment) is = absurd cc

  pub settled_differs : (e : Entity) (part : Part) (c : StoredCopy) (how : How) → entity_of e.about.number s ≡ Some e → copy_in c.number (leaf_of part e) ≡ Some c → is_free c.standing ≡ false → goes_with how part ≡ true → after_all t (settled (listed s) t e part c how) s ≡ s → ⊥
  settled_differs e part c Complete there found held goes same = ends_differ t (key_of part e) c.number true Completed [] s e c there found same
  settled_differs e part c Abandon there found held goes same = released_differs e part c true true there found held same
  settled_differs e part c Defer there found held goes same = let is = copy_same t (key_of part e) c.number true c.count Deferred s e c there found same in let bad = ap is_free is ∙ held in absurd cc
  settled_differs e part c (DeadLetter reason description) there found held goes same =
      dead_differs e c true (with_reason reason description c.message) there (subst (λ (p : Part). copy_in c.number (leaf_of p e) ≡ Some c) (main_part part goes) found) same
