-- Which copy a lock holds: changes leave it, and the lock of a copy holds no other.
use Rattle.std.proofs.Common.{Bool, List, Some, [], ap, arith, false, filter, map, refl, subst, sym, true, ℕ, ◌&&◌, ◌+◌, ◌++◌, ◌==◌, ◌∙◌, ◌∷◌, ◌≡◌, ◌≤◌}
use Rattle.std.specs.Prelude.{find, not, sum_by}
use Rattle.std.proofs.lemmas.Bool.Decides.{nat_tests}
use Rattle.std.proofs.lemmas.List.Sums.{sum_by-cons}
use Rattle.sb_laws.proofs.Carrying.{each_flat, flat_each}
use Rattle.sb_laws.proofs.Eachs.{each_append, each_back, each_changed, each_front, each_implied, is_equal}
use Rattle.sb_laws.proofs.Entities.{EachLeaf, KeepsEntity, about_with_leaf, each_leaf, entities_keep, leaf_each, with_leaf_each}
use Rattle.sb_laws.proofs.Lists.{changed_sum}
use Rattle.sb_laws.proofs.Locking.{FreesLock, FreesLocks, IsLocked, copy_once, held_in, one}
use Rattle.sb_machine.specs.Changes.{after, noted, rule_added, rule_dropped, with_rules}
use Rattle.sb_machine.specs.Consistent.{IsOwn, locked_in}
use Rattle.sb_machine.specs.Each.{Each, has_lock}
use Rattle.sb_machine.specs.Keyed.{changed}
use Rattle.sb_machine.specs.Leaves.{has_number, is_deferred, leaf_after, prolonged_standing}
use Rattle.sb_machine.specs.Names.{is_same_part}
use Rattle.sb_machine.specs.Namespace.{key_of, leaf_of, with_leaf}
use Rattle.sb_machine.specs.declared.call.Part.{Part}
use Rattle.sb_machine.specs.declared.call.Part.TheVariants.{Dead, Main, Transfer}
use Rattle.sb_machine.specs.declared.change.Change.{Change}
use Rattle.sb_machine.specs.declared.change.Change.TheVariants.{AddsRule, Begins, Drops, DropsRule, InLeaf, Makes, Notes, Queues, Removes}
use Rattle.sb_machine.specs.declared.change.LeafChange.{LeafChange}
use Rattle.sb_machine.specs.declared.change.LeafChange.TheVariants.{Closes, Ends, Enters, Holds, Opens, Passes, Prolongs, Renews, Stands, Writes}
use Rattle.sb_machine.specs.declared.change.LeafKey.{LeafKey}
use Rattle.sb_machine.specs.declared.state.Entity.{Entity}
use Rattle.sb_machine.specs.declared.state.Leaf.{Leaf}
use Rattle.sb_machine.specs.declared.state.Space.{Space}
use Rattle.sb_machine.specs.declared.state.Standing.{Standing}
use Rattle.sb_machine.specs.declared.state.Standing.TheVariants.{Deferred, Held, Ready, Scheduled}
use Rattle.sb_machine.specs.declared.state.StoredCopy.{StoredCopy}

abbrev pub key_at : ℕ → Part → LeafKey
key_at n part = record { entity = n; part = part }

module _ (lock : ℕ) (key : LeafKey) (number : ℕ) where
  -- where a copy is under the lock, it is this one
  abbrev pub IsThat : ℕ → Part → StoredCopy → Type 0
  IsThat n part c = has_lock lock c.standing ≡ true → ◌≡◌ {A = LeafKey × ℕ} (key_at n part, c.number) (key, number)

  abbrev pub ThatIn : ℕ → Part → Leaf → Type 0
  ThatIn n part leaf = Each (IsThat n part) leaf.copies

  abbrev pub ThatOf : Entity → Type 0
  ThatOf e = EachLeaf (ThatIn e.about.number) e

  abbrev pub HoldsThat : Space → Type 0
  HoldsThat s = Each ThatOf s.entities

  -- ---- a change keeps it

  clash : (b : Bool) → b ≡ false → b ≡ true → ⊥
  clash b off on = cc

  standing_kept : (n : ℕ) (part : Part) (m : ℕ) (g : StoredCopy → StoredCopy) (leaf : Leaf) → ((c : StoredCopy) → IsThat n part c → IsThat n part (g c)) → ThatIn n part leaf → Each (IsThat n part) (changed (has_number m) (λ c. g c ∷ []) leaf.copies)
  standing_kept n part m g leaf keeps h = each_changed (IsThat n part) (has_number m) (λ c. g c ∷ []) leaf.copies (λ c there p. (keeps c p, tt)) h

  prolonged_lock : (until : ℕ) (standing : Standing) → has_lock lock (prolonged_standing until standing) ≡ has_lock lock standing
  prolonged_lock until Ready = refl
  prolonged_lock until Deferred = refl
  prolonged_lock until (Held l hold deferred) = refl
  prolonged_lock until (Scheduled moment) = refl

  leaf_kept : (last t : ℕ) (c : LeafChange) (n : ℕ) (part : Part) (leaf : Leaf) → lock ≤ last → FreesLock lock c → ThatIn n part leaf → ThatIn n part (leaf_after (last + 1) t c leaf)
  leaf_kept last t (Enters fresh) n part leaf old frees h = each_append (IsThat n part) leaf.copies _ h ((λ is. absurd (clash (has_lock lock fresh.standing) frees is)), tt)
  leaf_kept last t (Passes cause) n part leaf old frees h = h
  leaf_kept last t (Ends m by_settlement cause) n part leaf old frees h = each_changed (IsThat n part) (has_number m) (λ c. []) leaf.copies (λ c there p. tt) h
  leaf_kept last t (Holds m hold) n part leaf old frees h = standing_kept n part m (λ c. record c { standing = Held (last + 1) hold (is_deferred c.standing) }) leaf (λ c p is. absurd (newer is)) h where
    newer : (last + 1 == lock) ≡ true → ⊥
    newer is = let same = is_equal (last + 1) lock is in absurd (omega (arith, same, old))
  leaf_kept last t (Stands m by_settlement count standing) n part leaf old frees h = standing_kept n part m (λ c. record c { count = count; standing = standing }) leaf (λ c p is. absurd (clash (has_lock lock standing) frees is)) h
  leaf_kept last t (Renews m until) n part leaf old frees h = standing_kept n part m (λ c. record c { standing = prolonged_standing until c.standing }) leaf (λ c p is. p (sym (prolonged_lock until c.standing) ∙ is)) h
  leaf_kept last t (Opens id until) n part leaf old frees h = h
  leaf_kept last t (Closes l) n part leaf old frees h = h
  leaf_kept last t (Prolongs l until) n part leaf old frees h = h
  leaf_kept last t (Writes l state) n part leaf old frees h = h

  -- an entity with the same number and parts
  alike : (e d : Entity) → d.about.number ≡ e.about.number → d.main ≡ e.main → d.dead ≡ e.dead → d.transfer ≡ e.transfer → ThatOf e → ThatOf d
  alike e d number_is main_is dead_is transfer_is (each_leaf main dead transfer) = each_leaf (moved Main e.main d.main main_is main) (moved Dead e.dead d.dead dead_is dead) (moved Transfer e.transfer d.transfer transfer_is transfer) where
    moved : (part : Part) (leaf later : Leaf) → later ≡ leaf → ThatIn e.about.number part leaf → ThatIn d.about.number part later
    moved part leaf later same h = subst (λ (l : Leaf). ThatIn d.about.number part l) (sym same) (subst (λ (n : ℕ). ThatIn n part leaf) (sym number_is) h)

  pub holds_kept : (t : ℕ) (c : Change) (s : Space) → lock ≤ s.last_lock → FreesLocks lock c → HoldsThat s → HoldsThat (after t c s)
  holds_kept t c s old frees h = entities_keep ThatOf t c s (by c frees) h where
    by : (c : Change) → FreesLocks lock c → KeepsEntity ThatOf t c s
    by (InLeaf k c) frees = λ e there p. let leaf = leaf_after (s.last_lock + 1) t c (leaf_of k.part e) in
        subst (λ (n : ℕ). EachLeaf (ThatIn n) (with_leaf k.part leaf e)) (sym (ap (λ a. a.number) (about_with_leaf k.part leaf e)))
        (with_leaf_each (ThatIn e.about.number) k.part leaf e (leaf_kept s.last_lock t c e.about.number k.part (leaf_of k.part e) old frees (leaf_each (ThatIn e.about.number) k.part e p)) p)
    by (Notes n id) frees = λ e there p. alike e (record e { ids = noted e.about.description.window id t e.ids }) refl refl refl refl p
    by (Makes kind path description rules) frees = each_leaf tt tt tt
    by (AddsRule n rule) frees = λ e there p. alike e (with_rules (rule_added rule) e) refl refl refl refl p
    by (DropsRule n name) frees = λ e there p. alike e (with_rules (rule_dropped name) e) refl refl refl refl p
    by (Removes n) frees = tt
    by (Begins n deadline) frees = tt
    by (Queues n deadline operation) frees = tt
    by (Drops n) frees = tt

  -- ---- as consistency says it

  locked_part : (e : Entity) (part : Part) (cs : List StoredCopy) → Each (IsThat e.about.number part) cs → Each (λ x. ◌≡◌ {A = LeafKey × ℕ} x (key, number)) (map (λ c. (key_of part e, c.number)) (filter (λ c. has_lock lock c.standing) cs))
  locked_part e part [] h = tt
  locked_part e part (c ∷ cs) h = at (has_lock lock c.standing) refl (locked_part e part cs h.1) where
    at : (b : Bool) → has_lock lock c.standing ≡ b → Each (λ x. ◌≡◌ {A = LeafKey × ℕ} x (key, number)) (map (λ c. (key_of part e, c.number)) (filter (λ c. has_lock lock c.standing) cs))
        → Each (λ x. ◌≡◌ {A = LeafKey × ℕ} x (key, number)) (map (λ c. (key_of part e, c.number)) (filter (λ c. has_lock lock c.standing) (c ∷ cs)))
    at true is ih = rw is (h.0 is, ih)
    at false is ih = rw is ih

  part_locked : (e : Entity) (part : Part) (cs : List StoredCopy) → Each (λ x. ◌≡◌ {A = LeafKey × ℕ} x (key, number)) (map (λ c. (key_of part e, c.number)) (filter (λ c. has_lock lock c.standing) cs)) → Each (IsThat e.about.number part) cs
  part_locked e part [] h = tt
  part_locked e part (c ∷ cs) h = at (has_lock lock c.standing) refl (part_locked e part cs) where
    at : (b : Bool) → has_lock lock c.standing ≡ b → (Each (λ x. ◌≡◌ {A = LeafKey × ℕ} x (key, number)) (map (λ c. (key_of part e, c.number)) (filter (λ c. has_lock lock c.standing) cs)) → Each (IsThat e.about.number part) cs) → Each (IsThat e.about.number part) (c ∷ cs)
    at true is rest =
        let whole : Each (λ x. ◌≡◌ {A = LeafKey × ℕ} x (key, number)) ((key_of part e, c.number) ∷ map (λ c. (key_of part e, c.number)) (filter (λ c. has_lock lock c.standing) cs)) = rw is at h in
        ((λ on. whole.0), rest whole.1)
    at false is rest =
        let whole : Each (λ x. ◌≡◌ {A = LeafKey × ℕ} x (key, number)) (map (λ c. (key_of part e, c.number)) (filter (λ c. has_lock lock c.standing) cs)) = rw is at h in
        ((λ on. absurd (clash (has_lock lock c.standing) is on)), rest whole)

  pub own_of : (s : Space) → HoldsThat s → IsOwn s key number lock
  own_of s h = each_flat ThatOf (λ x. ◌≡◌ {A = LeafKey × ℕ} x (key, number)) (λ e. locked_in lock e Main ++ locked_in lock e Dead ++ locked_in lock e Transfer) s.entities of_entity h where
    of_entity : (e : Entity) → ThatOf e → Each (λ x. ◌≡◌ {A = LeafKey × ℕ} x (key, number)) (locked_in lock e Main ++ locked_in lock e Dead ++ locked_in lock e Transfer)
    of_entity e (each_leaf main dead transfer) = each_append _ (locked_in lock e Main ++ locked_in lock e Dead) (locked_in lock e Transfer) (each_append _ (locked_in lock e Main) (locked_in lock e Dead) (locked_part e Main e.main.copies main) (locked_part e Dead e.dead.copies dead)) (locked_part e Transfer e.transfer.copies transfer)

  pub of_own : (s : Space) → IsOwn s key number lock → HoldsThat s
  of_own s h = each_implied (λ e. Each (λ x. ◌≡◌ {A = LeafKey × ℕ} x (key, number)) (locked_in lock e Main ++ locked_in lock e Dead ++ locked_in lock e Transfer)) ThatOf of_entity s.entities (flat_each (λ x. ◌≡◌ {A = LeafKey × ℕ} x (key, number)) (λ e. locked_in lock e Main ++ locked_in lock e Dead ++ locked_in lock e Transfer) s.entities h) where
    of_entity : (e : Entity) → Each (λ x. ◌≡◌ {A = LeafKey × ℕ} x (key, number)) (locked_in lock e Main ++ locked_in lock e Dead ++ locked_in lock e Transfer) → ThatOf e
    of_entity e h = let first_two = each_front _ (locked_in lock e Main ++ locked_in lock e Dead) (locked_in lock e Transfer) h in
        each_leaf (part_locked e Main e.main.copies (each_front _ (locked_in lock e Main) (locked_in lock e Dead) first_two)) (part_locked e Dead e.dead.copies (each_back _ (locked_in lock e Main) (locked_in lock e Dead) first_two))
        (part_locked e Transfer e.transfer.copies (each_back _ (locked_in lock e Main ++ locked_in lock e Dead) (locked_in lock e Transfer) h))

  -- ---- the lock of a copy holds no other

  abbrev is_that : ℕ → Part → StoredCopy → Bool
  is_that n part c = (n == key.entity) && (is_same_part part key.part && (c.number == number))

  -- another copy under the lock
  abbrev other_once : ℕ → Part → StoredCopy → ℕ
  other_once n part c = one (has_lock lock c.standing && not (is_that n part c))

  abbrev that_once : ℕ → Part → StoredCopy → ℕ
  that_once n part c = one (has_lock lock c.standing && is_that n part c)

  split_once : (n : ℕ) (part : Part) (c : StoredCopy) → copy_once lock c ≡ other_once n part c + that_once n part c
  split_once n part c = at (has_lock lock c.standing) (is_that n part c) where
    at : (a b : Bool) → one a ≡ one (a && not b) + one (a && b)
    at true true = refl
    at true false = refl
    at false b = refl

  others_in : ℕ → Part → Leaf → ℕ
  others_in n part leaf = sum_by (other_once n part) leaf.copies

  those_in : ℕ → Part → Leaf → ℕ
  those_in n part leaf = sum_by (that_once n part) leaf.copies

  split_copies : (n : ℕ) (part : Part) (cs : List StoredCopy) → sum_by (copy_once lock) cs ≡ sum_by (other_once n part) cs + sum_by (that_once n part) cs
  split_copies n part [] = refl
  split_copies n part (c ∷ cs) = omega (arith, split_copies n part cs, split_once n part c, sum_by-cons (copy_once lock) c cs, sum_by-cons (other_once n part) c cs, sum_by-cons (that_once n part) c cs)

  abbrev others_of : Entity → ℕ
  others_of e = sum_by (other_once e.about.number Main) e.main.copies + sum_by (other_once e.about.number Dead) e.dead.copies + sum_by (other_once e.about.number Transfer) e.transfer.copies

  abbrev those_of : Entity → ℕ
  those_of e = sum_by (that_once e.about.number Main) e.main.copies + sum_by (that_once e.about.number Dead) e.dead.copies + sum_by (that_once e.about.number Transfer) e.transfer.copies

  split_all : (es : List Entity) → sum_by others_of es + sum_by those_of es ≤ sum_by (held_in lock) es
  split_all [] = omega arith
  split_all (e ∷ es) = omega (arith, split_all es, split_copies e.about.number Main e.main.copies, split_copies e.about.number Dead e.dead.copies, split_copies e.about.number Transfer e.transfer.copies, sum_by-cons others_of e es, sum_by-cons those_of e es, sum_by-cons (held_in lock) e es)

  part_is : (a b : Part) → is_same_part a b ≡ true → a ≡ b
  part_is Main Main e = refl
  part_is Dead Dead e = refl
  part_is Transfer Transfer e = refl
  part_is Main Dead e = absurd cc
  part_is Main Transfer e = absurd cc
  part_is Dead Main e = absurd cc
  part_is Dead Transfer e = absurd cc
  part_is Transfer Main e = absurd cc
  part_is Transfer Dead e = absurd cc

  is_that_one : (n : ℕ) (part : Part) (c : StoredCopy) → other_once n part c ≡ 0 → IsThat n part c
  is_that_one n part c none on = at (has_lock lock c.standing) (n == key.entity) (is_same_part part key.part) (c.number == number) on refl refl refl none where
    same : n ≡ key.entity → part ≡ key.part → c.number ≡ number → ◌≡◌ {A = LeafKey × ℕ} (key_at n part, c.number) (key, number)
    same p q r = subst (λ (m : ℕ). ◌≡◌ {A = LeafKey × ℕ} (key_at n part, c.number) (key_at m part, c.number)) p refl
        ∙ subst (λ (x : Part). ◌≡◌ {A = LeafKey × ℕ} (key_at key.entity part, c.number) (key_at key.entity x, c.number)) q refl
        ∙ subst (λ (m : ℕ). ◌≡◌ {A = LeafKey × ℕ} (key_at key.entity key.part, c.number) (key_at key.entity key.part, m)) r refl

    at : (h a b d : Bool) → h ≡ true → (n == key.entity) ≡ a → is_same_part part key.part ≡ b → (c.number == number) ≡ d → one (h && not (a && (b && d))) ≡ 0 → ◌≡◌ {A = LeafKey × ℕ} (key_at n part, c.number) (key, number)
    at true true true true on e f g none = same (is_equal n key.entity e) (part_is part key.part f) (is_equal c.number number g)
    at true true true false on e f g none = absurd cc
    at true true false d on e f g none = absurd cc
    at true false b d on e f g none = absurd cc
    at false a b d on e f g none = absurd cc

  each_that : (n : ℕ) (part : Part) (cs : List StoredCopy) → sum_by (other_once n part) cs ≡ 0 → Each (IsThat n part) cs
  each_that n part [] none = tt
  each_that n part (c ∷ cs) none = (is_that_one n part c (omega (arith, none, sum_by-cons (other_once n part) c cs)), each_that n part cs (omega (arith, none, sum_by-cons (other_once n part) c cs)))

  all_that : (es : List Entity) → sum_by others_of es ≡ 0 → Each ThatOf es
  all_that [] none = tt
  all_that (e ∷ es) none =
      let here : others_of e ≡ 0 = omega (arith, none, sum_by-cons others_of e es) in (
        each_leaf (each_that e.about.number Main e.main.copies (omega (arith, here))) (each_that e.about.number Dead e.dead.copies (omega (arith, here))) (each_that e.about.number Transfer e.transfer.copies (omega (arith, here))),
        all_that es (omega (arith, none, sum_by-cons others_of e es)),
      )

pub found_sum : {X : Type 0} (f : X → ℕ) (p : X → Bool) (e : X) (xs : List X) → find p xs ≡ Some e → f e ≤ sum_by f xs
found_sum f p e xs is = omega (arith, changed_sum f p (λ x. []) e xs is)

-- what holds a copy that is found holds no other
pub lock_is_own : (s : Space) (lock : ℕ) (p : Entity → Bool) (q : StoredCopy → Bool) (e : Entity) (part : Part) (c : StoredCopy) → IsLocked s → find p s.entities ≡ Some e → find q (leaf_of part e).copies ≡ Some c → has_lock lock c.standing ≡ true → HoldsThat lock (key_of part e) c.number s
lock_is_own s lock p q e part c locked there found on =
    let here : 1 ≤ sum_by (that_once lock (key_of part e) c.number e.about.number part) (leaf_of part e).copies = at_least (found_sum (that_once lock (key_of part e) c.number e.about.number part) q c (leaf_of part e).copies found) in
    let there_sum = found_sum (those_of lock (key_of part e) c.number) p e s.entities there in
    let all = split_all lock (key_of part e) c.number s.entities in
    all_that lock (key_of part e) c.number s.entities (omega (arith, all, locked.most lock, there_sum, in_entity part here)) where
      same_part : (part : Part) → is_same_part part part ≡ true
      same_part Main = refl
      same_part Dead = refl
      same_part Transfer = refl

      same_number : (n : ℕ) → (n == n) ≡ true
      same_number n = grind (arith, nat_tests)

      counts : that_once lock (key_of part e) c.number e.about.number part c ≡ 1
      counts = rw (on, same_number e.about.number, same_part part, same_number c.number) refl

      at_least : that_once lock (key_of part e) c.number e.about.number part c ≤ sum_by (that_once lock (key_of part e) c.number e.about.number part) (leaf_of part e).copies → 1 ≤ sum_by (that_once lock (key_of part e) c.number e.about.number part) (leaf_of part e).copies
      at_least le = omega (arith, le, counts)

      in_entity : (part : Part) → 1 ≤ sum_by (that_once lock (key_of part e) c.number e.about.number part) (leaf_of part e).copies → 1 ≤ those_of lock (key_of part e) c.number e
      in_entity Main le = omega (arith, le)
      in_entity Dead le = omega (arith, le)
      in_entity Transfer le = omega (arith, le)
