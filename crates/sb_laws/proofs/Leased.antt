-- A copy that is found under its lock stays so, where nothing else becomes of it.
use Rattle.std.proofs.Common.{Bool, List, None, Option, Some, [], ap, false, nat_le, not, refl, subst, sym, true, ℕ, ◌&&◌, ◌++◌, ◌+◌, ◌==◌, ◌∙◌, ◌∷◌, ◌≡◌}
use Rattle.std.proofs.Common.{arith}
use Rattle.std.proofs.lemmas.Bool.Decides.{nat_tests}
use Rattle.std.specs.Prelude.{find, if◌then◌else◌}
use Rattle.sb_laws.proofs.Calm.{IsCalm, calm_drops, calm_ends, calm_enters, calm_frees, calm_notes, calm_passes, visits_calm}
use Rattle.sb_laws.proofs.Deeds.{IsUnspent, calm_unspent}
use Rattle.sb_laws.proofs.Eachs.{each_both, each_implied}
use Rattle.sb_laws.proofs.Entities.{about_with_leaf}
use Rattle.sb_laws.proofs.FoundOn.{found_on, put_in}
use Rattle.sb_laws.proofs.Lists.{found_first, found_other}
use Rattle.sb_laws.proofs.Mild.{main_part}
use Rattle.sb_laws.proofs.Swept.{leaf_of_own, leaf_of_with, same_part, three}
use Rattle.sb_machine.specs.Changes.{after, after_all, noted}
use Rattle.sb_machine.specs.Delivery.{back_to, dead_for, dead_lettered, expired, in_part, is_expired, raised, released}
use Rattle.sb_machine.specs.Each.{Each}
use Rattle.sb_machine.specs.Keyed.{changed}
use Rattle.sb_machine.specs.Leases.{is_living, leased, was_deferred}
use Rattle.sb_machine.specs.Leaves.{has_number, leaf_after, stored}
use Rattle.sb_machine.specs.Names.{is_main, is_same_part}
use Rattle.sb_machine.specs.Namespace.{entity_of, leaf_of, with_leaf}
use Rattle.sb_machine.specs.Reasons.{for_reason, with_reason}
use Rattle.sb_machine.specs.Settlement.{goes_with, settled}
use Rattle.sb_machine.specs.Visits.{burial}
use Rattle.sb_machine.specs.declared.call.How.{How}
use Rattle.sb_machine.specs.declared.call.How.TheVariants.{Abandon, Complete, DeadLetter, Defer}
use Rattle.sb_machine.specs.declared.call.Part.{Part}
use Rattle.sb_machine.specs.declared.call.Part.TheVariants.{Dead, Main, Transfer}
use Rattle.sb_machine.specs.declared.call.Token.{Token}
use Rattle.sb_machine.specs.declared.call.Which.TheVariants.{Number}
use Rattle.sb_machine.specs.declared.change.Cause.TheVariants.{Expired as ByTime}
use Rattle.sb_machine.specs.declared.change.Change.{Change}
use Rattle.sb_machine.specs.declared.change.Change.TheVariants.{Drops, InLeaf, Notes}
use Rattle.sb_machine.specs.declared.change.LeafChange.{LeafChange}
use Rattle.sb_machine.specs.declared.change.LeafChange.TheVariants.{Ends, Enters, Passes, Stands}
use Rattle.sb_machine.specs.declared.reason.DeadReason.TheVariants.{Expired, TooOften}
use Rattle.sb_machine.specs.declared.state.Entity.{Entity}
use Rattle.sb_machine.specs.declared.state.Leaf.{Leaf}
use Rattle.sb_machine.specs.declared.state.Listed.{Listed}
use Rattle.sb_machine.specs.declared.state.Session.{Session}
use Rattle.sb_machine.specs.declared.state.Space.{Space}
use Rattle.sb_machine.specs.declared.state.StoredCopy.{StoredCopy}
use Rattle.sb_model.specs.declared.message.Message.{Message}

second_false : (a b : Bool) → b ≡ false → (a && b) ≡ false
second_false true b is = is
second_false false b is = refl

other_copy : (n k number : ℕ) → (k == number) ≡ false → (n == k) ≡ true → (n == number) ≡ false
other_copy n k number apart is = grind (arith, nat_tests)

module _ (t m : ℕ) (part : Part) (number : ℕ) (token : Token) where
  -- the copy of this number is there, under the token's living lock
  pub record Finds (s : Space) : Type 0 where
    pub now : Entity
    pub there : entity_of m s ≡ Some now
    pub copy : StoredCopy
    pub held : leased s t token (Number number) (leaf_of part now) ≡ Some copy

  -- nothing becomes of the copy of this number
  abbrev SparesIn : LeafChange → Type 0
  SparesIn (Enters fresh) = Unit {0}
  SparesIn (Passes cause) = Unit {0}
  SparesIn (Ends k by_settlement cause) = (k == number) ≡ false
  SparesIn (Stands k by_settlement count standing) = (k == number) ≡ false
  SparesIn _ = ⊥

  abbrev pub SparesCopy : Change → Type 0
  SparesCopy (InLeaf key c) = is_same_part key.part part ≡ true → SparesIn c
  SparesCopy (Notes n id) = Unit {0}
  SparesCopy (Drops n) = Unit {0}
  SparesCopy _ = ⊥

  -- ---- one change

  abbrev test : List Session → StoredCopy → Bool
  test sessions c = is_living t sessions token.lock c.standing && (c.number == number)

  on_copies : (s : Space) (k : ℕ) (leaf : Leaf) (x : StoredCopy) (g : StoredCopy → List StoredCopy) → (k == number) ≡ false → ((c : StoredCopy) → (c.number == number) ≡ false → find (test leaf.sessions) (g c) ≡ None)
      → leased s t token (Number number) leaf ≡ Some x → leased s t token (Number number) (record leaf { copies = changed (has_number k) g leaf.copies }) ≡ Some x
  on_copies s k leaf x g apart none held =
      ap (λ (o : Option StoredCopy). if token.salt == s.salt then o else None)
      (found_other (has_number k) (test leaf.sessions) g leaf.copies (λ c is. second_false (is_living t leaf.sessions token.lock c.standing) (c.number == number) (other_copy c.number k number apart is)) (λ c is. none c (other_copy c.number k number apart is)))
      ∙ held

  stays_in : (s : Space) (lock : ℕ) (c : LeafChange) (leaf : Leaf) (x : StoredCopy) → SparesIn c → leased s t token (Number number) leaf ≡ Some x → leased s t token (Number number) (leaf_after lock t c leaf) ≡ Some x
  stays_in s lock (Enters fresh) leaf x leaves held = at (token.salt == s.salt) held where
    at : (b : Bool) → (if b then find (test leaf.sessions) leaf.copies else None) ≡ Some x → (if b then find (test leaf.sessions) (leaf.copies ++ stored (leaf.last + 1) t fresh ∷ []) else None) ≡ Some x
    at true so = found_first (test leaf.sessions) x leaf.copies (stored (leaf.last + 1) t fresh ∷ []) so
    at false so = absurd cc
  stays_in s lock (Passes cause) leaf x leaves held = held
  stays_in s lock (Ends k by_settlement cause) leaf x leaves held = on_copies s k leaf x (λ c. []) leaves (λ c other. refl) held
  stays_in s lock (Stands k by_settlement count standing) leaf x leaves held =
      on_copies s k leaf x (λ c. record c { count = count; standing = standing } ∷ []) leaves
      (λ c other. ap (λ (b : Bool). if b then Some (record c { count = count; standing = standing }) else None) (second_false (is_living t leaf.sessions token.lock standing) (c.number == number) other)) held
  stays_in s lock c leaf x leaves held = absurd leaves

  stays_after : (c : Change) (s : Space) → SparesCopy c → Finds s → Finds (after t c s)
  stays_after (InLeaf key c) s leaves f = at (m == key.entity) (found_on m key.entity g s.entities (λ d. ap (λ (a : Listed). a.number) (about_with_leaf key.part (new d) d))) where
    new : Entity → Leaf
    new d = leaf_after (s.last_lock + 1) t c (leaf_of key.part d)

    g : Entity → Entity
    g d = with_leaf key.part (new d) d

    go : (b : Bool) → is_same_part key.part part ≡ b → leased s t token (Number number) (leaf_of part (g f.now)) ≡ Some f.copy
    go true is =
        let same = same_part key.part part is in
        let held : leased s t token (Number number) (leaf_of key.part f.now) ≡ Some f.copy = subst (λ (p : Part). leased s t token (Number number) (leaf_of p f.now) ≡ Some f.copy) (sym same) f.held in
        subst (λ (p : Part). leased s t token (Number number) (leaf_of p (g f.now)) ≡ Some f.copy) same
        (ap (leased s t token (Number number)) (leaf_of_own key.part (new f.now) f.now) ∙ stays_in s (s.last_lock + 1) c (leaf_of key.part f.now) f.copy (leaves is) held)
    go false is = ap (leased s t token (Number number)) (leaf_of_with key.part part (new f.now) f.now is) ∙ f.held

    at : (b : Bool) → entity_of m (after t (InLeaf key c) s) ≡ put_in b g (entity_of m s) → Finds (after t (InLeaf key c) s)
    at true is = record { now = g f.now; there = is ∙ ap (put_in true g) f.there; copy = f.copy; held = go (is_same_part key.part part) refl }
    at false is = record { now = f.now; there = is ∙ ap (put_in false g) f.there; copy = f.copy; held = f.held }
  stays_after (Notes n id) s leaves f = at (m == n) (found_on m n g s.entities (λ d. refl)) where
    g : Entity → Entity
    g e = record e { ids = noted e.about.description.window id t e.ids }

    part_same : (p : Part) → leaf_of p (g f.now) ≡ leaf_of p f.now
    part_same p = by p where
      by : (p : Part) → leaf_of p (g f.now) ≡ leaf_of p f.now
      by Main = refl
      by Dead = refl
      by Transfer = refl

    at : (b : Bool) → entity_of m (after t (Notes n id) s) ≡ put_in b g (entity_of m s) → Finds (after t (Notes n id) s)
    at true is = record { now = g f.now; there = is ∙ ap (put_in true g) f.there; copy = f.copy; held = ap (leased s t token (Number number)) (part_same part) ∙ f.held }
    at false is = record { now = f.now; there = is ∙ ap (put_in false g) f.there; copy = f.copy; held = f.held }
  stays_after (Drops n) s leaves f = record { now = f.now; there = f.there; copy = f.copy; held = f.held }
  stays_after c s leaves f = absurd leaves

  pub stays_all : (cs : List Change) (s : Space) → Each SparesCopy cs → Finds s → Finds (after_all t cs s)
  stays_all [] s leaves f = f
  stays_all (c ∷ cs) s leaves f = stays_all cs (after t c s) leaves.1 (stays_after c s leaves.0 f)

  -- ---- what delivers and settles

  unspent_leaves : (c : Change) → IsCalm true c → IsUnspent c → SparesCopy c
  unspent_leaves _ (calm_enters key fresh unheld) unspent = λ same. tt
  unspent_leaves _ (calm_passes key cause) unspent = λ same. tt
  unspent_leaves _ (calm_ends key n cause) unspent = absurd cc
  unspent_leaves _ (calm_frees key n count standing free) unspent = absurd cc
  unspent_leaves _ (calm_notes n id) unspent = tt
  unspent_leaves _ (calm_drops n) unspent = tt

  -- changes that are calm by settlements or not end and free no copy
  pub calm_leaves : (cs : List Change) → Each (IsCalm true) cs → Each (IsCalm false) cs → Each SparesCopy cs
  calm_leaves cs h k = each_implied (λ c. IsCalm true c × IsCalm false c) SparesCopy (λ c both. unspent_leaves c both.0 (calm_unspent c both.1)) cs (each_both (IsCalm true) (IsCalm false) cs h k)

  module _ (es : List Listed) (e : Entity) (c : StoredCopy) where
    dead_leaves : (m : Message) → (is_same_part Main part ≡ true → (c.number == number) ≡ false) → Each SparesCopy (dead_lettered es e c true m)
    dead_leaves m apart = (apart, calm_leaves _ (visits_calm true (Some c.enqueued_seq) (burial es c.hops e.about m)) (visits_calm false (Some c.enqueued_seq) (burial es c.hops e.about m)))

    expired_leaves : (is_same_part Main part ≡ true → (c.number == number) ≡ false) → Each SparesCopy (expired es e c true)
    expired_leaves apart = go e.about.description.dead_on_expiry where
      go : (b : Bool) → Each SparesCopy (if b then dead_for es e c true Expired else in_part Main e (Ends c.number true ByTime) ∷ [])
      go true = dead_leaves (for_reason Expired c.message) apart
      go false = (apart, tt)

    module _ (own : Part) (apart : is_same_part own part ≡ true → (c.number == number) ≡ false) where
      in_main : is_main own ≡ true → is_same_part Main part ≡ true → (c.number == number) ≡ false
      in_main is = subst (λ (p : Part). is_same_part p part ≡ true → (c.number == number) ≡ false) (main_part own is) apart

      released_leaves : Each SparesCopy (released es t e own c true true)
      released_leaves = go (is_main own && true && nat_le e.about.description.max_delivery (raised true c.count)) refl (is_main own && not (was_deferred c.standing) && is_expired t c) refl where
        go : (a : Bool) → (is_main own && true && nat_le e.about.description.max_delivery (raised true c.count)) ≡ a → (b : Bool) → (is_main own && not (was_deferred c.standing) && is_expired t c) ≡ b
            → Each SparesCopy (if a then dead_for es e c true TooOften else (if b then expired es e c true else in_part own e (Stands c.number true (raised true c.count) (back_to c.standing)) ∷ []))
        go true x b y = dead_leaves (for_reason TooOften c.message) (in_main (three (is_main own) true (nat_le e.about.description.max_delivery (raised true c.count)) x).0)
        go false x true y = expired_leaves (in_main (three (is_main own) (not (was_deferred c.standing)) (is_expired t c) y).0)
        go false x false y = (apart, tt)

      -- what settles another copy leaves this one
      pub settled_leaves : (how : How) → goes_with how own ≡ true → Each SparesCopy (settled es t e own c how)
      settled_leaves Complete goes = (apart, tt)
      settled_leaves Abandon goes = released_leaves
      settled_leaves Defer goes = (apart, tt)
      settled_leaves (DeadLetter reason description) goes = dead_leaves (with_reason reason description c.message) (in_main goes)
