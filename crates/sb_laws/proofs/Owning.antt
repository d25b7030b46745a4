-- Open transactions are on entities that are there.
use Rattle.std.proofs.Common.{Bool, List, None, Option, Some, [], ap, false, filter, not, refl, subst, sym, true, ℕ, ◌++◌, ◌+◌, ◌==◌, ◌∙◌, ◌∷◌, ◌≡◌}
use Rattle.std.specs.Prelude.{find, is_some}
use Rattle.sb_laws.proofs.Carried.{IsOfAct, act_closes, act_drops, act_ends, act_enters, act_frees, act_notes, act_passes, act_waits}
use Rattle.sb_laws.proofs.Eachs.{differs, each_append, each_both, each_changed, each_filter, each_implied, each_passed, is_equal}
use Rattle.sb_laws.proofs.Entities.{about_with_leaf}
use Rattle.sb_laws.proofs.Lists.{found_first}
use Rattle.sb_laws.proofs.Points.{StepKeeps}
use Rattle.sb_laws.proofs.Shapes.{Arrives}
use Rattle.sb_machine.specs.Changes.{after, is_transaction, noted, on_entity, rule_added, rule_dropped, with_operation, with_rules}
use Rattle.sb_machine.specs.Each.{Each}
use Rattle.sb_machine.specs.Keyed.{changed}
use Rattle.sb_machine.specs.Leaves.{leaf_after}
use Rattle.sb_machine.specs.Namespace.{entity_of, is_entity, leaf_of, new_entity, with_leaf}
use Rattle.sb_machine.specs.Queueing.{deadline_with, txn_life}
use Rattle.sb_machine.specs.declared.change.Change.{Change}
use Rattle.sb_machine.specs.declared.change.Change.TheVariants.{AddsRule, DropsRule, InLeaf, Makes, Notes, Removes}
use Rattle.sb_machine.specs.declared.change.LeafChange.{LeafChange}
use Rattle.sb_machine.specs.declared.change.LeafChange.TheVariants.{Closes, Ends, Enters, Holds, Opens, Passes, Prolongs, Renews, Stands, Writes}
use Rattle.sb_machine.specs.declared.change.LeafKey.{LeafKey}
use Rattle.sb_machine.specs.declared.state.Entity.{Entity}
use Rattle.sb_machine.specs.declared.state.Listed.{Listed}
use Rattle.sb_machine.specs.declared.state.Space.{Space}
use Rattle.sb_machine.specs.declared.state.Standing.TheVariants.{Ready, Scheduled}
use Rattle.sb_machine.specs.declared.state.Transaction.{Transaction}

abbrev pub IsOwned : Space → Transaction → Type 0
IsOwned s x = is_some (entity_of x.entity s) ≡ true

abbrev pub AreOwned : Space → Type 0
AreOwned s = Each (IsOwned s) s.transactions

-- an entity that is there is there where another of its number stands in its place
found_on : (k n : ℕ) (g : Entity → Entity) (es : List Entity) → ((e : Entity) → (g e).about.number ≡ e.about.number) → is_some (find (is_entity k) (changed (is_entity n) (λ e. g e ∷ []) es)) ≡ is_some (find (is_entity k) es)
found_on k n g [] same = refl
found_on k n g (x ∷ xs) same = at (is_entity n x) refl (is_entity k x) refl (found_on k n g xs same) where
  moved_number : is_entity k (g x) ≡ is_entity k x
  moved_number = ap (λ (m : ℕ). m == k) (same x)

  at : (b : Bool) → is_entity n x ≡ b → (c : Bool) → is_entity k x ≡ c → is_some (find (is_entity k) (changed (is_entity n) (λ e. g e ∷ []) xs)) ≡ is_some (find (is_entity k) xs) → is_some (find (is_entity k) (changed (is_entity n) (λ e. g e ∷ []) (x ∷ xs))) ≡ is_some (find (is_entity k) (x ∷ xs))
  at true is true here ih = rw (is, moved_number, here) refl
  at true is false here ih = rw (is, moved_number, here) refl
  at false is true here ih = rw (is, here) refl
  at false is false here ih = rw (is, here) ih

owned_on : (n : ℕ) (g : Entity → Entity) (s later : Space) → later.entities ≡ on_entity n g s → later.transactions ≡ s.transactions → ((e : Entity) → (g e).about.number ≡ e.about.number) → AreOwned s → AreOwned later
owned_on n g s later is same_txns same h = subst (λ (xs : List Transaction). Each (IsOwned later) xs) (sym same_txns)
    (each_implied (IsOwned s) (IsOwned later) (λ x owned. ap (λ (es : List Entity). is_some (find (is_entity x.entity) es)) is ∙ found_on x.entity n g s.entities same ∙ owned) s.transactions h)

leaf_owned : (t : ℕ) (key : LeafKey) (c : LeafChange) (s : Space) → AreOwned s → AreOwned (after t (InLeaf key c) s)
leaf_owned t key c s h = owned_on key.entity (λ e. with_leaf key.part (leaf_after (s.last_lock + 1) t c (leaf_of key.part e)) e) s (after t (InLeaf key c) s) refl refl
    (λ e. ap (λ (about : Listed). about.number) (about_with_leaf key.part (leaf_after (s.last_lock + 1) t c (leaf_of key.part e)) e)) h

act_owned : (t : ℕ) (c : Change) (now : Space) → IsOfAct Arrives t c → AreOwned now → AreOwned (after t c now)
act_owned t _ now (act_enters key seq hops m few p) h = leaf_owned t key (Enters (record { seq = seq; hops = hops; standing = Ready; message = m })) now h
act_owned t _ now (act_waits key moment m later p) h = leaf_owned t key (Enters (record { seq = None; hops = 0; standing = Scheduled moment; message = m })) now h
act_owned t _ now (act_passes key cause) h = leaf_owned t key (Passes cause) now h
act_owned t _ now (act_ends key n by_settlement cause) h = leaf_owned t key (Ends n by_settlement cause) now h
act_owned t _ now (act_frees key n by_settlement count standing free few) h = leaf_owned t key (Stands n by_settlement count standing) now h
act_owned t _ now (act_closes key l) h = leaf_owned t key (Closes l) now h
act_owned t _ now (act_notes n id) h = owned_on n (λ e. record e { ids = noted e.about.description.window id t e.ids }) now (after t (Notes n id) now) refl refl (λ e. refl) h
act_owned t _ now (act_drops n) h = each_changed (IsOwned now) (is_transaction n) (λ x. []) now.transactions (λ x there owned. tt) h

still_there : (k : ℕ) (es fs : List Entity) → is_some (find (is_entity k) es) ≡ true → is_some (find (is_entity k) (es ++ fs)) ≡ true
still_there k es fs is = at (find (is_entity k) es) refl is where
  at : (o : Option Entity) → find (is_entity k) es ≡ o → is_some o ≡ true → is_some (find (is_entity k) (es ++ fs)) ≡ true
  at None none is = absurd cc
  at (Some d) there is = rw (found_first (is_entity k) d es fs there) refl

-- another's removal leaves it there
pub other_removed : (k n : ℕ) (es : List Entity) → (k == n) ≡ false → find (is_entity k) (filter (λ e. not (is_entity n e)) es) ≡ find (is_entity k) es
other_removed k n [] other = refl
other_removed k n (x ∷ xs) other = at (is_entity n x) refl (is_entity k x) refl (other_removed k n xs other) where
  at : (b : Bool) → is_entity n x ≡ b → (c : Bool) → is_entity k x ≡ c → find (is_entity k) (filter (λ e. not (is_entity n e)) xs) ≡ find (is_entity k) xs → find (is_entity k) (filter (λ e. not (is_entity n e)) (x ∷ xs)) ≡ find (is_entity k) (x ∷ xs)
  at true is true here ih = absurd (differs k n other (sym (is_equal x.about.number k here) ∙ is_equal x.about.number n is))
  at true is false here ih = rw (is, here) ih
  at false is true here ih = rw (is, here) refl
  at false is false here ih = rw (is, here) ih

off_from : (b : Bool) → not b ≡ true → b ≡ false
off_from true e = absurd cc
off_from false e = refl

pub owned_steps : (t : ℕ) (s : Space) → StepKeeps AreOwned t s
owned_steps t s = record {
  acts = act_owned t;
  makes = λ kind path d rules plain ruled new h. each_implied (IsOwned s) (IsOwned (after t (Makes kind path d rules) s)) (λ x owned. still_there x.entity s.entities (new_entity (record { number = s.last_entity + 1; kind = kind; path = path; description = d; rules = rules }) ∷ []) owned) s.transactions h;
  adds = λ n rule e on fresh named has h. owned_on n (with_rules (rule_added rule)) s (after t (AddsRule n rule) s) refl refl (λ e. refl) h;
  rule_drop = λ n name h. owned_on n (with_rules (rule_dropped name)) s (after t (DropsRule n name) s) refl refl (λ e. refl) h;
  removes = λ n now h. each_implied (λ x. (not (x.entity == n) ≡ true) × IsOwned now x) (IsOwned (after t (Removes n) now)) (λ x is. ap is_some (other_removed x.entity n now.entities (off_from (x.entity == n) is.0)) ∙ is.1) (filter (λ x. not (x.entity == n)) now.transactions)
      (each_both (λ x. not (x.entity == n) ≡ true) (IsOwned now) (filter (λ x. not (x.entity == n)) now.transactions) (each_passed (λ x. not (x.entity == n)) now.transactions) (each_filter (IsOwned now) (λ x. not (x.entity == n)) now.transactions h));
  holds = λ key n hold h. leaf_owned t key (Holds n hold) s h;
  renews = λ key n until h. leaf_owned t key (Renews n until) s h;
  opens = λ key id until few h. leaf_owned t key (Opens id until) s h;
  prolongs = λ key l until few h. leaf_owned t key (Prolongs l until) s h;
  writes = λ key l bytes few h. leaf_owned t key (Writes l bytes) s h;
  begins = λ n e there few h. each_append (IsOwned s) s.transactions (record { number = s.last_txn + 1; entity = n; deadline = t + txn_life; operations = [] } ∷ []) h (ap is_some there, tt);
  queues = λ x o there few fits h. each_changed (IsOwned s) (is_transaction x.number) (λ y. with_operation (deadline_with t x) o y ∷ []) s.transactions (λ y found owned. (owned, tt)) h;
}
