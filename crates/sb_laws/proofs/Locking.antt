-- How often a lock holds: at most once, and none before it was given.
use Rattle.std.proofs.Common.{Bool, List, None, Option, Some, [], ap, arith, drop, false, not, refl, rules, suc, take, true, zero, ℕ, ◌++◌, ◌+◌, ◌<◌, ◌==◌, ◌∷◌, ◌≡◌, ◌≤◌}
use Rattle.std.proofs.lemmas.Bool.Decides.{nat_tests}
use Rattle.std.proofs.lemmas.List.{take-append-drop}
use Rattle.std.proofs.lemmas.List.Filters.{sum_by-filter_both}
use Rattle.std.proofs.lemmas.List.Sums.{sum_by-append, sum_by-cons}
use Rattle.std.specs.List.{prefix_len}
use Rattle.std.specs.Prelude.{find, if◌then◌else◌, is_some, sum_by}
use Rattle.sb_laws.proofs.Lists.{changed_none, changed_sum, sum_single}
use Rattle.sb_laws.proofs.Measures.{sum_on}
use Rattle.sb_machine.specs.Changes.{after, noted, rule_added, rule_dropped, with_rules}
use Rattle.sb_machine.specs.Each.{has_lock}
use Rattle.sb_machine.specs.Keyed.{changed, with_sorted}
use Rattle.sb_machine.specs.Leaves.{has_id, has_number, holder_new, is_deferred, is_held_under, leaf_after, locks_given, prolonged_holder, prolonged_standing, remembered, session_in, stored, taken}
use Rattle.sb_machine.specs.Names.{is_before}
use Rattle.sb_machine.specs.Namespace.{entity_of, is_entity, leaf_of, new_entity, with_leaf}
use Rattle.sb_machine.specs.declared.call.Part.{Part}
use Rattle.sb_machine.specs.declared.call.Part.TheVariants.{Dead, Main, Transfer}
use Rattle.sb_machine.specs.declared.change.Change.{Change}
use Rattle.sb_machine.specs.declared.change.Change.TheVariants.{AddsRule, Begins, Drops, DropsRule, InLeaf, Makes, Notes, Queues, Removes}
use Rattle.sb_machine.specs.declared.change.LeafChange.{LeafChange}
use Rattle.sb_machine.specs.declared.change.LeafChange.TheVariants.{Closes, Ends, Enters, Holds, Opens, Passes, Prolongs, Renews, Stands, Writes}
use Rattle.sb_machine.specs.declared.state.Entity.{Entity}
use Rattle.sb_machine.specs.declared.state.Holder.{Holder}
use Rattle.sb_machine.specs.declared.state.Leaf.{Leaf}
use Rattle.sb_machine.specs.declared.state.Session.{Session}
use Rattle.sb_machine.specs.declared.state.Space.{Space}
use Rattle.sb_machine.specs.declared.state.Standing.{Standing}
use Rattle.sb_machine.specs.declared.state.Standing.TheVariants.{Deferred, Held, Ready, Scheduled}
use Rattle.sb_machine.specs.declared.state.StoredCopy.{StoredCopy}

abbrev pub one : Bool → ℕ
one b = if b then 1 else 0

abbrev pub copy_once : ℕ → StoredCopy → ℕ
copy_once k c = one (has_lock k c.standing)

abbrev pub session_once : ℕ → Session → ℕ
session_once k x = one (is_held_under k x)

abbrev pub held_in_leaf : ℕ → Leaf → ℕ
held_in_leaf k leaf = sum_by (copy_once k) leaf.copies + sum_by (session_once k) leaf.sessions

abbrev pub held_in : ℕ → Entity → ℕ
held_in k e = held_in_leaf k e.main + held_in_leaf k e.dead + held_in_leaf k e.transfer

-- how many copies and sessions a lock holds
abbrev pub times_held : ℕ → Space → ℕ
times_held k s = sum_by (held_in k) s.entities

-- a lock holds one at most, and none before it was given
pub record IsLocked (s : Space) : Type 0 where
  pub most : (k : ℕ) → times_held k s ≤ 1
  pub fresh : (k : ℕ) → s.last_lock < k → times_held k s ≡ 0
  pub none : times_held 0 s ≡ 0

-- ---- sums that a change doesn't raise, or raises by what it adds

pub changed_most : {X : Type 0} (f : X → ℕ) (p : X → Bool) (g : X → List X) (more : ℕ) (xs : List X) → ((x : X) → sum_by f (g x) ≤ f x + more) → sum_by f (changed p g xs) ≤ sum_by f xs + more
changed_most {X = X} f p g more xs le = at (find p xs) refl where
  at : (o : Option X) → find p xs ≡ o → sum_by f (changed p g xs) ≤ sum_by f xs + more
  at None is = let same = ap (λ l. sum_by f l) (changed_none p g xs is) in omega arith
  at (Some e) is = omega (arith, changed_sum f p g e xs is, le e)

-- how often a change gives this number, where the next one is that
abbrev pub newly : ℕ → ℕ → LeafChange → ℕ
newly k lock c = if locks_given c == 1 then one (lock == k) else 0

prolonged_once : (k until : ℕ) (standing : Standing) → has_lock k (prolonged_standing until standing) ≡ has_lock k standing
prolonged_once k until Ready = refl
prolonged_once k until Deferred = refl
prolonged_once k until (Held lock hold deferred) = refl
prolonged_once k until (Scheduled moment) = refl

pub holder_once : (k until : ℕ) (o : Option Holder) → ◌≡◌ {A = Bool} (elim (prolonged_holder until o) [ Some h ↦ h.lock == k | None ↦ false ]) (elim o [ Some h ↦ h.lock == k | None ↦ false ])
holder_once k until None = refl
holder_once k until (Some h) = refl

pub taken_once : (k lock until : ℕ) (x : Session) → session_once k (taken lock until x) ≤ session_once k x + one (lock == k)
taken_once k lock until x = at x.holder where
  at : (o : Option Holder) → one (elim (elim o as (λ _. Option Holder) [ Some h ↦ Some h | None ↦ Some (holder_new lock until) ]) as (λ _. Bool) [ Some h ↦ h.lock == k | None ↦ false ]) ≤ one (elim o as (λ _. Bool) [ Some h ↦ h.lock == k | None ↦ false ]) + one (lock == k)
  at None = omega arith
  at (Some h) = omega arith

pub remembered_once : (k : ℕ) (x : Session) → sum_by (session_once k) (remembered x) ≤ session_once k x
remembered_once k x = go (is_some x.holder) (is_some x.state) where
  go : (a b : Bool) → sum_by (session_once k) (if a then x ∷ [] else (if b then x ∷ [] else [])) ≤ session_once k x
  go true b = omega (arith, sum_single (session_once k) x)
  go false true = omega (arith, sum_single (session_once k) x)
  go false false = omega arith

pub closed_once : (k : ℕ) (x : Session) → session_once k (record x { holder = None }) ≤ session_once k x
closed_once k x = omega arith

pub sorted_sum : {X : Type 0} (f : X → ℕ) (before : X → Bool) (x : X) (xs : List X) → sum_by f (with_sorted before x xs) ≡ sum_by f xs + f x
sorted_sum f before x xs =
    let k = prefix_len before xs in
    let whole : sum_by f (take k xs ++ drop k xs) ≡ sum_by f xs = ap (λ l. sum_by f l) (take-append-drop k xs) in
    omega (arith, sum_by-append f (take k xs) (x ∷ drop k xs), sum_by-append f (take k xs) (drop k xs), sum_by-cons f x (drop k xs), whole)

copies_most : (k n : ℕ) (g : StoredCopy → StoredCopy) (more : ℕ) (leaf : Leaf) → ((c : StoredCopy) → copy_once k (g c) ≤ copy_once k c + more) → sum_by (copy_once k) (changed (has_number n) (λ c. g c ∷ []) leaf.copies) ≤ sum_by (copy_once k) leaf.copies + more
copies_most k n g more leaf le = changed_most (copy_once k) (has_number n) (λ c. g c ∷ []) more leaf.copies (λ c. omega (arith, sum_single (copy_once k) (g c), le c))

-- a standing that is under this lock at most as often
abbrev pub FreesLock : ℕ → LeafChange → Type 0
FreesLock k (Stands n by_settlement count standing) = has_lock k standing ≡ false
FreesLock k (Enters fresh) = has_lock k fresh.standing ≡ false
FreesLock k _ = Unit {0}

pub leaf_locks : (k lock t : ℕ) (c : LeafChange) (leaf : Leaf) → FreesLock k c → held_in_leaf k (leaf_after lock t c leaf) ≤ held_in_leaf k leaf + newly k lock c
leaf_locks k lock t (Enters fresh) leaf frees =
    let none : copy_once k (stored (leaf.last + 1) t fresh) ≡ 0 = ap one frees in
    omega (arith, sum_by-append (copy_once k) leaf.copies (stored (leaf.last + 1) t fresh ∷ []), sum_single (copy_once k) (stored (leaf.last + 1) t fresh), none)
leaf_locks k lock t (Passes cause) leaf frees = omega arith
leaf_locks k lock t (Ends n by_settlement cause) leaf frees = omega (arith, changed_most (copy_once k) (has_number n) (λ c. []) 0 leaf.copies (λ c. omega arith))
leaf_locks k lock t (Holds n hold) leaf frees = omega (arith, copies_most k n (λ c. record c { standing = Held lock hold (is_deferred c.standing) }) (one (lock == k)) leaf (λ c. omega arith))
leaf_locks k lock t (Stands n by_settlement count standing) leaf frees = omega (arith, copies_most k n (λ c. record c { count = count; standing = standing }) 0 leaf (λ c. omega (arith, ap one frees)))
leaf_locks k lock t (Renews n until) leaf frees = omega (arith, copies_most k n (λ c. record c { standing = prolonged_standing until c.standing }) 0 leaf (λ c. omega (arith, ap one (prolonged_once k until c.standing))))
leaf_locks k lock t (Opens id until) leaf frees = at (session_in id leaf) where
  new : Session
  new = record { id = id; state = None; holder = Some (holder_new lock until) }

  at : (o : Option Session) → sum_by (copy_once k) leaf.copies + sum_by (session_once k) (elim o as (λ _. List Session) [ Some x ↦ changed (has_id id) (λ y. taken lock until y ∷ []) leaf.sessions | None ↦ with_sorted (λ y. is_before y.id id) (record { id = id; state = None; holder = Some (holder_new lock until) }) leaf.sessions ])
      ≤ held_in_leaf k leaf + one (lock == k)
  at None = omega (arith, sorted_sum (session_once k) (λ y. is_before y.id id) (record { id = id; state = None; holder = Some (holder_new lock until) }) leaf.sessions)
  at (Some x) = omega (arith, changed_most (session_once k) (has_id id) (λ y. taken lock until y ∷ []) (one (lock == k)) leaf.sessions (λ y. omega (arith, sum_single (session_once k) (taken lock until y), taken_once k lock until y)))
leaf_locks k lock t (Closes l) leaf frees = omega (arith, changed_most (session_once k) (is_held_under l) (λ x. remembered (record x { holder = None })) 0 leaf.sessions (λ x. omega (arith, remembered_once k (record x { holder = None }), closed_once k x)))
leaf_locks k lock t (Prolongs l until) leaf frees =
    omega (arith, changed_most (session_once k) (is_held_under l) (λ x. record x { holder = prolonged_holder until x.holder } ∷ []) 0 leaf.sessions (λ x. omega (arith, sum_single (session_once k) (record x { holder = prolonged_holder until x.holder }), ap one (holder_once k until x.holder))))
leaf_locks k lock t (Writes l state) leaf frees = omega (arith, changed_most (session_once k) (is_held_under l) (λ x. remembered (record x { state = state })) 0 leaf.sessions (λ x. omega (arith, remembered_once k (record x { state = state }))))

pub held_with : (k : ℕ) (part : Part) (leaf : Leaf) (e : Entity) → held_in k (with_leaf part leaf e) + held_in_leaf k (leaf_of part e) ≡ held_in k e + held_in_leaf k leaf
held_with k Main leaf e = omega arith
held_with k Dead leaf e = omega arith
held_with k Transfer leaf e = omega arith

abbrev pub FreesLocks : ℕ → Change → Type 0
FreesLocks k (InLeaf key c) = FreesLock k c
FreesLocks k _ = Unit {0}

abbrev pub newly_in : ℕ → Change → Space → ℕ
newly_in k (InLeaf key c) s = newly k (s.last_lock + 1) c
newly_in k _ s = 0

pub locks_after : (k t : ℕ) (c : Change) (s : Space) → FreesLocks k c → times_held k (after t c s) ≤ times_held k s + newly_in k c s
locks_after k t (InLeaf key c) s frees = at (entity_of key.entity s) refl where
  g : Entity → Entity
  g e = with_leaf key.part (leaf_after (s.last_lock + 1) t c (leaf_of key.part e)) e

  at : (o : Option Entity) → entity_of key.entity s ≡ o → times_held k (after t (InLeaf key c) s) ≤ times_held k s + newly k (s.last_lock + 1) c
  at None is = let same = ap (λ (l : List Entity). sum_by (held_in k) l) (changed_none (is_entity key.entity) (λ e. with_leaf key.part (leaf_after (s.last_lock + 1) t c (leaf_of key.part e)) e ∷ []) s.entities is) in omega (arith, same)
  at (Some e) is =
      let new = leaf_after (s.last_lock + 1) t c (leaf_of key.part e) in
      omega (arith, changed_sum (held_in k) (is_entity key.entity) (λ d. with_leaf key.part (leaf_after (s.last_lock + 1) t c (leaf_of key.part d)) d ∷ []) e s.entities is, sum_single (held_in k) (with_leaf key.part new e), held_with k key.part new e, leaf_locks k (s.last_lock + 1) t c (leaf_of key.part e) frees)
locks_after k t (Notes n id) s frees = omega (arith, sum_on (held_in k) n (λ e. record e { ids = noted e.about.description.window id t e.ids }) s.entities (λ e. refl))
locks_after k t (Makes kind path description rules) s frees =
    let new = new_entity (record { number = s.last_entity + 1; kind = kind; path = path; description = description; rules = rules }) in
    omega (arith, sum_by-append (held_in k) s.entities (new ∷ []), sum_single (held_in k) new)
locks_after k t (Removes n) s frees = omega (arith, sum_by-filter_both (is_entity n) (λ e. not (is_entity n e)) (λ e. refl) (held_in k) s.entities)
locks_after k t (AddsRule n rule) s frees = omega (arith, sum_on (held_in k) n (with_rules (rule_added rule)) s.entities (λ e. refl))
locks_after k t (DropsRule n name) s frees = omega (arith, sum_on (held_in k) n (with_rules (rule_dropped name)) s.entities (λ e. refl))
locks_after k t (Begins n deadline) s frees = omega arith
locks_after k t (Queues n deadline operation) s frees = omega arith
locks_after k t (Drops n) s frees = omega arith

-- given numbers are the next ones
given_next : (k t : ℕ) (c : Change) (s : Space) → (newly_in k c s ≤ 1) × (0 < newly_in k c s → s.last_lock < k) × ((after t c s).last_lock < k → newly_in k c s ≡ 0) × (s.last_lock ≤ (after t c s).last_lock)
given_next k t (InLeaf key c) s = on (locks_given c) where
  on : (g : ℕ) → ((if g == 1 then one (s.last_lock + 1 == k) else 0) ≤ 1) × (0 < (if g == 1 then one (s.last_lock + 1 == k) else 0) → s.last_lock < k) × (s.last_lock + g < k → (if g == 1 then one (s.last_lock + 1 == k) else 0) ≡ 0) × (s.last_lock ≤ s.last_lock + g)
  on g = (grind (arith, nat_tests), λ e. grind (arith, nat_tests), λ e. grind (arith, nat_tests), omega arith)
given_next k t (Notes n id) s = (omega arith, λ e. absurd (omega arith), λ e. refl, omega arith)
given_next k t (Makes kind path description rules) s = (omega arith, λ e. absurd (omega arith), λ e. refl, omega arith)
given_next k t (Removes n) s = (omega arith, λ e. absurd (omega arith), λ e. refl, omega arith)
given_next k t (AddsRule n rule) s = (omega arith, λ e. absurd (omega arith), λ e. refl, omega arith)
given_next k t (DropsRule n name) s = (omega arith, λ e. absurd (omega arith), λ e. refl, omega arith)
given_next k t (Begins n deadline) s = (omega arith, λ e. absurd (omega arith), λ e. refl, omega arith)
given_next k t (Queues n deadline operation) s = (omega arith, λ e. absurd (omega arith), λ e. refl, omega arith)
given_next k t (Drops n) s = (omega arith, λ e. absurd (omega arith), λ e. refl, omega arith)

no_zero : (t : ℕ) (c : Change) (s : Space) → newly_in 0 c s ≡ 0
no_zero t (InLeaf key c) s = on (locks_given c) where
  on : (g : ℕ) → (if g == 1 then one (s.last_lock + 1 == 0) else 0) ≡ 0
  on g = grind (arith, nat_tests)
no_zero t (Notes n id) s = refl
no_zero t (Makes kind path description rules) s = refl
no_zero t (Removes n) s = refl
no_zero t (AddsRule n rule) s = refl
no_zero t (DropsRule n name) s = refl
no_zero t (Begins n deadline) s = refl
no_zero t (Queues n deadline operation) s = refl
no_zero t (Drops n) s = refl

most_later : (held later more last k : ℕ) → later ≤ held + more → more ≤ 1 → (0 < more → last < k) → held ≤ 1 → (last < k → held ≡ 0) → later ≤ 1
most_later held later zero last k le few new most fresh = omega arith
most_later held later (suc more) last k le few new most fresh = let none = fresh (new (omega arith)) in omega arith

pub stays_locked : (t : ℕ) (c : Change) (s : Space) → ((k : ℕ) → FreesLocks k c) → IsLocked s → IsLocked (after t c s)
stays_locked t c s frees h = record {
  most = λ k. let g = given_next k t c s in most_later (times_held k s) (times_held k (after t c s)) (newly_in k c s) s.last_lock k (locks_after k t c s (frees k)) g.0 g.1 (h.most k) (h.fresh k);
  fresh = λ k over. let g = given_next k t c s in let none = h.fresh k (omega (arith, g.3)) in let zero_new = g.2 over in omega (arith, locks_after k t c s (frees k), none, zero_new);
  none = omega (arith, h.none, locks_after 0 t c s (frees 0), no_zero t c s);
}
