-- The copies of an entity stand as they were read while a commit acts, but for those that it settled.
use Rattle.std.proofs.Common.{Bool, List, None, Option, Some, [], ap, cond, false, find, map, refl, subst, sym, true, ℕ, ◌&&◌, ◌+◌, ◌++◌, ◌∙◌, ◌∷◌, ◌≡◌}
use Rattle.std.specs.Prelude.{◌==◌, ◌||◌, nat_lt, if◌then◌else◌}
use Rattle.std.specs.List.{list_all, list_any}
use Rattle.std.specs.Option.{option_map}
use Rattle.sb_fanout.proofs.Places.{about_kept, find_apart, find_here, leaf_apart, leaf_here, same_number, same_parts}
use Rattle.sb_fanout.proofs.There.{both}
use Rattle.sb_machine.specs.Changes.{after, after_all, in_turn, noted}
use Rattle.sb_machine.specs.Delivery.{delivered, landing, visit_change, visit_key}
use Rattle.sb_machine.specs.Keyed.{changed}
use Rattle.sb_machine.specs.Leases.{is_living, is_living_holder}
use Rattle.sb_machine.specs.Leaves.{has_number, is_held_under, leaf_after, remembered, seq_or}
use Rattle.sb_machine.specs.Messages.{text_of}
use Rattle.sb_machine.specs.Names.{is_same_part}
use Rattle.sb_machine.specs.Namespace.{is_entity, last_at, leaf_of, listed, with_leaf}
use Rattle.sb_machine.specs.Sending.{coming, entering, is_repeat, message_changes, noting, send_changes, unscheduled, waiting}
use Rattle.sb_machine.specs.Transactions.{handed_on}
use Rattle.sb_machine.specs.Visits.{Lot, Visit, ends, passage, stays, visits}
use Rattle.sb_machine.specs.declared.call.Part.{Part}
use Rattle.sb_machine.specs.declared.call.Part.TheVariants.{Dead, Main, Transfer}
use Rattle.sb_machine.specs.declared.change.Change.{Change}
use Rattle.sb_machine.specs.declared.change.Change.TheVariants.{AddsRule, Begins, Drops, DropsRule, InLeaf, Makes, Notes, Queues, Removes}
use Rattle.sb_machine.specs.declared.change.LeafChange.{LeafChange}
use Rattle.sb_machine.specs.declared.change.LeafChange.TheVariants.{Closes, Ends, Enters, Holds, Opens, Passes, Prolongs, Renews, Stands, Writes}
use Rattle.sb_machine.specs.declared.state.Entity.{Entity}
use Rattle.sb_machine.specs.declared.state.Hold.TheVariants.{Session as UnderSession, Until}
use Rattle.sb_machine.specs.declared.state.Holder.{Holder}
use Rattle.sb_machine.specs.declared.state.Leaf.{Leaf}
use Rattle.sb_machine.specs.declared.state.Session.{Session}
use Rattle.sb_machine.specs.declared.state.Space.{Space}
use Rattle.sb_machine.specs.declared.state.Standing.{Standing}
use Rattle.sb_machine.specs.declared.state.Standing.TheVariants.{Deferred, Held, Ready, Scheduled}
use Rattle.sb_machine.specs.declared.state.StoredCopy.{StoredCopy}
use Rattle.sb_model.specs.declared.message.Message.{Message}
use Rattle.sb_model.specs.declared.message.SystemName.TheVariants.{MessageId}
use Rattle.sb_engine.specs.Commits.{AsFound, is_settled, lookup}
use Rattle.sb_engine.specs.declared.deliver.committing.SettledCopy.{SettledCopy}

-- ---- changes that touch no copy under a lock, but those that are settled

abbrev is_loose : Standing → Bool
is_loose Ready = true
is_loose Deferred = true
is_loose (Held lock hold deferred) = false
is_loose (Scheduled at) = true

abbrev pub is_calm_in : List SettledCopy → Part → LeafChange → Bool
is_calm_in settled part (Enters fresh) = is_loose fresh.standing
is_calm_in settled part (Passes cause) = true
is_calm_in settled part (Ends n by cause) = is_settled settled part n
is_calm_in settled part (Stands n by count standing) = is_settled settled part n
is_calm_in settled part (Writes lock state) = true
is_calm_in settled part _ = false

abbrev pub is_calm : List SettledCopy → Change → Bool
is_calm settled (InLeaf key c) = is_calm_in settled key.part c
is_calm settled (Notes n id) = true
is_calm settled (Begins n deadline) = true
is_calm settled (Drops n) = true
is_calm settled _ = false

-- ---- one part

loose_dead : (t : ℕ) (sessions : List Session) (lock : ℕ) (st : Standing) → is_loose st ≡ true → is_living t sessions lock st ≡ false
loose_dead t sessions lock Ready loose = refl
loose_dead t sessions lock Deferred loose = refl
loose_dead t sessions lock (Held l hold deferred) loose = absurd cc
loose_dead t sessions lock (Scheduled at) loose = refl

never : (b : Bool) → (b && false) ≡ false
never true = refl
never false = refl

module _ {X : Type 0} where
  found_ahead : (p : X → Bool) (x : X) → p x ≡ false → (xs : List X) → find p (xs ++ x ∷ []) ≡ find p xs
  found_ahead p x fails [] = ap (λ (b : Bool). cond b (Some x) None) fails
  found_ahead p x fails (y ∷ ys) = go (p y) (found_ahead p x fails ys) where
    go : (b : Bool) → find p (ys ++ x ∷ []) ≡ find p ys → cond b (Some y) (find p (ys ++ x ∷ [])) ≡ cond b (Some y) (find p ys)
    go true ih = refl
    go false ih = ih

  found_without : (p q : X → Bool) → ((x : X) → q x ≡ true → p x ≡ false) → (xs : List X) → find p (changed q (λ x. []) xs) ≡ find p xs
  found_without p q apart [] = refl
  found_without p q apart (y ∷ ys) = go (q y) refl (found_without p q apart ys) where
    go : (b : Bool) → q y ≡ b → find p (changed q (λ x. []) ys) ≡ find p ys → find p (cond b ys (y ∷ changed q (λ x. []) ys)) ≡ find p (y ∷ ys)
    go true is ih = sym (ap (λ (b : Bool). cond b (Some y) (find p ys)) (apart y is))
    go false is ih = ap (λ (o : Option X). cond (p y) (Some y) o) ih

  found_beside : (p q : X → Bool) (g : X → X) → ((x : X) → q x ≡ true → (p x ≡ false) × (p (g x) ≡ false)) → (xs : List X) → find p (changed q (λ x. g x ∷ []) xs) ≡ find p xs
  found_beside p q g apart [] = refl
  found_beside p q g apart (y ∷ ys) = go (q y) refl (found_beside p q g apart ys) where
    go : (b : Bool) → q y ≡ b → find p (changed q (λ x. g x ∷ []) ys) ≡ find p ys → find p (cond b (g y ∷ ys) (y ∷ changed q (λ x. g x ∷ []) ys)) ≡ find p (y ∷ ys)
    go true is ih = ap (λ (b : Bool). cond b (Some (g y)) (find p ys)) ((apart y is).1) ∙ sym (ap (λ (b : Bool). cond b (Some y) (find p ys)) ((apart y is).0))
    go false is ih = ap (λ (o : Option X). cond (p y) (Some y) o) ih

  found_same : (p q : X → Bool) → ((x : X) → p x ≡ q x) → (xs : List X) → find p xs ≡ find q xs
  found_same p q same [] = refl
  found_same p q same (x ∷ xs) = ap (λ (b : Bool). cond b (Some x) (find p xs)) (same x) ∙ ap (λ (o : Option X). cond (q x) (Some x) o) (found_same p q same xs)

-- what a session remembers says nothing of its lock
holds_written : (t k l : ℕ) (state : Option (List ℕ)) (xs : List Session) → list_any (is_living_holder t k) (changed (is_held_under l) (λ x. remembered (record x { state = state })) xs) ≡ list_any (is_living_holder t k) xs
holds_written t k l state [] = refl
holds_written t k l state (x ∷ xs) = by x.holder refl (holds_written t k l state xs) where
  rest : List Session
  rest = changed (is_held_under l) (λ (y : Session). remembered (record y { state = state })) xs

  at : (h : Holder) (b : Bool) → x.holder ≡ Some h → (h.lock == l) ≡ b → list_any (is_living_holder t k) rest ≡ list_any (is_living_holder t k) xs → list_any (is_living_holder t k) (changed (is_held_under l) (λ (y : Session). remembered (record y { state = state })) (x ∷ xs)) ≡ list_any (is_living_holder t k) (x ∷ xs)
  at h true is held ih = rw (is, held) refl
  at h false is held ih = rw (is, held) (ap (λ (b : Bool). ((h.lock == k) && nat_lt t h.until) || b) ih)

  by : (o : Option Holder) → x.holder ≡ o → list_any (is_living_holder t k) rest ≡ list_any (is_living_holder t k) xs → list_any (is_living_holder t k) (changed (is_held_under l) (λ (y : Session). remembered (record y { state = state })) (x ∷ xs)) ≡ list_any (is_living_holder t k) (x ∷ xs)
  by None is ih = rw is ih
  by (Some h) is ih = at h (h.lock == l) is refl ih

living_written : (t lock l : ℕ) (state : Option (List ℕ)) (sessions : List Session) (st : Standing) → is_living t (changed (is_held_under l) (λ x. remembered (record x { state = state })) sessions) lock st ≡ is_living t sessions lock st
living_written t lock l state sessions Ready = refl
living_written t lock l state sessions Deferred = refl
living_written t lock l state sessions (Scheduled at) = refl
living_written t lock l state sessions (Held own (Until u) deferred) = refl
living_written t lock l state sessions (Held own (UnderSession k) deferred) = ap (λ (b : Bool). (own == lock) && b) (holds_written t k l state sessions)

numbers_apart : (settled : List SettledCopy) (part : Part) (m n : ℕ) → is_settled settled part m ≡ true → is_settled settled part n ≡ false → (m == n) ≡ false
numbers_apart settled part m n one other = go (m == n) refl where
  go : (b : Bool) → (m == n) ≡ b → (m == n) ≡ false
  go false is = is
  go true is = let clash : true ≡ false = sym one ∙ ap (is_settled settled part) (same_number m n is) ∙ other in absurd cc

other_number : (m n k : ℕ) → (m == n) ≡ false → (k == m) ≡ true → (k == n) ≡ false
other_number m n k apart same = ap (λ (x : ℕ). x == n) (same_number k m same) ∙ apart

leaf_kept : (t lock n next : ℕ) (settled : List SettledCopy) (part : Part) (c : LeafChange) (leaf : Leaf) → is_calm_in settled part c ≡ true → is_settled settled part n ≡ false → lookup t lock n (leaf_after next t c leaf) ≡ lookup t lock n leaf
leaf_kept t lock n next settled part (Enters fresh) leaf calm free = found_ahead (λ (x : StoredCopy). is_living t leaf.sessions lock x.standing && (x.number == n)) _ (ap (λ (b : Bool). b && ((leaf.last + 1) == n)) (loose_dead t leaf.sessions lock fresh.standing calm)) leaf.copies
leaf_kept t lock n next settled part (Passes cause) leaf calm free = refl
leaf_kept t lock n next settled part (Ends m by cause) leaf calm free =
    found_without (λ (x : StoredCopy). is_living t leaf.sessions lock x.standing && (x.number == n)) (has_number m) (λ x same. ap (λ (b : Bool). is_living t leaf.sessions lock x.standing && b) (other_number m n x.number (numbers_apart settled part m n calm free) same) ∙ never (is_living t leaf.sessions lock x.standing)) leaf.copies
leaf_kept t lock n next settled part (Stands m by count standing) leaf calm free =
    found_beside (λ (x : StoredCopy). is_living t leaf.sessions lock x.standing && (x.number == n)) (has_number m) (λ (x : StoredCopy). record x { count = count; standing = standing }) (λ x same. (
      ap (λ (b : Bool). is_living t leaf.sessions lock x.standing && b) (other_number m n x.number (numbers_apart settled part m n calm free) same) ∙ never (is_living t leaf.sessions lock x.standing),
      ap (λ (b : Bool). is_living t leaf.sessions lock standing && b) (other_number m n x.number (numbers_apart settled part m n calm free) same) ∙ never (is_living t leaf.sessions lock standing),
    )) leaf.copies
leaf_kept t lock n next settled part (Holds m hold) leaf calm free = absurd cc
leaf_kept t lock n next settled part (Renews m until) leaf calm free = absurd cc
leaf_kept t lock n next settled part (Opens id until) leaf calm free = absurd cc
leaf_kept t lock n next settled part (Closes l) leaf calm free = absurd cc
leaf_kept t lock n next settled part (Prolongs l until) leaf calm free = absurd cc
leaf_kept t lock n next settled part (Writes l state) leaf calm free =
    found_same (λ (x : StoredCopy). is_living t (leaf_after next t (Writes l state) leaf).sessions lock x.standing && (x.number == n)) (λ (x : StoredCopy). is_living t leaf.sessions lock x.standing && (x.number == n))
    (λ x. ap (λ (b : Bool). b && (x.number == n)) (living_written t lock l state leaf.sessions x.standing)) leaf.copies

-- ---- one change

part_kept : (t lock n : ℕ) (settled : List SettledCopy) (part other : Part) (leaf : Leaf) (e : Entity) → ((lock n : ℕ) → is_settled settled part n ≡ false → lookup t lock n leaf ≡ lookup t lock n (leaf_of part e)) → is_settled settled other n ≡ false → lookup t lock n (leaf_of other (with_leaf part leaf e)) ≡ lookup t lock n (leaf_of other e)
part_kept t lock n settled part other leaf e kept free = go (is_same_part part other) refl where
  go : (b : Bool) → is_same_part part other ≡ b → lookup t lock n (leaf_of other (with_leaf part leaf e)) ≡ lookup t lock n (leaf_of other e)
  go true same = subst (λ (p : Part). lookup t lock n (leaf_of p (with_leaf part leaf e)) ≡ lookup t lock n (leaf_of p e)) (same_parts part other same) (ap (lookup t lock n) (leaf_here part leaf e) ∙ kept lock n (ap (λ (p : Part). is_settled settled p n) (same_parts part other same) ∙ free))
  go false apart = ap (lookup t lock n) (leaf_apart part other leaf e apart)

noted_part : (part : Part) (e : Entity) (f : Entity → Entity) → (f e).main ≡ e.main → (f e).dead ≡ e.dead → (f e).transfer ≡ e.transfer → leaf_of part (f e) ≡ leaf_of part e
noted_part Main e f main dead transfer = main
noted_part Dead e f main dead transfer = dead
noted_part Transfer e f main dead transfer = transfer

-- the entity of a number, where that of another is changed in these parts of it
found_on : (t : ℕ) (read : Space) (e : Entity) (settled : List SettledCopy) (s later : Space) (k : ℕ) (f : Entity → Entity) → later.salt ≡ s.salt → later.entities ≡ changed (is_entity k) (λ x. f x ∷ []) s.entities → ((x : Entity) → (f x).about ≡ x.about)
    → ((x : Entity) (part : Part) (lock n : ℕ) → is_settled settled part n ≡ false → lookup t lock n (leaf_of part (f x)) ≡ lookup t lock n (leaf_of part x))
    → AsFound t read e settled s → AsFound t read e settled later
found_on t read e settled s later k f salts are keeps kept found = go (k == e.about.number) refl where
  go : (b : Bool) → (k == e.about.number) ≡ b → AsFound t read e settled later
  go true same = record {
    salt = salts ∙ found.salt;
    now = f found.now;
    is = ap (find (is_entity e.about.number)) are ∙ subst (λ (n : ℕ). find (is_entity e.about.number) (changed (is_entity n) (λ x. f x ∷ []) s.entities) ≡ Some (f found.now)) (sym (same_number k e.about.number same)) (find_here e.about.number f keeps s.entities ∙ ap (option_map f) found.is);
    about = keeps found.now ∙ found.about;
    found = λ part lock n free. kept found.now part lock n free ∙ found.found part lock n free;
  }
  go false apart = record {
    salt = salts ∙ found.salt;
    now = found.now;
    is = ap (find (is_entity e.about.number)) are ∙ find_apart k e.about.number f keeps apart s.entities ∙ found.is;
    about = found.about;
    found = found.found;
  }

found_after : (t : ℕ) (read : Space) (e : Entity) (settled : List SettledCopy) (c : Change) (s : Space) → is_calm settled c ≡ true → AsFound t read e settled s → AsFound t read e settled (after t c s)
found_after t read e settled (InLeaf key c) s calm found =
    found_on t read e settled s (after t (InLeaf key c) s) key.entity (λ x. with_leaf key.part (leaf_after (s.last_lock + 1) t c (leaf_of key.part x)) x) refl refl (λ x. about_kept key.part (leaf_after (s.last_lock + 1) t c (leaf_of key.part x)) x)
    (λ x part lock n free. part_kept t lock n settled key.part part (leaf_after (s.last_lock + 1) t c (leaf_of key.part x)) x (λ l m unsettled. leaf_kept t l m (s.last_lock + 1) settled key.part c (leaf_of key.part x) calm unsettled) free) found
found_after t read e settled (Notes k id) s calm found =
    found_on t read e settled s (after t (Notes k id) s) k (λ x. record x { ids = noted x.about.description.window id t x.ids }) refl refl (λ x. refl)
    (λ x part lock n free. ap (lookup t lock n) (noted_part part x (λ y. record y { ids = noted y.about.description.window id t y.ids }) refl refl refl)) found
found_after t read e settled (Makes kind path description rules) s calm found = absurd cc
found_after t read e settled (Removes n) s calm found = absurd cc
found_after t read e settled (AddsRule n rule) s calm found = absurd cc
found_after t read e settled (DropsRule n name) s calm found = absurd cc
found_after t read e settled (Begins n deadline) s calm found = record { salt = found.salt; now = found.now; is = found.is; about = found.about; found = found.found }
found_after t read e settled (Queues n deadline operation) s calm found = absurd cc
found_after t read e settled (Drops n) s calm found = record { salt = found.salt; now = found.now; is = found.is; about = found.about; found = found.found }

pub found_later : (t : ℕ) (read : Space) (e : Entity) (settled : List SettledCopy) (cs : List Change) (s : Space) → list_all (is_calm settled) cs ≡ true → AsFound t read e settled s → AsFound t read e settled (after_all t cs s)
found_later t read e settled [] s calm found = found
found_later t read e settled (c ∷ cs) s calm found =
    let its = both (is_calm settled c) (list_all (is_calm settled) cs) calm in
    found_later t read e settled cs (after t c s) its.1 (found_after t read e settled c s its.0 found)

-- ---- what messages change

join : (settled : List SettledCopy) (cs ds : List Change) → list_all (is_calm settled) cs ≡ true → list_all (is_calm settled) ds ≡ true → list_all (is_calm settled) (cs ++ ds) ≡ true
join settled [] ds one two = two
join settled (c ∷ cs) ds one two =
    let its = both (is_calm settled c) (list_all (is_calm settled) cs) one in
    ap (λ (b : Bool). b && list_all (is_calm settled) (cs ++ ds)) its.0 ∙ join settled cs ds its.1 two

calm_visit : (settled : List SettledCopy) (seq : Option ℕ) (v : Visit) → is_calm settled (visit_change seq v) ≡ true
calm_visit settled seq v = at v.lot where
  at : (lot : Lot) → is_calm_in settled v.part (landing seq lot) ≡ true
  at (stays hops m) = refl
  at (ends cause) = refl

pub calm_visits : (settled : List SettledCopy) (seq : Option ℕ) (vs : List Visit) → list_all (is_calm settled) (map (visit_change seq) vs) ≡ true
calm_visits settled seq [] = refl
calm_visits settled seq (v ∷ vs) = ap (λ (b : Bool). b && list_all (is_calm settled) (map (visit_change seq) vs)) (calm_visit settled seq v) ∙ calm_visits settled seq vs

calm_delivered : (settled : List SettledCopy) (seq : Option ℕ) (vs : List Visit) (s : Space) → list_all (is_calm settled) (delivered seq vs s) ≡ true
calm_delivered settled seq [] s = refl
calm_delivered settled seq (v ∷ vs) s = ap (λ (b : Bool). b && list_all (is_calm settled) (map (visit_change (Some (seq_or seq (last_at (visit_key v) s + 1)))) vs)) (calm_visit settled seq v) ∙ calm_visits settled (Some (seq_or seq (last_at (visit_key v) s + 1))) vs

calm_noting : (settled : List SettledCopy) (e : Entity) (m : Message) → list_all (is_calm settled) (noting e m) ≡ true
calm_noting settled e m = at e.about.description.window (text_of MessageId m) where
  at : (w : Option ℕ) (o : Option (List ℕ)) → list_all (is_calm settled) (elim w [ Some window ↦ elim o [ Some id ↦ Notes e.about.number id ∷ [] | None ↦ [] ] | None ↦ [] ]) ≡ true
  at None o = refl
  at (Some w) None = refl
  at (Some w) (Some id) = refl

calm_coming : (settled : List SettledCopy) (t : ℕ) (e : Entity) (m : Message) (s : Space) → list_all (is_calm settled) (coming t e m s) ≡ true
calm_coming settled t e m s = at m.schedule where
  enters : list_all (is_calm settled) (entering e m s) ≡ true
  enters = calm_delivered settled None (visits (listed s) 0 e.about (unscheduled m)) s

  on : (u : ℕ) (b : Bool) → list_all (is_calm settled) (if b then waiting e m u else entering e m s) ≡ true
  on u true = refl
  on u false = enters

  at : (o : Option ℕ) → list_all (is_calm settled) (elim o [ Some u ↦ (if nat_lt t u then waiting e m u else entering e m s) | None ↦ entering e m s ]) ≡ true
  at None = enters
  at (Some u) = on u (nat_lt t u)

calm_message : (settled : List SettledCopy) (t : ℕ) (e : Entity) (m : Message) (s : Space) → list_all (is_calm settled) (message_changes t e m s) ≡ true
calm_message settled t e m s = at (is_repeat t e m s) where
  at : (b : Bool) → list_all (is_calm settled) (if b then [] else noting e m ++ coming t e m s) ≡ true
  at true = refl
  at false = join settled (noting e m) (coming t e m s) (calm_noting settled e m) (calm_coming settled t e m s)

pub calm_sends : (settled : List SettledCopy) (t : ℕ) (e : Entity) (ms : List Message) (s : Space) → list_all (is_calm settled) (send_changes t e ms s) ≡ true
calm_sends settled t e [] s = refl
calm_sends settled t e (m ∷ ms) s = join settled (message_changes t e m s) (send_changes t e ms (after_all t (message_changes t e m s) s)) (calm_message settled t e m s) (calm_sends settled t e ms (after_all t (message_changes t e m s) s))

pub calm_handed : (settled : List SettledCopy) (t : ℕ) (e : Entity) (to : List ℕ) (ms : List Message) (s : Space) → list_all (is_calm settled) (in_turn (handed_on e to) t ms s) ≡ true
calm_handed settled t e to [] s = refl
calm_handed settled t e to (m ∷ ms) s = join settled (handed_on e to m s) (in_turn (handed_on e to) t ms (after_all t (handed_on e to m s) s)) (calm_delivered settled None (passage (listed s) 0 e.about (unscheduled m) to) s) (calm_handed settled t e to ms (after_all t (handed_on e to m s) s))
