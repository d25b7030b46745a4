-- The changes of a commit: a copy enters an entity that is there, and one that ends stands where it does.
use Rattle.std.proofs.Common.{◌≡◌, ℕ, Bool, true, false, List, [], ◌∷◌, map, find, Option, Some, None, is_some, refl, ◌∙◌, ap}
use Rattle.std.specs.Prelude.{◌==◌, ◌&&◌, ◌||◌, nat_le, not, if◌then◌else◌}
use Rattle.std.specs.List.{list_all}
use Rattle.sb_fanout.proofs.Deliveries.{number_itself, or_right}
use Rattle.sb_fanout.proofs.Places.{same_number}
use Rattle.sb_fanout.proofs.There.{both, visits_are_there}
use Rattle.sb_fanout.specs.Lasts.{is_listed}
use Rattle.sb_fanout.specs.Laws.{are_there}
use Rattle.sb_laws.proofs.Lists.{found_behind, found_passes}
use Rattle.sb_machine.specs.Changes.{after, after_all, in_turn}
use Rattle.sb_machine.specs.Delivery.{in_part, back_to, dead_for, dead_lettered, expired, is_expired, raised, released}
use Rattle.sb_machine.specs.Leases.{is_living, is_named, was_deferred}
use Rattle.sb_machine.specs.Leaves.{has_number}
use Rattle.sb_machine.specs.Names.{is_same_entity}
use Rattle.sb_machine.specs.Namespace.{entity_of, is_entity, key_of, leaf_of, listed}
use Rattle.sb_machine.specs.Reasons.{for_reason, with_reason}
use Rattle.sb_machine.specs.Settlement.{goes_with, settled}
use Rattle.sb_machine.specs.Sending.{send_changes, unscheduled}
use Rattle.sb_machine.specs.Transactions.{handed_on, operation_changes, queued_copy, settled_found}
use Rattle.sb_machine.specs.Visits.{burial, passage}
use Rattle.sb_machine.specs.declared.call.How.{How}
use Rattle.sb_machine.specs.declared.call.How.TheVariants.{Complete, Abandon, Defer, DeadLetter}
use Rattle.sb_machine.specs.declared.call.Part.{Part}
use Rattle.sb_machine.specs.declared.call.Part.TheVariants.{Main, Dead, Transfer}
use Rattle.sb_machine.specs.declared.call.Path.{Path}
use Rattle.sb_machine.specs.declared.call.Token.{Token}
use Rattle.sb_machine.specs.declared.call.Which.TheVariants.{Number}
use Rattle.sb_machine.specs.declared.change.Cause.{Cause}
use Rattle.sb_machine.specs.declared.change.Cause.TheVariants.{Completed, DeadLettered, Expired as ByTime}
use Rattle.sb_machine.specs.declared.change.Change.{Change}
use Rattle.sb_machine.specs.declared.change.LeafChange.TheVariants.{Ends, Stands}
use Rattle.sb_machine.specs.declared.reason.DeadReason.TheVariants.{Expired, TooOften}
use Rattle.sb_machine.specs.declared.state.Entity.{Entity}
use Rattle.sb_machine.specs.declared.state.Listed.{Listed}
use Rattle.sb_machine.specs.declared.state.Operation.{Operation}
use Rattle.sb_machine.specs.declared.state.Operation.TheVariants.{Send, Settle}
use Rattle.sb_machine.specs.declared.state.Space.{Space}
use Rattle.sb_machine.specs.declared.state.Standing.{Standing}
use Rattle.sb_machine.specs.declared.state.Standing.TheVariants.{Deferred}
use Rattle.sb_machine.specs.declared.state.StoredCopy.{StoredCopy}
use Rattle.sb_model.specs.declared.message.Message.{Message}
use Rattle.sb_engine.specs.Commits.{goes_well}
use Rattle.sb_engine.specs.Quotas.{copy_where}
use Rattle.sb_engine.proofs.Counted.{Mild, IsThere, mild_append, mild_listed, listed_in_leaf, mild_carried, mild_delivered, mild_sends}

-- ---- a copy that is there

-- an entity of the namespace, and a copy in one of its parts
record IsHeld (s : Space) (e : Entity) (part : Part) (c : StoredCopy) : Type 0 where
  entity : entity_of e.about.number s ≡ Some e
  there : IsThere e.about.number s
  copy : is_some (find (has_number c.number) (leaf_of part e).copies) ≡ true

found_by_number : (p : StoredCopy → Bool) (cs : List StoredCopy) (c : StoredCopy) → find p cs ≡ Some c → is_some (find (has_number c.number) cs) ≡ true
found_by_number p [] c found = absurd cc
found_by_number p (x ∷ xs) c found = at (p x) refl (found_by_number p xs c) where
  first : (b : Bool) → has_number c.number x ≡ b → is_some (find (has_number c.number) xs) ≡ true → is_some (find (has_number c.number) (x ∷ xs)) ≡ true
  first true is rest = rw is refl
  first false is rest = rw is rest

  at : (b : Bool) → p x ≡ b → (find p xs ≡ Some c → is_some (find (has_number c.number) xs) ≡ true) → is_some (find (has_number c.number) (x ∷ xs)) ≡ true
  at true is ih =
      let here : Some x ≡ Some c = rw is at found in
      let same : x ≡ c = cc in
      rw (ap (λ (d : StoredCopy). d.number == c.number) same ∙ number_itself c.number) refl
  at false is ih = first (has_number c.number x) refl (ih (found_behind p x xs (Some c) is found))

found_listed : (n : ℕ) (es : List Entity) (e : Entity) → find (is_entity n) es ≡ Some e → is_listed n (map (λ x. x.about) es) ≡ true
found_listed n [] e found = absurd cc
found_listed n (x ∷ xs) e found = at (is_entity n x) refl (found_listed n xs e) where
  at : (b : Bool) → is_entity n x ≡ b → (find (is_entity n) xs ≡ Some e → is_listed n (map (λ y. y.about) xs) ≡ true) → is_listed n (map (λ y. y.about) (x ∷ xs)) ≡ true
  at true is ih = ap (λ (b : Bool). b || is_listed n (map (λ (y : Entity). y.about) xs)) is
  at false is ih = or_right (x.about.number == n) (is_listed n (map (λ (y : Entity). y.about) xs)) (ih (found_behind (is_entity n) x xs (Some e) is found))

pub there_of : (n : ℕ) (s : Space) (e : Entity) → entity_of n s ≡ Some e → IsThere n s
there_of n s e found = found_listed n s.entities e found

mild_ends : (t : ℕ) (s : Space) (e : Entity) (part : Part) (c : StoredCopy) (by_settlement : Bool) (cause : Cause) (cs : List Change) → IsHeld s e part c
    → Mild t cs (after t (in_part part e (Ends c.number by_settlement cause)) s) → Mild t (in_part part e (Ends c.number by_settlement cause) ∷ cs) s
mild_ends t s e part c by_settlement cause cs held rest =
    (ap (λ (o : Option Entity). is_some (copy_where (key_of part e) c.number o)) held.entity ∙ held.copy, listed_in_leaf t (key_of part e) (Ends c.number by_settlement cause) s, rest)

mild_stands : (t : ℕ) (s : Space) (e : Entity) (part : Part) (c : StoredCopy) (by_settlement : Bool) (count : ℕ) (standing : Standing) → Mild t (in_part part e (Stands c.number by_settlement count standing) ∷ []) s
mild_stands t s e part c by_settlement count standing = (tt, listed_in_leaf t (key_of part e) (Stands c.number by_settlement count standing) s, tt)

-- ---- dead letters, releases and settlements

mild_dead : (t : ℕ) (s : Space) (e : Entity) (c : StoredCopy) (by_settlement : Bool) (m : Message) → IsHeld s e Main c → Mild t (dead_lettered (listed s) e c by_settlement m) s
mild_dead t s e c by_settlement m held =
    let now = after t (in_part Main e (Ends c.number by_settlement DeadLettered)) s in
    let kept : listed now ≡ listed s = listed_in_leaf t (key_of Main e) (Ends c.number by_settlement DeadLettered) s in
    mild_ends t s e Main c by_settlement DeadLettered _ held (mild_carried t c.enqueued_seq (burial (listed s) c.hops e.about m) now
    (ap (λ (es : List Listed). are_there es (burial (listed s) c.hops e.about m)) kept ∙ visits_are_there.burying (listed s) c.hops e.about m held.there))

mild_expired : (t : ℕ) (s : Space) (e : Entity) (c : StoredCopy) (by_settlement : Bool) → IsHeld s e Main c → Mild t (expired (listed s) e c by_settlement) s
mild_expired t s e c by_settlement held = at e.about.description.dead_on_expiry where
  at : (b : Bool) → Mild t (if b then dead_for (listed s) e c by_settlement Expired else in_part Main e (Ends c.number by_settlement ByTime) ∷ []) s
  at true = mild_dead t s e c by_settlement (for_reason Expired c.message) held
  at false = mild_ends t s e Main c by_settlement ByTime [] held tt

mild_released : (t : ℕ) (s : Space) (e : Entity) (part : Part) (c : StoredCopy) (raise by_settlement : Bool) → IsHeld s e part c → Mild t (released (listed s) t e part c raise by_settlement) s
mild_released t s e Main c raise by_settlement held = at (raise && nat_le e.about.description.max_delivery (raised raise c.count)) (not (was_deferred c.standing) && is_expired t c) where
  at : (often late : Bool) → Mild t (if often then dead_for (listed s) e c by_settlement TooOften else (if late then expired (listed s) e c by_settlement else in_part Main e (Stands c.number by_settlement (raised raise c.count) (back_to c.standing)) ∷ [])) s
  at true late = mild_dead t s e c by_settlement (for_reason TooOften c.message) held
  at false true = mild_expired t s e c by_settlement held
  at false false = mild_stands t s e Main c by_settlement (raised raise c.count) (back_to c.standing)
mild_released t s e Dead c raise by_settlement held = mild_stands t s e Dead c by_settlement (raised raise c.count) (back_to c.standing)
mild_released t s e Transfer c raise by_settlement held = mild_stands t s e Transfer c by_settlement (raised raise c.count) (back_to c.standing)

mild_settled : (t : ℕ) (s : Space) (e : Entity) (part : Part) (c : StoredCopy) (how : How) → goes_with how part ≡ true → IsHeld s e part c → Mild t (settled (listed s) t e part c how) s
mild_settled t s e part c Complete goes held = mild_ends t s e part c true Completed [] held tt
mild_settled t s e part c Abandon goes held = mild_released t s e part c true true held
mild_settled t s e part c Defer goes held = mild_stands t s e part c true c.count Deferred
mild_settled t s e Main c (DeadLetter reason description) goes held = mild_dead t s e c true (with_reason reason description c.message) held
mild_settled t s e Dead c (DeadLetter reason description) goes held = absurd cc
mild_settled t s e Transfer c (DeadLetter reason description) goes held = absurd cc

-- ---- operations

held_copy : (t : ℕ) (s : Space) (n : ℕ) (e : Entity) (from : Path) (number : ℕ) (token : Token) (c : StoredCopy) → entity_of n s ≡ Some e → queued_copy s t e from number token ≡ Some c → IsHeld s e from.part c
held_copy t s n e from number token c there found =
    let same : e.about.number ≡ n = same_number e.about.number n (found_passes (is_entity n) e s.entities there) in
    let entity : entity_of e.about.number s ≡ Some e = ap (λ k. entity_of k s) same ∙ there in
    record { entity = entity; there = there_of e.about.number s e entity; copy = at (token.salt == s.salt) found }
  where
    at : (b : Bool) → (if b then find (λ d. is_living t (leaf_of from.part e).sessions token.lock d.standing && is_named (Number number) d) (leaf_of from.part e).copies else None) ≡ Some c
        → is_some (find (has_number c.number) (leaf_of from.part e).copies) ≡ true
    at true is = found_by_number _ (leaf_of from.part e).copies c is
    at false is = absurd cc

mild_settlement : (t : ℕ) (s : Space) (n : ℕ) (from : Path) (number : ℕ) (token : Token) (how : How) → goes_with how from.part ≡ true
    → Mild t (elim (entity_of n s) [ Some now ↦ settled_found s t now from how (queued_copy s t now from number token) | None ↦ [] ]) s
mild_settlement t s n from number token how goes = at (entity_of n s) refl where
  found : (e : Entity) → entity_of n s ≡ Some e → (o : Option StoredCopy) → queued_copy s t e from number token ≡ o → Mild t (settled_found s t e from how o) s
  found e there None is = tt
  found e there (Some c) is = mild_settled t s e from.part c how goes (held_copy t s n e from number token c there is)

  at : (o : Option Entity) → entity_of n s ≡ o → Mild t (elim o [ Some now ↦ settled_found s t now from how (queued_copy s t now from number token) | None ↦ [] ]) s
  at None is = tt
  at (Some e) is = found e is (queued_copy s t e from number token) refl

mild_handed_on : (t : ℕ) (e : Entity) (to : List ℕ) (ms : List Message) (s : Space) → IsThere e.about.number s → Mild t (in_turn (handed_on e to) t ms s) s
mild_handed_on t e to [] s there = tt
mild_handed_on t e to (m ∷ ms) s there =
    let one = mild_delivered t None (passage (listed s) 0 e.about (unscheduled m) to) s s (visits_are_there.passing (listed s) 0 e.about (unscheduled m) to there) in
    let now = after_all t (handed_on e to m s) s in
    mild_append t (handed_on e to m s) (in_turn (handed_on e to) t ms now) s one
    (mild_handed_on t e to ms now (ap (λ (es : List Listed). is_listed e.about.number es) (mild_listed t (handed_on e to m s) s one) ∙ there))

mild_operation : (t : ℕ) (e : Entity) (o : Operation) (s : Space) → goes_well o ≡ true → IsThere e.about.number s → Mild t (operation_changes t e o s) s
mild_operation t e (Send to messages) s goes there = at (is_same_entity to e.about.path) where
  at : (b : Bool) → Mild t (if b then send_changes t e messages s else in_turn (handed_on e to.name) t messages s) s
  at true = mild_sends t e messages s there
  at false = mild_handed_on t e to.name messages s there
mild_operation t e (Settle from number token session how) s goes there = mild_settlement t s e.about.number from number token how goes

pub mild_operations : (t : ℕ) (e : Entity) (os : List Operation) (s : Space) → list_all goes_well os ≡ true → IsThere e.about.number s → Mild t (in_turn (operation_changes t e) t os s) s
mild_operations t e [] s goes there = tt
mild_operations t e (o ∷ os) s goes there =
    let go = both (goes_well o) (list_all goes_well os) goes in
    let one = mild_operation t e o s go.0 there in
    let now = after_all t (operation_changes t e o s) s in
    mild_append t (operation_changes t e o s) (in_turn (operation_changes t e) t os now) s one
    (mild_operations t e os now go.1 (ap (λ (es : List Listed). is_listed e.about.number es) (mild_listed t (operation_changes t e o s) s one) ∙ there))
