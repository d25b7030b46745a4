-- What a queued settlement does as it acts.
use Rattle.std.proofs.Common.{Bool, List, None, Option, Some, [], ap, arith, false, map, refl, subst, sym, true, ℕ, ◌&&◌, ◌++◌, ◌∙◌, ◌∷◌, ◌≡◌}
use Rattle.std.specs.Prelude.{◌==◌, ◌||◌, not, nat_le, if◌then◌else◌}
use Rattle.std.specs.List.{list_all}
use Rattle.std.proofs.lemmas.Bool.Decides.{nat_tests}
use Rattle.std.proofs.lemmas.List.{append-nil}
use Rattle.std.proofs.lemmas.List.Folds.{list_any-append}
use Rattle.sb_fanout.specs.Lasts.{Given}
use Rattle.sb_fanout.proofs.There.{both}
use Rattle.sb_machine.specs.Changes.{after, after_all}
use Rattle.sb_machine.specs.Delivery.{back_to, carried, dead_for, dead_lettered, expired, in_part, is_expired, landing, raised, released, visit_change}
use Rattle.sb_machine.specs.Leases.{was_deferred}
use Rattle.sb_machine.specs.Names.{is_same_entity, is_same_part}
use Rattle.sb_machine.specs.Namespace.{entity_of, leaf_of, listed, new_entity}
use Rattle.sb_machine.specs.Sending.{send_changes}
use Rattle.sb_machine.specs.Settlement.{goes_with, settled}
use Rattle.sb_machine.specs.Transactions.{handed_on, operation_changes, queued_copy, settled_found}
use Rattle.sb_machine.specs.Changes.{in_turn}
use Rattle.sb_machine.specs.Visits.{Lot, Visit, burial, ends, stays}
use Rattle.sb_machine.specs.declared.call.How.{How}
use Rattle.sb_machine.specs.declared.call.How.TheVariants.{Abandon, Complete, DeadLetter, Defer}
use Rattle.sb_machine.specs.declared.call.Part.{Part}
use Rattle.sb_machine.specs.declared.call.Part.TheVariants.{Dead, Main, Transfer}
use Rattle.sb_machine.specs.declared.call.Path.{Path}
use Rattle.sb_machine.specs.declared.call.Token.{Token}
use Rattle.sb_machine.specs.declared.change.Change.{Change}
use Rattle.sb_machine.specs.declared.change.Change.TheVariants.{AddsRule, Begins, Drops, DropsRule, InLeaf, Makes, Notes, Queues, Removes}
use Rattle.sb_machine.specs.declared.change.LeafChange.TheVariants.{Stands as StandsAgain}
use Rattle.sb_machine.specs.declared.reason.DeadReason.TheVariants.{TooOften}
use Rattle.sb_machine.specs.declared.reply.Receipt.{Receipt}
use Rattle.sb_machine.specs.declared.state.Entity.{Entity}
use Rattle.sb_machine.specs.declared.state.Listed.{Listed}
use Rattle.sb_machine.specs.declared.state.Operation.TheVariants.{Send, Settle}
use Rattle.sb_machine.specs.declared.state.Space.{Space}
use Rattle.sb_machine.specs.declared.state.StoredCopy.{StoredCopy}
use Rattle.sb_model.specs.declared.message.Message.{Message}
use Rattle.sb_engine.specs.Commits.{Acts, AsFound, is_settled, lookup}
use Rattle.sb_engine.specs.Growing.{IsGrown}
use Rattle.sb_engine.specs.Sendings.{StandsAt, StandsSeen, Told, View, seen_in, space_at}
use Rattle.sb_engine.specs.declared.deliver.committing.SettledCopy.{SettledCopy}
use Rattle.sb_engine.proofs.AsFound.{calm_handed, calm_sends, found_later, is_calm, is_calm_in}
use Rattle.sb_engine.proofs.Growing.{after_both}
use Rattle.sb_engine.proofs.SendIds.{seen_leaf}

-- ---- changes in parts alone

abbrev is_inner : List SettledCopy → Change → Bool
is_inner done (InLeaf key c) = is_calm_in done key.part c
is_inner done _ = false

inner_calm : (done : List SettledCopy) (c : Change) → is_inner done c ≡ true → is_calm done c ≡ true
inner_calm done (InLeaf key c) is = is
inner_calm done (Notes n id) is = refl
inner_calm done (Makes kind path description rules) is = absurd cc
inner_calm done (Removes n) is = absurd cc
inner_calm done (AddsRule n rule) is = absurd cc
inner_calm done (DropsRule n name) is = absurd cc
inner_calm done (Begins n deadline) is = absurd cc
inner_calm done (Queues n deadline operation) is = absurd cc
inner_calm done (Drops n) is = absurd cc

all_calm : (done : List SettledCopy) (cs : List Change) → list_all (is_inner done) cs ≡ true → list_all (is_calm done) cs ≡ true
all_calm done [] is = refl
all_calm done (c ∷ cs) is =
    let its = both (is_inner done c) (list_all (is_inner done) cs) is in
    ap (λ (b : Bool). b && list_all (is_calm done) cs) (inner_calm done c its.0) ∙ all_calm done cs its.1

inner_seen : (n t : ℕ) (done : List SettledCopy) (c : Change) (s : Space) → is_inner done c ≡ true → seen_in n (after t c s) ≡ seen_in n s
inner_seen n t done (InLeaf key c) s is = seen_leaf n t key c s
inner_seen n t done (Notes k id) s is = absurd cc
inner_seen n t done (Makes kind path description rules) s is = absurd cc
inner_seen n t done (Removes k) s is = absurd cc
inner_seen n t done (AddsRule k rule) s is = absurd cc
inner_seen n t done (DropsRule k name) s is = absurd cc
inner_seen n t done (Begins k deadline) s is = absurd cc
inner_seen n t done (Queues k deadline operation) s is = absurd cc
inner_seen n t done (Drops k) s is = absurd cc

all_seen : (n t : ℕ) (done : List SettledCopy) (cs : List Change) (s : Space) → list_all (is_inner done) cs ≡ true → seen_in n (after_all t cs s) ≡ seen_in n s
all_seen n t done [] s is = refl
all_seen n t done (c ∷ cs) s is =
    let its = both (is_inner done c) (list_all (is_inner done) cs) is in
    all_seen n t done cs (after t c s) its.1 ∙ inner_seen n t done c s its.0

-- ---- what a settlement changes

inner_visit : (done : List SettledCopy) (seq : Option ℕ) (v : Visit) → is_inner done (visit_change seq v) ≡ true
inner_visit done seq v = at v.lot where
  at : (lot : Lot) → is_calm_in done v.part (landing seq lot) ≡ true
  at (stays hops m) = refl
  at (ends cause) = refl

inner_visits : (done : List SettledCopy) (seq : Option ℕ) (vs : List Visit) → list_all (is_inner done) (map (visit_change seq) vs) ≡ true
inner_visits done seq [] = refl
inner_visits done seq (v ∷ vs) = ap (λ (b : Bool). b && list_all (is_inner done) (map (visit_change seq) vs)) (inner_visit done seq v) ∙ inner_visits done seq vs

inner_dead : (done : List SettledCopy) (es : List Listed) (e : Entity) (c : StoredCopy) (by : Bool) (m : Message) → is_settled done Main c.number ≡ true → list_all (is_inner done) (dead_lettered es e c by m) ≡ true
inner_dead done es e c by m its = ap (λ (b : Bool). b && list_all (is_inner done) (carried c.enqueued_seq (burial es c.hops e.about m))) its ∙ inner_visits done (Some c.enqueued_seq) (burial es c.hops e.about m)

one : (b : Bool) → b ≡ true → (b && true) ≡ true
one true is = refl
one false is = absurd cc

inner_expired : (done : List SettledCopy) (es : List Listed) (e : Entity) (c : StoredCopy) (by : Bool) → is_settled done Main c.number ≡ true → list_all (is_inner done) (expired es e c by) ≡ true
inner_expired done es e c by its = at e.about.description.dead_on_expiry where
  at : (b : Bool) → list_all (is_inner done) (if b then dead_for es e c by Rattle.sb_machine.specs.declared.reason.DeadReason.TheVariants.Expired else in_part Main e (Rattle.sb_machine.specs.declared.change.LeafChange.TheVariants.Ends c.number by Rattle.sb_machine.specs.declared.change.Cause.TheVariants.Expired) ∷ []) ≡ true
  at true = inner_dead done es e c by _ its
  at false = one (is_settled done Main c.number) its

inner_released : (done : List SettledCopy) (es : List Listed) (t : ℕ) (e : Entity) (part : Part) (c : StoredCopy) (raise by : Bool) → is_settled done part c.number ≡ true → list_all (is_inner done) (released es t e part c raise by) ≡ true
inner_released done es t e Main c raise by its = go (raise && nat_le e.about.description.max_delivery (raised raise c.count)) (not (was_deferred c.standing) && is_expired t c) where
  go : (often over : Bool) → list_all (is_inner done) (if often then dead_for es e c by TooOften else (if over then expired es e c by else in_part Main e (StandsAgain c.number by (raised raise c.count) (back_to c.standing)) ∷ [])) ≡ true
  go true over = inner_dead done es e c by _ its
  go false true = inner_expired done es e c by its
  go false false = one (is_settled done Main c.number) its
inner_released done es t e Dead c raise by its = one (is_settled done Dead c.number) its
inner_released done es t e Transfer c raise by its = one (is_settled done Transfer c.number) its

inner_settled : (done : List SettledCopy) (es : List Listed) (t : ℕ) (e : Entity) (part : Part) (c : StoredCopy) (how : How) → is_settled done part c.number ≡ true → goes_with how part ≡ true → list_all (is_inner done) (settled es t e part c how) ≡ true
inner_settled done es t e part c Complete its goes = one (is_settled done part c.number) its
inner_settled done es t e part c Abandon its goes = inner_released done es t e part c true true its
inner_settled done es t e part c Defer its goes = one (is_settled done part c.number) its
inner_settled done es t e Main c (DeadLetter reason description) its goes = inner_dead done es e c true _ its
inner_settled done es t e Dead c (DeadLetter reason description) its goes = absurd cc
inner_settled done es t e Transfer c (DeadLetter reason description) its goes = absurd cc

-- only what is listed of the entity plays a part
by_about : (es : List Listed) (t : ℕ) (e : Entity) (part : Part) (c : StoredCopy) (how : How) → settled es t e part c how ≡ settled es t (new_entity e.about) part c how
by_about es t e part c Complete = refl
by_about es t e part c Abandon = refl
by_about es t e part c Defer = refl
by_about es t e part c (DeadLetter reason description) = refl

settled_alike : (es : List Listed) (t : ℕ) (e other : Entity) (part : Part) (c : StoredCopy) (how : How) → e.about ≡ other.about → settled es t e part c how ≡ settled es t other part c how
settled_alike es t e other part c how same = by_about es t e part c how ∙ ap (λ (a : Listed). settled es t (new_entity a) part c how) same ∙ sym (by_about es t other part c how)

-- ---- what is settled

same_here : (part : Part) → is_same_part part part ≡ true
same_here Main = refl
same_here Dead = refl
same_here Transfer = refl

same_number_here : (n : ℕ) → (n == n) ≡ true
same_number_here n = grind (arith, nat_tests)

either_here : (a b : Bool) → b ≡ true → (a || b) ≡ true
either_here true b is = refl
either_here false b is = is

neither : (a b : Bool) → (a || b) ≡ false → a ≡ false
neither true b is = absurd cc
neither false b is = refl

settled_now : (done more : List SettledCopy) (x : SettledCopy) → more ≡ done ++ x ∷ [] → is_settled more x.part x.number ≡ true
settled_now done more x is =
    ap (λ (l : List SettledCopy). is_settled l x.part x.number) is
    ∙ list_any-append (λ (y : SettledCopy). is_same_part y.part x.part && (y.number == x.number)) done (x ∷ [])
    ∙ either_here (is_settled done x.part x.number) ((is_same_part x.part x.part && (x.number == x.number)) || false) (ap (λ (b : Bool). (b && (x.number == x.number)) || false) (same_here x.part) ∙ ap (λ (b : Bool). b || false) (same_number_here x.number))

found_more : (t : ℕ) (read : Space) (e : Entity) (done more : List SettledCopy) (x : SettledCopy) (s : Space) → more ≡ done ++ x ∷ [] → AsFound t read e done s → AsFound t read e more s
found_more t read e done more x s is found = record {
  salt = found.salt;
  now = found.now;
  is = found.is;
  about = found.about;
  found = λ part lock n free. found.found part lock n (neither (is_settled done part n) (is_settled (x ∷ []) part n) (sym (list_any-append (λ (y : SettledCopy). is_same_part y.part part && (y.number == n)) done (x ∷ [])) ∙ sym (ap (λ (l : List SettledCopy). is_settled l part n) is) ∙ free));
}

-- ---- the settlement as it acts

looked_up : (t : ℕ) (read : Space) (e : Entity) (done : List SettledCopy) (s : Space) (from : Path) (number : ℕ) (token : Token) (found : AsFound t read e done s) → is_settled done from.part number ≡ false → queued_copy s t found.now from number token ≡ queued_copy read t e from number token
looked_up t read e done s from number token found free =
    ap (λ (salt : ℕ). if token.salt == salt then lookup t token.lock number (leaf_of from.part found.now) else None) found.salt
    ∙ ap (λ (o : Option StoredCopy). if token.salt == read.salt then o else None) (found.found from.part token.lock number free)

acts_as_found : (t : ℕ) (read : Space) (e : Entity) (done : List SettledCopy) (s : Space) (from : Path) (number : ℕ) (token : Token) (session : Option Token) (how : How) (found : AsFound t read e done s) → is_settled done from.part number ≡ false
    → operation_changes t e (Settle from number token session how) s ≡ settled_found s t found.now from how (queued_copy read t e from number token)
acts_as_found t read e done s from number token session how found free =
    ap (λ (o : Option Entity). elim o as (λ _. List Change) [ Some now ↦ settled_found s t now from how (queued_copy s t now from number token) | None ↦ [] ]) found.is
    ∙ ap (settled_found s t found.now from how) (looked_up t read e done s from number token found free)

pub acts_none : (t : ℕ) (read : Space) (e : Entity) (done : List SettledCopy) (from : Path) (number : ℕ) (token : Token) (session : Option Token) (how : How) (free : Bool) (p : Told)
    → StandsAt t read e.about.number p.given p.fresh p.changes
    → AsFound t read e done (space_at t read p)
    → free ≡ is_settled done from.part number → free ≡ false
    → queued_copy read t e from number token ≡ None
    → Acts t read e.about.number (operation_changes t e (Settle from number token session how)) p p
acts_none t read e done from number token session how free p stands found is_free is none = record {
  changes = sym (ap (λ (cs : List Change). p.changes ++ cs) (acts_as_found t read e done (space_at t read p) from number token session how found (sym is_free ∙ is) ∙ ap (settled_found (space_at t read p) t found.now from how) none) ∙ append-nil p.changes);
  stands = stands;
}

grown_settled : (t : ℕ) (read : Space) (e : Entity) (done : List SettledCopy) (from : Path) (number : ℕ) (token : Token) (session : Option Token) (how : How) (c : StoredCopy) (s : Space)
    → listed s ≡ listed read
    → AsFound t read e done s
    → is_settled done from.part number ≡ false
    → queued_copy read t e from number token ≡ Some c
    → settled (listed read) t e from.part c how ≡ operation_changes t e (Settle from number token session how) s
grown_settled t read e done from number token session how c s same found free looked =
    sym (acts_as_found t read e done s from number token session how found free
    ∙ ap (settled_found s t found.now from how) looked
    ∙ ap (λ (es : List Listed). settled es t found.now from.part c how) same
    ∙ settled_alike (listed read) t found.now e from.part c how found.about)

pub acts_settled : (t : ℕ) (read : Space) (e : Entity) (done more : List SettledCopy) (x : SettledCopy) (from : Path) (number : ℕ) (token : Token) (session : Option Token) (how : How) (free goes : Bool) (c : StoredCopy) (before after : Given) (fresh : List (List ℕ)) (old new : List Change) (got : List Receipt)
    → StandsAt t read e.about.number before fresh old
    → AsFound t read e done (after_all t old read)
    → goes ≡ goes_with how from.part → goes ≡ true
    → free ≡ is_settled done from.part number → free ≡ false
    → queued_copy read t e from number token ≡ Some c
    → more ≡ done ++ x ∷ [] → x.part ≡ from.part → x.number ≡ c.number
    → IsGrown read (settled (listed read) t e from.part c how) before after old new
    → Acts t read e.about.number (operation_changes t e (Settle from number token session how)) (record { given = before; fresh = fresh; changes = old; receipts = got }) (record { given = after; fresh = fresh; changes = new; receipts = got }) × AsFound t read e more (after_all t new read)
acts_settled t read e done more x from number token session how free goes c before after fresh old new got now found is_goes goes_on is_free free_is looked more_is part_is number_is grown = (
  record {
    changes = grown.changes ∙ ap (λ (cs : List Change). old ++ cs) same;
    stands = record {
      there = now.there;
      numbers = subst (λ (y : Space). Rattle.sb_engine.specs.Growing.Stands read after y) (sym led) (grown.stands t s now.numbers);
      seen = subst (λ (v : Option View). StandsSeen t (entity_of e.about.number read) fresh v) (sym (ap (seen_in e.about.number) led ∙ all_seen e.about.number t more (settled (listed read) t e from.part c how) s inner)) now.seen;
    };
  },
  subst (λ (y : Space). AsFound t read e more y) (sym led) (found_later t read e more (settled (listed read) t e from.part c how) s (all_calm more (settled (listed read) t e from.part c how) inner) (found_more t read e done more x s more_is found)),
) where
  s : Space
  s = after_all t old read

  same : settled (listed read) t e from.part c how ≡ operation_changes t e (Settle from number token session how) s
  same = grown_settled t read e done from number token session how c s now.numbers.entities found (sym is_free ∙ free_is) looked

  led : after_all t new read ≡ after_all t (settled (listed read) t e from.part c how) s
  led = ap (λ (cs : List Change). after_all t cs read) grown.changes ∙ after_both t old (settled (listed read) t e from.part c how) read

  inner : list_all (is_inner more) (settled (listed read) t e from.part c how) ≡ true
  inner = inner_settled more (listed read) t e from.part c how (ap (λ (p : Part). is_settled more p c.number) (sym part_is) ∙ ap (is_settled more x.part) (sym number_is) ∙ settled_now done more x more_is) (sym is_goes ∙ goes_on)

-- a queued send leaves the copies
pub sends_leave : (t : ℕ) (read : Space) (e : Entity) (done : List SettledCopy) (to : Path) (ms : List Message) (p q : Told) → Acts t read e.about.number (operation_changes t e (Send to ms)) p q → AsFound t read e done (space_at t read p) → AsFound t read e done (space_at t read q)
sends_leave t read e done to ms p q acts found =
    subst (λ (y : Space). AsFound t read e done y) (sym (ap (λ (cs : List Change). after_all t cs read) acts.changes ∙ after_both t p.changes (operation_changes t e (Send to ms) (space_at t read p)) read))
    (found_later t read e done (operation_changes t e (Send to ms) (space_at t read p)) (space_at t read p) (at (is_same_entity to e.about.path)) found)
  where
    at : (b : Bool) → list_all (is_calm done) (if b then send_changes t e ms (space_at t read p) else in_turn (handed_on e to.name) t ms (space_at t read p)) ≡ true
    at true = calm_sends done t e ms (space_at t read p)
    at false = calm_handed done t e to.name ms (space_at t read p)
