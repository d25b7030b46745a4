-- An accepted act that has changes really changes the namespace: over all its ways.
use Rattle.std.proofs.Common.{Bool, List, None, Option, Some, [], ap, arith, drop, false, filter, length, map, nat_le, nat_lt, not, refl, rules, subst, sym, take, true, ℕ, ◌&&◌, ◌++◌, ◌+◌, ◌-◌, ◌<◌, ◌==◌, ◌∙◌, ◌∷◌, ◌≡◌, ◌≤◌}
use Rattle.std.proofs.lemmas.Bool.Decides.{nat_tests}
use Rattle.std.proofs.lemmas.List.{length-append, take-append-drop}
use Rattle.std.specs.List.{flat_map, list_any, prefix_len}
use Rattle.std.specs.Prelude.{find, if◌then◌else◌}
use Rattle.sb_laws.proofs.Carrying.{Carries, each_flat, listed_carried}
use Rattle.sb_laws.proofs.Closing.{AreHeldOn, HeldApart, SessionsApart, closes_lock, has_run_out, held_behind}
use Rattle.sb_laws.proofs.Eachs.{differs, each_append, each_filter, each_found}
use Rattle.sb_laws.proofs.Entities.{EachLeaf, IsOrdered, leaf_each}
use Rattle.sb_laws.proofs.Lists.{found_behind, found_changed, found_here, found_passes}
use Rattle.sb_laws.proofs.Measures.{all_grow, grows, made_at, shorter_changed}
use Rattle.sb_laws.proofs.Mild.{IsCarried, raised_most, released_mild}
use Rattle.sb_laws.proofs.Moves.{changed_same, head_is, leaf_same, one_same}
use Rattle.sb_laws.proofs.NothingDue.{Lasts, LastsIn, carries, lasts_travels, ordered, sessions_apart}
use Rattle.sb_laws.proofs.Sameness.{numbers_equal, part_same, text_same, two}
use Rattle.sb_laws.proofs.Tick.{IsOfTick, back_is_free, tick_closes, tick_frees, tick_mild}
use Rattle.sb_laws.specs.Sweepable.{IsSweepable}
use Rattle.sb_machine.specs.Changes.{after, after_all, in_turn, is_transaction, noted, with_operation}
use Rattle.sb_machine.specs.Delivery.{back_to, dead_for, delivered, expired, in_part, is_expired, landing, raised, released, visit_change, visit_key}
use Rattle.sb_machine.specs.Each.{Each, Pairs}
use Rattle.sb_machine.specs.Keyed.{changed, with_sorted}
use Rattle.sb_machine.specs.Leases.{held_session, is_living_holder, is_under_session, lives, was_deferred}
use Rattle.sb_machine.specs.Leaves.{copies_given, is_held_under, prolonged_holder, remembered, seq_or}
use Rattle.sb_machine.specs.Messages.{text_of}
use Rattle.sb_machine.specs.Names.{is_main, is_same_entity, is_same_option}
use Rattle.sb_machine.specs.Namespace.{entity_of, is_entity, key_of, last_at, leaf_of, listed, made}
use Rattle.sb_machine.specs.Reasons.{for_reason, with_reason}
use Rattle.sb_machine.specs.Sending.{coming, entering, is_repeat, message_changes, noting, send_changes, unscheduled, waiting}
use Rattle.sb_machine.specs.Sessions.{closed, lives_until}
use Rattle.sb_machine.specs.Settlement.{settled}
use Rattle.sb_machine.specs.Transactions.{handed_on, operation_changes, queued_copy, settled_found}
use Rattle.sb_machine.specs.Visits.{Lot, Onward, Visit, burial, buried, came_to, cut_to, ends, fanned, has_session, max_hops, offered, passage, stays, subscriptions_of, transferred, visit, visits}
use Rattle.sb_machine.specs.declared.call.How.{How}
use Rattle.sb_machine.specs.declared.call.How.TheVariants.{Abandon, Complete, DeadLetter, Defer}
use Rattle.sb_machine.specs.declared.call.Part.{Part}
use Rattle.sb_machine.specs.declared.call.Part.TheVariants.{Main}
use Rattle.sb_machine.specs.declared.call.Token.{Token}
use Rattle.sb_machine.specs.declared.change.Change.{Change}
use Rattle.sb_machine.specs.declared.change.Change.TheVariants.{AddsRule, Begins, Drops, DropsRule, InLeaf, Makes, Notes, Queues, Removes}
use Rattle.sb_machine.specs.declared.change.LeafChange.{LeafChange}
use Rattle.sb_machine.specs.declared.change.LeafChange.TheVariants.{Ends, Enters, Prolongs, Stands, Writes}
use Rattle.sb_machine.specs.declared.change.LeafKey.{LeafKey}
use Rattle.sb_model.specs.declared.message.Message.{Message}
use Rattle.sb_model.specs.declared.message.SystemName.TheVariants.{MessageId}
use Rattle.sb_machine.specs.declared.state.Entity.{Entity}
use Rattle.sb_machine.specs.declared.state.EntityKind.{EntityKind}
use Rattle.sb_machine.specs.declared.state.EntityKind.TheVariants.{Queue, Subscription, Topic}
use Rattle.sb_machine.specs.declared.state.Holder.{Holder}
use Rattle.sb_machine.specs.declared.state.Leaf.{Leaf}
use Rattle.sb_machine.specs.declared.state.Listed.{Listed}
use Rattle.sb_machine.specs.declared.state.Operation.{Operation}
use Rattle.sb_machine.specs.declared.state.Session.{Session}
use Rattle.sb_machine.specs.declared.state.Space.{Space}
use Rattle.sb_machine.specs.declared.state.Standing.TheVariants.{Scheduled}
use Rattle.sb_machine.specs.declared.state.StoredCopy.{StoredCopy}
use Rattle.sb_machine.specs.declared.change.Cause.TheVariants.{DeadLettered, Fanned, Forwarded, Expired as ByTime}
use Rattle.sb_machine.specs.declared.reason.DeadReason.TheVariants.{Expired, TooOften, NoSession}
use Rattle.sb_machine.specs.declared.state.Operation.TheVariants.{Send as SendLater, Settle as SettleLater}
use Rattle.sb_machine.specs.Visits.{dead_lettered as visits_dead}

-- ---- lengths

pub shorter_filter : {X : Type 0} (p : X → Bool) (xs : List X) → length (filter p xs) ≤ length xs
shorter_filter p [] = omega arith
shorter_filter p (x ∷ xs) = at (p x) refl (shorter_filter p xs) where
  at : (b : Bool) → p x ≡ b → length (filter p xs) ≤ length xs → length (filter p (x ∷ xs)) ≤ length (x ∷ xs)
  at true is ih = rw is (omega (arith, ih))
  at false is ih = rw is (omega (arith, ih))

pub one_out : {X : Type 0} (p : X → Bool) (e : X) (xs : List X) → find p xs ≡ Some e → length (filter (λ x. not (p x)) xs) < length xs
one_out p e [] is = absurd cc
one_out p e (x ∷ xs) is = at (p x) refl (one_out p e xs) where
  at : (b : Bool) → p x ≡ b → (find p xs ≡ Some e → length (filter (λ y. not (p y)) xs) < length xs) → length (filter (λ y. not (p y)) (x ∷ xs)) < length (x ∷ xs)
  at true passes ih = rw passes (omega (arith, shorter_filter (λ y. not (p y)) xs))
  at false passes ih = rw passes (omega (arith, ih (found_behind p x xs (Some e) passes is)))

pub one_gone : {X : Type 0} (p : X → Bool) (e : X) (xs : List X) → find p xs ≡ Some e → length (changed p (λ x. []) xs) < length xs
one_gone p e [] is = absurd cc
one_gone p e (x ∷ xs) is = at (p x) refl (one_gone p e xs) where
  at : (b : Bool) → p x ≡ b → (find p xs ≡ Some e → length (changed p (λ y. []) xs) < length xs) → length (changed p (λ y. []) (x ∷ xs)) < length (x ∷ xs)
  at true passes ih = rw passes (omega arith)
  at false passes ih = rw passes (omega (arith, ih (found_behind p x xs (Some e) passes is)))

pub one_in : {X : Type 0} (before : X → Bool) (x : X) (xs : List X) → length (with_sorted before x xs) ≡ length xs + 1
one_in before x xs =
    let k = prefix_len before xs in
    let whole : length (take k xs ++ drop k xs) ≡ length xs = ap length (take-append-drop k xs) in
    omega (arith, length-append (take k xs) (x ∷ drop k xs), length-append (take k xs) (drop k xs), whole)

-- ---- changes that open no transaction

abbrev pub OpensNone : Change → Type 0
OpensNone (Begins n deadline) = ⊥
OpensNone _ = Unit {0}

pub fewer_open : (t : ℕ) (cs : List Change) (s : Space) → Each OpensNone cs → length (after_all t cs s).transactions ≤ length s.transactions
fewer_open t [] s h = omega arith
fewer_open t (c ∷ cs) s h = omega (arith, one c h.0, fewer_open t cs (after t c s) h.1) where
  one : (c : Change) → OpensNone c → length (after t c s).transactions ≤ length s.transactions
  one (InLeaf key c) h = omega arith
  one (Notes n id) h = omega arith
  one (Makes kind path description rules) h = omega arith
  one (Removes n) h = shorter_filter (λ x. not (x.entity == n)) s.transactions
  one (AddsRule n rule) h = omega arith
  one (DropsRule n name) h = omega arith
  one (Begins n deadline) h = absurd h
  one (Queues n deadline operation) h = shorter_changed (is_transaction n) (λ x. with_operation deadline operation x ∷ []) s.transactions (λ x. omega arith)
  one (Drops n) h = shorter_changed (is_transaction n) (λ x. []) s.transactions (λ x. omega arith)

visits_open : (seq : Option ℕ) (vs : List Visit) → Each OpensNone (map (visit_change seq) vs)
visits_open seq [] = tt
visits_open seq (v ∷ vs) = (tt, visits_open seq vs)

delivered_open : (seq : Option ℕ) (vs : List Visit) (s : Space) → Each OpensNone (delivered seq vs s)
delivered_open seq [] s = tt
delivered_open seq (v ∷ vs) s = (tt, visits_open (Some (seq_or seq (last_at (visit_key v) s + 1))) vs)

expired_open : (es : List Listed) (e : Entity) (c : StoredCopy) (by_settlement : Bool) → Each OpensNone (expired es e c by_settlement)
expired_open es e c by_settlement = go e.about.description.dead_on_expiry where
  go : (b : Bool) → Each OpensNone (if b then dead_for es e c by_settlement Expired else in_part Main e (Ends c.number by_settlement ByTime) ∷ [])
  go true = (tt, visits_open (Some c.enqueued_seq) (burial es c.hops e.about (for_reason Expired c.message)))
  go false = (tt, tt)

released_open : (es : List Listed) (t : ℕ) (e : Entity) (part : Part) (c : StoredCopy) (raise by_settlement : Bool) → Each OpensNone (released es t e part c raise by_settlement)
released_open es t e part c raise by_settlement = go (is_main part && raise && nat_le e.about.description.max_delivery (raised raise c.count)) (is_main part && not (was_deferred c.standing) && is_expired t c) where
  go : (a b : Bool) → Each OpensNone (if a then dead_for es e c by_settlement TooOften else (if b then expired es e c by_settlement else in_part part e (Stands c.number by_settlement (raised raise c.count) (back_to c.standing)) ∷ []))
  go true b = (tt, visits_open (Some c.enqueued_seq) (burial es c.hops e.about (for_reason TooOften c.message)))
  go false true = expired_open es e c by_settlement
  go false false = (tt, tt)

settled_open : (es : List Listed) (t : ℕ) (e : Entity) (part : Part) (c : StoredCopy) (how : How) → Each OpensNone (settled es t e part c how)
settled_open es t e part c Complete = (tt, tt)
settled_open es t e part c Abandon = released_open es t e part c true true
settled_open es t e part c Defer = (tt, tt)
settled_open es t e part c (DeadLetter reason description) = (tt, visits_open (Some c.enqueued_seq) (burial es c.hops e.about (with_reason reason description c.message)))

pub in_turn_open : {X : Type 0} (f : X → Space → List Change) (t : ℕ) (xs : List X) (s : Space) → ((x : X) (s : Space) → Each OpensNone (f x s)) → Each OpensNone (in_turn f t xs s)
in_turn_open f t [] s h = tt
in_turn_open f t (x ∷ xs) s h = each_append OpensNone (f x s) (in_turn f t xs (after_all t (f x s) s)) (h x s) (in_turn_open f t xs (after_all t (f x s) s) h)

noting_open : (e : Entity) (m : Message) → Each OpensNone (noting e m)
noting_open e m = at e.about.description.window (text_of MessageId m) where
  at : (w : Option ℕ) (i : Option (List ℕ)) → Each OpensNone (elim w [ Some window ↦ elim i [ Some id ↦ Notes e.about.number id ∷ [] | None ↦ [] ] | None ↦ [] ])
  at None i = tt
  at (Some window) None = tt
  at (Some window) (Some id) = (tt, tt)

coming_open : (t : ℕ) (e : Entity) (m : Message) (s : Space) → Each OpensNone (coming t e m s)
coming_open t e m s = at m.schedule where
  at : (o : Option ℕ) → Each OpensNone (elim o [ Some at ↦ (if nat_lt t at then waiting e m at else entering e m s) | None ↦ entering e m s ])
  at None = delivered_open None (visits (listed s) 0 e.about (unscheduled m)) s
  at (Some moment) = go (nat_lt t moment) where
    go : (b : Bool) → Each OpensNone (if b then waiting e m moment else entering e m s)
    go true = (tt, tt)
    go false = delivered_open None (visits (listed s) 0 e.about (unscheduled m)) s

message_open : (t : ℕ) (e : Entity) (m : Message) (s : Space) → Each OpensNone (message_changes t e m s)
message_open t e m s = go (is_repeat t e m s) where
  go : (b : Bool) → Each OpensNone (if b then [] else noting e m ++ coming t e m s)
  go true = tt
  go false = each_append OpensNone (noting e m) (coming t e m s) (noting_open e m) (coming_open t e m s)

pub operation_open : (t : ℕ) (e : Entity) (o : Operation) (s : Space) → Each OpensNone (operation_changes t e o s)
operation_open t e (SendLater to messages) s = go (is_same_entity to e.about.path) where
  go : (b : Bool) → Each OpensNone (if b then send_changes t e messages s else in_turn (handed_on e to.name) t messages s)
  go true = in_turn_open (message_changes t e) t messages s (λ m s. message_open t e m s)
  go false = in_turn_open (handed_on e to.name) t messages s (λ m s. delivered_open None (passage (listed s) 0 e.about (unscheduled m) to.name) s)
operation_open t e (SettleLater from number token session how) s = at (entity_of e.about.number s) where
  found_open : (now : Entity) (o : Option StoredCopy) → Each OpensNone (settled_found s t now from how o)
  found_open now None = tt
  found_open now (Some c) = settled_open (listed s) t now from.part c how

  at : (o : Option Entity) → Each OpensNone (elim o [ Some now ↦ settled_found s t now from how (queued_copy s t now from number token) | None ↦ [] ])
  at None = tt
  at (Some now) = found_open now (queued_copy s t now from number token)

-- ---- sends: the first message that is no repeat gets a number

data StartsAt (key : LeafKey) : List Change → Type 0 where
  starts_at : (c : LeafChange) (cs : List Change) → copies_given c ≡ 1 → StartsAt key (InLeaf key c ∷ cs)

data VisitsAt (e : Listed) : List Visit → Type 0 where
  visits_at : (lot : Lot) (vs : List Visit) → VisitsAt e (visit e Main lot ∷ vs)

came_first : (onward : Onward) (hops : ℕ) (e : Listed) (m : Message) → VisitsAt e (came_to onward hops e m)
came_first onward hops e m = go (e.description.requires_session && not (has_session (cut_to e m))) e.description.forward_to where
  go : (b : Bool) (o : Option (List ℕ)) → VisitsAt e (if b then visits_dead onward hops e NoSession (cut_to e m) else elim o [ Some to ↦ visit e Main (ends Forwarded) ∷ onward e (cut_to e m) to | None ↦ visit e Main (stays hops (cut_to e m)) ∷ [] ])
  go true o = visits_at (ends DeadLettered) (buried onward hops e (for_reason NoSession (cut_to e m)))
  go false (Some to) = visits_at (ends Forwarded) (onward e (cut_to e m) to)
  go false None = visits_at (stays hops (cut_to e m)) []

visits_first : (es : List Listed) (hops : ℕ) (e : Listed) (m : Message) → VisitsAt e (visits es hops e m)
visits_first es hops e m = at e.kind where
  far : Onward
  far = transferred (max_hops - hops) es

  at : (kind : EntityKind) → VisitsAt e (elim kind [ Topic ↦ fanned (transferred (max_hops - hops) es) hops es e (cut_to e m) | Queue ↦ came_to (transferred (max_hops - hops) es) hops e m | Subscription ↦ came_to (transferred (max_hops - hops) es) hops e m ])
  at Topic = visits_at (ends Fanned) (flat_map (offered (transferred (max_hops - hops) es) hops (cut_to e m)) (subscriptions_of es e.path.name))
  at Queue = came_first (transferred (max_hops - hops) es) hops e m
  at Subscription = came_first (transferred (max_hops - hops) es) hops e m

delivered_first : (e : Entity) (vs : List Visit) (s : Space) → VisitsAt e.about vs → StartsAt (key_of Main e) (delivered None vs s)
delivered_first e _ s (visits_at lot vs) = starts_at (landing None lot) (map (visit_change (Some (last_at (key_of Main e) s + 1))) vs) (given lot) where
  given : (lot : Lot) → copies_given (landing None lot) ≡ 1
  given (stays hops m) = refl
  given (ends cause) = refl

coming_first : (t : ℕ) (e : Entity) (m : Message) (s : Space) → StartsAt (key_of Main e) (coming t e m s)
coming_first t e m s = at m.schedule where
  entering_first : StartsAt (key_of Main e) (entering e m s)
  entering_first = delivered_first e (visits (listed s) 0 e.about (unscheduled m)) s (visits_first (listed s) 0 e.about (unscheduled m))

  at : (o : Option ℕ) → StartsAt (key_of Main e) (elim o [ Some at ↦ (if nat_lt t at then waiting e m at else entering e m s) | None ↦ entering e m s ])
  at None = entering_first
  at (Some moment) = go (nat_lt t moment) where
    go : (b : Bool) → StartsAt (key_of Main e) (if b then waiting e m moment else entering e m s)
    go true = starts_at (Enters (record { seq = None; hops = 0; standing = Scheduled moment; message = unscheduled m })) [] refl
    go false = entering_first

starts_more : (t : ℕ) (key : LeafKey) (cs ds : List Change) (s : Space) (e : Entity) → entity_of key.entity s ≡ Some e → StartsAt key cs → made s < made (after_all t (cs ++ ds) s)
starts_more t key _ ds s e there (starts_at c cs given) = omega (arith, made_at t key c s e there, given, (all_grow t (cs ++ ds) (after t (InLeaf key c) s)).made_more)

noted_there : (t : ℕ) (n : ℕ) (id : List ℕ) (s : Space) (e : Entity) → entity_of n s ≡ Some e → (d : Entity) × (entity_of n (after t (Notes n id) s) ≡ Some d)
noted_there t n id s e there = (record e { ids = noted e.about.description.window id t e.ids }, found_changed (is_entity n) (λ x. record x { ids = noted x.about.description.window id t x.ids } ∷ []) e (record e { ids = noted e.about.description.window id t e.ids }) s.entities there refl (found_passes (is_entity n) e s.entities there))

message_more : (t : ℕ) (e : Entity) (m : Message) (cs : List Change) (s : Space) (d : Entity) → entity_of e.about.number s ≡ Some d → made s < made (after_all t ((noting e m ++ coming t e m s) ++ cs) s)
message_more t e m cs s d there = at e.about.description.window (text_of MessageId m) where
  at : (w : Option ℕ) (i : Option (List ℕ)) → made s < made (after_all t ((elim w [ Some window ↦ elim i [ Some id ↦ Notes e.about.number id ∷ [] | None ↦ [] ] | None ↦ [] ] ++ coming t e m s) ++ cs) s)
  at None i = starts_more t (key_of Main e) (coming t e m s) cs s d there (coming_first t e m s)
  at (Some window) None = starts_more t (key_of Main e) (coming t e m s) cs s d there (coming_first t e m s)
  at (Some window) (Some id) =
      let next = noted_there t e.about.number id s d there in
      let more = starts_more t (key_of Main e) (coming t e m s) cs (after t (Notes e.about.number id) s) next.0 next.1 (coming_first t e m s) in
      omega (arith, more, (grows t (Notes e.about.number id) s).0)

pub sends_differ : (t : ℕ) (e : Entity) (ms : List Message) (s : Space) (d : Entity) → entity_of e.about.number s ≡ Some d → after_all t (send_changes t e ms s) s ≡ s → send_changes t e ms s ≡ []
sends_differ t e [] s d there same = refl
sends_differ t e (m ∷ ms) s d there same = at (is_repeat t e m s) refl (sends_differ t e ms s d there) same where
  at : (b : Bool) → is_repeat t e m s ≡ b → (after_all t (send_changes t e ms s) s ≡ s → send_changes t e ms s ≡ [])
      → after_all t ((if b then [] else noting e m ++ coming t e m s) ++ in_turn (message_changes t e) t ms (after_all t (if b then [] else noting e m ++ coming t e m s) s)) s ≡ s
      → ((if is_repeat t e m s then [] else noting e m ++ coming t e m s) ++ in_turn (message_changes t e) t ms (after_all t (message_changes t e m s) s)) ≡ []
  at true is ih same = rw is (ih same)
  at false is ih same = absurd (omega (arith, message_more t e m (in_turn (message_changes t e) t ms (after_all t (noting e m ++ coming t e m s) s)) s d there, ap made same))

-- ---- sessions

pub living_holds : (t l : ℕ) (x : Session) → is_living_holder t l x ≡ true → is_held_under l x ≡ true
living_holds t l x is = at x.holder is where
  at : (o : Option Holder) → ◌≡◌ {A = Bool} (elim o [ Some h ↦ (h.lock == l) && nat_lt t h.until | None ↦ false ]) true → ◌≡◌ {A = Bool} (elim o [ Some h ↦ h.lock == l | None ↦ false ]) true
  at None is = absurd cc
  at (Some h) is = (two (h.lock == l) (nat_lt t h.until) is).0

-- the living holder is the only one of its lock
only_holder : (t l : ℕ) (x : Session) (xs : List Session) → Pairs HeldApart xs → find (is_living_holder t l) xs ≡ Some x → find (is_held_under l) xs ≡ Some x
only_holder t l x [] apart is = absurd cc
only_holder t l x (y ∷ ys) apart is = at (is_living_holder t l y) refl (only_holder t l x ys apart.1) where
  at : (b : Bool) → is_living_holder t l y ≡ b → (find (is_living_holder t l) ys ≡ Some x → find (is_held_under l) ys ≡ Some x) → find (is_held_under l) (y ∷ ys) ≡ Some x
  at true lives ih = rw (living_holds t l y lives) (ap (λ (z : Session). Some z) (found_here (is_living_holder t l) y x ys lives is))
  at false lives ih =
      let behind = found_behind (is_living_holder t l) y ys (Some x) lives is in
      let held : is_held_under l x ≡ true = living_holds t l x (found_passes (is_living_holder t l) x ys behind) in
      on (is_held_under l y) refl (each_found (HeldApart y) (is_living_holder t l) x ys apart.0 behind) held (ih behind) where
        on : (b : Bool) → is_held_under l y ≡ b → HeldApart y x → is_held_under l x ≡ true → find (is_held_under l) ys ≡ Some x → find (is_held_under l) (y ∷ ys) ≡ Some x
        on true of_y apart held rest = let off = apart l of_y in absurd cc
        on false of_y apart held rest = rw of_y rest

module _ (s : Space) (t : ℕ) (may : IsSweepable s) where
  o : IsOrdered s
  o = ordered s may

  pub holder_found : (part : Part) (p : Entity → Bool) (e : Entity) (token : Token) (x : Session) → find p s.entities ≡ Some e → held_session s t token (leaf_of part e) ≡ Some x → (find (is_held_under token.lock) (leaf_of part e).sessions ≡ Some x) × (is_held_under token.lock x ≡ true)
  holder_found part p e token x there held = go (token.salt == s.salt) held where
    go : (b : Bool) → (if b then find (is_living_holder t token.lock) (leaf_of part e).sessions else None) ≡ Some x → (find (is_held_under token.lock) (leaf_of part e).sessions ≡ Some x) × (is_held_under token.lock x ≡ true)
    go true is = (
      only_holder t token.lock x (leaf_of part e).sessions (leaf_each SessionsApart part e (each_found (EachLeaf SessionsApart) p e s.entities (sessions_apart s may) there)) is,
      living_holds t token.lock x (found_passes (is_living_holder t token.lock) x (leaf_of part e).sessions is),
    )
    go false is = absurd cc

  pub prolongs_differ : (part : Part) (e : Entity) (l end : ℕ) (x : Session) → entity_of e.about.number s ≡ Some e → find (is_held_under l) (leaf_of part e).sessions ≡ Some x → is_held_under l x ≡ true → lives_until end x ≡ false → after t (in_part part e (Prolongs l end)) s ≡ s → ⊥
  prolongs_differ part e l end x there found held other same =
      at x.holder held other (ap (λ (y : Session). y.holder) (one_same (is_held_under l) (λ y. record y { holder = prolonged_holder end y.holder }) x (leaf_of part e).sessions found (ap (λ (leaf : Leaf). leaf.sessions) (leaf_same t (key_of part e) (Prolongs l end) s e there same)))) where
        at : (h : Option Holder) → ◌≡◌ {A = Bool} (elim h [ Some k ↦ k.lock == l | None ↦ false ]) true → ◌≡◌ {A = Bool} (elim h [ Some k ↦ k.until == end | None ↦ false ]) false → prolonged_holder end h ≡ h → ⊥
        at None held other is = absurd cc
        at (Some k) held other is = differs k.until end other (sym (ap (λ (h : Option Holder). elim h [ Some j ↦ j.until | None ↦ 0 ]) is))

  pub writes_differ : (part : Part) (e : Entity) (l : ℕ) (bytes : Option (List ℕ)) (x : Session) → entity_of e.about.number s ≡ Some e → find (is_held_under l) (leaf_of part e).sessions ≡ Some x → is_held_under l x ≡ true → is_same_option x.state bytes ≡ false → after t (in_part part e (Writes l bytes)) s ≡ s → ⊥
  writes_differ part e l bytes x there found held other same =
      let so = changed_same (is_held_under l) (λ y. remembered (record y { state = bytes })) x (leaf_of part e).sessions found (ap (λ (leaf : Leaf). leaf.sessions) (leaf_same t (key_of part e) (Writes l bytes) s e there same)) in
      at x.holder held so.0 so.1 where
        unequal : bytes ≡ x.state → ⊥
        unequal is = let bad : true ≡ false = sym (text_same x.state) ∙ ap (λ (b : Option (List ℕ)). is_same_option x.state b) (sym is) ∙ other in absurd cc

        at : (h : Option Holder) → ◌≡◌ {A = Bool} (elim h [ Some k ↦ k.lock == l | None ↦ false ]) true → (ys : List Session) → remembered (record { id = x.id; state = bytes; holder = h }) ++ ys ≡ x ∷ ys → ⊥
        at None held ys is = absurd cc
        at (Some k) held ys is = unequal (ap (λ (y : Session). y.state) (head_is (record { id = x.id; state = bytes; holder = Some k }) x ys ys is))

  pub closes_differ : (part : Part) (e : Entity) (l : ℕ) (x : Session) → entity_of e.about.number s ≡ Some e → find (is_held_under l) (leaf_of part e).sessions ≡ Some x → is_held_under l x ≡ true → after_all t (closed s t e part l) s ≡ s → ⊥
  closes_differ part e l x there found held same = at x.holder refl held where
    carried_so : Carries Lasts LastsIn s
    carried_so = carries s may

    copies_of : (cs : List StoredCopy) → Each (IsCarried Lasts) cs → Each (IsOfTick Lasts true) (flat_map (λ c. released (listed s) t e part c false false) cs)
    copies_of cs h = each_flat (IsCarried Lasts) (IsOfTick Lasts true) (λ c. released (listed s) t e part c false false) cs
        (λ c may_go. released_mild lasts_travels (IsOfTick Lasts true) (tick_mild Lasts true) (listed s) (listed_carried Lasts LastsIn s.entities carried_so.abouts) e (each_found (λ e. LastsIn e.about) (is_entity e.about.number) e s.entities carried_so.abouts there) t part c false false may_go
        (tick_frees (key_of part e) c.number false (raised false c.count) (back_to c.standing) (back_is_free c.standing) (raised_most false c.count may_go.count))) h

    of_tick : Each (IsOfTick Lasts true) (closed s t e part l)
    of_tick = (
      tick_closes (key_of part e) l,
      copies_of (filter (λ c. is_under_session l c.standing) (leaf_of part e).copies)
          (each_filter (IsCarried Lasts) (λ c. is_under_session l c.standing) (leaf_of part e).copies (leaf_each (λ part leaf. Each (IsCarried Lasts) leaf.copies) part e (each_found (EachLeaf (λ part leaf. Each (IsCarried Lasts) leaf.copies)) (is_entity e.about.number) e s.entities carried_so.copies there))),
    )

    closes_first : list_any (closes_lock (key_of part e) l) (closed s t e part l) ≡ false → ⊥
    closes_first none = let bad : true ≡ false = rw (numbers_equal e.about.number, part_same part, numbers_equal l) at none in absurd cc

    behind : (u : ℕ) → AreHeldOn u (key_of part e) l (after_all t (closed s t e part l) s)
    behind u = held_behind Lasts t u (key_of part e) l true (closed s t e part l) s o (sessions_apart s may) of_tick (λ none. absurd (closes_first none))

    here : (u : ℕ) → is_held_under l x ≡ true → has_run_out u x ≡ false
    here u = each_found (λ y. is_held_under l y ≡ true → has_run_out u y ≡ false) (is_held_under l) x (leaf_of part e).sessions
        (each_found (λ d. d.about.number ≡ e.about.number → Each (λ y. is_held_under l y ≡ true → has_run_out u y ≡ false) (leaf_of part d).sessions) (is_entity e.about.number) e s.entities (subst (λ (now : Space). AreHeldOn u (key_of part e) l now) same (behind u)) there refl) found

    at : (h : Option Holder) → x.holder ≡ h → is_held_under l x ≡ true → ⊥
    at None is held = let bad : false ≡ true = rw is at held in absurd cc
    at (Some k) is held = let off : nat_le k.until k.until ≡ false = rw is at (here k.until held) in let on = self k.until in absurd cc where
      self : (n : ℕ) → nat_le n n ≡ true
      self n = grind (arith, nat_tests)
