-- The changes that deliver messages, and end and free copies, by settlements or not.
use Rattle.std.proofs.Common.{Bool, List, None, Option, Some, [], false, filter, map, nat_le, nat_lt, not, refl, true, ℕ, ◌&&◌, ◌++◌, ◌+◌, ◌∷◌, ◌≡◌}
use Rattle.std.specs.List.{flat_map}
use Rattle.std.specs.Prelude.{if◌then◌else◌}
use Rattle.sb_laws.proofs.Eachs.{each_append, each_implied}
use Rattle.sb_laws.proofs.Tick.{back_is_free, is_free}
use Rattle.sb_machine.specs.Changes.{after, after_all, in_turn}
use Rattle.sb_machine.specs.Delivery.{back_to, dead_for, dead_lettered, delivered, expired, in_part, is_expired, landing, raised, released, visit_change, visit_key}
use Rattle.sb_machine.specs.Due.{Item, activated, due_expired, due_locks, due_scheduled, due_sessions, due_transactions, sweep_expired, sweep_locks, sweep_scheduled, then_also, tick_changes}
use Rattle.sb_machine.specs.Each.{Each}
use Rattle.sb_machine.specs.Leases.{was_deferred}
use Rattle.sb_machine.specs.Leaves.{seq_or}
use Rattle.sb_machine.specs.Messages.{text_of}
use Rattle.sb_machine.specs.Names.{is_main, is_same_entity}
use Rattle.sb_machine.specs.Namespace.{entity_of, key_of, last_at, listed}
use Rattle.sb_machine.specs.Reasons.{for_reason, with_reason}
use Rattle.sb_machine.specs.Sending.{coming, entering, is_repeat, message_changes, noting, send_changes, unscheduled, waiting}
use Rattle.sb_machine.specs.Settlement.{settled}
use Rattle.sb_machine.specs.Transactions.{commit_changes, handed_on, operation_changes, queued_copy, settled_found}
use Rattle.sb_machine.specs.Visits.{Lot, Visit, burial, ends, passage, stays, visits}
use Rattle.sb_machine.specs.declared.call.How.{How}
use Rattle.sb_machine.specs.declared.call.How.TheVariants.{Abandon, Complete, DeadLetter, Defer}
use Rattle.sb_machine.specs.declared.call.Part.{Part}
use Rattle.sb_machine.specs.declared.call.Part.TheVariants.{Main}
use Rattle.sb_machine.specs.declared.change.Cause.{Cause}
use Rattle.sb_machine.specs.declared.change.Cause.TheVariants.{Activated, Completed, DeadLettered, Expired as ByTime}
use Rattle.sb_machine.specs.declared.change.Change.{Change}
use Rattle.sb_machine.specs.declared.change.Change.TheVariants.{Drops, InLeaf, Notes}
use Rattle.sb_machine.specs.declared.change.Fresh.{Fresh}
use Rattle.sb_machine.specs.declared.change.LeafChange.TheVariants.{Ends, Enters, Passes, Stands}
use Rattle.sb_machine.specs.declared.change.LeafKey.{LeafKey}
use Rattle.sb_machine.specs.declared.reason.DeadReason.TheVariants.{Expired, TooOften}
use Rattle.sb_machine.specs.declared.state.Entity.{Entity}
use Rattle.sb_machine.specs.declared.state.Listed.{Listed}
use Rattle.sb_machine.specs.declared.state.Operation.{Operation}
use Rattle.sb_machine.specs.declared.state.Operation.TheVariants.{Send as SendLater, Settle as SettleLater}
use Rattle.sb_machine.specs.declared.state.Space.{Space}
use Rattle.sb_machine.specs.declared.state.Standing.{Standing}
use Rattle.sb_machine.specs.declared.state.Standing.TheVariants.{Deferred, Held, Ready, Scheduled}
use Rattle.sb_machine.specs.declared.state.StoredCopy.{StoredCopy}
use Rattle.sb_machine.specs.declared.state.Transaction.{Transaction}
use Rattle.sb_model.specs.declared.message.Message.{Message}
use Rattle.sb_model.specs.declared.message.SystemName.TheVariants.{MessageId}

abbrev pub is_unheld : Standing → Bool
is_unheld Ready = true
is_unheld Deferred = true
is_unheld (Held lock hold deferred) = false
is_unheld (Scheduled at) = true

pub data IsCalm (by_settlement : Bool) : Change → Type 0 where
  calm_enters : (key : LeafKey) (fresh : Fresh) → is_unheld fresh.standing ≡ true → IsCalm by_settlement (InLeaf key (Enters fresh))
  calm_passes : (key : LeafKey) (cause : Cause) → IsCalm by_settlement (InLeaf key (Passes cause))
  calm_ends : (key : LeafKey) (n : ℕ) (cause : Cause) → IsCalm by_settlement (InLeaf key (Ends n by_settlement cause))
  calm_frees : (key : LeafKey) (n count : ℕ) (standing : Standing) → is_free standing ≡ true → IsCalm by_settlement (InLeaf key (Stands n by_settlement count standing))
  calm_notes : (n : ℕ) (id : List ℕ) → IsCalm by_settlement (Notes n id)
  calm_drops : (n : ℕ) → IsCalm by_settlement (Drops n)

-- for each item in turn
pub turns_each : {X : Type 0} (C : Change → Type 0) (f : X → Space → List Change) (t : ℕ) → ((x : X) (s : Space) → Each C (f x s)) → (xs : List X) (s : Space) → Each C (in_turn f t xs s)
turns_each C f t gives [] s = tt
turns_each C f t gives (x ∷ xs) s = each_append C (f x s) (in_turn f t xs (after_all t (f x s) s)) (gives x s) (turns_each C f t gives xs (after_all t (f x s) s))

pub flat_all : {X : Type 0} (C : Change → Type 0) (f : X → List Change) → ((x : X) → Each C (f x)) → (xs : List X) → Each C (flat_map f xs)
flat_all C f gives [] = tt
flat_all C f gives (x ∷ xs) = each_append C (f x) (flat_map f xs) (gives x) (flat_all C f gives xs)

module _ (b : Bool) where
  -- ---- visits

  visit_calm : (seq : Option ℕ) (v : Visit) → IsCalm b (visit_change seq v)
  visit_calm seq v = at v.lot where
    at : (lot : Lot) → IsCalm b (InLeaf (visit_key v) (landing seq lot))
    at (stays hops m) = calm_enters (visit_key v) (record { seq = seq; hops = hops; standing = Ready; message = m }) refl
    at (ends cause) = calm_passes (visit_key v) cause

  pub visits_calm : (seq : Option ℕ) (vs : List Visit) → Each (IsCalm b) (map (visit_change seq) vs)
  visits_calm seq [] = tt
  visits_calm seq (v ∷ vs) = (visit_calm seq v, visits_calm seq vs)

  pub delivered_calm : (seq : Option ℕ) (vs : List Visit) (s : Space) → Each (IsCalm b) (delivered seq vs s)
  delivered_calm seq [] s = tt
  delivered_calm seq (v ∷ vs) s = (visit_calm seq v, visits_calm (Some (seq_or seq (last_at (visit_key v) s + 1))) vs)

  -- ---- what is done with a copy

  dead_lettered_calm : (es : List Listed) (e : Entity) (c : StoredCopy) (m : Message) → Each (IsCalm b) (dead_lettered es e c b m)
  dead_lettered_calm es e c m = (calm_ends (key_of Main e) c.number DeadLettered, visits_calm (Some c.enqueued_seq) (burial es c.hops e.about m))

  pub expired_calm : (es : List Listed) (e : Entity) (c : StoredCopy) → Each (IsCalm b) (expired es e c b)
  expired_calm es e c = go e.about.description.dead_on_expiry where
    go : (d : Bool) → Each (IsCalm b) (if d then dead_for es e c b Expired else in_part Main e (Ends c.number b ByTime) ∷ [])
    go true = dead_lettered_calm es e c (for_reason Expired c.message)
    go false = (calm_ends (key_of Main e) c.number ByTime, tt)

  pub released_calm : (es : List Listed) (t : ℕ) (e : Entity) (part : Part) (c : StoredCopy) (raise : Bool) → Each (IsCalm b) (released es t e part c raise b)
  released_calm es t e part c raise = go (is_main part && raise && nat_le e.about.description.max_delivery (raised raise c.count)) (is_main part && not (was_deferred c.standing) && is_expired t c) where
    go : (x y : Bool) → Each (IsCalm b) (if x then dead_for es e c b TooOften else (if y then expired es e c b else in_part part e (Stands c.number b (raised raise c.count) (back_to c.standing)) ∷ []))
    go true y = dead_lettered_calm es e c (for_reason TooOften c.message)
    go false true = expired_calm es e c
    go false false = (calm_frees (key_of part e) c.number (raised raise c.count) (back_to c.standing) (back_is_free c.standing), tt)

  -- ---- sends

  entering_calm : (e : Entity) (m : Message) (s : Space) → Each (IsCalm b) (entering e m s)
  entering_calm e m s = delivered_calm None (visits (listed s) 0 e.about (unscheduled m)) s

  coming_calm : (t : ℕ) (e : Entity) (m : Message) (s : Space) → Each (IsCalm b) (coming t e m s)
  coming_calm t e m s = at m.schedule where
    at : (o : Option ℕ) → Each (IsCalm b) (elim o [ Some at ↦ (if nat_lt t at then waiting e m at else entering e m s) | None ↦ entering e m s ])
    at None = entering_calm e m s
    at (Some moment) = go (nat_lt t moment) where
      go : (x : Bool) → Each (IsCalm b) (if x then waiting e m moment else entering e m s)
      go true = (calm_enters (key_of Main e) (record { seq = None; hops = 0; standing = Scheduled moment; message = unscheduled m }) refl, tt)
      go false = entering_calm e m s

  noting_calm : (e : Entity) (m : Message) → Each (IsCalm b) (noting e m)
  noting_calm e m = at e.about.description.window (text_of MessageId m) where
    at : (w : Option ℕ) (i : Option (List ℕ)) → Each (IsCalm b) (elim w [ Some window ↦ elim i [ Some id ↦ Notes e.about.number id ∷ [] | None ↦ [] ] | None ↦ [] ])
    at None i = tt
    at (Some window) None = tt
    at (Some window) (Some id) = (calm_notes e.about.number id, tt)

  pub sends_calm : (t : ℕ) (e : Entity) (ms : List Message) (s : Space) → Each (IsCalm b) (send_changes t e ms s)
  sends_calm t e ms s = turns_each (IsCalm b) (message_changes t e) t one_message ms s where
    one_message : (m : Message) (now : Space) → Each (IsCalm b) (message_changes t e m now)
    one_message m now = go (is_repeat t e m now) where
      go : (x : Bool) → Each (IsCalm b) (if x then [] else noting e m ++ coming t e m now)
      go true = tt
      go false = each_append (IsCalm b) (noting e m) (coming t e m now) (noting_calm e m) (coming_calm t e m now)

  pub handed_calm : (t : ℕ) (e : Entity) (to : List ℕ) (ms : List Message) (s : Space) → Each (IsCalm b) (in_turn (handed_on e to) t ms s)
  handed_calm t e to ms s = turns_each (IsCalm b) (handed_on e to) t (λ m now. delivered_calm None (passage (listed now) 0 e.about (unscheduled m) to) now) ms s

-- ---- settlements and commits

pub settled_calm : (es : List Listed) (t : ℕ) (e : Entity) (part : Part) (c : StoredCopy) (how : How) → Each (IsCalm true) (settled es t e part c how)
settled_calm es t e part c Complete = (calm_ends (key_of part e) c.number Completed, tt)
settled_calm es t e part c Abandon = released_calm true es t e part c true
settled_calm es t e part c Defer = (calm_frees (key_of part e) c.number c.count Deferred refl, tt)
settled_calm es t e part c (DeadLetter reason description) = dead_lettered_calm true es e c (with_reason reason description c.message)

pub operation_calm : (t : ℕ) (e : Entity) (o : Operation) (s : Space) → Each (IsCalm true) (operation_changes t e o s)
operation_calm t e (SendLater to messages) s = go (is_same_entity to e.about.path) where
  go : (b : Bool) → Each (IsCalm true) (if b then send_changes t e messages s else in_turn (handed_on e to.name) t messages s)
  go true = sends_calm true t e messages s
  go false = handed_calm true t e to.name messages s
operation_calm t e (SettleLater from number token session how) s = at (entity_of e.about.number s) where
  at : (o : Option Entity) → Each (IsCalm true) (elim o [ Some now ↦ settled_found s t now from how (queued_copy s t now from number token) | None ↦ [] ])
  at None = tt
  at (Some now) = on (queued_copy s t now from number token) where
    on : (o : Option StoredCopy) → Each (IsCalm true) (settled_found s t now from how o)
    on None = tt
    on (Some c) = settled_calm (listed s) t now from.part c how

pub commit_calm : (t : ℕ) (e : Entity) (x : Transaction) (s : Space) → Each (IsCalm true) (commit_changes t e x s)
commit_calm t e x s = (calm_drops x.number, turns_each (IsCalm true) (operation_changes t e) t (operation_calm t e) x.operations (after t (Drops x.number) s))

-- ---- a tick: sessions are closed, and all else is calm

pub locks_calm : (t : ℕ) (s : Space) → Each (IsCalm false) (flat_map (λ i. released (listed s) t i.entity i.part i.copy true false) (due_locks t s))
locks_calm t s = flat_all (IsCalm false) (λ i. released (listed s) t i.entity i.part i.copy true false) (λ i. released_calm false (listed s) t i.entity i.part i.copy true) (due_locks t s)

later_calm : (t : ℕ) (s : Space) → Each (IsCalm false) (then_also t (sweep_expired t) (then_also t (sweep_scheduled t) (due_transactions t)) s)
later_calm t s =
    let s2 : Space = after_all t (sweep_expired t s) s in
    let s3 : Space = after_all t (sweep_scheduled t s2) s2 in
    each_append (IsCalm false) (sweep_expired t s) (then_also t (sweep_scheduled t) (due_transactions t) s2) (flat_all (IsCalm false) (λ i. expired (listed s) i.entity i.copy false) (λ i. expired_calm false (listed s) i.entity i.copy) (due_expired t s))
    (each_append (IsCalm false) (sweep_scheduled t s2) (due_transactions t s3) (turns_each (IsCalm false) activated t one_item (due_scheduled t s2) s2) (drops s3)) where
      one_item : (i : Item) (now : Space) → Each (IsCalm false) (activated i now)
      one_item i now = (calm_ends (key_of i.part i.entity) i.copy.number Activated, delivered_calm false None (visits (listed now) 0 i.entity.about i.copy.message) now)

      drops : (now : Space) → Each (IsCalm false) (due_transactions t now)
      drops now = all (filtered now) where
        filtered : Space → List Transaction
        filtered now = filter (λ x. nat_le x.deadline t) now.transactions

        all : (xs : List Transaction) → Each (IsCalm false) (map (λ x. Drops x.number) xs)
        all [] = tt
        all (x ∷ xs) = (calm_drops x.number, all xs)

-- what holds of calm changes and of the closes of a tick holds of the tick
pub tick_each : (C : Change → Type 0) (t : ℕ) (s : Space) → ((c : Change) → IsCalm false c → C c) → Each C (due_sessions t s) → Each C (tick_changes t s)
tick_each C t s calm closes =
    let s1 : Space = after_all t (sweep_locks t s) s in
    each_append C (sweep_locks t s) (then_also t (sweep_expired t) (then_also t (sweep_scheduled t) (due_transactions t)) s1)
    (each_append C (due_sessions t s) (flat_map (λ i. released (listed s) t i.entity i.part i.copy true false) (due_locks t s)) closes (each_implied (IsCalm false) C calm (flat_map (λ i. released (listed s) t i.entity i.part i.copy true false) (due_locks t s)) (locks_calm t s)))
    (each_implied (IsCalm false) C calm (then_also t (sweep_expired t) (then_also t (sweep_scheduled t) (due_transactions t)) s1) (later_calm t s1))
