-- The changes of a send: a copy enters an entity that is there, and none ends.
use Rattle.std.proofs.Common.{◌≡◌, ℕ, ◌+◌, Bool, true, false, List, [], ◌∷◌, ◌++◌, Option, Some, None, is_some, refl, sym, ◌∙◌, ap}
use Rattle.std.specs.Prelude.{nat_lt, if◌then◌else◌}
use Rattle.sb_fanout.proofs.Places.{abouts_kept, about_kept, none_listed}
use Rattle.sb_fanout.proofs.There.{both, visits_are_there}
use Rattle.sb_fanout.specs.Lasts.{is_listed}
use Rattle.sb_fanout.specs.Laws.{are_there}
use Rattle.sb_machine.specs.Changes.{after, after_all, noted}
use Rattle.sb_machine.specs.Delivery.{visit_change, visit_key, landing, carried, delivered}
use Rattle.sb_machine.specs.Leaves.{leaf_after, seq_or}
use Rattle.sb_machine.specs.Messages.{text_of}
use Rattle.sb_machine.specs.Namespace.{entity_of, key_of, last_at, leaf_of, listed, with_leaf}
use Rattle.sb_machine.specs.Sending.{coming, entering, is_repeat, message_changes, noting, send_changes, unscheduled, waiting}
use Rattle.sb_machine.specs.Visits.{Lot, Visit, ends, stays, visits}
use Rattle.sb_machine.specs.declared.call.Part.TheVariants.{Main}
use Rattle.sb_machine.specs.declared.change.Change.{Change}
use Rattle.sb_machine.specs.declared.change.Change.TheVariants.{InLeaf, Notes}
use Rattle.sb_machine.specs.declared.change.LeafChange.{LeafChange}
use Rattle.sb_machine.specs.declared.change.LeafChange.TheVariants.{Enters}
use Rattle.sb_machine.specs.declared.change.LeafKey.{LeafKey}
use Rattle.sb_machine.specs.declared.state.Entity.{Entity}
use Rattle.sb_machine.specs.declared.state.Listed.{Listed}
use Rattle.sb_machine.specs.declared.state.Space.{Space}
use Rattle.sb_machine.specs.declared.state.Standing.TheVariants.{Scheduled}
use Rattle.sb_model.specs.declared.message.Message.{Message}
use Rattle.sb_model.specs.declared.message.SystemName.TheVariants.{MessageId}
use Rattle.sb_engine.specs.Quotas.{IsCounted, IsCountedIn, AreCounted}

-- ---- changes that count, and by which no entity comes, goes or is described anew

abbrev pub Mild : ℕ → List Change → Space → Type 0
Mild t [] s = Unit {0}
Mild t (c ∷ cs) s = IsCounted c s × (listed (after t c s) ≡ listed s) × Mild t cs (after t c s)

pub mild_append : (t : ℕ) (cs ds : List Change) (s : Space) → Mild t cs s → Mild t ds (after_all t cs s) → Mild t (cs ++ ds) s
mild_append t [] ds s h k = k
mild_append t (c ∷ cs) ds s h k = (h.0, h.1, mild_append t cs ds (after t c s) h.2 k)

pub mild_listed : (t : ℕ) (cs : List Change) (s : Space) → Mild t cs s → listed (after_all t cs s) ≡ listed s
mild_listed t [] s h = refl
mild_listed t (c ∷ cs) s h = mild_listed t cs (after t c s) h.2 ∙ h.1

pub mild_counted : (t : ℕ) (cs : List Change) (s : Space) → Mild t cs s → AreCounted t cs s
mild_counted t [] s h = tt
mild_counted t (c ∷ cs) s h = (h.0, mild_counted t cs (after t c s) h.2)

-- ---- what is listed

pub listed_in_leaf : (t : ℕ) (key : LeafKey) (c : LeafChange) (s : Space) → listed (after t (InLeaf key c) s) ≡ listed s
listed_in_leaf t key c s =
    abouts_kept key.entity (λ e. with_leaf key.part (leaf_after (s.last_lock + 1) t c (leaf_of key.part e)) e) (λ e. about_kept key.part (leaf_after (s.last_lock + 1) t c (leaf_of key.part e)) e) s.entities

listed_noted : (t n : ℕ) (id : List ℕ) (s : Space) → listed (after t (Notes n id) s) ≡ listed s
listed_noted t n id s = abouts_kept n (λ e. record e { ids = noted e.about.description.window id t e.ids }) (λ e. refl) s.entities

abbrev pub IsThere : ℕ → Space → Type 0
IsThere n s = is_listed n (listed s) ≡ true

is_there : (n : ℕ) (s : Space) → IsThere n s → is_some (entity_of n s) ≡ true
is_there n s h = at (entity_of n s) refl where
  at : (o : Option Entity) → entity_of n s ≡ o → is_some (entity_of n s) ≡ true
  at None none = let clash : false ≡ true = sym (none_listed n s.entities none) ∙ h in absurd cc
  at (Some e) found = ap (λ (o : Option Entity). is_some o) found

-- ---- visits

one_counted : (seq : Option ℕ) (v : Visit) (s : Space) → IsThere v.entity s → IsCounted (visit_change seq v) s
one_counted seq v s there = at v.lot where
  at : (lot : Lot) → IsCountedIn (visit_key v) (landing seq lot) s
  at (stays hops m) = is_there v.entity s there
  at (ends cause) = tt

pub mild_carried : (t seq : ℕ) (vs : List Visit) (s : Space) → are_there (listed s) vs ≡ true → Mild t (carried seq vs) s
mild_carried t seq [] s there = tt
mild_carried t seq (v ∷ vs) s there =
    let its = both (is_listed v.entity (listed s)) (are_there (listed s) vs) there in
    let kept = listed_in_leaf t (visit_key v) (landing (Some seq) v.lot) s in
    (one_counted (Some seq) v s its.0, kept, mild_carried t seq vs (after t (visit_change (Some seq) v) s) (ap (λ (es : List Listed). are_there es vs) kept ∙ its.1))

-- as numbers of another namespace would have them
pub mild_delivered : (t : ℕ) (seq : Option ℕ) (vs : List Visit) (read s : Space) → are_there (listed s) vs ≡ true → Mild t (delivered seq vs read) s
mild_delivered t seq [] read s there = tt
mild_delivered t seq (v ∷ vs) read s there =
    let its = both (is_listed v.entity (listed s)) (are_there (listed s) vs) there in
    let kept = listed_in_leaf t (visit_key v) (landing seq v.lot) s in
    (one_counted seq v s its.0, kept, mild_carried t (seq_or seq (last_at (visit_key v) read + 1)) vs (after t (visit_change seq v) s) (ap (λ (es : List Listed). are_there es vs) kept ∙ its.1))

-- ---- one message

mild_noting : (t : ℕ) (e : Entity) (m : Message) (s : Space) → Mild t (noting e m) s
mild_noting t e m s = at e.about.description.window (text_of MessageId m) where
  at : (window : Option ℕ) (id : Option (List ℕ)) → Mild t (elim window [ Some w ↦ elim id [ Some x ↦ Notes e.about.number x ∷ [] | None ↦ [] ] | None ↦ [] ]) s
  at None id = tt
  at (Some w) None = tt
  at (Some w) (Some x) = (tt, listed_noted t e.about.number x s, tt)

mild_entering : (t : ℕ) (e : Entity) (m : Message) (read s : Space) → listed s ≡ listed read → IsThere e.about.number read → Mild t (entering e m read) s
mild_entering t e m read s same there =
    mild_delivered t None (visits (listed read) 0 e.about (unscheduled m)) read s
    (ap (λ (es : List Listed). are_there es (visits (listed read) 0 e.about (unscheduled m))) same ∙ visits_are_there.entering (listed read) 0 e.about (unscheduled m) there)

mild_waiting : (t : ℕ) (e : Entity) (m : Message) (moment : ℕ) (s : Space) → IsThere e.about.number s → Mild t (waiting e m moment) s
mild_waiting t e m moment s there = (is_there e.about.number s there, listed_in_leaf t (key_of Main e) (Enters (record { seq = None; hops = 0; standing = Scheduled moment; message = unscheduled m })) s, tt)

mild_coming : (t : ℕ) (e : Entity) (m : Message) (read s : Space) → listed s ≡ listed read → IsThere e.about.number read → Mild t (coming t e m read) s
mild_coming t e m read s same there = at m.schedule where
  late : (moment : ℕ) (b : Bool) → Mild t (if b then waiting e m moment else entering e m read) s
  late moment true = mild_waiting t e m moment s (ap (λ (es : List Listed). is_listed e.about.number es) same ∙ there)
  late moment false = mild_entering t e m read s same there

  at : (schedule : Option ℕ) → Mild t (elim schedule [ Some moment ↦ (if nat_lt t moment then waiting e m moment else entering e m read) | None ↦ entering e m read ]) s
  at (Some moment) = late moment (nat_lt t moment)
  at None = mild_entering t e m read s same there

mild_message : (t : ℕ) (e : Entity) (m : Message) (s : Space) → IsThere e.about.number s → Mild t (message_changes t e m s) s
mild_message t e m s there = at (is_repeat t e m s) where
  at : (b : Bool) → Mild t (if b then [] else noting e m ++ coming t e m s) s
  at true = tt
  at false = mild_append t (noting e m) (coming t e m s) s (mild_noting t e m s) (mild_coming t e m s (after_all t (noting e m) s) (mild_listed t (noting e m) s (mild_noting t e m s)) there)

-- ---- all messages of a send

pub mild_sends : (t : ℕ) (e : Entity) (ms : List Message) (s : Space) → IsThere e.about.number s → Mild t (send_changes t e ms s) s
mild_sends t e [] s there = tt
mild_sends t e (m ∷ ms) s there =
    let one = mild_message t e m s there in
    let now = after_all t (message_changes t e m s) s in
    mild_append t (message_changes t e m s) (send_changes t e ms now) s one
    (mild_sends t e ms now (ap (λ (es : List Listed). is_listed e.about.number es) (mild_listed t (message_changes t e m s) s one) ∙ there))

pub sends_are_counted : (t : ℕ) (e : Entity) (ms : List Message) (s : Space) → IsThere e.about.number s → AreCounted t (send_changes t e ms s) s
sends_are_counted t e ms s there = mild_counted t (send_changes t e ms s) s (mild_sends t e ms s there)
