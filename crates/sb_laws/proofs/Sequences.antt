-- Each copy's EnqueuedSequenceNumber is one that was given.
use Rattle.std.proofs.Common.{Bool, List, None, Option, Some, [], arith, false, filter, map, nat_le, refl, true, ℕ, ◌&&◌, ◌+◌, ◌++◌, ◌==◌, ◌∷◌, ◌≡◌, ◌≤◌}
use Rattle.std.specs.Prelude.{find, if◌then◌else◌, nat_lt, not}
use Rattle.std.specs.List.{flat_map}
use Rattle.std.proofs.lemmas.List.Sums.{sum_by-append, sum_by-cons}
use Rattle.sb_laws.proofs.Carrying.{each_flat, each_item_in}
use Rattle.sb_laws.proofs.Eachs.{each_append, each_changed, each_found, each_implied, each_of_all}
use Rattle.sb_laws.proofs.Entities.{EachLeaf, KeepsLeaf, leaf_each, leaves_keep}
use Rattle.sb_laws.proofs.Measures.{all_grow, grows}
use Rattle.sb_laws.proofs.OwnLocks.{found_sum}
use Rattle.sb_machine.specs.Changes.{after, after_all, in_turn, numbers_given, numbers_in}
use Rattle.sb_machine.specs.Delivery.{dead_for, dead_lettered, delivered, expired, in_part, is_expired, landing, raised, back_to, released, visit_change, visit_key}
use Rattle.sb_machine.specs.Due.{activated, closes_due, closes_in, due_expired, due_locks, due_scheduled, due_sessions, due_transactions, items_in, items_of, sweep_expired, sweep_locks, sweep_scheduled, then_also, tick_changes}
use Rattle.sb_machine.specs.Each.{Each, IfSome}
use Rattle.sb_machine.specs.Keyed.{changed}
use Rattle.sb_machine.specs.Leases.{has_ended, is_living, is_named, is_ready, was_deferred}
use Rattle.sb_machine.specs.Leaves.{has_number, is_deferred, leaf_after, prolonged_standing, seq_or, stored}
use Rattle.sb_machine.specs.Messages.{text_of}
use Rattle.sb_machine.specs.Names.{is_main, is_same_entity}
use Rattle.sb_machine.specs.Namespace.{entity_of, is_entity, last_at, last_in, leaf_of, listed, made, made_in}
use Rattle.sb_machine.specs.Reasons.{for_reason, with_reason}
use Rattle.sb_machine.specs.Sending.{coming, entering, is_repeat, message_changes, noting, send_changes, unscheduled, waiting}
use Rattle.sb_machine.specs.Settlement.{settled}
use Rattle.sb_machine.specs.Transactions.{commit_changes, handed_on, operation_changes, queued_copy, settled_found}
use Rattle.sb_machine.specs.Visits.{Lot, Visit, burial, ends, passage, stays, visits}
use Rattle.sb_machine.specs.declared.call.How.{How}
use Rattle.sb_machine.specs.declared.call.How.TheVariants.{Abandon, Complete, DeadLetter, Defer}
use Rattle.sb_machine.specs.declared.call.Part.{Part}
use Rattle.sb_machine.specs.declared.call.Part.TheVariants.{Dead, Main, Transfer}
use Rattle.sb_machine.specs.declared.call.Which.TheVariants.{Number}
use Rattle.sb_machine.specs.declared.change.Cause.TheVariants.{Expired as ByTime}
use Rattle.sb_machine.specs.declared.change.Change.{Change}
use Rattle.sb_machine.specs.declared.change.Change.TheVariants.{AddsRule, Begins, Drops, DropsRule, InLeaf, Makes, Notes, Queues, Removes}
use Rattle.sb_machine.specs.declared.change.LeafChange.{LeafChange}
use Rattle.sb_machine.specs.declared.change.LeafChange.TheVariants.{Closes, Ends, Enters, Holds, Opens, Passes, Prolongs, Renews, Stands, Writes}
use Rattle.sb_machine.specs.declared.change.LeafKey.{LeafKey}
use Rattle.sb_machine.specs.declared.reason.DeadReason.TheVariants.{Expired, TooOften}
use Rattle.sb_machine.specs.declared.state.Entity.{Entity}
use Rattle.sb_machine.specs.declared.state.Holder.{Holder}
use Rattle.sb_machine.specs.declared.state.Leaf.{Leaf}
use Rattle.sb_machine.specs.declared.state.Listed.{Listed}
use Rattle.sb_machine.specs.declared.state.Operation.{Operation}
use Rattle.sb_machine.specs.declared.state.Operation.TheVariants.{Send as SendLater, Settle as SettleLater}
use Rattle.sb_machine.specs.declared.state.Session.{Session}
use Rattle.sb_machine.specs.declared.state.Space.{Space}
use Rattle.sb_machine.specs.declared.state.Standing.TheVariants.{Held}
use Rattle.sb_machine.specs.declared.state.StoredCopy.{StoredCopy}
use Rattle.sb_machine.specs.declared.state.Transaction.{Transaction}
use Rattle.sb_model.specs.declared.message.Message.{Message}
use Rattle.sb_model.specs.declared.message.SystemName.TheVariants.{MessageId}

module _ (most : ℕ) where
  abbrev pub IsSeq : ℕ → Type 0
  IsSeq n = (1 ≤ n) × (n ≤ most)

  abbrev pub HasSeq : StoredCopy → Type 0
  HasSeq c = IsSeq c.enqueued_seq

  abbrev pub SeqsIn : Part → Leaf → Type 0
  SeqsIn part leaf = Each HasSeq leaf.copies

  -- each copy's EnqueuedSequenceNumber is in range
  abbrev pub AreSeqs : Space → Type 0
  AreSeqs s = Each (EachLeaf SeqsIn) s.entities

  -- a change brings numbers in range alone
  abbrev pub BringsSeq : Change → Type 0
  BringsSeq (InLeaf key (Enters fresh)) = IfSome fresh.seq IsSeq
  BringsSeq _ = Unit {0}

  -- ---- one change

  last_made : (part : Part) (p : Entity → Bool) (e : Entity) (s : Space) → find p s.entities ≡ Some e → (leaf_of part e).last ≤ made s
  last_made part p e s there = let in_all = found_sum made_in p e s.entities there in omega (arith, in_all, within part) where
    within : (part : Part) → (leaf_of part e).last ≤ made_in e
    within Main = omega arith
    within Dead = omega arith
    within Transfer = omega arith

  kept : (n : ℕ) (g : StoredCopy → StoredCopy) (leaf : Leaf) → ((c : StoredCopy) → HasSeq c → HasSeq (g c)) → Each HasSeq leaf.copies → Each HasSeq (changed (has_number n) (λ c. g c ∷ []) leaf.copies)
  kept n g leaf keeps h = each_changed HasSeq (has_number n) (λ c. g c ∷ []) leaf.copies (λ c there p. (keeps c p, tt)) h

  given_seq : (o : Option ℕ) (n : ℕ) → IfSome o IsSeq → IsSeq n → IsSeq (seq_or o n)
  given_seq None n h k = k
  given_seq (Some seq) n h k = h

  leaf_seqs : (lock t : ℕ) (key : LeafKey) (c : LeafChange) (leaf : Leaf) → BringsSeq (InLeaf key c) → leaf.last + numbers_in (InLeaf key c) ≤ most → Each HasSeq leaf.copies → Each HasSeq (leaf_after lock t c leaf).copies
  leaf_seqs lock t key (Enters fresh) leaf brings few h = each_append HasSeq leaf.copies (stored (leaf.last + 1) t fresh ∷ []) h (given_seq fresh.seq (leaf.last + 1) brings (omega arith, omega (arith, few)), tt)
  leaf_seqs lock t key (Passes cause) leaf brings few h = h
  leaf_seqs lock t key (Ends n by_settlement cause) leaf brings few h = each_changed HasSeq (has_number n) (λ c. []) leaf.copies (λ c there p. tt) h
  leaf_seqs lock t key (Holds n hold) leaf brings few h = kept n (λ c. record c { standing = Held lock hold (is_deferred c.standing) }) leaf (λ c p. p) h
  leaf_seqs lock t key (Stands n by_settlement count standing) leaf brings few h = kept n (λ c. record c { count = count; standing = standing }) leaf (λ c p. p) h
  leaf_seqs lock t key (Renews n until) leaf brings few h = kept n (λ c. record c { standing = prolonged_standing until c.standing }) leaf (λ c p. p) h
  leaf_seqs lock t key (Opens id until) leaf brings few h = h
  leaf_seqs lock t key (Closes l) leaf brings few h = h
  leaf_seqs lock t key (Prolongs l until) leaf brings few h = h
  leaf_seqs lock t key (Writes l state) leaf brings few h = h

  seq_step : (t : ℕ) (c : Change) (s : Space) → BringsSeq c → made s + numbers_in c ≤ most → AreSeqs s → AreSeqs (after t c s)
  seq_step t c s brings few h = leaves_keep SeqsIn t c s (by c brings few) h where
    by : (c : Change) → BringsSeq c → made s + numbers_in c ≤ most → KeepsLeaf SeqsIn t c s
    by (InLeaf key c) brings few = λ e there h. leaf_seqs (s.last_lock + 1) t key c (leaf_of key.part e) brings (omega (arith, few, last_made key.part (is_entity key.entity) e s there)) h
    by (Makes kind path description rules) brings few = λ part. tt
    by (Notes n id) brings few = tt
    by (AddsRule n rule) brings few = tt
    by (DropsRule n name) brings few = tt
    by (Removes n) brings few = tt
    by (Begins n deadline) brings few = tt
    by (Queues n deadline operation) brings few = tt
    by (Drops n) brings few = tt

  pub seqs_all : (t : ℕ) (cs : List Change) (s : Space) → Each BringsSeq cs → made s + numbers_given cs ≤ most → AreSeqs s → AreSeqs (after_all t cs s)
  seqs_all t [] s brings few h = h
  seqs_all t (c ∷ cs) s brings few h =
      let more = sum_by-cons numbers_in c cs in
      let grown = (grows t c s).1 in
      seqs_all t cs (after t c s) brings.1 (omega (arith, few, more, grown)) (seq_step t c s brings.0 (omega (arith, few, more)) h)

  -- ---- deliveries

  visit_seq : (o : Option ℕ) (v : Visit) → IfSome o IsSeq → BringsSeq (visit_change o v)
  visit_seq o v h = at v.lot where
    at : (lot : Lot) → BringsSeq (InLeaf (visit_key v) (landing o lot))
    at (stays hops m) = h
    at (ends cause) = tt

  all_seq : (n : ℕ) (vs : List Visit) → IsSeq n → Each BringsSeq (map (visit_change (Some n)) vs)
  all_seq n [] h = tt
  all_seq n (v ∷ vs) h = (visit_seq (Some n) v h, all_seq n vs h)

  visit_gives : (o : Option ℕ) (v : Visit) → numbers_in (visit_change o v) ≡ 1
  visit_gives o v = at v.lot where
    at : (lot : Lot) → numbers_in (InLeaf (visit_key v) (landing o lot)) ≡ 1
    at (stays hops m) = refl
    at (ends cause) = refl

  last_few : (key : LeafKey) (s : Space) → last_at key s ≤ made s
  last_few key s = at (entity_of key.entity s) refl where
    at : (o : Option Entity) → entity_of key.entity s ≡ o → last_in key.part o ≤ made s
    at None is = omega arith
    at (Some e) is = last_made key.part (is_entity key.entity) e s is

  delivered_seq : (vs : List Visit) (s : Space) → made s + numbers_given (delivered None vs s) ≤ most → Each BringsSeq (delivered None vs s)
  delivered_seq [] s few = tt
  delivered_seq (v ∷ vs) s few =
      let first = sum_by-cons numbers_in (visit_change None v) (map (visit_change (Some (last_at (visit_key v) s + 1))) vs) in
      (visit_seq None v tt, all_seq (last_at (visit_key v) s + 1) vs (omega arith, omega (arith, few, first, visit_gives None v, last_few (visit_key v) s)))

  dead_seq : (es : List Listed) (e : Entity) (c : StoredCopy) (by_settlement : Bool) (m : Message) → HasSeq c → Each BringsSeq (dead_lettered es e c by_settlement m)
  dead_seq es e c by_settlement m has = (tt, all_seq c.enqueued_seq (burial es c.hops e.about m) has)

  pub expired_seq : (es : List Listed) (e : Entity) (c : StoredCopy) (by_settlement : Bool) → HasSeq c → Each BringsSeq (expired es e c by_settlement)
  expired_seq es e c by_settlement has = go e.about.description.dead_on_expiry where
    go : (b : Bool) → Each BringsSeq (if b then dead_for es e c by_settlement Expired else in_part Main e (Ends c.number by_settlement ByTime) ∷ [])
    go true = dead_seq es e c by_settlement (for_reason Expired c.message) has
    go false = (tt, tt)

  pub released_seq : (es : List Listed) (t : ℕ) (e : Entity) (part : Part) (c : StoredCopy) (raise by_settlement : Bool) → HasSeq c → Each BringsSeq (released es t e part c raise by_settlement)
  released_seq es t e part c raise by_settlement has = go (is_main part && raise && nat_le e.about.description.max_delivery (raised raise c.count)) (is_main part && not (was_deferred c.standing) && is_expired t c) where
    go : (a b : Bool) → Each BringsSeq (if a then dead_for es e c by_settlement TooOften else (if b then expired es e c by_settlement else in_part part e (Stands c.number by_settlement (raised raise c.count) (back_to c.standing)) ∷ []))
    go true b = dead_seq es e c by_settlement (for_reason TooOften c.message) has
    go false true = expired_seq es e c by_settlement has
    go false false = (tt, tt)

  pub settled_seq : (es : List Listed) (t : ℕ) (e : Entity) (part : Part) (c : StoredCopy) (how : How) → HasSeq c → Each BringsSeq (settled es t e part c how)
  settled_seq es t e part c Complete has = (tt, tt)
  settled_seq es t e part c Abandon has = released_seq es t e part c true true has
  settled_seq es t e part c Defer has = (tt, tt)
  settled_seq es t e part c (DeadLetter reason description) has = dead_seq es e c true (with_reason reason description c.message) has

  -- ---- one after another

  given_append : (xs ys : List Change) → numbers_given (xs ++ ys) ≡ numbers_given xs + numbers_given ys
  given_append xs ys = sum_by-append numbers_in xs ys

  turns_seq : {X : Type 0} (f : X → Space → List Change) (t : ℕ) → ((x : X) (s : Space) → AreSeqs s → made s + numbers_given (f x s) ≤ most → Each BringsSeq (f x s))
      → (xs : List X) (s : Space) → AreSeqs s → made s + numbers_given (in_turn f t xs s) ≤ most → Each BringsSeq (in_turn f t xs s)
  turns_seq f t gives [] s h few = tt
  turns_seq f t gives (x ∷ xs) s h few =
      let both = given_append (f x s) (in_turn f t xs (after_all t (f x s) s)) in
      let here : made s + numbers_given (f x s) ≤ most = omega (arith, few, both) in
      let first = gives x s h here in
      let grown = (all_grow t (f x s) s).made_most in
      each_append BringsSeq (f x s) (in_turn f t xs (after_all t (f x s) s)) first (turns_seq f t gives xs (after_all t (f x s) s) (seqs_all t (f x s) s first here h) (omega (arith, few, both, grown)))

  noting_seq : (e : Entity) (m : Message) → Each BringsSeq (noting e m) × (numbers_given (noting e m) ≡ 0)
  noting_seq e m = at e.about.description.window (text_of MessageId m) where
    at : (w : Option ℕ) (i : Option (List ℕ)) → Each BringsSeq (elim w [ Some window ↦ elim i [ Some id ↦ Notes e.about.number id ∷ [] | None ↦ [] ] | None ↦ [] ]) × (numbers_given (elim w [ Some window ↦ elim i [ Some id ↦ Notes e.about.number id ∷ [] | None ↦ [] ] | None ↦ [] ]) ≡ 0)
    at None i = (tt, refl)
    at (Some window) None = (tt, refl)
    at (Some window) (Some id) = ((tt, tt), refl)

  coming_seq : (t : ℕ) (e : Entity) (m : Message) (s : Space) → made s + numbers_given (coming t e m s) ≤ most → Each BringsSeq (coming t e m s)
  coming_seq t e m s few = at m.schedule few where
    at : (o : Option ℕ) → made s + numbers_given (elim o [ Some at ↦ (if nat_lt t at then waiting e m at else entering e m s) | None ↦ entering e m s ]) ≤ most → Each BringsSeq (elim o [ Some at ↦ (if nat_lt t at then waiting e m at else entering e m s) | None ↦ entering e m s ])
    at None few = delivered_seq (visits (listed s) 0 e.about (unscheduled m)) s few
    at (Some moment) few = go (nat_lt t moment) few where
      go : (b : Bool) → made s + numbers_given (if b then waiting e m moment else entering e m s) ≤ most → Each BringsSeq (if b then waiting e m moment else entering e m s)
      go true few = (tt, tt)
      go false few = delivered_seq (visits (listed s) 0 e.about (unscheduled m)) s few

  message_seq : (t : ℕ) (e : Entity) (m : Message) (s : Space) → AreSeqs s → made s + numbers_given (message_changes t e m s) ≤ most → Each BringsSeq (message_changes t e m s)
  message_seq t e m s h few = go (is_repeat t e m s) few where
    go : (b : Bool) → made s + numbers_given (if b then [] else noting e m ++ coming t e m s) ≤ most → Each BringsSeq (if b then [] else noting e m ++ coming t e m s)
    go true few = tt
    go false few = let notes = noting_seq e m in let both = given_append (noting e m) (coming t e m s) in each_append BringsSeq (noting e m) (coming t e m s) notes.0 (coming_seq t e m s (omega (arith, few, both)))

  pub sends_seq : (t : ℕ) (e : Entity) (ms : List Message) (s : Space) → AreSeqs s → made s + numbers_given (send_changes t e ms s) ≤ most → Each BringsSeq (send_changes t e ms s)
  sends_seq t e ms s h few = turns_seq (message_changes t e) t (message_seq t e) ms s h few

  pub found_seq : (p : Entity → Bool) (e : Entity) (part : Part) (q : StoredCopy → Bool) (c : StoredCopy) (s : Space) → AreSeqs s → find p s.entities ≡ Some e → find q (leaf_of part e).copies ≡ Some c → HasSeq c
  found_seq p e part q c s h there found = each_found HasSeq q c (leaf_of part e).copies (leaf_each SeqsIn part e (each_found (EachLeaf SeqsIn) p e s.entities h there)) found

  operation_seq : (t : ℕ) (e : Entity) (o : Operation) (s : Space) → AreSeqs s → made s + numbers_given (operation_changes t e o s) ≤ most → Each BringsSeq (operation_changes t e o s)
  operation_seq t e (SendLater to messages) s h few = go (is_same_entity to e.about.path) few where
    go : (b : Bool) → made s + numbers_given (if b then send_changes t e messages s else in_turn (handed_on e to.name) t messages s) ≤ most → Each BringsSeq (if b then send_changes t e messages s else in_turn (handed_on e to.name) t messages s)
    go true few = sends_seq t e messages s h few
    go false few = turns_seq (handed_on e to.name) t (λ m now is few. delivered_seq (passage (listed now) 0 e.about (unscheduled m) to.name) now few) messages s h few
  operation_seq t e (SettleLater from number token session how) s h few = at (entity_of e.about.number s) refl where
    on : (now : Entity) (o : Option StoredCopy) → ((c : StoredCopy) → o ≡ Some c → HasSeq c) → Each BringsSeq (settled_found s t now from how o)
    on now None has = tt
    on now (Some c) has = settled_seq (listed s) t now from.part c how (has c refl)

    at : (o : Option Entity) → entity_of e.about.number s ≡ o → Each BringsSeq (elim o [ Some now ↦ settled_found s t now from how (queued_copy s t now from number token) | None ↦ [] ])
    at None there = tt
    at (Some now) there = on now (queued_copy s t now from number token) (λ c is. salted (token.salt == s.salt) c is) where
      salted : (b : Bool) (c : StoredCopy) → (if b then find (λ d. is_living t (leaf_of from.part now).sessions token.lock d.standing && is_named (Number number) d) (leaf_of from.part now).copies else None) ≡ Some c → HasSeq c
      salted true c is = found_seq (is_entity e.about.number) now from.part _ c s h there is
      salted false c is = absurd cc

  pub commit_seq : (t : ℕ) (e : Entity) (x : Transaction) (s : Space) → AreSeqs s → made s + numbers_given (commit_changes t e x s) ≤ most → Each BringsSeq (commit_changes t e x s)
  commit_seq t e x s h few = (tt, turns_seq (operation_changes t e) t (operation_seq t e) x.operations (after t (Drops x.number) s) h few)

  -- ---- items of a tick

  item_seqs : (p : Leaf → StoredCopy → Bool) (e : Entity) (part : Part) → EachLeaf SeqsIn e → Each (λ i. HasSeq i.copy) (items_in p e part)
  item_seqs p e part h = each_item_in p (λ i. HasSeq i.copy) e part (each_implied HasSeq (λ c. p (leaf_of part e) c ≡ true → HasSeq c) (λ c has is. has) (leaf_of part e).copies (leaf_each SeqsIn part e h))

  all_item_seqs : (p : Leaf → StoredCopy → Bool) (s : Space) → AreSeqs s → Each (λ i. HasSeq i.copy) (flat_map (items_of p) s.entities)
  all_item_seqs p s h = each_flat (EachLeaf SeqsIn) (λ i. HasSeq i.copy) (items_of p) s.entities
      (λ e is. each_append (λ i. HasSeq i.copy) (items_in p e Main ++ items_in p e Dead) (items_in p e Transfer) (each_append (λ i. HasSeq i.copy) (items_in p e Main) (items_in p e Dead) (item_seqs p e Main is) (item_seqs p e Dead is)) (item_seqs p e Transfer is)) h

  closes_seq : (t : ℕ) (e : Entity) (part : Part) (xs : List Session) → Each BringsSeq (flat_map (λ x. closes_due t e part x.holder) xs)
  closes_seq t e part [] = tt
  closes_seq t e part (x ∷ xs) = each_append BringsSeq (closes_due t e part x.holder) (flat_map (λ x. closes_due t e part x.holder) xs) (at x.holder) (closes_seq t e part xs) where
    at : (o : Option Holder) → Each BringsSeq (closes_due t e part o)
    at None = tt
    at (Some h) = go (nat_le h.until t) where
      go : (b : Bool) → Each BringsSeq (if b then in_part part e (Closes h.lock) ∷ [] else [])
      go true = (tt, tt)
      go false = tt

  sessions_seq : (t : ℕ) (s : Space) → Each BringsSeq (due_sessions t s)
  sessions_seq t s = each_flat (λ e. Unit {0}) BringsSeq (λ e. closes_in t e Main ++ closes_in t e Dead ++ closes_in t e Transfer) s.entities
      (λ e any. each_append BringsSeq (closes_in t e Main ++ closes_in t e Dead) (closes_in t e Transfer) (each_append BringsSeq (closes_in t e Main) (closes_in t e Dead) (closes_seq t e Main e.main.sessions) (closes_seq t e Dead e.dead.sessions)) (closes_seq t e Transfer e.transfer.sessions))
      (each_of_all (λ e. Unit {0}) (λ e. tt) s.entities)

  locks_seq : (t : ℕ) (s : Space) → AreSeqs s → Each BringsSeq (sweep_locks t s)
  locks_seq t s h = each_append BringsSeq (due_sessions t s) (flat_map (λ i. released (listed s) t i.entity i.part i.copy true false) (due_locks t s)) (sessions_seq t s)
      (each_flat (λ i. HasSeq i.copy) BringsSeq (λ i. released (listed s) t i.entity i.part i.copy true false) (due_locks t s) (λ i has. released_seq (listed s) t i.entity i.part i.copy true false has) (all_item_seqs (λ leaf c. has_ended t leaf.sessions c.standing) s h))

  old_seq : (t : ℕ) (s : Space) → AreSeqs s → Each BringsSeq (sweep_expired t s)
  old_seq t s h = each_flat (λ i. HasSeq i.copy) BringsSeq (λ i. expired (listed s) i.entity i.copy false) (due_expired t s) (λ i has. expired_seq (listed s) i.entity i.copy false has)
      (each_flat (EachLeaf SeqsIn) (λ i. HasSeq i.copy) (λ e. items_in (λ leaf c. is_ready c.standing && is_expired t c) e Main) s.entities (λ e is. item_seqs (λ leaf c. is_ready c.standing && is_expired t c) e Main is) h)

  come_seq : (t : ℕ) (s : Space) → AreSeqs s → made s + numbers_given (sweep_scheduled t s) ≤ most → Each BringsSeq (sweep_scheduled t s)
  come_seq t s h few = turns_seq activated t (λ i now is few. (tt, delivered_seq (visits (listed now) 0 i.entity.about i.copy.message) now few)) (due_scheduled t s) s h few

  drops_seq : (xs : List Transaction) → Each BringsSeq (map (λ x. Drops x.number) xs)
  drops_seq [] = tt
  drops_seq (x ∷ xs) = (tt, drops_seq xs)

  pub tick_seq : (t : ℕ) (s : Space) → AreSeqs s → made s + numbers_given (tick_changes t s) ≤ most → Each BringsSeq (tick_changes t s)
  tick_seq t s h few =
      let a = sweep_locks t s in
      let s1 : Space = after_all t (sweep_locks t s) s in
      let rest1 = then_also t (sweep_expired t) (then_also t (sweep_scheduled t) (due_transactions t)) s1 in
      let sum1 = given_append (sweep_locks t s) (then_also t (sweep_expired t) (then_also t (sweep_scheduled t) (due_transactions t)) s1) in
      let brings1 = locks_seq t s h in
      let few1 : made s + numbers_given (sweep_locks t s) ≤ most = omega (arith, few, sum1) in
      let h1 : AreSeqs s1 = seqs_all t (sweep_locks t s) s brings1 few1 h in
      let grown1 = (all_grow t (sweep_locks t s) s).made_most in
      let s2 : Space = after_all t (sweep_expired t s1) s1 in
      let sum2 = given_append (sweep_expired t s1) (then_also t (sweep_scheduled t) (due_transactions t) s2) in
      let brings2 = old_seq t s1 h1 in
      let few2 : made s1 + numbers_given (sweep_expired t s1) ≤ most = omega (arith, few, sum1, sum2, grown1) in
      let h2 : AreSeqs s2 = seqs_all t (sweep_expired t s1) s1 brings2 few2 h1 in
      let grown2 = (all_grow t (sweep_expired t s1) s1).made_most in
      let s3 : Space = after_all t (sweep_scheduled t s2) s2 in
      let sum3 = given_append (sweep_scheduled t s2) (due_transactions t s3) in
      let few3 : made s2 + numbers_given (sweep_scheduled t s2) ≤ most = omega (arith, few, sum1, sum2, sum3, grown1, grown2) in
      each_append BringsSeq (sweep_locks t s) (then_also t (sweep_expired t) (then_also t (sweep_scheduled t) (due_transactions t)) s1) brings1
      (each_append BringsSeq (sweep_expired t s1) (then_also t (sweep_scheduled t) (due_transactions t) s2) brings2
      (each_append BringsSeq (sweep_scheduled t s2) (due_transactions t s3) (come_seq t s2 h2 few3) (drops_seq (filter (λ x. nat_le x.deadline t) s3.transactions))))
