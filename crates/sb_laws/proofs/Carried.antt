-- What the changes of calls are made of, and that messages and descriptions keep what they are to have.
use Rattle.std.proofs.Common.{Bool, List, None, Option, Some, [], arith, false, filter, nat_lt, not, refl, rules, true, ℕ, ◌&&◌, ◌++◌, ◌+◌, ◌<◌, ◌==◌, ◌∷◌, ◌≡◌, ◌≤◌}
use Rattle.std.proofs.lemmas.Bool.Decides.{nat_tests}
use Rattle.std.specs.Prelude.{find, if◌then◌else◌}
use Rattle.sb_laws.proofs.Carrying.{Brings, Carries, each_flat, each_in_turn, listed_carried, stays_carried}
use Rattle.sb_laws.proofs.Eachs.{each_append, each_changed, each_filter, each_found}
use Rattle.sb_laws.proofs.Entities.{EachLeaf, leaf_each}
use Rattle.sb_laws.proofs.Locking.{FreesLocks}
use Rattle.sb_laws.proofs.Mild.{IsCarried, IsMild, dead_lettered_mild, delivered_mild, expired_mild, raised_most, released_mild}
use Rattle.sb_laws.proofs.Tick.{IsOfTick, back_is_free, is_free, tick_closes, tick_drops, tick_ends, tick_enters, tick_frees, tick_passes}
use Rattle.sb_laws.proofs.Visiting.{Travels, passage_holds, visits_hold}
use Rattle.sb_machine.specs.Changes.{after, in_turn, is_transaction, with_operation}
use Rattle.sb_machine.specs.Delivery.{back_to, expired, max_count, raised, released}
use Rattle.sb_machine.specs.Each.{Each, has_lock}
use Rattle.sb_machine.specs.Fields.{bad_in_how}
use Rattle.sb_machine.specs.Leases.{is_living, is_named, is_under_session}
use Rattle.sb_machine.specs.Messages.{text_of}
use Rattle.sb_machine.specs.Names.{is_same_entity}
use Rattle.sb_machine.specs.Namespace.{entity_of, is_entity, key_of, leaf_of, listed}
use Rattle.sb_machine.specs.Reasons.{with_reason}
use Rattle.sb_machine.specs.SendRow.{sent}
use Rattle.sb_machine.specs.Sending.{coming, entering, is_repeat, message_changes, noting, send_changes, unscheduled, waiting}
use Rattle.sb_machine.specs.Sessions.{closed}
use Rattle.sb_machine.specs.Settlement.{settled}
use Rattle.sb_machine.specs.Transactions.{commit_changes, handed_on, operation_changes, queued_copy, settled_found}
use Rattle.sb_machine.specs.Visits.{max_hops, passage, visits}
use Rattle.sb_machine.specs.declared.call.How.{How}
use Rattle.sb_machine.specs.declared.call.How.TheVariants.{Abandon, Complete, DeadLetter, Defer}
use Rattle.sb_machine.specs.declared.call.Part.{Part}
use Rattle.sb_machine.specs.declared.call.Part.TheVariants.{Main}
use Rattle.sb_machine.specs.declared.call.Path.{Path}
use Rattle.sb_machine.specs.declared.call.Token.{Token}
use Rattle.sb_machine.specs.declared.call.Which.TheVariants.{Number}
use Rattle.sb_machine.specs.declared.change.Cause.{Cause}
use Rattle.sb_machine.specs.declared.change.Change.{Change}
use Rattle.sb_machine.specs.declared.change.Change.TheVariants.{AddsRule, Begins, Drops, DropsRule, InLeaf, Makes, Notes, Queues, Removes}
use Rattle.sb_machine.specs.declared.change.LeafChange.TheVariants.{Closes, Ends, Enters, Passes, Stands}
use Rattle.sb_machine.specs.declared.change.LeafKey.{LeafKey}
use Rattle.sb_model.specs.declared.message.Message.{Message}
use Rattle.sb_model.specs.declared.message.SystemName.TheVariants.{MessageId}
use Rattle.sb_machine.specs.declared.rule.Rule.{Rule}
use Rattle.sb_machine.specs.declared.state.Entity.{Entity}
use Rattle.sb_machine.specs.declared.state.Listed.{Listed}
use Rattle.sb_machine.specs.declared.state.Operation.{Operation}
use Rattle.sb_machine.specs.declared.state.Space.{Space}
use Rattle.sb_machine.specs.declared.state.Standing.{Standing}
use Rattle.sb_machine.specs.declared.state.Standing.TheVariants.{Deferred, Held, Ready, Scheduled}
use Rattle.sb_machine.specs.declared.state.StoredCopy.{StoredCopy}
use Rattle.sb_machine.specs.declared.state.Transaction.{Transaction}
use Rattle.sb_machine.specs.declared.change.Cause.TheVariants.{Completed}
use Rattle.sb_machine.specs.declared.state.Operation.TheVariants.{Send as SendLater, Settle as SettleLater}

-- a change of an act that sends, settles, expires, closes or commits
pub data IsOfAct (P : Message → Type 0) (t : ℕ) : Change → Type 0 where
  act_enters : (key : LeafKey) (seq : Option ℕ) (hops : ℕ) (m : Message) → hops ≤ max_hops → P m → IsOfAct P t (InLeaf key (Enters (record { seq = seq; hops = hops; standing = Ready; message = m })))
  act_waits : (key : LeafKey) (moment : ℕ) (m : Message) → t < moment → P m → IsOfAct P t (InLeaf key (Enters (record { seq = None; hops = 0; standing = Scheduled moment; message = m })))
  act_passes : (key : LeafKey) (cause : Cause) → IsOfAct P t (InLeaf key (Passes cause))
  act_ends : (key : LeafKey) (n : ℕ) (by_settlement : Bool) (cause : Cause) → IsOfAct P t (InLeaf key (Ends n by_settlement cause))
  act_frees : (key : LeafKey) (n : ℕ) (by_settlement : Bool) (count : ℕ) (standing : Standing) → is_free standing ≡ true → count ≤ max_count → IsOfAct P t (InLeaf key (Stands n by_settlement count standing))
  act_closes : (key : LeafKey) (l : ℕ) → IsOfAct P t (InLeaf key (Closes l))
  act_notes : (n : ℕ) (id : List ℕ) → IsOfAct P t (Notes n id)
  act_drops : (n : ℕ) → IsOfAct P t (Drops n)

pub act_mild : (P : Message → Type 0) (t : ℕ) → IsMild P (IsOfAct P t)
act_mild P t = record { enters = λ key seq hops m few p. act_enters key seq hops m few p; passes = λ key cause. act_passes key cause; goes = λ key n by_settlement cause. act_ends key n by_settlement cause }

pub tick_act : (P : Message → Type 0) (t : ℕ) (first_one : Bool) (c : Change) → IsOfTick P first_one c → IsOfAct P t c
tick_act P t _ _ (tick_enters key seq hops m few p) = act_enters key seq hops m few p
tick_act P t _ _ (tick_passes key cause) = act_passes key cause
tick_act P t _ _ (tick_ends key n by_settlement cause) = act_ends key n by_settlement cause
tick_act P t _ _ (tick_drops n) = act_drops n
tick_act P t _ _ (tick_frees key n by_settlement count standing free few) = act_frees key n by_settlement count standing free few
tick_act P t _ _ (tick_closes key l) = act_closes key l

pub act_brings : (P : Message → Type 0) (G : Listed → Type 0) (t : ℕ) (c : Change) (s : Space) → IsOfAct P t c → Brings P G c s
act_brings P G t _ s (act_enters key seq hops m few p) = (few, p)
act_brings P G t _ s (act_waits key moment m later p) = (omega arith, p)
act_brings P G t _ s (act_passes key cause) = tt
act_brings P G t _ s (act_ends key n by_settlement cause) = tt
act_brings P G t _ s (act_frees key n by_settlement count standing free few) = few
act_brings P G t _ s (act_closes key l) = tt
act_brings P G t _ s (act_notes n id) = tt
act_brings P G t _ s (act_drops n) = tt

free_lock : (k : ℕ) (standing : Standing) → is_free standing ≡ true → has_lock k standing ≡ false
free_lock k Ready free = refl
free_lock k Deferred free = refl
free_lock k (Held lock hold deferred) free = absurd cc
free_lock k (Scheduled moment) free = absurd cc

pub act_frees_locks : (P : Message → Type 0) (t : ℕ) (c : Change) (k : ℕ) → IsOfAct P t c → FreesLocks k c
act_frees_locks P t _ k (act_enters key seq hops m few p) = refl
act_frees_locks P t _ k (act_waits key moment m later p) = refl
act_frees_locks P t _ k (act_passes key cause) = tt
act_frees_locks P t _ k (act_ends key n by_settlement cause) = tt
act_frees_locks P t _ k (act_frees key n by_settlement count standing free few) = free_lock k standing free
act_frees_locks P t _ k (act_closes key l) = tt
act_frees_locks P t _ k (act_notes n id) = tt
act_frees_locks P t _ k (act_drops n) = tt

-- ---- queued operations

abbrev pub OperationSent : (Message → Type 0) → Operation → Type 0
OperationSent MaySend (SendLater to messages) = Each MaySend messages
OperationSent MaySend (SettleLater from number token session how) = bad_in_how how ≡ None

-- each message that is queued may be sent
abbrev pub QueuedSent : (Message → Type 0) → Space → Type 0
QueuedSent MaySend s = Each (λ x. Each (OperationSent MaySend) x.operations) s.transactions

abbrev pub QueuesSent : (Message → Type 0) → Change → Type 0
QueuesSent MaySend (Queues n deadline operation) = OperationSent MaySend operation
QueuesSent MaySend _ = Unit {0}

pub stays_queued : (MaySend : Message → Type 0) (t : ℕ) (c : Change) (s : Space) → QueuesSent MaySend c → QueuedSent MaySend s → QueuedSent MaySend (after t c s)
stays_queued MaySend t (InLeaf key c) s queues h = h
stays_queued MaySend t (Notes n id) s queues h = h
stays_queued MaySend t (Makes kind path description rules) s queues h = h
stays_queued MaySend t (Removes n) s queues h = each_filter (λ x. Each (OperationSent MaySend) x.operations) (λ x. not (x.entity == n)) s.transactions h
stays_queued MaySend t (AddsRule n rule) s queues h = h
stays_queued MaySend t (DropsRule n name) s queues h = h
stays_queued MaySend t (Begins n deadline) s queues h = each_append (λ x. Each (OperationSent MaySend) x.operations) s.transactions (record { number = s.last_txn + 1; entity = n; deadline = deadline; operations = [] } ∷ []) h (tt, tt)
stays_queued MaySend t (Queues n deadline operation) s queues h = each_changed (λ x. Each (OperationSent MaySend) x.operations) (is_transaction n) (λ x. with_operation deadline operation x ∷ []) s.transactions (λ x there sent. (each_append (OperationSent MaySend) x.operations (operation ∷ []) sent (queues, tt), tt)) h
stays_queued MaySend t (Drops n) s queues h = each_changed (λ x. Each (OperationSent MaySend) x.operations) (is_transaction n) (λ x. []) s.transactions (λ x there sent. tt) h

pub act_queues : (MaySend P : Message → Type 0) (t : ℕ) (c : Change) → IsOfAct P t c → QueuesSent MaySend c
act_queues MaySend P t _ (act_enters key seq hops m few p) = tt
act_queues MaySend P t _ (act_waits key moment m later p) = tt
act_queues MaySend P t _ (act_passes key cause) = tt
act_queues MaySend P t _ (act_ends key n by_settlement cause) = tt
act_queues MaySend P t _ (act_frees key n by_settlement count standing free few) = tt
act_queues MaySend P t _ (act_closes key l) = tt
act_queues MaySend P t _ (act_notes n id) = tt
act_queues MaySend P t _ (act_drops n) = tt

-- ---- the acts that have many changes

-- P of what may be sent, as it enters, and of what is dead-lettered with texts that are in range
pub record Sends (P MaySend : Message → Type 0) : Type 0 where
  pub enters : (m : Message) → MaySend m → P (unscheduled m)
  pub reasons : (reason description : Option (List ℕ)) → bad_in_how (DeadLetter reason description) ≡ None → (m : Message) → P m → P (with_reason reason description m)

module _ {P : Message → Type 0} {G : Listed → Type 0} {H : Rule → Type 0} (travels : Travels P G H) {MaySend : Message → Type 0} (sending : Sends P MaySend) (t : ℕ) where
  kept_by_act : (c : Change) (s : Space) → IsOfAct P t c → Carries P G s → Carries P G (after t c s)
  kept_by_act c s is h = stays_carried P G t c s (act_brings P G t c s is) h

  entering_acts : (e : Entity) (m : Message) (s : Space) → MaySend m → G e.about → Carries P G s → Each (IsOfAct P t) (entering e m s)
  entering_acts e m s sent g h = delivered_mild travels (IsOfAct P t) (act_mild P t) None (visits (listed s) 0 e.about (unscheduled m)) s (visits_hold travels (listed s) 0 e.about (unscheduled m) (listed_carried P G s.entities h.abouts) (omega arith) g (sending.enters m sent))

  coming_acts : (e : Entity) (m : Message) (s : Space) → MaySend m → G e.about → Carries P G s → Each (IsOfAct P t) (coming t e m s)
  coming_acts e m s sent g h = at m.schedule where
    at : (o : Option ℕ) → Each (IsOfAct P t) (elim o [ Some at ↦ (if nat_lt t at then waiting e m at else entering e m s) | None ↦ entering e m s ])
    at None = entering_acts e m s sent g h
    at (Some moment) = go (nat_lt t moment) refl where
      later : nat_lt t moment ≡ true → t < moment
      later is = grind (arith, nat_tests)

      go : (b : Bool) → nat_lt t moment ≡ b → Each (IsOfAct P t) (if b then waiting e m moment else entering e m s)
      go true is = (act_waits (key_of Main e) moment (unscheduled m) (later is) (sending.enters m sent), tt)
      go false is = entering_acts e m s sent g h

  noting_acts : (e : Entity) (m : Message) → Each (IsOfAct P t) (noting e m)
  noting_acts e m = at e.about.description.window (text_of MessageId m) where
    at : (w : Option ℕ) (i : Option (List ℕ)) → Each (IsOfAct P t) (elim w [ Some window ↦ elim i [ Some id ↦ Notes e.about.number id ∷ [] | None ↦ [] ] | None ↦ [] ])
    at None i = tt
    at (Some window) None = tt
    at (Some window) (Some id) = (act_notes e.about.number id, tt)

  message_acts : (e : Entity) (m : Message) (s : Space) → MaySend m → G e.about → Carries P G s → Each (IsOfAct P t) (message_changes t e m s)
  message_acts e m s sent g h = go (is_repeat t e m s) where
    go : (b : Bool) → Each (IsOfAct P t) (if b then [] else noting e m ++ coming t e m s)
    go true = tt
    go false = each_append (IsOfAct P t) (noting e m) (coming t e m s) (noting_acts e m) (coming_acts e m s sent g h)

  pub sends_acts : (e : Entity) (ms : List Message) (s : Space) → Each MaySend ms → G e.about → Carries P G s → Each (IsOfAct P t) (send_changes t e ms s)
  sends_acts e ms s sent g h = each_in_turn (IsOfAct P t) (Carries P G) MaySend (message_changes t e) t (λ m now sent carried. message_acts e m now sent g carried) kept_by_act ms s sent h

  handed_acts : (e : Entity) (to : List ℕ) (ms : List Message) (s : Space) → Each MaySend ms → G e.about → Carries P G s → Each (IsOfAct P t) (in_turn (handed_on e to) t ms s)
  handed_acts e to ms s sent g h = each_in_turn (IsOfAct P t) (Carries P G) MaySend (handed_on e to) t
      (λ m now sent carried. delivered_mild travels (IsOfAct P t) (act_mild P t) None (passage (listed now) 0 e.about (unscheduled m) to) now (passage_holds travels (listed now) 0 e.about (unscheduled m) to (listed_carried P G now.entities carried.abouts) (omega arith) g (sending.enters m sent)))
      kept_by_act ms s sent h

  module _ (s : Space) (h : Carries P G s) where
    pub about_at : (p : Entity → Bool) (e : Entity) → find p s.entities ≡ Some e → G e.about
    about_at p e there = each_found (λ e. G e.about) p e s.entities h.abouts there

    pub copy_at : (p : Entity → Bool) (e : Entity) (part : Part) (q : StoredCopy → Bool) (c : StoredCopy) → find p s.entities ≡ Some e → find q (leaf_of part e).copies ≡ Some c → IsCarried P c
    copy_at p e part q c there found =
        each_found (IsCarried P) q c (leaf_of part e).copies (leaf_each (λ part leaf. Each (IsCarried P) leaf.copies) part e (each_found (EachLeaf (λ part leaf. Each (IsCarried P) leaf.copies)) p e s.entities h.copies there)) found

    pub settled_acts : (e : Entity) (part : Part) (c : StoredCopy) (how : How) → G e.about → IsCarried P c → bad_in_how how ≡ None → Each (IsOfAct P t) (settled (listed s) t e part c how)
    settled_acts e part c Complete g may good = (act_ends (key_of part e) c.number true Completed, tt)
    settled_acts e part c Abandon g may good = released_mild travels (IsOfAct P t) (act_mild P t) (listed s) (listed_carried P G s.entities h.abouts) e g t part c true true may (act_frees (key_of part e) c.number true (raised true c.count) (back_to c.standing) (back_is_free c.standing) (raised_most true c.count may.count))
    settled_acts e part c Defer g may good = (act_frees (key_of part e) c.number true c.count Deferred refl may.count, tt)
    settled_acts e part c (DeadLetter reason description) g may good = dead_lettered_mild travels (IsOfAct P t) (act_mild P t) (listed s) (listed_carried P G s.entities h.abouts) e g c true (with_reason reason description c.message) may.hops (sending.reasons reason description good c.message may.message)

    pub expired_acts : (e : Entity) (c : StoredCopy) → G e.about → IsCarried P c → Each (IsOfAct P t) (expired (listed s) e c false)
    expired_acts e c g may = expired_mild travels (IsOfAct P t) (act_mild P t) (listed s) (listed_carried P G s.entities h.abouts) e g c false may

    pub closed_acts : (p : Entity → Bool) (e : Entity) (part : Part) (l : ℕ) → find p s.entities ≡ Some e → Each (IsOfAct P t) (closed s t e part l)
    closed_acts p e part l there = (
      act_closes (key_of part e) l,
      each_flat (IsCarried P) (IsOfAct P t) (λ c. released (listed s) t e part c false false) (filter (λ c. is_under_session l c.standing) (leaf_of part e).copies)
          (λ c may. released_mild travels (IsOfAct P t) (act_mild P t) (listed s) (listed_carried P G s.entities h.abouts) e (about_at p e there) t part c false false may (act_frees (key_of part e) c.number false (raised false c.count) (back_to c.standing) (back_is_free c.standing) (raised_most false c.count may.count)))
          (each_filter (IsCarried P) (λ c. is_under_session l c.standing) (leaf_of part e).copies (leaf_each (λ part leaf. Each (IsCarried P) leaf.copies) part e (each_found (EachLeaf (λ part leaf. Each (IsCarried P) leaf.copies)) p e s.entities h.copies there))),
    )

    pub settled_found_acts : (now : Entity) (from : Path) (how : How) (number : ℕ) (token : Token) (p : Entity → Bool) → find p s.entities ≡ Some now → bad_in_how how ≡ None → Each (IsOfAct P t) (settled_found s t now from how (queued_copy s t now from number token))
    settled_found_acts now from how number token p there good = at (queued_copy s t now from number token) refl where
      leased_in : (c : StoredCopy) → queued_copy s t now from number token ≡ Some c → IsCarried P c
      leased_in c is = go (token.salt == s.salt) is where
        go : (b : Bool) → (if b then find (λ d. is_living t (leaf_of from.part now).sessions token.lock d.standing && is_named (Number number) d) (leaf_of from.part now).copies else None) ≡ Some c → IsCarried P c
        go true is = copy_at p now from.part (λ d. is_living t (leaf_of from.part now).sessions token.lock d.standing && is_named (Number number) d) c there is
        go false is = absurd cc

      at : (o : Option StoredCopy) → queued_copy s t now from number token ≡ o → Each (IsOfAct P t) (settled_found s t now from how o)
      at None is = tt
      at (Some c) is = settled_acts now from.part c how (about_at p now there) (leased_in c is) good

  operation_acts : (e : Entity) (o : Operation) (s : Space) → OperationSent MaySend o → G e.about → Carries P G s → Each (IsOfAct P t) (operation_changes t e o s)
  operation_acts e (SendLater to messages) s sent g h = go (is_same_entity to e.about.path) where
    go : (b : Bool) → Each (IsOfAct P t) (if b then send_changes t e messages s else in_turn (handed_on e to.name) t messages s)
    go true = sends_acts e messages s sent g h
    go false = handed_acts e to.name messages s sent g h
  operation_acts e (SettleLater from number token session how) s good g h = at (entity_of e.about.number s) refl where
    at : (o : Option Entity) → entity_of e.about.number s ≡ o → Each (IsOfAct P t) (elim o [ Some now ↦ settled_found s t now from how (queued_copy s t now from number token) | None ↦ [] ])
    at None there = tt
    at (Some now) there = settled_found_acts s h now from how number token (is_entity e.about.number) there good

  pub commit_acts : (e : Entity) (x : Transaction) (s : Space) → Each (OperationSent MaySend) x.operations → G e.about → Carries P G s → Each (IsOfAct P t) (commit_changes t e x s)
  commit_acts e x s sent g h = (
    act_drops x.number,
    each_in_turn (IsOfAct P t) (Carries P G) (OperationSent MaySend) (operation_changes t e) t (λ o now sent carried. operation_acts e o now sent g carried) kept_by_act x.operations (after t (Drops x.number) s) sent
        (kept_by_act (Drops x.number) s (act_drops x.number) h),
  )
