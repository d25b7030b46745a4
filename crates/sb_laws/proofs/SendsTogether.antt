-- What operations that act together note: the ids of what got a number of that which they send to their own entity.
use Rattle.std.proofs.Common.{Bool, List, None, Option, Some, [], ap, false, length, nat_le, nat_lt, not, refl, subst, sym, true, ℕ, ◌&&◌, ◌++◌, ◌+◌, ◌∙◌, ◌∷◌, ◌≡◌}
use Rattle.std.specs.List.{flat_map}
use Rattle.std.specs.Prelude.{if◌then◌else◌, map}
use Rattle.sb_laws.proofs.Accepting.{IsInPart, IsOfSend, StandsAs, delivered_in_parts, none_noted, nothing_noted, sends_note, stands_all, visits_in_parts}
use Rattle.sb_laws.proofs.Along.{along_append}
use Rattle.sb_laws.proofs.Answered.{answered_in}
use Rattle.sb_laws.proofs.Calm.{IsCalm, calm_drops, calm_ends, calm_enters, calm_frees, calm_notes, calm_passes, operation_calm, turns_each}
use Rattle.sb_laws.proofs.Eachs.{each_implied, is_equal}
use Rattle.sb_laws.proofs.Filling.{acted_along, queued_send_of, step_send, united_acted}
use Rattle.sb_laws.proofs.Lists.{found_passes}
use Rattle.sb_laws.proofs.Moves.{by_number}
use Rattle.sb_laws.proofs.NothingDue.{ordered}
use Rattle.sb_laws.proofs.Rows.{Of, answered_so, asked, with_entity}
use Rattle.sb_laws.proofs.Uniting.{IsFilling, Unites, fills_queue, fills_write, some_one}
use Rattle.sb_laws.specs.Accepted.{accepted_of, id_in, notes_of, steps_note}
use Rattle.sb_laws.specs.Sweepable.{IsSweepable}
use Rattle.sb_machine.specs.Changes.{after, after_all, along, in_turn}
use Rattle.sb_machine.specs.Delivery.{back_to, dead_for, dead_lettered, expired, in_part, is_expired, raised}
use Rattle.sb_machine.specs.Each.{Each}
use Rattle.sb_machine.specs.Ends.{Noted, notes_in}
use Rattle.sb_machine.specs.Leases.{was_deferred}
use Rattle.sb_machine.specs.Names.{is_main, is_same_entity}
use Rattle.sb_machine.specs.Namespace.{entity_at, entity_of, is_entity, listed}
use Rattle.sb_machine.specs.Queueing.{txn_life}
use Rattle.sb_machine.specs.Reasons.{for_reason, with_reason}
use Rattle.sb_machine.specs.Sending.{receipts, send_changes, unscheduled}
use Rattle.sb_machine.specs.Settlement.{settled}
use Rattle.sb_machine.specs.Together.{all_receipts, handed_receipts, sent_receipts, step_replies, unqueued}
use Rattle.sb_machine.specs.Transactions.{begin_row, handed_on, max_transactions, operation_changes, queued_copy, settled_found}
use Rattle.sb_machine.specs.Visits.{burial, passage}
use Rattle.sb_machine.specs.declared.call.How.{How}
use Rattle.sb_machine.specs.declared.call.How.TheVariants.{Abandon, Complete, DeadLetter, Defer}
use Rattle.sb_machine.specs.declared.call.Part.{Part}
use Rattle.sb_machine.specs.declared.call.Part.TheVariants.{Main}
use Rattle.sb_machine.specs.declared.call.Path.{Path}
use Rattle.sb_machine.specs.declared.call.Step.{Step}
use Rattle.sb_machine.specs.declared.call.Step.TheVariants.{Send as StepSend, Settle as StepSettle, SessionSet as StateSet}
use Rattle.sb_machine.specs.declared.call.Token.{Token}
use Rattle.sb_machine.specs.declared.change.Cause.TheVariants.{Expired as ByTime}
use Rattle.sb_machine.specs.declared.change.Change.{Change}
use Rattle.sb_machine.specs.declared.change.Change.TheVariants.{Begins, Drops}
use Rattle.sb_machine.specs.declared.change.LeafChange.TheVariants.{Ends, Stands}
use Rattle.sb_machine.specs.declared.reason.DeadReason.TheVariants.{Expired, TooOften}
use Rattle.sb_machine.specs.declared.reply.Receipt.{Receipt}
use Rattle.sb_machine.specs.declared.reply.Refusal.TheVariants.{TxnsFull}
use Rattle.sb_machine.specs.declared.reply.Reply.TheVariants.{Begun, Together as Told}
use Rattle.sb_machine.specs.declared.reply.StepReply.{StepReply}
use Rattle.sb_machine.specs.declared.state.Entity.{Entity}
use Rattle.sb_machine.specs.declared.state.Listed.{Listed}
use Rattle.sb_machine.specs.declared.state.Operation.{Operation}
use Rattle.sb_machine.specs.declared.state.Operation.TheVariants.{Send as SendLater, Settle as SettleLater}
use Rattle.sb_machine.specs.declared.state.Space.{Space}
use Rattle.sb_machine.specs.declared.state.StoredCopy.{StoredCopy}
use Rattle.sb_model.specs.declared.message.Message.{Message}

-- ---- what settles is in parts

module _ (es : List Listed) (t : ℕ) (e : Entity) (c : StoredCopy) where
  dead_in_parts : (m : Message) → Each IsInPart (dead_lettered es e c true m)
  dead_in_parts m = (tt, visits_in_parts (Some c.enqueued_seq) (burial es c.hops e.about m))

  expired_in_parts : Each IsInPart (expired es e c true)
  expired_in_parts = go e.about.description.dead_on_expiry where
    go : (b : Bool) → Each IsInPart (if b then dead_for es e c true Expired else in_part Main e (Ends c.number true ByTime) ∷ [])
    go true = dead_in_parts (for_reason Expired c.message)
    go false = (tt, tt)

  settled_in_parts : (part : Part) (how : How) → Each IsInPart (settled es t e part c how)
  settled_in_parts part Complete = (tt, tt)
  settled_in_parts part Abandon = go (is_main part && true && nat_le e.about.description.max_delivery (raised true c.count)) (is_main part && not (was_deferred c.standing) && is_expired t c) where
    go : (a b : Bool) → Each IsInPart (if a then dead_for es e c true TooOften else (if b then expired es e c true else in_part part e (Stands c.number true (raised true c.count) (back_to c.standing)) ∷ []))
    go true b = dead_in_parts (for_reason TooOften c.message)
    go false true = expired_in_parts
    go false false = (tt, tt)
  settled_in_parts part Defer = (tt, tt)
  settled_in_parts part (DeadLetter reason description) = dead_in_parts (with_reason reason description c.message)

calm_of_send : (c : Change) → IsCalm true c → IsOfSend c
calm_of_send _ (calm_enters key fresh unheld) = tt
calm_of_send _ (calm_passes key cause) = tt
calm_of_send _ (calm_ends key n cause) = tt
calm_of_send _ (calm_frees key n count standing free) = tt
calm_of_send _ (calm_notes n id) = tt
calm_of_send _ (calm_drops n) = tt

-- ---- operations as they act

-- what sends note, each with its receipts
abbrev sends_notes : Entity → ℕ → List (Path × List Message) → List (List Receipt) → List Noted
sends_notes e t (p ∷ ps) (r ∷ rs) = (if is_same_entity p.0 e.about.path then notes_of e t (accepted_of r p.1) else []) ++ sends_notes e t ps rs
sends_notes e t _ _ = []

module _ (t : ℕ) (e : Entity) where
  send_notes : (to : Path) (ms : List Message) (s : Space) → StandsAs e.about s → along notes_in t (operation_changes t e (SendLater to ms) s) s ≡ (if is_same_entity to e.about.path then notes_of e t (accepted_of (sent_receipts t e to ms s) ms) else [])
  send_notes to ms s stands = go (is_same_entity to e.about.path) where
    go : (b : Bool) → along notes_in t (if b then send_changes t e ms s else in_turn (handed_on e to.name) t ms s) s ≡ (if b then notes_of e t (accepted_of (if b then receipts t e ms s else handed_receipts t e to.name ms s) ms) else [])
    go true = sends_note t e ms s stands
    go false = nothing_noted t (in_turn (handed_on e to.name) t ms s) s (turns_each IsInPart (handed_on e to.name) t (λ m now. delivered_in_parts None (passage (listed now) 0 e.about (unscheduled m) to.name) now) ms s)

  settle_notes : (from : Path) (number : ℕ) (token : Token) (session : Option Token) (how : How) (s : Space) → along notes_in t (operation_changes t e (SettleLater from number token session how) s) s ≡ []
  settle_notes from number token session how s = nothing_noted t (operation_changes t e (SettleLater from number token session how) s) s (at (entity_of e.about.number s)) where
    at : (o : Option Entity) → Each IsInPart (elim o [ Some now ↦ settled_found s t now from how (queued_copy s t now from number token) | None ↦ [] ])
    at None = tt
    at (Some now) = on (queued_copy s t now from number token) where
      on : (o : Option StoredCopy) → Each IsInPart (settled_found s t now from how o)
      on None = tt
      on (Some c) = settled_in_parts (listed s) t now c from.part how

  still_stands : (o : Operation) (s : Space) → StandsAs e.about s → StandsAs e.about (after_all t (operation_changes t e o s) s)
  still_stands o s stands = stands_all e.about t (operation_changes t e o s) s (each_implied (IsCalm true) IsOfSend calm_of_send (operation_changes t e o s) (operation_calm t e o s)) stands

  all_note : (os : List Operation) (s : Space) → StandsAs e.about s → along notes_in t (in_turn (operation_changes t e) t os s) s ≡ sends_notes e t (flat_map queued_send_of os) (all_receipts t e os s)
  all_note [] s stands = refl
  all_note (SendLater to ms ∷ os) s stands =
      let cs = operation_changes t e (SendLater to ms) s in
      let next = after_all t cs s in
      along_append notes_in t cs (in_turn (operation_changes t e) t os next) s
      ∙ ap (λ (l : List Noted). l ++ along notes_in t (in_turn (operation_changes t e) t os next) next) (send_notes to ms s stands)
      ∙ ap (λ (l : List Noted). (if is_same_entity to e.about.path then notes_of e t (accepted_of (sent_receipts t e to ms s) ms) else []) ++ l) (all_note os next (still_stands (SendLater to ms) s stands))
  all_note (SettleLater from number token session how ∷ os) s stands =
      let cs = operation_changes t e (SettleLater from number token session how) s in
      let next = after_all t cs s in
      along_append notes_in t cs (in_turn (operation_changes t e) t os next) s
      ∙ ap (λ (l : List Noted). l ++ along notes_in t (in_turn (operation_changes t e) t os next) next) (settle_notes from number token session how s)
      ∙ all_note os next (still_stands (SettleLater from number token session how) s stands)

  -- ---- their replies

  none_in : (b : Bool) → (if b then notes_of e t [] else []) ≡ []
  none_in true = none_noted t e
  none_in false = refl

  none_left : (ps : List (Path × List Message)) → sends_notes e t ps [] ≡ []
  none_left [] = refl
  none_left (p ∷ ps) = refl

  replies_note : (xs : List Step) (rs : List (List Receipt)) → steps_note e t xs (step_replies xs rs) ≡ sends_notes e t (flat_map step_send xs) rs
  replies_note [] rs = refl
  replies_note (StepSend to [] ∷ xs) rs = ap (λ (l : List Noted). l ++ steps_note e t xs (step_replies xs rs)) (none_in (is_same_entity to e.about.path)) ∙ replies_note xs rs
  replies_note (StepSend to (m ∷ ms) ∷ xs) (r ∷ rs) = ap (λ (l : List Noted). (if is_same_entity to e.about.path then notes_of e t (accepted_of r (m ∷ ms)) else []) ++ l) (replies_note xs rs)
  replies_note (StepSend to (m ∷ ms) ∷ xs) [] = ap (λ (l : List Noted). l ++ steps_note e t xs (step_replies xs [])) (none_in (is_same_entity to e.about.path)) ∙ replies_note xs [] ∙ none_left (flat_map step_send xs)
  replies_note (StepSettle from which token session how ∷ xs) rs = replies_note xs rs
  replies_note (StateSet from token bytes ∷ xs) rs = replies_note xs rs

-- what is noted depends on no more than what is listed of the entity
module _ (t : ℕ) (d e : Entity) (same : d.about ≡ e.about) where
  one_same : (to : Path) (ms : List Message) → (if is_same_entity to d.about.path then notes_of d t ms else []) ≡ (if is_same_entity to e.about.path then notes_of e t ms else [])
  one_same to ms = ap (λ (a : Listed). if is_same_entity to a.path then elim a.description.window [ Some window ↦ map (λ id. record { entity = a.number; id = id; moment = t; window = window }) (flat_map id_in ms) | None ↦ [] ] else []) same

  sends_same : (ps : List (Path × List Message)) (rs : List (List Receipt)) → sends_notes d t ps rs ≡ sends_notes e t ps rs
  sends_same [] rs = refl
  sends_same (p ∷ ps) [] = refl
  sends_same (p ∷ ps) (r ∷ rs) =
      ap (λ (l : List Noted). l ++ sends_notes d t ps rs) (one_same p.0 (accepted_of r p.1)) ∙ ap (λ (l : List Noted). (if is_same_entity p.0 e.about.path then notes_of e t (accepted_of r p.1) else []) ++ l) (sends_same ps rs)

-- ---- the whole

filling_of_send : (n : ℕ) (cs : List Change) → Each (IsFilling n) cs → Each IsOfSend cs
filling_of_send n [] all = tt
filling_of_send n (_ ∷ cs) (fills_queue k deadline o own, all) = (tt, filling_of_send n cs all)
filling_of_send n (_ ∷ cs) (fills_write key lock bytes, all) = (tt, filling_of_send n cs all)

filling_in_parts : (n : ℕ) (cs : List Change) → Each (IsFilling n) cs → Each IsInPart (unqueued cs)
filling_in_parts n [] all = tt
filling_in_parts n (_ ∷ cs) (fills_queue k deadline o own, all) = filling_in_parts n cs all
filling_in_parts n (_ ∷ cs) (fills_write key lock bytes, all) = (tt, filling_in_parts n cs all)

module _ (s : Space) (t : ℕ) (path : Path) where
  record BeginsOn (cs : List Change) : Type 0 where
    e : Entity
    there : entity_at path s ≡ Some e
    changes : cs ≡ Begins e.about.number (t + txn_life) ∷ []

  begins_on : Of (λ r. Unit {0}) (λ reply cs. BeginsOn cs) (begin_row s t path)
  begins_on = with_entity s path _ tt tt (λ e there. asked (nat_lt (length s.transactions) max_transactions) TxnsFull _ tt (λ few. answered_so (record { e = e; there = there; changes = refl })))

  number_same : (a b k l : ℕ) → Begins a k ∷ [] ≡ Begins b l ∷ [] → a ≡ b
  number_same a b k l same = cc

  pub record Notes (steps : List Step) (replies : List StepReply) (cs : List Change) : Type 0 where
    pub entity : Entity
    pub there : entity_at path s ≡ Some entity
    pub notes : along notes_in t cs s ≡ steps_note entity t steps replies

  pub united_notes : (steps : List Step) (replies : List StepReply) (cs : List Change) → IsSweepable s → Unites s t path steps (Told replies) cs → Notes steps replies cs
  united_notes steps replies cs may u =
      let n = s.last_txn + 1 in
      let m = u.entity.about.number in
      let first = Begins m (t + txn_life) in
      let a = united_acted s t path steps replies cs may u in
      let b : BeginsOn (first ∷ []) = answered_in (λ r. Unit {0}) (λ reply cs. BeginsOn cs) (begin_row s t path) (Begun (s.last_txn + 1)) (first ∷ []) begins_on u.row in
      let d = b.e in
      let number_is : m ≡ d.about.number = number_same m d.about.number (t + txn_life) (t + txn_life) b.changes in
      let stands : StandsAs d.about a.later = subst (StandsAs d.about) a.leads (stands_all d.about t (first ∷ a.filled) s (tt, filling_of_send n a.filled a.filling) (record { now = d; there = by_number s t (ordered s may) path d b.there; same = refl })) in
      let one : a.e ≡ stands.now = some_one a.e stands.now (sym a.on ∙ ap (λ (k : ℕ). entity_of k a.later) (a.entity_is ∙ number_is) ∙ stands.there) in
      let about_same : a.e.about ≡ d.about = ap (λ (x : Entity). x.about) one ∙ stands.same in
      let there : entity_of a.e.about.number a.later ≡ Some a.e = subst (λ (k : ℕ). entity_of k a.later ≡ Some a.e) (sym (is_equal a.e.about.number a.x.entity (found_passes (is_entity a.x.entity) a.e a.later.entities a.on))) a.on in
      let dropped = after t (Drops n) a.later in
      let rs = all_receipts t a.e a.x.operations dropped in
      record {
        entity = d;
        there = b.there;
        notes = acted_along notes_in s t n m steps replies cs a refl (nothing_noted t (unqueued a.filled) (after t first s) (filling_in_parts n a.filled a.filling)) (λ now. refl)
            ∙ all_note t a.e a.x.operations dropped (record { now = a.e; there = there; same = refl })
            ∙ ap (λ (ps : List (Path × List Message)). sends_notes a.e t ps rs) a.sends_are
            ∙ sends_same t a.e d about_same (flat_map step_send steps) rs
            ∙ sym (replies_note t d steps rs)
            ∙ ap (steps_note d t steps) (sym a.told);
      }
