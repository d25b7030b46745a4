-- The ids of sessions and of accepted messages are short, as those are by which they were asked for or sent.
use Rattle.std.proofs.Common.{Bool, List, None, Option, Some, [], ap, false, filter, length, map, nat_le, nat_lt, not, refl, subst, sym, true, ℕ, ◌&&◌, ◌++◌, ◌+◌, ◌==◌, ◌∙◌, ◌∷◌, ◌≡◌}
use Rattle.std.specs.Option.{option_map}
use Rattle.std.specs.Prelude.{codes, find, if◌then◌else◌, is_some}
use Rattle.std.specs.Str.{chars}
use Rattle.sb_laws.proofs.Consistency.{passed}
use Rattle.sb_laws.proofs.ActionTexts.{IsText, texts_each}
use Rattle.sb_laws.proofs.Calm.{flat_all, turns_each}
use Rattle.sb_laws.proofs.Carried.{OperationSent}
use Rattle.sb_laws.proofs.Carrying.{each_in_turn}
use Rattle.sb_laws.proofs.Contents.{ContentsCore, IsStill}
use Rattle.sb_laws.proofs.Core.{Fields}
use Rattle.sb_laws.proofs.Eachs.{each_append, each_changed, each_filter, each_found, each_inserted}
use Rattle.sb_laws.proofs.Entities.{EachLeaf, KeepsEntity, KeepsLeaf, entities_keep, ids_with_leaf, leaf_each, leaves_keep}
use Rattle.sb_laws.proofs.Lists.{found_passes}
use Rattle.sb_laws.proofs.Mild.{IsCarried}
use Rattle.sb_laws.proofs.Sameness.{name_sound}
use Rattle.sb_laws.proofs.Shapes.{Arrives}
use Rattle.sb_laws.proofs.Tick.{IsOfTick, tick_closes, tick_drops, tick_ends, tick_enters, tick_frees, tick_passes}
use Rattle.sb_laws.proofs.Ways.{Way, aborts, adds_rule, begins, cancels, closes, commits, drops_rule, expires, hands_out, makes_queue, makes_subscription, makes_topic, opens, prolongs, queues_send, removes, renews, rolls_back, sends, session_for, settles_later, settles_now, takes_out, tells, writes}
use Rattle.sb_machine.specs.Administration.{going_with}
use Rattle.sb_machine.specs.Changes.{after, after_all, in_turn, is_known, is_recent, is_earlier, is_transaction, noted}
use Rattle.sb_machine.specs.Delivery.{back_to, dead_for, dead_lettered, delivered, expired, in_part, is_expired, landing, raised, released, visit_change, visit_key}
use Rattle.sb_machine.specs.Each.{Each, IfSome}
use Rattle.sb_machine.specs.Fields.{bad_in_act, bad_in_texts, is_id, is_short}
use Rattle.sb_machine.specs.Fit.{IsListed, IsMessage}
use Rattle.sb_machine.specs.Keyed.{changed, with_sorted}
use Rattle.sb_machine.specs.Leases.{is_ready, is_under_session, was_deferred}
use Rattle.sb_machine.specs.Leaves.{has_id, holder_new, is_held_under, leaf_after, opened, prolonged_holder, remembered, seq_or, session_in, taken}
use Rattle.sb_machine.specs.Messages.{text_of}
use Rattle.sb_machine.specs.Names.{is_before, is_main, is_same_entity}
use Rattle.sb_machine.specs.Namespace.{entity_at, entity_of, last_at, leaf_of, listed}
use Rattle.sb_machine.specs.Reasons.{for_reason, with_reason}
use Rattle.sb_machine.specs.SendRow.{queued_send}
use Rattle.sb_machine.specs.Sending.{coming, entering, is_repeat, message_changes, noting, send_changes, unscheduled, waiting}
use Rattle.sb_machine.specs.Sessions.{free_session, holder_in, next_session}
use Rattle.sb_machine.specs.Settlement.{settled}
use Rattle.sb_machine.specs.Transactions.{commit_changes, handed_on, operation_changes, queued_copy, settled_found}
use Rattle.sb_machine.specs.Visits.{Lot, Visit, burial, ends, passage, stays, visits}
use Rattle.sb_machine.specs.declared.call.Act.{Act}
use Rattle.sb_machine.specs.declared.call.Act.TheVariants.{Accept}
use Rattle.sb_machine.specs.declared.call.How.{How}
use Rattle.sb_machine.specs.declared.call.How.TheVariants.{Abandon, Complete, DeadLetter, Defer}
use Rattle.sb_machine.specs.declared.call.Part.{Part}
use Rattle.sb_machine.specs.declared.call.Part.TheVariants.{Main}
use Rattle.sb_machine.specs.declared.call.Path.{Path}
use Rattle.sb_machine.specs.declared.change.Cause.TheVariants.{Expired as ByTime}
use Rattle.sb_machine.specs.declared.change.Change.{Change}
use Rattle.sb_machine.specs.declared.change.Change.TheVariants.{AddsRule, Begins, Drops, DropsRule, InLeaf, Makes, Notes, Queues, Removes}
use Rattle.sb_machine.specs.declared.change.LeafChange.{LeafChange}
use Rattle.sb_machine.specs.declared.change.LeafChange.TheVariants.{Closes, Ends, Enters, Holds, Opens, Passes, Prolongs, Renews, Stands, Writes}
use Rattle.sb_machine.specs.declared.change.LeafKey.{LeafKey}
use Rattle.sb_machine.specs.declared.reason.DeadReason.TheVariants.{Expired, TooOften}
use Rattle.sb_machine.specs.declared.reply.Reply.{Reply}
use Rattle.sb_machine.specs.declared.state.AcceptedId.{AcceptedId}
use Rattle.sb_machine.specs.declared.state.Entity.{Entity}
use Rattle.sb_machine.specs.declared.state.Holder.{Holder}
use Rattle.sb_machine.specs.declared.state.Leaf.{Leaf}
use Rattle.sb_machine.specs.declared.state.Listed.{Listed}
use Rattle.sb_machine.specs.declared.state.Operation.{Operation}
use Rattle.sb_machine.specs.declared.state.Operation.TheVariants.{Send as SendLater, Settle as SettleLater}
use Rattle.sb_machine.specs.declared.state.Session.{Session}
use Rattle.sb_machine.specs.declared.state.Space.{Space}
use Rattle.sb_machine.specs.declared.state.StoredCopy.{StoredCopy}
use Rattle.sb_machine.specs.declared.state.Transaction.{Transaction}
use Rattle.sb_model.specs.Effects.{is_within, text_limit}
use Rattle.sb_model.specs.SystemNames.{system_code}
use Rattle.sb_model.specs.declared.message.Message.{Message}
use Rattle.sb_model.specs.declared.message.SystemName.{SystemName}
use Rattle.sb_model.specs.declared.message.SystemName.TheVariants.{MessageId, SessionId}
use Rattle.sb_model.specs.declared.message.SystemText.{SystemText}

abbrev pub IsShort : List ℕ → Type 0
IsShort id = is_id id ≡ true

abbrev pub SessionIsShort : Session → Type 0
SessionIsShort x = IsShort x.id

abbrev pub SessionsShort : Part → Leaf → Type 0
SessionsShort part leaf = Each SessionIsShort leaf.sessions

abbrev pub AcceptedShort : Entity → Type 0
AcceptedShort e = Each (λ a. IsShort a.id) e.ids

-- all ids of a namespace
pub record AreShort (s : Space) : Type 0 where
  pub sessions : Each (EachLeaf SessionsShort) s.entities
  pub accepted : Each AcceptedShort s.entities

-- a change brings short ids alone
abbrev pub BringsIds : Change → Type 0
BringsIds (InLeaf key (Opens id until)) = IsShort id
BringsIds (Notes n id) = IsShort id
BringsIds _ = Unit {0}

-- ---- one change

remembered_short : (x : Session) → SessionIsShort x → Each SessionIsShort (remembered x)
remembered_short x short = go (is_some x.holder) (is_some x.state) where
  go : (a b : Bool) → Each SessionIsShort (if a then x ∷ [] else (if b then x ∷ [] else []))
  go true b = (short, tt)
  go false true = (short, tt)
  go false false = tt

opened_short : (lock : ℕ) (id : List ℕ) (until : ℕ) (leaf : Leaf) → IsShort id → Each SessionIsShort leaf.sessions → Each SessionIsShort (opened lock id until leaf)
opened_short lock id until leaf short h = at (session_in id leaf) where
  at : (o : Option Session) → Each SessionIsShort (elim o [ Some x ↦ changed (has_id id) (λ y. taken lock until y ∷ []) leaf.sessions | None ↦ with_sorted (λ y. is_before y.id id) (record { id = id; state = None; holder = Some (holder_new lock until) }) leaf.sessions ])
  at (Some x) = each_changed SessionIsShort (has_id id) (λ y. taken lock until y ∷ []) leaf.sessions (λ y there p. (p, tt)) h
  at None = each_inserted SessionIsShort (λ y. is_before y.id id) (record { id = id; state = None; holder = Some (holder_new lock until) }) leaf.sessions short h

leaf_short : (lock t : ℕ) (c : LeafChange) (leaf : Leaf) → ((id : List ℕ) (until : ℕ) → c ≡ Opens id until → IsShort id) → Each SessionIsShort leaf.sessions → Each SessionIsShort (leaf_after lock t c leaf).sessions
leaf_short lock t (Enters fresh) leaf brings h = h
leaf_short lock t (Passes cause) leaf brings h = h
leaf_short lock t (Ends n by_settlement cause) leaf brings h = h
leaf_short lock t (Holds n hold) leaf brings h = h
leaf_short lock t (Stands n by_settlement count standing) leaf brings h = h
leaf_short lock t (Renews n until) leaf brings h = h
leaf_short lock t (Opens id until) leaf brings h = opened_short lock id until leaf (brings id until refl) h
leaf_short lock t (Closes l) leaf brings h = each_changed SessionIsShort (is_held_under l) (λ x. remembered (record x { holder = None })) leaf.sessions (λ x there p. remembered_short (record x { holder = None }) p) h
leaf_short lock t (Prolongs l until) leaf brings h = each_changed SessionIsShort (is_held_under l) (λ x. record x { holder = prolonged_holder until x.holder } ∷ []) leaf.sessions (λ x there p. (p, tt)) h
leaf_short lock t (Writes l state) leaf brings h = each_changed SessionIsShort (is_held_under l) (λ x. remembered (record x { state = state })) leaf.sessions (λ x there p. remembered_short (record x { state = state }) p) h

noted_short : (window : Option ℕ) (id : List ℕ) (t : ℕ) (ids : List AcceptedId) → IsShort id → Each (λ a. IsShort a.id) ids → Each (λ a. IsShort a.id) (noted window id t ids)
noted_short None id t ids short h = h
noted_short (Some window) id t ids short h = go (is_known window id t ids) where
  go : (b : Bool) → Each (λ a. IsShort a.id) (if b then ids else with_sorted (is_earlier t id) (record { moment = t; id = id }) (filter (is_recent window t) ids))
  go true = h
  go false = each_inserted (λ a. IsShort a.id) (is_earlier t id) (record { moment = t; id = id }) (filter (is_recent window t) ids) short (each_filter (λ a. IsShort a.id) (is_recent window t) ids h)

ids_step : (t : ℕ) (c : Change) (s : Space) → BringsIds c → AreShort s → AreShort (after t c s)
ids_step t c s brings h = record { sessions = leaves_keep SessionsShort t c s (in_leaf c brings) h.sessions; accepted = entities_keep AcceptedShort t c s (in_entity c brings) h.accepted } where
  opens_short : (key : LeafKey) (c : LeafChange) → BringsIds (InLeaf key c) → (id : List ℕ) (until : ℕ) → c ≡ Opens id until → IsShort id
  opens_short key c brings id until is = subst (λ (d : LeafChange). BringsIds (InLeaf key d)) is brings

  in_leaf : (c : Change) → BringsIds c → KeepsLeaf SessionsShort t c s
  in_leaf (InLeaf key c) brings = λ e there p. leaf_short (s.last_lock + 1) t c (leaf_of key.part e) (opens_short key c brings) p
  in_leaf (Makes kind path description rules) brings = λ part. tt
  in_leaf (Notes n id) brings = tt
  in_leaf (AddsRule n rule) brings = tt
  in_leaf (DropsRule n name) brings = tt
  in_leaf (Removes n) brings = tt
  in_leaf (Begins n deadline) brings = tt
  in_leaf (Queues n deadline operation) brings = tt
  in_leaf (Drops n) brings = tt

  in_entity : (c : Change) → BringsIds c → KeepsEntity AcceptedShort t c s
  in_entity (InLeaf key c) brings = λ e there p. subst (Each (λ (a : AcceptedId). IsShort a.id)) (sym (ids_with_leaf key.part (leaf_after (s.last_lock + 1) t c (leaf_of key.part e)) e)) p
  in_entity (Notes n id) brings = λ e there p. noted_short e.about.description.window id t e.ids brings p
  in_entity (Makes kind path description rules) brings = tt
  in_entity (AddsRule n rule) brings = λ e there p. p
  in_entity (DropsRule n name) brings = λ e there p. p
  in_entity (Removes n) brings = tt
  in_entity (Begins n deadline) brings = tt
  in_entity (Queues n deadline operation) brings = tt
  in_entity (Drops n) brings = tt

pub ids_all : (t : ℕ) (cs : List Change) (s : Space) → Each BringsIds cs → AreShort s → AreShort (after_all t cs s)
ids_all t [] s brings h = h
ids_all t (c ∷ cs) s brings h = ids_all t cs (after t c s) brings.1 (ids_step t c s brings.0 h)

-- ---- what a message holds

text_short : (name : SystemName) (m : Message) → text_limit name ≡ Some 128 → bad_in_texts m.sys ≡ None → IfSome (text_of name m) IsShort
text_short name m limit good = at (find (λ x. system_code x.name == system_code name) m.sys) refl where
  at : (o : Option SystemText) → find (λ x. system_code x.name == system_code name) m.sys ≡ o → IfSome (option_map (λ x. x.text) o) IsShort
  at None is = tt
  at (Some x) is =
      let within = each_found IsText (λ y. system_code y.name == system_code name) x m.sys (texts_each m.sys good) is in
      let same = name_sound x.name name (found_passes (λ y. system_code y.name == system_code name) x m.sys is) in
      subst (λ (l : Option ℕ). is_within l (length (chars x.text)) ≡ true) (ap text_limit same ∙ limit) within

-- the id of a session that is accepted: it was asked for, or a message's
free_short : (leaf : Leaf) (c : StoredCopy) (id : List ℕ) → IsCarried IsStill c → free_session leaf c ≡ Some id → IsShort id
free_short leaf c id may free = by (is_ready c.standing) (text_of SessionId c.message) (text_short SessionId c.message refl may.message.0.fields) free where
  by : (b : Bool) (o : Option (List ℕ)) → IfSome o IsShort → (if b then elim o [ Some own ↦ elim (holder_in own leaf) [ Some h ↦ None | None ↦ Some own ] | None ↦ None ] else None) ≡ Some id → IsShort id
  by false o short so = absurd cc
  by true None short so = absurd cc
  by true (Some own) short so = on (holder_in own leaf) so where
    on : (h : Option Holder) → ◌≡◌ {A = Option (List ℕ)} (elim h [ Some x ↦ None | None ↦ Some own ]) (Some id) → IsShort id
    on (Some x) so = absurd cc
    on None so = let same : own ≡ id = cc in subst IsShort same short

next_short : (leaf : Leaf) (id : List ℕ) (cs : List StoredCopy) → Each (IsCarried IsStill) cs → next_session leaf cs ≡ Some id → IsShort id
next_short leaf id [] h so = absurd cc
next_short leaf id (c ∷ cs) h so = on (free_session leaf c) refl so (next_short leaf id cs h.1) where
  on : (o : Option (List ℕ)) → free_session leaf c ≡ o → ◌≡◌ {A = Option (List ℕ)} (elim o [ Some own ↦ Some own | None ↦ next_session leaf cs ]) (Some id) → (next_session leaf cs ≡ Some id → IsShort id) → IsShort id
  on (Some own) is so ih = free_short leaf c id h.0 (is ∙ so)
  on None is so ih = ih so

session_short : (leaf : Leaf) (asked : Option (List ℕ)) (id : List ℕ) → is_short 128 asked ≡ true → Each (IsCarried IsStill) leaf.copies → session_for leaf asked ≡ Some id → IsShort id
session_short leaf (Some own) id short h so = let same : own ≡ id = cc in subst IsShort same short
session_short leaf None id short h so = next_short leaf id leaf.copies h so

pub accepted_short : (s : Space) (is_via : Bool) (from : Path) (asked : Option (List ℕ)) (id : List ℕ) (e : Entity) → ContentsCore s → bad_in_act is_via (Accept from asked) ≡ None → entity_at from s ≡ Some e → session_for (leaf_of from.part e) asked ≡ Some id → IsShort id
accepted_short s is_via from asked id e core good there so =
    session_short (leaf_of from.part e) asked id (passed (is_short 128 asked) (codes "id") good)
    (leaf_each (λ part leaf. Each (IsCarried IsStill) leaf.copies) from.part e (each_found (EachLeaf (λ part leaf. Each (IsCarried IsStill) leaf.copies)) (λ x. is_same_entity x.about.path from) e s.entities core.carries.copies there)) so

-- ---- deliveries, and what is done with a copy

visit_ids : (seq : Option ℕ) (v : Visit) → BringsIds (visit_change seq v)
visit_ids seq v = at v.lot where
  at : (lot : Lot) → BringsIds (InLeaf (visit_key v) (landing seq lot))
  at (stays hops m) = tt
  at (ends cause) = tt

visits_ids : (seq : Option ℕ) (vs : List Visit) → Each BringsIds (map (visit_change seq) vs)
visits_ids seq [] = tt
visits_ids seq (v ∷ vs) = (visit_ids seq v, visits_ids seq vs)

delivered_ids : (seq : Option ℕ) (vs : List Visit) (s : Space) → Each BringsIds (delivered seq vs s)
delivered_ids seq [] s = tt
delivered_ids seq (v ∷ vs) s = (visit_ids seq v, visits_ids (Some (seq_or seq (last_at (visit_key v) s + 1))) vs)

dead_ids : (es : List Listed) (e : Entity) (c : StoredCopy) (by_settlement : Bool) (m : Message) → Each BringsIds (dead_lettered es e c by_settlement m)
dead_ids es e c by_settlement m = (tt, visits_ids (Some c.enqueued_seq) (burial es c.hops e.about m))

expired_ids : (es : List Listed) (e : Entity) (c : StoredCopy) (by_settlement : Bool) → Each BringsIds (expired es e c by_settlement)
expired_ids es e c by_settlement = go e.about.description.dead_on_expiry where
  go : (b : Bool) → Each BringsIds (if b then dead_for es e c by_settlement Expired else in_part Main e (Ends c.number by_settlement ByTime) ∷ [])
  go true = dead_ids es e c by_settlement (for_reason Expired c.message)
  go false = (tt, tt)

released_ids : (es : List Listed) (t : ℕ) (e : Entity) (part : Part) (c : StoredCopy) (raise by_settlement : Bool) → Each BringsIds (released es t e part c raise by_settlement)
released_ids es t e part c raise by_settlement = go (is_main part && raise && nat_le e.about.description.max_delivery (raised raise c.count)) (is_main part && not (was_deferred c.standing) && is_expired t c) where
  go : (a b : Bool) → Each BringsIds (if a then dead_for es e c by_settlement TooOften else (if b then expired es e c by_settlement else in_part part e (Stands c.number by_settlement (raised raise c.count) (back_to c.standing)) ∷ []))
  go true b = dead_ids es e c by_settlement (for_reason TooOften c.message)
  go false true = expired_ids es e c by_settlement
  go false false = (tt, tt)

settled_ids : (es : List Listed) (t : ℕ) (e : Entity) (part : Part) (c : StoredCopy) (how : How) → Each BringsIds (settled es t e part c how)
settled_ids es t e part c Complete = (tt, tt)
settled_ids es t e part c Abandon = released_ids es t e part c true true
settled_ids es t e part c Defer = (tt, tt)
settled_ids es t e part c (DeadLetter reason description) = dead_ids es e c true (with_reason reason description c.message)

-- ---- sends and commits

noting_ids : (e : Entity) (m : Message) → IsMessage m → Each BringsIds (noting e m)
noting_ids e m fits = at e.about.description.window (text_of MessageId m) (text_short MessageId m refl fits.fields) where
  at : (w : Option ℕ) (i : Option (List ℕ)) → IfSome i IsShort → Each BringsIds (elim w [ Some window ↦ elim i [ Some id ↦ Notes e.about.number id ∷ [] | None ↦ [] ] | None ↦ [] ])
  at None i short = tt
  at (Some window) None short = tt
  at (Some window) (Some id) short = (short, tt)

coming_ids : (t : ℕ) (e : Entity) (m : Message) (s : Space) → Each BringsIds (coming t e m s)
coming_ids t e m s = at m.schedule where
  at : (o : Option ℕ) → Each BringsIds (elim o [ Some at ↦ (if nat_lt t at then waiting e m at else entering e m s) | None ↦ entering e m s ])
  at None = delivered_ids None (visits (listed s) 0 e.about (unscheduled m)) s
  at (Some moment) = go (nat_lt t moment) where
    go : (b : Bool) → Each BringsIds (if b then waiting e m moment else entering e m s)
    go true = (tt, tt)
    go false = delivered_ids None (visits (listed s) 0 e.about (unscheduled m)) s

message_ids : (t : ℕ) (e : Entity) (m : Message) (s : Space) → IsMessage m → Each BringsIds (message_changes t e m s)
message_ids t e m s fits = go (is_repeat t e m s) where
  go : (b : Bool) → Each BringsIds (if b then [] else noting e m ++ coming t e m s)
  go true = tt
  go false = each_append BringsIds (noting e m) (coming t e m s) (noting_ids e m fits) (coming_ids t e m s)

sends_ids : (t : ℕ) (e : Entity) (ms : List Message) (s : Space) → Each IsMessage ms → Each BringsIds (send_changes t e ms s)
sends_ids t e ms s fits = each_in_turn BringsIds (λ now. Unit {0}) IsMessage (message_changes t e) t (λ m now may any. message_ids t e m now may) (λ c now is any. tt) ms s fits tt

operation_ids : (t : ℕ) (e : Entity) (o : Operation) (s : Space) → OperationSent IsMessage o → Each BringsIds (operation_changes t e o s)
operation_ids t e (SendLater to messages) s sent = go (is_same_entity to e.about.path) where
  go : (b : Bool) → Each BringsIds (if b then send_changes t e messages s else in_turn (handed_on e to.name) t messages s)
  go true = sends_ids t e messages s sent
  go false = turns_each BringsIds (handed_on e to.name) t (λ m now. delivered_ids None (passage (listed now) 0 e.about (unscheduled m) to.name) now) messages s
operation_ids t e (SettleLater from number token session how) s sent = at (entity_of e.about.number s) where
  on : (now : Entity) (o : Option StoredCopy) → Each BringsIds (settled_found s t now from how o)
  on now None = tt
  on now (Some c) = settled_ids (listed s) t now from.part c how

  at : (o : Option Entity) → Each BringsIds (elim o [ Some now ↦ settled_found s t now from how (queued_copy s t now from number token) | None ↦ [] ])
  at None = tt
  at (Some now) = on now (queued_copy s t now from number token)

commit_ids : (t : ℕ) (e : Entity) (x : Transaction) (s : Space) → Each (OperationSent IsMessage) x.operations → Each BringsIds (commit_changes t e x s)
commit_ids t e x s sent = (tt, each_in_turn BringsIds (λ now. Unit {0}) (OperationSent IsMessage) (operation_changes t e) t (λ o now may any. operation_ids t e o now may) (λ c now is any. tt) x.operations (after t (Drops x.number) s) sent tt)

-- ---- calls and ticks

removals_ids : (es : List Entity) → Each BringsIds (map (λ x. Removes x.about.number) es)
removals_ids [] = tt
removals_ids (e ∷ es) = (tt, removals_ids es)

module _ (t : ℕ) (s : Space) (h : ContentsCore s) (is_via : Bool) where
  pub way_ids : (act : Act) (reply : Reply) (cs : List Change) → bad_in_act is_via act ≡ None → Fields IsStill IsListed IsMessage s act → Way s t act reply cs → Each BringsIds cs
  way_ids _ _ _ good fits (tells told) = tt
  way_ids _ _ _ good fits (makes_queue named new fine) = (tt, tt)
  way_ids _ _ _ good fits (makes_topic named new fine) = (tt, tt)
  way_ids _ _ _ good fits (makes_subscription e named short there is new fine) = (tt, tt)
  way_ids _ _ _ good fits (adds_rule e f a named there new f_is a_is small) = (tt, tt)
  way_ids _ _ _ good fits (removes e there) = removals_ids (e ∷ going_with s e)
  way_ids _ _ _ good fits (drops_rule e r there is) = (tt, tt)
  way_ids _ _ _ good fits (sends {to = to} {messages = messages} e goes there sessions small) = sends_ids t e messages s (fits.messages to messages None refl small)
  way_ids _ _ _ good fits (queues_send {to = to} {messages = messages} x named goes there room small) = at messages where
    at : (ms : List Message) → Each BringsIds (queued_send t to ms x)
    at [] = tt
    at (m ∷ ms) = (tt, tt)
  way_ids _ _ _ good fits (cancels e c there is) = (tt, tt)
  way_ids _ _ _ good fits (hands_out from e c p there own is of stands) = (tt, tt)
  way_ids _ _ _ good fits (takes_out from e c p there is stands) = (tt, tt)
  way_ids _ _ _ good fits (expires from e c p there main is stands) = expired_ids (listed s) e c false
  way_ids _ _ _ good fits (settles_now {from = from} {how = how} e c there goes is none) = settled_ids (listed s) t e from.part c how
  way_ids _ _ _ good fits (settles_later e c x there goes on own is none room) = (tt, tt)
  way_ids _ _ _ good fits (renews e c there free is other) = (tt, tt)
  way_ids _ _ _ good fits (opens {asked_for = asked_for} from id e there has free named) = (accepted_short s is_via from asked_for id e h good there named, tt)
  way_ids _ _ _ good fits (prolongs e x there has held other) = (tt, tt)
  way_ids _ _ _ good fits (closes {from = from} {token = token} e x there has held) =
      (tt, flat_all BringsIds (λ c. released (listed s) t e from.part c false false) (λ c. released_ids (listed s) t e from.part c false false) (filter (λ c. is_under_session token.lock c.standing) (leaf_of from.part e).copies))
  way_ids _ _ _ good fits (writes e x there has held small other) = (tt, tt)
  way_ids _ _ _ good fits (begins e there room) = (tt, tt)
  way_ids _ _ _ good fits (commits {n = n} x e there on none) = commit_ids t e x s (each_found (λ y. Each (OperationSent IsMessage) y.operations) (is_transaction n) x s.transactions h.queued there)
  way_ids _ _ _ good fits (aborts x o there) = (tt, tt)
  way_ids _ _ _ good fits (rolls_back x there) = (tt, tt)

pub tick_ids : (first_one : Bool) (c : Change) → IsOfTick Arrives first_one c → BringsIds c
tick_ids _ _ (tick_enters key seq hops m few p) = tt
tick_ids _ _ (tick_passes key cause) = tt
tick_ids _ _ (tick_ends key n by_settlement cause) = tt
tick_ids _ _ (tick_drops n) = tt
tick_ids _ _ (tick_frees key n by_settlement count standing free few) = tt
tick_ids _ _ (tick_closes key l) = tt
