-- In which ways an act is accepted: with which reply and changes, and what was found and tested before.
use Rattle.std.proofs.Common.{Bool, Err, List, None, Ok, Option, Some, [], ap, false, length, map, nat_le, nat_lt, not, refl, subst, true, ℕ, ◌&&◌, ◌+◌, ◌==◌, ◌||◌, ◌∙◌, ◌∷◌, ◌≡◌}
use Rattle.std.specs.Prelude.{find, if◌then◌else◌, is_some, option_map}
use Rattle.sb_laws.proofs.Lists.{found_passes}
use Rattle.sb_laws.proofs.Rows.{Of, absent, answered_so, asked, counted, found, read, refused_so, refusing, with_entity, with_receivable}
use Rattle.sb_machine.specs.Acts.{act_row}
use Rattle.sb_machine.specs.Administration.{action_of, are_rule_names, bad_description, conditions_size, create_row, create_rule_row, create_subscription_row, default_rule, filter_of, going_with, large_filter, rule_in}
use Rattle.sb_machine.specs.Claims.{Claim, asks_holder, asks_session, claim_of, claiming, has_sessions, is_of}
use Rattle.sb_machine.specs.Consistent.{IsReply}
use Rattle.sb_machine.specs.Delivery.{expired, in_part, is_expired}
use Rattle.sb_machine.specs.Descriptions.{bad_in_description}
use Rattle.sb_model.specs.Effects.{max_property_bytes}
use Rattle.sb_machine.specs.Fields.{takes_number}
use Rattle.sb_machine.specs.History.{is_fault}
use Rattle.sb_machine.specs.Leases.{held_session, is_ready, leased}
use Rattle.sb_machine.specs.Leaves.{is_deferred}
use Rattle.sb_machine.specs.Looks.{look_row}
use Rattle.sb_machine.specs.Messages.{above, large_size, text_of}
use Rattle.sb_machine.specs.Names.{is_address, is_main, is_name, is_same_option, is_short_name}
use Rattle.sb_machine.specs.Namespace.{entity_at, entity_of, entity_path, leaf_of, listed, subscription_path}
use Rattle.sb_machine.specs.Queueing.{has_room, has_room_in, is_open, open_in, queueing, transaction_of, txn_life}
use Rattle.sb_machine.specs.Receiving.{cancelled, deferred_copy, deferred_received, first_ready, handed_out, hold_of, is_ready_for, lock_end, next_token, received, scheduled_copy, shown, until_of}
use Rattle.sb_machine.specs.Rows.{Row, answers, asks, is_topic}
use Rattle.sb_machine.specs.SendRow.{have_sessions_at, is_destination, is_via, queued_send, send_row, sent_or_queued}
use Rattle.sb_machine.specs.Sending.{have_sessions, receipts, send_changes, too_large}
use Rattle.sb_machine.specs.Sessions.{accepted_named, accepted_next, accepting, by_holder, closed, free_session, held_or, held_until, holder_in, lives_until, max_state, next_session, session_renew_row, session_set_row, size_of}
use Rattle.sb_machine.specs.SettleRow.{is_on, pending, pending_in, settle_found, settle_row, settled_or_queued}
use Rattle.sb_machine.specs.Settlement.{goes_with, is_until, renew_row, renewed, settled}
use Rattle.sb_machine.specs.Transactions.{aborted_by, commit_changes, commit_row, committed, is_lost, max_transactions}
use Rattle.sb_machine.specs.declared.call.Act.{Act}
use Rattle.sb_machine.specs.declared.call.Act.TheVariants.{Accept, Begin, Cancel, Commit, Counts, CreateQueue, CreateRule, CreateSubscription, CreateTopic, Delete, DeleteRule, ForgetClient, Look, Peek, Receive, ReceiveDeferred, Renew, Rollback, Send, SessionClose, SessionRenew, SessionSet, SessionState, Settle, Together}
use Rattle.sb_machine.specs.declared.call.Description.{Description}
use Rattle.sb_machine.specs.declared.call.FilterText.{FilterText}
use Rattle.sb_machine.specs.declared.call.How.{How}
use Rattle.sb_machine.specs.declared.call.Mode.{Mode}
use Rattle.sb_machine.specs.declared.call.Mode.TheVariants.{Lock}
use Rattle.sb_machine.specs.declared.call.Part.{Part}
use Rattle.sb_machine.specs.declared.call.Part.TheVariants.{Main}
use Rattle.sb_machine.specs.declared.call.Path.{Path}
use Rattle.sb_machine.specs.declared.call.Token.{Token}
use Rattle.sb_machine.specs.declared.call.Which.{Which}
use Rattle.sb_machine.specs.declared.change.Cause.TheVariants.{Cancelled, Received}
use Rattle.sb_machine.specs.declared.change.Change.{Change}
use Rattle.sb_machine.specs.declared.change.Change.TheVariants.{AddsRule, Begins, Drops, DropsRule, Makes, Removes}
use Rattle.sb_machine.specs.declared.change.LeafChange.TheVariants.{Ends, Holds, Opens, Prolongs, Renews, Writes}
use Rattle.sb_machine.specs.declared.look.Look.{Look as Looked}
use Rattle.sb_machine.specs.declared.look.Look.TheVariants as look
use Rattle.sb_model.specs.declared.message.Message.{Message}
use Rattle.sb_model.specs.declared.message.SystemName.TheVariants.{SessionId}
use Rattle.sb_machine.specs.declared.reply.Refusal.{Refusal}
use Rattle.sb_machine.specs.declared.reply.Refusal.TheVariants.{BadDescription, BadName, EntityExists, EntityNotFound, SessionNotAllowed, SessionRequired, TooLarge, TxnFull, TxnNotFound, TxnPending, TxnScope, TxnsFull, WrongKind}
use Rattle.sb_machine.specs.declared.reply.Reply.{Reply}
use Rattle.sb_machine.specs.declared.reply.Showing.TheVariants.{Locked, Removed}
use Rattle.sb_machine.specs.declared.rule.Rule.{Rule}
use Rattle.sb_machine.specs.declared.rule.RuleFilter.{RuleFilter}
use Rattle.sb_machine.specs.declared.state.Entity.{Entity}
use Rattle.sb_machine.specs.declared.state.EntityKind.{EntityKind}
use Rattle.sb_machine.specs.declared.state.EntityKind.TheVariants.{Queue, Subscription, Topic}
use Rattle.sb_machine.specs.declared.state.Holder.{Holder}
use Rattle.sb_machine.specs.declared.state.Leaf.{Leaf}
use Rattle.sb_machine.specs.declared.state.Operation.{Operation}
use Rattle.sb_machine.specs.declared.state.Session.{Session}
use Rattle.sb_machine.specs.declared.state.Space.{Space}
use Rattle.sb_machine.specs.declared.state.StoredCopy.{StoredCopy}
use Rattle.sb_machine.specs.declared.state.Transaction.{Transaction}
use Rattle.sb_machine.specs.declared.state.Operation.TheVariants.{Settle as SettleLater}
use Rattle.sb_machine.specs.declared.reply.Reply.TheVariants.{Message as Given, Session as Accepted, Done, Sent, Renewed, Queued, Begun, Committed, Expired as HasExpired}

-- who receives holds nothing, in a part without sessions, or a session there
pub data IsClaim (s : Space) (t : ℕ) (e : Entity) (part : Part) : Option Claim → Type 0 where
  by_anybody : has_sessions e part ≡ false → IsClaim s t e part None
  by_holder_of : (token : Token) (x : Session) → has_sessions e part ≡ true → held_session s t token (leaf_of part e) ≡ Some x → IsClaim s t e part (Some (claim_of token.lock x))

-- the session that is asked for, or else the next one that may be had
abbrev pub session_for : Leaf → Option (List ℕ) → Option (List ℕ)
session_for leaf (Some id) = Some id
session_for leaf None = next_session leaf leaf.copies

pub data Way (s : Space) (t : ℕ) : Act → Reply → List Change → Type 0 where
  tells : {act : Act} {reply : Reply} → (takes_number act ≡ true → IsReply reply) → Way s t act reply []
  makes_queue : {name : List ℕ} {d : Description} → is_name name ≡ true → entity_at (entity_path name) s ≡ None → bad_in_description Queue d ≡ None → Way s t (CreateQueue name d) Done (Makes Queue (entity_path name) d [] ∷ [])
  makes_topic : {name : List ℕ} {d : Description} → is_name name ≡ true → entity_at (entity_path name) s ≡ None → bad_in_description Topic d ≡ None → Way s t (CreateTopic name d) Done (Makes Topic (entity_path name) d [] ∷ [])
  makes_subscription : {topic name : List ℕ} {d : Description} (e : Entity) → is_name topic ≡ true → is_short_name name ≡ true → entity_at (entity_path topic) s ≡ Some e → is_topic e.about.kind ≡ true → entity_at (subscription_path topic name) s ≡ None
      → bad_in_description Subscription d ≡ None → Way s t (CreateSubscription topic name d) Done (Makes Subscription (subscription_path topic name) d (default_rule ∷ []) ∷ [])
  adds_rule : {topic subscription name : List ℕ} {asked_for : FilterText} {action : Option (List ℕ)} (e : Entity) (f : RuleFilter) (a : Option (List ℕ)) → are_rule_names topic subscription name ≡ true → entity_at (subscription_path topic subscription) s ≡ Some e
      → rule_in name e ≡ None → filter_of asked_for ≡ Ok f → action_of action ≡ Ok a → large_filter asked_for ≡ None
      → Way s t (CreateRule topic subscription name asked_for action) Done (AddsRule e.about.number (record { name = name; filter = f; action = a }) ∷ [])
  removes : {path : Path} (e : Entity) → entity_at path s ≡ Some e → Way s t (Delete path) Done (Removes e.about.number ∷ map (λ x. Removes x.about.number) (going_with s e))
  drops_rule : {topic subscription name : List ℕ} (e : Entity) (r : Rule) → entity_at (subscription_path topic subscription) s ≡ Some e → rule_in name e ≡ Some r → Way s t (DeleteRule topic subscription name) Done (DropsRule e.about.number name ∷ [])
  sends : {to : Path} {messages : List Message} (e : Entity) → is_destination to ≡ true → entity_at to s ≡ Some e → have_sessions e messages ≡ true → too_large messages ≡ None → Way s t (Send to messages None) (Sent (receipts t e messages s)) (send_changes t e messages s)
  queues_send : {to : Path} {messages : List Message} {n : ℕ} (x : Transaction) → is_address to ≡ true → is_destination to ≡ true → open_in (Some n) s ≡ Some x → has_room x (length messages) ≡ true → too_large messages ≡ None
      → Way s t (Send to messages (Some n)) Queued (queued_send t to messages x)
  cancels : {from : Path} {n : ℕ} (e : Entity) (c : StoredCopy) → entity_at from s ≡ Some e → scheduled_copy n (leaf_of from.part e) ≡ Some c → Way s t (Cancel from n) Done (in_part from.part e (Ends c.number false Cancelled) ∷ [])
  hands_out : {act : Act} {claim : Option Claim} (from : Path) (e : Entity) (c : StoredCopy) (p : StoredCopy → Bool) → entity_at from s ≡ Some e → IsClaim s t e from.part claim → find p (leaf_of from.part e).copies ≡ Some c
      → is_of claim c ≡ true → (is_ready c.standing || is_deferred c.standing) ≡ true
      → Way s t act (Given (shown (c.count + 1) (Locked (next_token s) (until_of e t claim)) c)) (in_part from.part e (Holds c.number (hold_of e t claim)) ∷ [])
  takes_out : {act : Act} (from : Path) (e : Entity) (c : StoredCopy) (p : StoredCopy → Bool) → entity_at from s ≡ Some e → find p (leaf_of from.part e).copies ≡ Some c → (is_ready c.standing || is_deferred c.standing) ≡ true
      → Way s t act (Given (shown (c.count + 1) Removed c)) (in_part from.part e (Ends c.number false Received) ∷ [])
  expires : {act : Act} (from : Path) (e : Entity) (c : StoredCopy) (p : StoredCopy → Bool) → entity_at from s ≡ Some e → is_main from.part ≡ true → find p (leaf_of from.part e).copies ≡ Some c → is_deferred c.standing ≡ true
      → Way s t act (HasExpired c.number) (expired (listed s) e c false)
  settles_now : {from : Path} {which : Which} {token : Token} {session : Option Token} {how : How} (e : Entity) (c : StoredCopy) → entity_at from s ≡ Some e → goes_with how from.part ≡ true → leased s t token which (leaf_of from.part e) ≡ Some c
      → pending_in token.lock s ≡ None → Way s t (Settle from which token session how None) Done (settled (listed s) t e from.part c how)
  settles_later : {from : Path} {which : Which} {token : Token} {session : Option Token} {how : How} {n : ℕ} (e : Entity) (c : StoredCopy) (x : Transaction) → entity_at from s ≡ Some e → goes_with how from.part ≡ true → open_in (Some n) s ≡ Some x
      → is_on e (Some x) ≡ true → leased s t token which (leaf_of from.part e) ≡ Some c → pending_in token.lock s ≡ None → has_room x 1 ≡ true
      → Way s t (Settle from which token session how (Some n)) Queued (queueing t x (SettleLater from c.number token session how))
  renews : {from : Path} {which : Which} {token : Token} (e : Entity) (c : StoredCopy) → entity_at from s ≡ Some e → has_sessions e from.part ≡ false → leased s t token which (leaf_of from.part e) ≡ Some c → is_until (lock_end e t) c.standing ≡ false
      → Way s t (Renew from which token) (Renewed (lock_end e t)) (in_part from.part e (Renews c.number (lock_end e t)) ∷ [])
  opens : {asked_for : Option (List ℕ)} (from : Path) (id : List ℕ) (e : Entity) → entity_at from s ≡ Some e → has_sessions e from.part ≡ true → held_until t (holder_in id (leaf_of from.part e)) ≡ None
      → session_for (leaf_of from.part e) asked_for ≡ Some id → Way s t (Accept from asked_for) (Accepted id (next_token s) (lock_end e t)) (in_part from.part e (Opens id (lock_end e t)) ∷ [])
  prolongs : {from : Path} {token : Token} (e : Entity) (x : Session) → entity_at from s ≡ Some e → has_sessions e from.part ≡ true → held_session s t token (leaf_of from.part e) ≡ Some x → lives_until (lock_end e t) x ≡ false
      → Way s t (SessionRenew from token) (Renewed (lock_end e t)) (in_part from.part e (Prolongs token.lock (lock_end e t)) ∷ [])
  closes : {from : Path} {token : Token} (e : Entity) (x : Session) → entity_at from s ≡ Some e → has_sessions e from.part ≡ true → held_session s t token (leaf_of from.part e) ≡ Some x → Way s t (SessionClose from token) Done (closed s t e from.part token.lock)
  writes : {from : Path} {token : Token} {bytes : Option (List ℕ)} (e : Entity) (x : Session) → entity_at from s ≡ Some e → has_sessions e from.part ≡ true → held_session s t token (leaf_of from.part e) ≡ Some x → nat_le (size_of bytes) max_state ≡ true
      → is_same_option x.state bytes ≡ false → Way s t (SessionSet from token bytes) Done (in_part from.part e (Writes token.lock bytes) ∷ [])
  begins : {path : Path} (e : Entity) → entity_at path s ≡ Some e → nat_lt (length s.transactions) max_transactions ≡ true → Way s t (Begin path) (Begun (s.last_txn + 1)) (Begins e.about.number (t + txn_life) ∷ [])
  commits : {n : ℕ} (x : Transaction) (e : Entity) → transaction_of n s ≡ Some x → entity_of x.entity s ≡ Some e → find (is_lost s t e) x.operations ≡ None → Way s t (Commit n) Committed (commit_changes t e x s)
  aborts : {n : ℕ} (x : Transaction) (o : Operation) → transaction_of n s ≡ Some x → Way s t (Commit n) (aborted_by o) (Drops x.number ∷ [])
  rolls_back : {n : ℕ} (x : Transaction) → transaction_of n s ≡ Some x → Way s t (Rollback n) Done (Drops n ∷ [])

-- whether an act is one by itself, not operations that act together
abbrev pub stands_alone : Act → Bool
stands_alone (Together path steps) = false
stands_alone _ = true

-- ---- each act is refused, and by no fault, or accepted in one of these ways

abbrev pub NoFault : Refusal → Type 0
NoFault r = is_fault (Err r) ≡ false

both : (a b : Bool) → (a && b) ≡ true → (a ≡ true) × (b ≡ true)
both true b e = (refl, e)
both false b e = absurd cc

both_of_three : (a b c : Bool) → (a && b && c) ≡ true → (a ≡ true) × (b ≡ true) × (c ≡ true)
both_of_three true true c e = (refl, refl, e)
both_of_three true false c e = absurd cc
both_of_three false b c e = absurd cc

is_not : (b : Bool) → not b ≡ true → b ≡ false
is_not true e = absurd cc
is_not false e = refl

either_first : (a b : Bool) → a ≡ true → (a || b) ≡ true
either_first a b e = rw e refl

either_second : (a b : Bool) → b ≡ true → (a || b) ≡ true
either_second true b e = refl
either_second false b e = e

-- nobody holds the session of a copy that may be accepted
nobody : (leaf : Leaf) (id : List ℕ) (c : StoredCopy) → free_session leaf c ≡ Some id → holder_in id leaf ≡ None
nobody leaf id c free = by (is_ready c.standing) (text_of SessionId c.message) free where
  by : (b : Bool) (o : Option (List ℕ)) → (if b then elim o [ Some own ↦ elim (holder_in own leaf) [ Some h ↦ None | None ↦ Some own ] | None ↦ None ] else None) ≡ Some id → holder_in id leaf ≡ None
  by false o so = absurd cc
  by true None so = absurd cc
  by true (Some own) so = on (holder_in own leaf) refl so where
    on : (h : Option Holder) → holder_in own leaf ≡ h → ◌≡◌ {A = Option (List ℕ)} (elim h [ Some x ↦ None | None ↦ Some own ]) (Some id) → holder_in id leaf ≡ None
    on (Some x) is so = absurd cc
    on None is so = let own_is : own ≡ id = cc in subst (λ (i : List ℕ). holder_in i leaf ≡ None) own_is is

pub free_one : (leaf : Leaf) (id : List ℕ) (cs : List StoredCopy) → next_session leaf cs ≡ Some id → holder_in id leaf ≡ None
free_one leaf id [] so = absurd cc
free_one leaf id (c ∷ cs) so = on (free_session leaf c) refl so (free_one leaf id cs) where
  on : (o : Option (List ℕ)) → free_session leaf c ≡ o → ◌≡◌ {A = Option (List ℕ)} (elim o [ Some own ↦ Some own | None ↦ next_session leaf cs ]) (Some id)
      → (next_session leaf cs ≡ Some id → holder_in id leaf ≡ None) → holder_in id leaf ≡ None
  on (Some own) is so ih = nobody leaf id c (is ∙ so)
  on None is so ih = ih so

module _ (s : Space) (t : ℕ) where
  abbrev pub Accepts : Act → Row → Type 0
  Accepts act row = Of NoFault (Way s t act) row

  bad_kind : (kind : EntityKind) (d : Description) (r : Refusal) → bad_description kind d ≡ Some r → NoFault r
  bad_kind kind d r e = at (bad_in_description kind d) e where
    at : (o : Option (List ℕ)) → option_map (λ field. BadDescription field) o ≡ Some r → NoFault r
    at None e = absurd cc
    at (Some field) e = let it : BadDescription field ≡ r = cc in subst NoFault it refl

  good_kind : (kind : EntityKind) (d : Description) → bad_description kind d ≡ None → bad_in_description kind d ≡ None
  good_kind kind d e = at (bad_in_description kind d) e where
    at : (o : Option (List ℕ)) → option_map (λ field. BadDescription field) o ≡ None → o ≡ None
    at None e = refl
    at (Some field) e = absurd cc

  pub large : (o : Option ℕ) (r : Refusal) → option_map (λ size. TooLarge size) o ≡ Some r → NoFault r
  large None r e = absurd cc
  large (Some size) r e = let it : TooLarge size ≡ r = cc in subst NoFault it refl

  row_claim : (act : Act) (e : Entity) (part : Part) (session : Option Token) (next : Option Claim → Row) → ((claim : Option Claim) → IsClaim s t e part claim → Accepts act (next claim))
      → Accepts act (asks_session e part session (asks_holder s t (leaf_of part e) session next))
  row_claim act e part None next h = asked (not (has_sessions e part)) SessionRequired (next None) refl (λ is. h None (by_anybody (is_not (has_sessions e part) is)))
  row_claim act e part (Some token) next h = asked (has_sessions e part) SessionNotAllowed (claiming token (held_session s t token (leaf_of part e)) next) refl (λ is. at (held_session s t token (leaf_of part e)) refl is) where
    at : (o : Option Session) → held_session s t token (leaf_of part e) ≡ o → has_sessions e part ≡ true → Accepts act (claiming token o next)
    at None there is = refused_so refl
    at (Some x) there is = h (Some (claim_of token.lock x)) (by_holder_of token x is there)

  row_hands : (act : Act) (from : Path) (e : Entity) (mode : Mode) (claim : Option Claim) (c : StoredCopy) (p : StoredCopy → Bool) → entity_at from s ≡ Some e → IsClaim s t e from.part claim → find p (leaf_of from.part e).copies ≡ Some c
      → is_of claim c ≡ true → (is_ready c.standing || is_deferred c.standing) ≡ true → Accepts act (handed_out s t e from.part mode claim c)
  row_hands act from e Lock claim c p there own first of stands = answered_so (hands_out from e c p there own first of stands)
  row_hands act from e WithDeletion claim c p there own first of stands = answered_so (takes_out from e c p there first stands)

  row_received : (act : Act) (from : Path) (e : Entity) (mode : Mode) (claim : Option Claim) → entity_at from s ≡ Some e → IsClaim s t e from.part claim → Accepts act (received s t e from.part mode claim (first_ready claim (leaf_of from.part e)))
  row_received act from e mode claim there own = at (first_ready claim (leaf_of from.part e)) refl where
    at : (o : Option StoredCopy) → first_ready claim (leaf_of from.part e) ≡ o → Accepts act (received s t e from.part mode claim o)
    at None is = answered_so (tells (λ numbered. tt))
    at (Some c) is =
        let passes = both (is_ready c.standing) (is_of claim c) (found_passes (is_ready_for claim) c (leaf_of from.part e).copies is) in
        row_hands act from e mode claim c (is_ready_for claim) there own is passes.1 (either_first (is_ready c.standing) (is_deferred c.standing) passes.0)

  row_deferred : (act : Act) (from : Path) (n : ℕ) (e : Entity) (mode : Mode) (claim : Option Claim) → entity_at from s ≡ Some e → IsClaim s t e from.part claim → Accepts act (deferred_received s t e from.part mode claim (deferred_copy n claim (leaf_of from.part e)))
  row_deferred act from n e mode claim there own = at (deferred_copy n claim (leaf_of from.part e)) refl where
    at : (o : Option StoredCopy) → deferred_copy n claim (leaf_of from.part e) ≡ o → Accepts act (deferred_received s t e from.part mode claim o)
    at None is = refused_so refl
    at (Some c) is = go (is_main from.part && is_expired t c) refl where
      passes : (is_deferred c.standing ≡ true) × ((c.number == n) ≡ true) × (is_of claim c ≡ true)
      passes = both_of_three (is_deferred c.standing) (c.number == n) (is_of claim c) (found_passes (λ d. is_deferred d.standing && (d.number == n) && is_of claim d) c (leaf_of from.part e).copies is)

      go : (b : Bool) → (is_main from.part && is_expired t c) ≡ b → Accepts act (if b then answers (HasExpired c.number) (expired (listed s) e c false) else handed_out s t e from.part mode claim c)
      go true so = answered_so (expires from e c (λ d. is_deferred d.standing && (d.number == n) && is_of claim d) there (both (is_main from.part) (is_expired t c) so).0 is passes.0)
      go false so = row_hands act from e mode claim c (λ d. is_deferred d.standing && (d.number == n) && is_of claim d) there own is passes.2 (either_second (is_ready c.standing) (is_deferred c.standing) passes.0)

  row_holder : (act : Act) (from : Path) (token : Token) (next : Entity → Session → Row)
      → ((e : Entity) (x : Session) → entity_at from s ≡ Some e → has_sessions e from.part ≡ true → held_session s t token (leaf_of from.part e) ≡ Some x → Accepts act (next e x)) → Accepts act (by_holder s t from token next)
  row_holder act from token next h = with_entity s from (λ e. asks (has_sessions e from.part) SessionNotAllowed (held_or (held_session s t token (leaf_of from.part e)) (next e))) refl refl (λ e there.
      asked (has_sessions e from.part) SessionNotAllowed (held_or (held_session s t token (leaf_of from.part e)) (next e)) refl (λ is. at e there is (held_session s t token (leaf_of from.part e)) refl)) where
        at : (e : Entity) → entity_at from s ≡ Some e → has_sessions e from.part ≡ true → (o : Option Session) → held_session s t token (leaf_of from.part e) ≡ o → Accepts act (held_or o (next e))
        at e there is None held = refused_so refl
        at e there is (Some x) held = h e x there is held

  row_accepting : (from : Path) (asked_for : Option (List ℕ)) (e : Entity) → entity_at from s ≡ Some e → has_sessions e from.part ≡ true → Accepts (Accept from asked_for) (accepting s t e from.part asked_for)
  row_accepting from (Some id) e there is = at (held_until t (holder_in id (leaf_of from.part e))) refl where
    at : (o : Option ℕ) → held_until t (holder_in id (leaf_of from.part e)) ≡ o → Accepts (Accept from (Some id)) (accepted_named s t e from.part id o)
    at (Some until) free = refused_so refl
    at None free = answered_so (opens from id e there is free refl)
  row_accepting from None e there is = at (next_session (leaf_of from.part e) (leaf_of from.part e).copies) refl where
    at : (o : Option (List ℕ)) → next_session (leaf_of from.part e) (leaf_of from.part e).copies ≡ o → Accepts (Accept from None) (accepted_next s t e from.part o)
    at None free = answered_so (tells (λ numbered. tt))
    at (Some id) free = answered_so (opens from id e there is (ap (held_until t) (free_one (leaf_of from.part e) id (leaf_of from.part e).copies free)) free)

  row_sends : (to : Path) (messages : List Message) (txn : Option ℕ) → Accepts (Send to messages txn) (send_row s t to messages txn)
  row_sends to messages None =
      asked (is_address to) BadName _ refl (λ named.
      asked (is_some (entity_at to s)) EntityNotFound _ refl (λ there.
      asked (is_destination to) WrongKind _ refl (λ goes.
      asked (have_sessions_at (entity_at to s) messages) SessionRequired _ refl (λ sessions.
      refusing (too_large messages) _ (large (large_size messages)) (λ small.
      at (entity_at to s) refl goes sessions small))))) where
        at : (o : Option Entity) → entity_at to s ≡ o → is_destination to ≡ true → have_sessions_at o messages ≡ true → too_large messages ≡ None → Accepts (Send to messages None) (sent_or_queued s t to messages o None)
        at None there goes sessions small = refused_so refl
        at (Some e) there goes sessions small = counted t s (send_changes t e messages s) (Sent (receipts t e messages s)) refl (sends e goes there sessions small)
  row_sends to messages (Some n) =
      asked (is_address to) BadName _ refl (λ named.
      asked (is_via s to (open_in (Some n) s) || is_some (if is_via s to (open_in (Some n) s) then None else entity_at to s)) EntityNotFound _ refl (λ there.
      asked (is_destination to) WrongKind _ refl (λ goes.
      asked (have_sessions_at (if is_via s to (open_in (Some n) s) then None else entity_at to s) messages) SessionRequired _ refl (λ sessions.
      asked (is_open (Some n) s) TxnNotFound _ refl (λ open_so.
      asked (has_room_in (open_in (Some n) s) (length messages)) TxnFull _ refl (λ room.
      refusing (too_large messages) _ (large (large_size messages)) (λ small.
      at (transaction_of n s) refl named goes open_so room small))))))) where
        at : (o : Option Transaction) → transaction_of n s ≡ o → is_address to ≡ true → is_destination to ≡ true → is_some o ≡ true → has_room_in o (length messages) ≡ true → too_large messages ≡ None
            → Accepts (Send to messages (Some n)) (sent_or_queued s t to messages (if is_via s to o then None else entity_at to s) o)
        at None is named goes open_so room small = absurd cc
        at (Some x) is named goes open_so room small = answered_so (queues_send x named goes is room small)

  row_settles : (from : Path) (which : Which) (token : Token) (session : Option Token) (how : How) (txn : Option ℕ) → Accepts (Settle from which token session how txn) (settle_row s t from which token session how txn)
  row_settles from which token session how txn = with_receivable s from _ refl refl refl (λ e there.
      asked (goes_with how from.part) WrongKind _ refl (λ goes. claimed e there goes session)) where
        row_of' : (e : Entity) → entity_at from s ≡ Some e → goes_with how from.part ≡ true → (txn : Option ℕ) → is_open txn s ≡ true → is_on e (open_in txn s) ≡ true → (session : Option Token)
            → Accepts (Settle from which token session how txn) (settle_found s t e from token session how (open_in txn s) (leased s t token which (leaf_of from.part e)))
        row_of' e there goes txn open_so on session = at (leased s t token which (leaf_of from.part e)) refl where
          pending_so : (o : Option Transaction) (r : Refusal) → pending o ≡ Some r → NoFault r
          pending_so None r is = absurd cc
          pending_so (Some x) r is = let it : TxnPending x.number ≡ r = cc in subst NoFault it refl

          none_pending : (o : Option Transaction) → pending o ≡ None → o ≡ None
          none_pending None is = refl
          none_pending (Some x) is = absurd cc

          at : (o : Option StoredCopy) → leased s t token which (leaf_of from.part e) ≡ o → Accepts (Settle from which token session how txn) (settle_found s t e from token session how (open_in txn s) o)
          at None is = refused_so refl
          at (Some c) is = refusing (pending (pending_in token.lock s)) _ (pending_so (pending_in token.lock s)) (λ none.
              asked (has_room_in (open_in txn s) 1) TxnFull _ refl (λ room. by txn refl open_so on room (none_pending (pending_in token.lock s) none))) where
                by : (n : Option ℕ) → txn ≡ n → is_open n s ≡ true → is_on e (open_in n s) ≡ true → has_room_in (open_in n s) 1 ≡ true → pending_in token.lock s ≡ None
                    → Accepts (Settle from which token session how n) (settled_or_queued s t e from token session how c (open_in n s))
                by None same open_so on room none = answered_so (settles_now e c there goes is none)
                by (Some n) same open_so on room none = in_txn (transaction_of n s) refl open_so on room where
                  in_txn : (o : Option Transaction) → transaction_of n s ≡ o → is_some o ≡ true → is_on e o ≡ true → has_room_in o 1 ≡ true → Accepts (Settle from which token session how (Some n)) (settled_or_queued s t e from token session how c o)
                  in_txn None there' open_so on room = absurd cc
                  in_txn (Some x) there' open_so on room = answered_so (settles_later e c x there goes there' on is none room)

        claimed : (e : Entity) → entity_at from s ≡ Some e → goes_with how from.part ≡ true → (session : Option Token)
            → Accepts (Settle from which token session how txn) (asks_session e from.part session (asks (is_open txn s) TxnNotFound (asks (is_on e (open_in txn s)) TxnScope (asks_holder s t (leaf_of from.part e) session (λ claim.
            settle_found s t e from token session how (open_in txn s) (leased s t token which (leaf_of from.part e)))))))
        claimed e there goes None = asked (not (has_sessions e from.part)) SessionRequired _ refl (λ is. asked (is_open txn s) TxnNotFound _ refl (λ open_so. asked (is_on e (open_in txn s)) TxnScope _ refl (λ on. row_of' e there goes txn open_so on None)))
        claimed e there goes (Some key) = asked (has_sessions e from.part) SessionNotAllowed _ refl (λ is. asked (is_open txn s) TxnNotFound _ refl (λ open_so. asked (is_on e (open_in txn s)) TxnScope _ refl (λ on. at (held_session s t key (leaf_of from.part e)) open_so on))) where
          at : (o : Option Session) → is_open txn s ≡ true → is_on e (open_in txn s) ≡ true → Accepts (Settle from which token (Some key) how txn) (claiming key o (λ claim. settle_found s t e from token (Some key) how (open_in txn s) (leased s t token which (leaf_of from.part e))))
          at None open_so on = refused_so refl
          at (Some x) open_so on = row_of' e there goes txn open_so on (Some key)

  row_creates : (act : Act) (kind : EntityKind) (name : List ℕ) (d : Description)
      → (is_name name ≡ true → entity_at (entity_path name) s ≡ None → bad_in_description kind d ≡ None → Way s t act Done (Makes kind (entity_path name) d [] ∷ [])) → Accepts act (create_row s kind name d)
  row_creates act kind name d way = asked (is_name name) BadName _ refl (λ named. absent (entity_at (entity_path name) s) EntityExists _ refl (λ new.
      refusing (bad_description kind d) _ (bad_kind kind d) (λ good. answered_so (way named new (good_kind kind d good)))))

  row_subscribes : (topic name : List ℕ) (d : Description) → Accepts (CreateSubscription topic name d) (create_subscription_row s topic name d)
  row_subscribes topic name d = asked (is_name topic && is_short_name name) BadName _ refl (λ named. found (entity_at (entity_path topic) s) EntityNotFound _ refl (λ e there.
      absent (entity_at (subscription_path topic name) s) EntityExists _ refl (λ new. refusing (bad_description Subscription d) _ (bad_kind Subscription d) (λ good.
      asked (is_topic e.about.kind) WrongKind _ refl (λ topic_so.
      answered_so (makes_subscription e (both (is_name topic) (is_short_name name) named).0 (both (is_name topic) (is_short_name name) named).1 there topic_so new (good_kind Subscription d good)))))))

  row_rules : (topic subscription name : List ℕ) (asked_for : FilterText) (action : Option (List ℕ)) → Accepts (CreateRule topic subscription name asked_for action) (create_rule_row s topic subscription name asked_for action)
  row_rules topic subscription name asked_for action = asked (are_rule_names topic subscription name) BadName _ refl (λ named. found (entity_at (subscription_path topic subscription) s) EntityNotFound _ refl (λ e there.
      absent (rule_in name e) EntityExists _ refl (λ new. read (filter_of asked_for) _ (λ at. refl) (λ f f_is. read (action_of action) _ (λ at. refl) (λ a a_is.
      refusing (large_filter asked_for) _ (large (above max_property_bytes (conditions_size asked_for))) (λ small. answered_so (adds_rule e f a named there new f_is a_is small)))))))

  row_renews : (from : Path) (which : Which) (token : Token) → Accepts (Renew from which token) (renew_row s t from which token)
  row_renews from which token = with_entity s from _ refl refl (λ e there. asked (not (has_sessions e from.part)) SessionRequired _ refl (λ free. at e there (is_not (has_sessions e from.part) free) (leased s t token which (leaf_of from.part e)) refl)) where
    at : (e : Entity) → entity_at from s ≡ Some e → has_sessions e from.part ≡ false → (o : Option StoredCopy) → leased s t token which (leaf_of from.part e) ≡ o → Accepts (Renew from which token) (renewed e from.part (lock_end e t) o)
    at e there free None is = refused_so refl
    at e there free (Some c) is = go (is_until (lock_end e t) c.standing) refl where
      go : (b : Bool) → is_until (lock_end e t) c.standing ≡ b → Accepts (Renew from which token) (answers (Renewed (lock_end e t)) (if b then [] else in_part from.part e (Renews c.number (lock_end e t)) ∷ []))
      go true same = answered_so (tells (λ numbered. tt))
      go false same = answered_so (renews e c there free is same)

  row_prolongs : (from : Path) (token : Token) → Accepts (SessionRenew from token) (session_renew_row s t from token)
  row_prolongs from token = row_holder (SessionRenew from token) from token _ (λ e x there has held. go e x there has held (lives_until (lock_end e t) x) refl) where
    go : (e : Entity) (x : Session) → entity_at from s ≡ Some e → has_sessions e from.part ≡ true → held_session s t token (leaf_of from.part e) ≡ Some x → (b : Bool) → lives_until (lock_end e t) x ≡ b
        → Accepts (SessionRenew from token) (answers (Renewed (lock_end e t)) (if b then [] else in_part from.part e (Prolongs token.lock (lock_end e t)) ∷ []))
    go e x there has held true same = answered_so (tells (λ numbered. tt))
    go e x there has held false same = answered_so (prolongs e x there has held same)

  row_writes : (from : Path) (token : Token) (bytes : Option (List ℕ)) → Accepts (SessionSet from token bytes) (session_set_row s t from token bytes)
  row_writes from token bytes = row_holder (SessionSet from token bytes) from token _ (λ e x there has held. asked (nat_le (size_of bytes) max_state) (TooLarge (size_of bytes)) _ refl (λ small. go e x there has held small (is_same_option x.state bytes) refl)) where
    go : (e : Entity) (x : Session) → entity_at from s ≡ Some e → has_sessions e from.part ≡ true → held_session s t token (leaf_of from.part e) ≡ Some x → nat_le (size_of bytes) max_state ≡ true → (b : Bool) → is_same_option x.state bytes ≡ b
        → Accepts (SessionSet from token bytes) (answers Done (if b then [] else in_part from.part e (Writes token.lock bytes) ∷ []))
    go e x there has held small true same = answered_so (tells (λ numbered. tt))
    go e x there has held small false same = answered_so (writes e x there has held small same)

  row_commits : (n : ℕ) → Accepts (Commit n) (commit_row s t n)
  row_commits n = found (transaction_of n s) TxnNotFound _ refl (λ x there. found (entity_of x.entity s) EntityNotFound _ refl (λ e on. at x there e on (find (is_lost s t e) x.operations) refl)) where
    at : (x : Transaction) → transaction_of n s ≡ Some x → (e : Entity) → entity_of x.entity s ≡ Some e → (o : Option Operation) → find (is_lost s t e) x.operations ≡ o → Accepts (Commit n) (committed s t x e o)
    at x there e on (Some o) lost = answered_so (aborts x o there)
    at x there e on None lost = counted t s (commit_changes t e x s) Committed refl (commits x e there on lost)

  row_looks : (what : Looked) → Accepts (Look what) (look_row s what)
  row_looks (look.Entities prefix after count) = answered_so (tells (λ numbered. absurd cc))
  row_looks (look.Entity path) = with_entity s path _ refl refl (λ e there. answered_so (tells (λ numbered. absurd cc)))
  row_looks (look.Sessions path after count) = with_entity s path _ refl refl (λ e there. asked (has_sessions e Main) SessionNotAllowed _ refl (λ has. answered_so (tells (λ numbered. absurd cc))))
  row_looks look.Transactions = answered_so (tells (λ numbered. absurd cc))
  row_looks (look.Clients after count) = answered_so (tells (λ numbered. absurd cc))

  -- an act by itself is refused by no fault, or accepted in one of these ways
  pub accepts : (act : Act) → stands_alone act ≡ true → Accepts act (act_row s t act)
  accepts (CreateQueue name d) alone = row_creates (CreateQueue name d) Queue name d makes_queue
  accepts (CreateTopic name d) alone = row_creates (CreateTopic name d) Topic name d makes_topic
  accepts (CreateSubscription topic name d) alone = row_subscribes topic name d
  accepts (CreateRule topic subscription name asked_for action) alone = row_rules topic subscription name asked_for action
  accepts (Delete path) alone = with_entity s path _ refl refl (λ e there. answered_so (removes e there))
  accepts (DeleteRule topic subscription name) alone = asked (are_rule_names topic subscription name) BadName _ refl (λ named. found (entity_at (subscription_path topic subscription) s) EntityNotFound _ refl (λ e there.
      found (rule_in name e) EntityNotFound _ refl (λ r is. answered_so (drops_rule e r there is))))
  accepts (Send to messages txn) alone = row_sends to messages txn
  accepts (Cancel from n) alone = with_entity s from _ refl refl (λ e there. at e there (scheduled_copy n (leaf_of from.part e)) refl) where
    at : (e : Entity) → entity_at from s ≡ Some e → (o : Option StoredCopy) → scheduled_copy n (leaf_of from.part e) ≡ o → Accepts (Cancel from n) (cancelled e from.part o)
    at e there None is = refused_so refl
    at e there (Some c) is = answered_so (cancels e c there is)
  accepts (Receive from mode session) alone = with_receivable s from _ refl refl refl (λ e there. row_claim (Receive from mode session) e from.part session _ (λ claim own. row_received (Receive from mode session) from e mode claim there own))
  accepts (ReceiveDeferred from n mode session) alone = with_receivable s from _ refl refl refl (λ e there. row_claim (ReceiveDeferred from n mode session) e from.part session _ (λ claim own. row_deferred (ReceiveDeferred from n mode session) from n e mode claim there own))
  accepts (Settle from which token session how txn) alone = row_settles from which token session how txn
  accepts (Renew from which token) alone = row_renews from which token
  accepts (Accept from id) alone = with_receivable s from _ refl refl refl (λ e there. asked (has_sessions e from.part) SessionNotAllowed _ refl (λ has. row_accepting from id e there has))
  accepts (SessionRenew from token) alone = row_prolongs from token
  accepts (SessionClose from token) alone = row_holder (SessionClose from token) from token _ (λ e x there has held. answered_so (closes e x there has held))
  accepts (SessionSet from token bytes) alone = row_writes from token bytes
  accepts (SessionState from token) alone = row_holder (SessionState from token) from token _ (λ e x there has held. answered_so (tells (λ numbered. absurd cc)))
  accepts (Begin path) alone = with_entity s path _ refl refl (λ e there. asked (nat_lt (length s.transactions) max_transactions) TxnsFull _ refl (λ few. answered_so (begins e there few)))
  accepts (Commit n) alone = row_commits n
  accepts (Rollback n) alone = found (transaction_of n s) TxnNotFound _ refl (λ x there. answered_so (rolls_back x there))
  accepts (ForgetClient name) alone = answered_so (tells (λ numbered. tt))
  accepts (Peek from start count) alone = with_entity s from _ refl refl (λ e there. answered_so (tells (λ numbered. absurd cc)))
  accepts (Counts path) alone = with_entity s path _ refl refl (λ e there. answered_so (tells (λ numbered. absurd cc)))
  accepts (Look what) alone = row_looks what
  accepts (Together path steps) alone = absurd cc
