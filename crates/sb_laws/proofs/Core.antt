-- The core of a consistent namespace, which every tick and call keeps: numbers rise, a lock holds one at most,
-- and messages and descriptions are as P and G ask.
use Rattle.std.proofs.Common.{Bool, List, None, Ok, Option, Some, [], false, map, refl, subst, sym, true, ℕ, ◌&&◌, ◌+◌, ◌∙◌, ◌∷◌, ◌≡◌}
use Rattle.std.specs.Prelude.{find}
use Rattle.sb_laws.proofs.AfterTick.{TransactionsRise, transactions_rise}
use Rattle.sb_laws.proofs.Carried.{IsOfAct, OperationSent, QueuedSent, QueuesSent, Sends, about_at, act_brings, act_frees_locks, act_queues, closed_acts, commit_acts, copy_at, expired_acts, sends_acts, settled_acts, stays_queued, tick_act}
use Rattle.sb_laws.proofs.Carrying.{Brings, Carries, kept_by_all, stays_carried}
use Rattle.sb_laws.proofs.Eachs.{each_found, each_implied}
use Rattle.sb_laws.proofs.Entities.{IsOrdered, stays_ordered}
use Rattle.sb_laws.proofs.Locking.{FreesLocks, IsLocked, stays_locked}
use Rattle.sb_laws.proofs.Mild.{IsCarried}
use Rattle.sb_laws.proofs.Moves.{by_number, leased_held}
use Rattle.sb_laws.proofs.Sweeps.{after_append}
use Rattle.sb_laws.proofs.Tick.{IsOfTick, expired_of_tick, locks_of_tick, scheduled_of_tick, transactions_of_tick}
use Rattle.sb_laws.proofs.Visiting.{Travels}
use Rattle.sb_laws.proofs.Ways.{Way, aborts, adds_rule, begins, cancels, closes, commits, drops_rule, expires, hands_out, makes_queue, makes_subscription, makes_topic, opens, prolongs, queues_send, removes, renews, rolls_back, sends, settles_later, settles_now, takes_out, tells, writes}
use Rattle.sb_machine.specs.Administration.{action_of, are_rule_names, default_rule, filter_of, going_with, large_filter, rule_in}
use Rattle.sb_machine.specs.Changes.{after, after_all, is_transaction, rule_added, rule_dropped, with_rules}
use Rattle.sb_machine.specs.Delivery.{expired, in_part}
use Rattle.sb_machine.specs.Descriptions.{bad_in_description, has_rules}
use Rattle.sb_machine.specs.Due.{due_transactions, sweep_expired, sweep_locks, sweep_scheduled, then_also, tick_changes}
use Rattle.sb_machine.specs.Each.{Each}
use Rattle.sb_machine.specs.Fields.{bad_in_how}
use Rattle.sb_machine.specs.Leases.{is_living, is_named}
use Rattle.sb_machine.specs.Names.{is_name, is_same_entity, is_short_name}
use Rattle.sb_machine.specs.Namespace.{entity_at, entity_of, entity_path, is_entity, leaf_of, listed, subscription_path}
use Rattle.sb_machine.specs.Queueing.{deadline_with, txn_life}
use Rattle.sb_machine.specs.Receiving.{lock_end}
use Rattle.sb_machine.specs.SendRow.{queued_send, sent}
use Rattle.sb_machine.specs.Sending.{send_changes, too_large}
use Rattle.sb_machine.specs.Sessions.{closed}
use Rattle.sb_machine.specs.Settlement.{settled}
use Rattle.sb_machine.specs.Transactions.{commit_changes}
use Rattle.sb_machine.specs.declared.call.Act.{Act}
use Rattle.sb_machine.specs.declared.call.Act.TheVariants.{CreateRule, Send, Settle}
use Rattle.sb_machine.specs.declared.call.Description.{Description}
use Rattle.sb_machine.specs.declared.call.How.{How}
use Rattle.sb_machine.specs.declared.call.Path.{Path}
use Rattle.sb_machine.specs.declared.call.Token.{Token}
use Rattle.sb_machine.specs.declared.call.Which.{Which}
use Rattle.sb_machine.specs.declared.change.Cause.TheVariants.{Cancelled, Received}
use Rattle.sb_machine.specs.declared.change.Change.{Change}
use Rattle.sb_machine.specs.declared.change.Change.TheVariants.{AddsRule, Begins, Drops, DropsRule, Makes, Queues, Removes}
use Rattle.sb_machine.specs.declared.change.LeafChange.TheVariants.{Ends, Holds, Opens, Prolongs, Renews, Writes}
use Rattle.sb_model.specs.declared.message.Message.{Message}
use Rattle.sb_machine.specs.declared.reply.Reply.{Reply}
use Rattle.sb_machine.specs.declared.rule.Rule.{Rule}
use Rattle.sb_machine.specs.declared.rule.RuleFilter.{RuleFilter}
use Rattle.sb_machine.specs.declared.state.Entity.{Entity}
use Rattle.sb_machine.specs.declared.state.EntityKind.{EntityKind}
use Rattle.sb_machine.specs.declared.state.EntityKind.TheVariants.{Queue, Subscription, Topic}
use Rattle.sb_machine.specs.declared.state.Listed.{Listed}
use Rattle.sb_machine.specs.declared.state.Space.{Space}
use Rattle.sb_machine.specs.declared.state.StoredCopy.{StoredCopy}
use Rattle.sb_machine.specs.declared.state.Operation.TheVariants.{Send as SendLater, Settle as SettleLater}
use Rattle.sb_machine.specs.declared.call.FilterText.{FilterText}

-- G of what is made, and of what rules are added to and dropped from
pub record Lists (G : Listed → Type 0) : Type 0 where
  pub made_entity : (kind : EntityKind) (name : List ℕ) (d : Description) (number : ℕ) → has_rules kind ≡ false → is_name name ≡ true → bad_in_description kind d ≡ None → G (record { number = number; kind = kind; path = entity_path name; description = d; rules = [] })
  pub made_subscription : (topic name : List ℕ) (d : Description) (number : ℕ) → is_name topic ≡ true → is_short_name name ≡ true → bad_in_description Subscription d ≡ None
      → G (record { number = number; kind = Subscription; path = subscription_path topic name; description = d; rules = default_rule ∷ [] })

-- what an act's fields and tests say of the messages that it sends, and of the rule that it adds
pub record Fields (P : Message → Type 0) (G : Listed → Type 0) (MaySend : Message → Type 0) (s : Space) (act : Act) : Type 0 where
  pub messages : (to : Path) (messages : List Message) (txn : Option ℕ) → act ≡ Send to messages txn → too_large messages ≡ None → Each MaySend messages
  pub how : (from : Path) (which : Which) (token : Token) (session : Option Token) (how : How) (txn : Option ℕ) → act ≡ Settle from which token session how txn → bad_in_how how ≡ None
  pub rule : (topic subscription name : List ℕ) (asked_for : FilterText) (action : Option (List ℕ)) → act ≡ CreateRule topic subscription name asked_for action → (e : Entity) (f : RuleFilter) (a : Option (List ℕ)) → are_rule_names topic subscription name ≡ true
      → entity_at (subscription_path topic subscription) s ≡ Some e → rule_in name e ≡ None → filter_of asked_for ≡ Ok f → action_of action ≡ Ok a → large_filter asked_for ≡ None → G e.about → G (with_rules (rule_added (record { name = name; filter = f; action = a })) e).about
  pub no_rule : (e : Entity) (name : List ℕ) → G e.about → G (with_rules (rule_dropped name) e).about

module _ {P : Message → Type 0} {G : Listed → Type 0} {H : Rule → Type 0} (travels : Travels P G H) {MaySend : Message → Type 0} (sending : Sends P MaySend) (lists : Lists G) where
  pub record IsCore (s : Space) : Type 0 where
    pub ordered : IsOrdered s
    pub transactions : TransactionsRise s
    pub locked : IsLocked s
    pub carries : Carries P G s
    pub queued : QueuedSent MaySend s

  pub core_step : (t : ℕ) (c : Change) (s : Space) → ((k : ℕ) → FreesLocks k c) → Brings P G c s → QueuesSent MaySend c → IsCore s → IsCore (after t c s)
  core_step t c s frees brings queues h = record {
    ordered = stays_ordered t c s h.ordered;
    transactions = transactions_rise t c s h.transactions;
    locked = stays_locked t c s frees h.locked;
    carries = stays_carried P G t c s brings h.carries;
    queued = stays_queued MaySend t c s queues h.queued;
  }

  pub core_acts : (t : ℕ) (cs : List Change) (s : Space) → Each (IsOfAct P t) cs → IsCore s → IsCore (after_all t cs s)
  core_acts t cs s acts h = kept_by_all (IsOfAct P t) IsCore t (λ c now is core. core_step t c now (λ k. act_frees_locks P t c k is) (act_brings P G t c now is) (act_queues MaySend P t c is) core) cs s acts h

  core_ticks : (first_one : Bool) (t : ℕ) (cs : List Change) (s : Space) → Each (IsOfTick P first_one) cs → IsCore s → IsCore (after_all t cs s)
  core_ticks first_one t cs s ticks h = core_acts t cs s (each_implied (IsOfTick P first_one) (IsOfAct P t) (tick_act P t first_one) cs ticks) h

  -- a tick keeps it
  pub core_tick : (t : ℕ) (s : Space) → IsCore s → IsCore (after_all t (tick_changes t s) s)
  core_tick t s h =
      let s1 : Space = after_all t (sweep_locks t s) s in
      let h1 : IsCore s1 = core_ticks true t (sweep_locks t s) s (locks_of_tick travels t s h.carries) h in
      let s2 : Space = after_all t (sweep_expired t s1) s1 in
      let h2 : IsCore s2 = core_ticks false t (sweep_expired t s1) s1 (expired_of_tick travels t s1 h1.carries) h1 in
      let s3 : Space = after_all t (sweep_scheduled t s2) s2 in
      let h3 : IsCore s3 = core_ticks false t (sweep_scheduled t s2) s2 (scheduled_of_tick travels t s2 h2.carries) h2 in
      let h4 : IsCore (after_all t (due_transactions t s3) s3) = core_ticks false t (due_transactions t s3) s3 (transactions_of_tick travels t s3) h3 in
      subst IsCore (sym (after_append t (sweep_locks t s) (then_also t (sweep_expired t) (then_also t (sweep_scheduled t) (due_transactions t)) s1) s
      ∙ after_append t (sweep_expired t s1) (then_also t (sweep_scheduled t) (due_transactions t) s2) s1
      ∙ after_append t (sweep_scheduled t s2) (due_transactions t s3) s2)) h4

  module _ (t : ℕ) (s : Space) (h : IsCore s) where
    same_entity : (n : ℕ) (e d : Entity) → entity_of n s ≡ Some e → entity_of n s ≡ Some d → e ≡ d
    same_entity n e d a b = let same : Some e ≡ Some d = sym a ∙ b in some_is e d same where
      some_is : (e d : Entity) → ◌≡◌ {A = Option Entity} (Some e) (Some d) → e ≡ d
      some_is e d same = cc

    copy_fits : (from : Path) (e : Entity) (q : StoredCopy → Bool) (c : StoredCopy) → entity_at from s ≡ Some e → find q (leaf_of from.part e).copies ≡ Some c → IsCarried P c
    copy_fits from e q c there found = copy_at travels sending t s h.carries (λ x. is_same_entity x.about.path from) e from.part q c there found

    about_fits : (path : Path) (e : Entity) → entity_at path s ≡ Some e → G e.about
    about_fits path e there = about_at travels sending t s h.carries (λ x. is_same_entity x.about.path path) e there

    single : (c : Change) → ((k : ℕ) → FreesLocks k c) → Brings P G c s → QueuesSent MaySend c → IsCore (after_all t (c ∷ []) s)
    single c frees brings queues = core_step t c s frees brings queues h

    removed_all : (es : List Entity) (now : Space) → IsCore now → IsCore (after_all t (map (λ x. Removes x.about.number) es) now)
    removed_all [] now core = core
    removed_all (e ∷ es) now core = removed_all es (after t (Removes e.about.number) now) (core_step t (Removes e.about.number) now (λ k. tt) tt tt core)

    -- an accepted act keeps it
    pub core_way : (act : Act) (reply : Reply) (cs : List Change) → Fields P G MaySend s act → Way s t act reply cs → IsCore (after_all t cs s)
    core_way _ _ _ fits (tells told) = h
    core_way _ _ _ fits (makes_queue {name = name} {d = d} named new good) = single (Makes Queue (entity_path name) d []) (λ k. tt) (lists.made_entity Queue name d (s.last_entity + 1) refl named good) tt
    core_way _ _ _ fits (makes_topic {name = name} {d = d} named new good) = single (Makes Topic (entity_path name) d []) (λ k. tt) (lists.made_entity Topic name d (s.last_entity + 1) refl named good) tt
    core_way _ _ _ fits (makes_subscription {topic = topic} {name = name} {d = d} e named short there is new good) =
        single (Makes Subscription (subscription_path topic name) d (default_rule ∷ [])) (λ k. tt) (lists.made_subscription topic name d (s.last_entity + 1) named short good) tt
    core_way _ _ _ fits (adds_rule {topic = topic} {subscription = subscription} {name = name} {asked_for = asked_for} {action = action} e f a named there new f_is a_is small) =
        single (AddsRule e.about.number (record { name = name; filter = f; action = a })) (λ k. tt)
        (λ d here g. subst (λ (x : Entity). G (with_rules (rule_added (record { name = name; filter = f; action = a })) x).about) (same_entity e.about.number e d (by_number s t h.ordered (subscription_path topic subscription) e there) here)
        (fits.rule topic subscription name asked_for action refl e f a named there new f_is a_is small (about_fits (subscription_path topic subscription) e there))) tt
    core_way _ _ _ fits (removes {path = path} e there) = removed_all (going_with s e) (after t (Removes e.about.number) s) (core_step t (Removes e.about.number) s (λ k. tt) tt tt h)
    core_way _ _ _ fits (drops_rule {name = name} e r there is) = single (DropsRule e.about.number name) (λ k. tt) (λ d here g. fits.no_rule d name g) tt
    core_way _ _ _ fits (sends {to = to} {messages = messages} e goes there sessions small) =
        core_acts t (send_changes t e messages s) s (sends_acts travels sending t e messages s (fits.messages to messages None refl small) (about_fits to e there) h.carries) h
    core_way _ _ _ fits (queues_send {to = to} {messages = messages} {n = n} x named goes there room small) = at messages (fits.messages to messages (Some n) refl small) where
      at : (ms : List Message) → Each MaySend ms → IsCore (after_all t (queued_send t to ms x) s)
      at [] sent = h
      at (m ∷ ms) sent = single (Queues x.number (deadline_with t x) (SendLater to (m ∷ ms))) (λ k. tt) tt sent
    core_way _ _ _ fits (cancels {from = from} e c there is) = single (in_part from.part e (Ends c.number false Cancelled)) (λ k. tt) tt tt
    core_way _ _ _ fits (hands_out from e c p there own is of stands) = single (in_part from.part e (Holds c.number _)) (λ k. tt) tt tt
    core_way _ _ _ fits (takes_out from e c p there is stands) = single (in_part from.part e (Ends c.number false Received)) (λ k. tt) tt tt
    core_way _ _ _ fits (expires from e c p there main is stands) = core_acts t (expired (listed s) e c false) s (expired_acts travels sending t s h.carries e c (about_fits from e there) (copy_fits from e p c there is)) h
    core_way _ _ _ fits (settles_now {from = from} {which = which} {token = token} {session = session} {how = how} e c there goes is none) =
        core_acts t (settled (listed s) t e from.part c how) s (settled_acts travels sending t s h.carries e from.part c how (about_fits from e there)
        (copy_fits from e (λ d. is_living t (leaf_of from.part e).sessions token.lock d.standing && is_named which d) c there (leased_held s t h.ordered token which (leaf_of from.part e) c is).0) (fits.how from which token session how None refl)) h
    core_way _ _ _ fits (settles_later {from = from} {which = which} {token = token} {session = session} {how = how} {n = n} e c x there goes on own is none room) =
        single (Queues x.number (deadline_with t x) (SettleLater from c.number token session how)) (λ k. tt) tt (fits.how from which token session how (Some n) refl)
    core_way _ _ _ fits (renews {from = from} e c there free is other) = single (in_part from.part e (Renews c.number (lock_end e t))) (λ k. tt) tt tt
    core_way _ _ _ fits (opens from id e there has free named) = single (in_part from.part e (Opens id (lock_end e t))) (λ k. tt) tt tt
    core_way _ _ _ fits (prolongs {from = from} {token = token} e x there has held other) = single (in_part from.part e (Prolongs token.lock (lock_end e t))) (λ k. tt) tt tt
    core_way _ _ _ fits (closes {from = from} {token = token} e x there has held) =
        core_acts t (closed s t e from.part token.lock) s (closed_acts travels sending t s h.carries (λ y. is_same_entity y.about.path from) e from.part token.lock there) h
    core_way _ _ _ fits (writes {from = from} {token = token} {bytes = bytes} e x there has held small other) = single (in_part from.part e (Writes token.lock bytes)) (λ k. tt) tt tt
    core_way _ _ _ fits (begins e there few) = single (Begins e.about.number (t + txn_life)) (λ k. tt) tt tt
    core_way _ _ _ fits (commits {n = n} x e there on none) =
        core_acts t (commit_changes t e x s) s (commit_acts travels sending t e x s (each_found (λ x. Each (OperationSent MaySend) x.operations) (is_transaction n) x s.transactions h.queued there) (each_found (λ e. G e.about) (is_entity x.entity) e s.entities h.carries.abouts on) h.carries) h
    core_way _ _ _ fits (aborts x o there) = single (Drops x.number) (λ k. tt) tt tt
    core_way _ _ _ fits (rolls_back {n = n} x there) = single (Drops n) (λ k. tt) tt tt
