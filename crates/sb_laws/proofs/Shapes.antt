-- The shapes that the changes of an accepted act have, with what each point of consistency asks of them.
use Rattle.std.proofs.Common.{Bool, Err, List, None, Ok, Option, Result, Some, [], arith, false, length, map, nat_lt, refl, subst, sym, true, ℕ, ◌&&◌, ◌+◌, ◌<◌, ◌==◌, ◌||◌, ◌∙◌, ◌∷◌, ◌≡◌, ◌≤◌}
use Rattle.std.proofs.lemmas.Bool.Decides.{nat_tests}
use Rattle.std.specs.List.{list_any}
use Rattle.std.specs.Prelude.{bytes_eq, codes, find, if◌then◌else◌, is_some, sum_by}
use Rattle.sb_laws.proofs.AfterTick.{txn_number}
use Rattle.sb_laws.proofs.Carried.{IsOfAct, OperationSent, Sends, act_drops, act_ends, closed_acts, commit_acts, copy_at, expired_acts, sends_acts, settled_acts}
use Rattle.sb_laws.proofs.Consistency.{between, described_ttl, then_none}
use Rattle.sb_laws.proofs.Core.{Fields, IsCore, Lists}
use Rattle.sb_laws.proofs.Eachs.{each_found, each_of_all, is_equal}
use Rattle.sb_laws.proofs.Keeping.{lasts_fields, reason_ttl}
use Rattle.sb_laws.proofs.Lists.{found_behind, found_here, found_passes}
use Rattle.sb_laws.proofs.Moves.{by_number, copy_by_number, found_by_key, leased_held}
use Rattle.sb_laws.proofs.MovesAll.{living_holds}
use Rattle.sb_laws.proofs.NothingDue.{Lasts, shorter_lasts}
use Rattle.sb_laws.proofs.Queuing.{QueueFits, leased_alone, none_pending, times_holding}
use Rattle.sb_laws.proofs.Running.{at_most}
use Rattle.sb_laws.proofs.Sameness.{bytes_same, two}
use Rattle.sb_laws.proofs.Tick.{is_free}
use Rattle.sb_laws.proofs.Visiting.{Travels}
use Rattle.sb_laws.proofs.Ways.{IsClaim, Way, aborts, adds_rule, begins, by_anybody, by_holder_of, cancels, closes, commits, drops_rule, expires, hands_out, makes_queue, makes_subscription, makes_topic, opens, prolongs, queues_send, removes, renews, rolls_back, sends, settles_later, settles_now, takes_out, tells, writes}
use Rattle.sb_laws.specs.Plain.{IsPlain, IsRuled}
use Rattle.sb_laws.specs.Sweepable.{IsLasting}
use Rattle.sb_machine.specs.Administration.{default_rule, going_with, rule_in}
use Rattle.sb_machine.specs.Changes.{is_transaction}
use Rattle.sb_machine.specs.Claims.{Claim, is_of}
use Rattle.sb_machine.specs.Descriptions.{bad_in_description, has_copies, has_rules, is_fit}
use Rattle.sb_machine.specs.Each.{Each, has_lock, is_text_of, is_topic_at}
use Rattle.sb_model.specs.Effects.{after_action}
use Rattle.sb_machine.specs.Fields.{bad_in_act, is_between}
use Rattle.sb_machine.specs.Fit.{IsHold, is_kind}
use Rattle.sb_machine.specs.Leases.{held_session, is_living, is_living_holder, is_named, is_ready, lasts, lives}
use Rattle.sb_machine.specs.Leaves.{copy_in, is_deferred, is_held_under}
use Rattle.sb_machine.specs.Messages.{text_of}
use Rattle.sb_machine.specs.Names.{is_name, is_rule_name, is_same_entity, is_same_option, is_short_name}
use Rattle.sb_machine.specs.Namespace.{entity_at, entity_of, entity_path, is_entity, key_of, leaf_of, subscription_path}
use Rattle.sb_machine.specs.Queueing.{deadline_with, max_operations, txn_life, weight}
use Rattle.sb_machine.specs.Reasons.{with_reason}
use Rattle.sb_machine.specs.Receiving.{hold_of, lock_end}
use Rattle.sb_machine.specs.Selection.{acted_on, after_steps, on_read}
use Rattle.sb_machine.specs.SendRow.{is_via, queued_send}
use Rattle.sb_machine.specs.Sessions.{max_state, size_of}
use Rattle.sb_model.specs.Texts.{action_in}
use Rattle.sb_machine.specs.Transactions.{max_transactions}
use Rattle.sb_machine.specs.declared.call.Act.{Act}
use Rattle.sb_machine.specs.declared.call.Description.{Description}
use Rattle.sb_machine.specs.declared.call.Part.{Part}
use Rattle.sb_machine.specs.declared.call.Path.{Path}
use Rattle.sb_machine.specs.declared.change.Cause.TheVariants.{Cancelled, Received}
use Rattle.sb_machine.specs.declared.change.Change.{Change}
use Rattle.sb_machine.specs.declared.change.Change.TheVariants.{AddsRule, Begins, DropsRule, InLeaf, Makes, Queues, Removes}
use Rattle.sb_machine.specs.declared.change.LeafChange.TheVariants.{Holds, Opens, Prolongs, Renews, Writes}
use Rattle.sb_machine.specs.declared.change.LeafKey.{LeafKey}
use Rattle.sb_model.specs.declared.evaluation.EvalFault.{EvalFault}
use Rattle.sb_model.specs.declared.message.Message.{Message}
use Rattle.sb_model.specs.declared.message.SystemName.TheVariants.{SessionId}
use Rattle.sb_machine.specs.declared.reply.Reply.{Reply}
use Rattle.sb_machine.specs.declared.rule.Rule.{Rule}
use Rattle.sb_machine.specs.declared.state.Entity.{Entity}
use Rattle.sb_machine.specs.declared.state.EntityKind.{EntityKind}
use Rattle.sb_machine.specs.declared.state.EntityKind.TheVariants.{Queue, Subscription, Topic}
use Rattle.sb_machine.specs.declared.state.Hold.{Hold}
use Rattle.sb_machine.specs.declared.state.Operation.{Operation}
use Rattle.sb_machine.specs.declared.state.Session.{Session}
use Rattle.sb_machine.specs.declared.state.Space.{Space}
use Rattle.sb_machine.specs.declared.state.Standing.{Standing}
use Rattle.sb_machine.specs.declared.state.Standing.TheVariants.{Deferred, Held, Ready, Scheduled}
use Rattle.sb_machine.specs.declared.state.StoredCopy.{StoredCopy}
use Rattle.sb_machine.specs.declared.state.Transaction.{Transaction}
use Rattle.sb_machine.specs.declared.state.Operation.TheVariants.{Send as SendLater, Settle as SettleLater}
use Rattle.sb_model.specs.Expressions.{Change as Step}
use Rattle.sb_model.proofs.Acting.{keeps_messages}

-- of a message that stands in a part: its time to live is a second at least, and it has no schedule
abbrev pub Arrives : Message → Type 0
Arrives m = IsLasting m.ttl × (m.schedule ≡ None)

pub data Shape (s : Space) (t : ℕ) : List Change → Type 0 where
  of_acts : {cs : List Change} → Each (IsOfAct Arrives t) cs → Shape s t cs
  of_makes : (kind : EntityKind) (path : Path) (d : Description) (rules : List Rule) → IsPlain (record { number = s.last_entity + 1; kind = kind; path = path; description = d; rules = rules }) → IsRuled (record { number = s.last_entity + 1; kind = kind; path = path; description = d; rules = rules }) → entity_at path s ≡ None
      → (is_some path.subscription ≡ true → is_topic_at (entity_at (entity_path path.name) s) ≡ true) → Shape s t (Makes kind path d rules ∷ [])
  of_adds : (n : ℕ) (rule : Rule) (e : Entity) → entity_of n s ≡ Some e → rule_in rule.name e ≡ None → is_rule_name rule.name ≡ true → has_rules e.about.kind ≡ true → Shape s t (AddsRule n rule ∷ [])
  of_rule_drop : (n : ℕ) (name : List ℕ) → Shape s t (DropsRule n name ∷ [])
  of_removes : (path : Path) (e : Entity) → entity_at path s ≡ Some e → Shape s t (Removes e.about.number ∷ map (λ x. Removes x.about.number) (going_with s e))
  of_holds : (key : LeafKey) (hold : Hold) (e : Entity) (c : StoredCopy) → entity_of key.entity s ≡ Some e → copy_in c.number (leaf_of key.part e) ≡ Some c → is_free c.standing ≡ true → ((l : ℕ) (d : Bool) → IsHold t (leaf_of key.part e).sessions c (Held l hold d))
      → Shape s t (InLeaf key (Holds c.number hold) ∷ [])
  of_renews : (key : LeafKey) (n until : ℕ) → until ≤ t + 300000 → Shape s t (InLeaf key (Renews n until) ∷ [])
  of_opens : (key : LeafKey) (id : List ℕ) (until : ℕ) → until ≤ t + 300000 → Shape s t (InLeaf key (Opens id until) ∷ [])
  of_prolongs : (key : LeafKey) (l until : ℕ) → until ≤ t + 300000 → Shape s t (InLeaf key (Prolongs l until) ∷ [])
  of_writes : (key : LeafKey) (l : ℕ) (bytes : Option (List ℕ)) → size_of bytes ≤ max_state → Shape s t (InLeaf key (Writes l bytes) ∷ [])
  of_begins : (n : ℕ) (e : Entity) → entity_of n s ≡ Some e → length s.transactions < max_transactions → Shape s t (Begins n (t + txn_life) ∷ [])
  of_queues : (x : Transaction) (o : Operation) → find (is_transaction x.number) s.transactions ≡ Some x → sum_by weight x.operations + weight o ≤ max_operations → QueueFits s o → Shape s t (Queues x.number (deadline_with t x) o ∷ [])

-- ---- what is listed

acted_arrives : (m : Message) (action : Option (List ℕ)) → Arrives m → Arrives (acted_on m action)
acted_arrives m None h = h
acted_arrives m (Some text) h = at (action_in text) where
  at : (o : Result (List Step) ℕ) → Arrives (on_read m (after_steps m) o)
  at (Err place) = h
  at (Ok steps) = on (after_action m steps) refl where
    on : (r : Result Message EvalFault) → after_action m steps ≡ r → Arrives (elim r [ Ok new ↦ new | Err fault ↦ m ])
    on (Err fault) is = h
    on (Ok new) is = let kept = (keeps_messages m new steps is).0 in (subst IsLasting (sym kept.ttl) h.0, kept.schedule ∙ h.1)

pub plain_travels : Travels Arrives IsPlain (λ r. Unit {0})
plain_travels = record {
  cut = λ e m g p. (shorter_lasts m.ttl e.description.ttl p.0 (described_ttl e.kind e.description g.described), p.1);
  dead = λ reason m p. p;
  rules = λ e g. each_of_all (λ r. Unit {0}) (λ r. tt) e.rules;
  acted = λ r m any p. acted_arrives m r.action p;
}

reason_schedule : (reason description : Option (List ℕ)) (m : Message) → (with_reason reason description m).schedule ≡ m.schedule
reason_schedule None None m = refl
reason_schedule None (Some d) m = refl
reason_schedule (Some r) None m = refl
reason_schedule (Some r) (Some d) m = refl

pub arrives_sending : Sends Arrives Lasts
arrives_sending = record { enters = λ m p. (p, refl); reasons = λ reason description good m p. (subst IsLasting (sym (reason_ttl reason description m)) p.0, reason_schedule reason description m ∙ p.1) }

bare_kind : (kind : EntityKind) (name : List ℕ) → has_rules kind ≡ false → is_kind kind (entity_path name) ≡ true
bare_kind Queue name e = refl
bare_kind Topic name e = refl
bare_kind Subscription name e = absurd cc

pub plain_lists : Lists IsPlain
plain_lists = record {
  made_entity = λ kind name d number bare named good. record { address = rw named refl; whole = refl; kind = bare_kind kind name bare; described = good };
  made_subscription = λ topic name d number named short good. record { address = rw (named, short) refl; whole = refl; kind = refl; described = good };
}

pub plain_fields : (s : Space) (is_via : Bool) (act : Act) → bad_in_act is_via act ≡ None → Fields Arrives IsPlain Lasts s act
plain_fields s is_via act good = let fits = lasts_fields s is_via act good in record {
  messages = fits.messages;
  how = fits.how;
  rule = λ topic subscription name asked_for action is e f a named there new f_is a_is small g. record { address = g.address; whole = g.whole; kind = g.kind; described = g.described };
  no_rule = λ e name g. record { address = g.address; whole = g.whole; kind = g.kind; described = g.described };
}

abbrev pub PlainCore : Space → Type 0
PlainCore s = IsCore plain_travels arrives_sending plain_lists s

-- ---- locks live for no more than 300 s

lock_most : (kind : EntityKind) (d : Description) → bad_in_description kind d ≡ None → d.lock ≤ 300
lock_most kind d e = at (has_copies kind) (then_none _ _ _ e).0 where
  at : (b : Bool) → is_fit b (is_between 1 300 d.lock) (d.lock == 60) ≡ true → d.lock ≤ 300
  at true so = (between 1 300 d.lock so).1
  at false so = omega (arith, is_equal d.lock 60 so)

lock_end_most : (e : Entity) (t : ℕ) → IsPlain e.about → lock_end e t ≤ t + 300000
lock_end_most e t g = let most = lock_most e.about.kind e.about.description g.described in omega (arith, most)

below : (m n : ℕ) → nat_lt m n ≡ true → m < n
below m n e = grind (arith, nat_tests)

module _ (s : Space) (t : ℕ) (h : PlainCore s) where
  plain_at : (path : Path) (e : Entity) → entity_at path s ≡ Some e → IsPlain e.about
  plain_at path e there = each_found (λ e. IsPlain e.about) (λ x. is_same_entity x.about.path path) e s.entities h.carries.abouts there

  end_at : (path : Path) (e : Entity) → entity_at path s ≡ Some e → lock_end e t ≤ t + 300000
  end_at path e there = lock_end_most e t (plain_at path e there)

  stands_free : (standing : Standing) → (is_ready standing || is_deferred standing) ≡ true → is_free standing ≡ true
  stands_free Ready e = refl
  stands_free Deferred e = refl
  stands_free (Held lock hold deferred) e = absurd cc
  stands_free (Scheduled moment) e = absurd cc

  holds_named : (part : Part) (e : Entity) (p : Entity → Bool) (c : StoredCopy) (claim : Option Claim) → find p s.entities ≡ Some e → IsClaim s t e part claim → is_of claim c ≡ true → lock_end e t ≤ t + 300000
      → (l : ℕ) (d : Bool) → IsHold t (leaf_of part e).sessions c (Held l (hold_of e t claim) d)
  holds_named part e p c _ there (by_anybody none) of end l d = end
  holds_named part e p c _ there (by_holder_of token x has held) of end l d = in_list (leaf_of part e).sessions (living held) where
    living : held_session s t token (leaf_of part e) ≡ Some x → find (is_living_holder t token.lock) (leaf_of part e).sessions ≡ Some x
    living is = go (token.salt == s.salt) is where
      go : (b : Bool) → (if b then find (is_living_holder t token.lock) (leaf_of part e).sessions else None) ≡ Some x → find (is_living_holder t token.lock) (leaf_of part e).sessions ≡ Some x
      go true is = is
      go false is = absurd cc

    named : is_text_of x.id (text_of SessionId c.message) ≡ true
    named = at (text_of SessionId c.message) of where
      at : (o : Option (List ℕ)) → ◌≡◌ {A = Bool} (elim o [ Some own ↦ bytes_eq own x.id | None ↦ false ]) true → is_text_of x.id o ≡ true
      at None e = absurd cc
      at (Some own) e = e

    in_list : (xs : List Session) → find (is_living_holder t token.lock) xs ≡ Some x → list_any (λ y. is_held_under token.lock y && is_text_of y.id (text_of SessionId c.message)) xs ≡ true
    in_list [] is = absurd cc
    in_list (y ∷ ys) is = go (is_living_holder t token.lock y) refl (in_list ys) where
      go : (b : Bool) → is_living_holder t token.lock y ≡ b → (find (is_living_holder t token.lock) ys ≡ Some x → list_any (λ y. is_held_under token.lock y && is_text_of y.id (text_of SessionId c.message)) ys ≡ true)
          → list_any (λ y. is_held_under token.lock y && is_text_of y.id (text_of SessionId c.message)) (y ∷ ys) ≡ true
      go true lives ih =
          let same : y ≡ x = found_here (is_living_holder t token.lock) y x ys lives is in
          let here : is_text_of y.id (text_of SessionId c.message) ≡ true = subst (λ (z : Session). is_text_of z.id (text_of SessionId c.message) ≡ true) (sym same) named in
          rw (living_holds t token.lock y lives, here) refl
      go false lives ih = either (is_held_under token.lock y && is_text_of y.id (text_of SessionId c.message)) (ih (found_behind (is_living_holder t token.lock) y ys (Some x) lives is)) where
        either : (a : Bool) {b : Bool} → b ≡ true → (a || b) ≡ true
        either true e = refl
        either false e = e

  default_named : is_rule_name (codes "$default") ≡ true
  default_named = rw (bytes_same (codes "$default")) refl

  -- what stands at a subscription's address is one
  ruled_kind : (topic subscription : List ℕ) (e : Entity) → entity_at (subscription_path topic subscription) s ≡ Some e → has_rules e.about.kind ≡ true
  ruled_kind topic subscription e there = at e.about.kind e.about.path.subscription refl (plain_at (subscription_path topic subscription) e there).kind named where
    named : is_same_option e.about.path.subscription (Some subscription) ≡ true
    named = (two (bytes_eq e.about.path.name topic) (is_same_option e.about.path.subscription (Some subscription)) (found_passes (λ x. is_same_entity x.about.path (subscription_path topic subscription)) e s.entities there)).1

    at : (kind : EntityKind) (o : Option (List ℕ)) → e.about.path.subscription ≡ o → is_kind kind e.about.path ≡ true → is_same_option e.about.path.subscription (Some subscription) ≡ true → has_rules kind ≡ true
    at Subscription o is fits named = refl
    at Queue None is fits named = let bad : false ≡ true = rw is at named in absurd cc
    at Queue (Some name) is fits named = let bad : false ≡ true = rw is at fits in absurd cc
    at Topic None is fits named = let bad : false ≡ true = rw is at named in absurd cc
    at Topic (Some name) is fits named = let bad : false ≡ true = rw is at fits in absurd cc

  pub shape : (act : Act) (reply : Reply) (cs : List Change) → Fields Arrives IsPlain Lasts s act → Way s t act reply cs → Shape s t cs
  shape _ _ _ fits (tells told) = of_acts tt
  shape _ _ _ fits (makes_queue {name = name} {d = d} named new good) = of_makes Queue (entity_path name) d [] (plain_lists.made_entity Queue name d (s.last_entity + 1) refl named good) (record { order = tt; names = tt; none = λ bare. refl }) new (λ sub. absurd cc)
  shape _ _ _ fits (makes_topic {name = name} {d = d} named new good) = of_makes Topic (entity_path name) d [] (plain_lists.made_entity Topic name d (s.last_entity + 1) refl named good) (record { order = tt; names = tt; none = λ bare. refl }) new (λ sub. absurd cc)
  shape _ _ _ fits (makes_subscription {topic = topic} {name = name} {d = d} e named short there is new good) =
      of_makes Subscription (subscription_path topic name) d (default_rule ∷ []) (plain_lists.made_subscription topic name d (s.last_entity + 1) named short good) (record { order = (tt, tt); names = (default_named, tt); none = λ bare. absurd cc }) new (λ sub. rw there is)
  shape _ _ _ fits (adds_rule {topic = topic} {subscription = subscription} {name = name} e f a named there new f_is a_is small) =
      of_adds e.about.number (record { name = name; filter = f; action = a }) e (by_number s t h.ordered (subscription_path topic subscription) e there) new
      (two (is_name topic && is_short_name subscription) (is_rule_name name) named).1 (ruled_kind topic subscription e there)
  shape _ _ _ fits (removes {path = path} e there) = of_removes path e there
  shape _ _ _ fits (drops_rule {name = name} e r there is) = of_rule_drop e.about.number name
  shape _ _ _ fits (sends {to = to} {messages = messages} e goes there sessions small) =
      of_acts (sends_acts plain_travels arrives_sending t e messages s (fits.messages to messages None refl small) (plain_at to e there) h.carries)
  shape _ _ _ fits (queues_send {to = to} {messages = messages} {n = n} x named goes there room small) = at messages (at_most (sum_by weight x.operations + length messages) max_operations room) where
    at : (ms : List Message) → sum_by weight x.operations + length ms ≤ max_operations → Shape s t (queued_send t to ms x)
    at [] few = of_acts tt
    at (m ∷ ms) few = of_queues x (SendLater to (m ∷ ms)) (found_by_key txn_number (is_transaction n) 0 s.last_txn x s.transactions h.transactions there) few tt
  shape _ _ _ fits (cancels {from = from} e c there is) = of_acts (act_ends (key_of from.part e) c.number false Cancelled, tt)
  shape _ _ _ fits (hands_out {claim = claim} from e c p there own is of stands) =
      of_holds (key_of from.part e) (hold_of e t claim) e c (by_number s t h.ordered from e there) (copy_by_number s t h.ordered from.part e (λ x. is_same_entity x.about.path from) c p there is) (stands_free c.standing stands)
      (holds_named from.part e (λ x. is_same_entity x.about.path from) c claim there own of (end_at from e there))
  shape _ _ _ fits (takes_out from e c p there is stands) = of_acts (act_ends (key_of from.part e) c.number false Received, tt)
  shape _ _ _ fits (expires from e c p there main is stands) =
      of_acts (expired_acts plain_travels arrives_sending t s h.carries e c (plain_at from e there) (copy_at plain_travels arrives_sending t s h.carries (λ x. is_same_entity x.about.path from) e from.part p c there is))
  shape _ _ _ fits (settles_now {from = from} {which = which} {token = token} {session = session} {how = how} e c there goes is none) =
      of_acts (settled_acts plain_travels arrives_sending t s h.carries e from.part c how (plain_at from e there)
      (copy_at plain_travels arrives_sending t s h.carries (λ x. is_same_entity x.about.path from) e from.part (λ d. is_living t (leaf_of from.part e).sessions token.lock d.standing && is_named which d) c there (leased_held s t h.ordered token which (leaf_of from.part e) c is).0)
      (fits.how from which token session how None refl))
  shape _ _ _ fits (settles_later {from = from} {which = which} {token = token} {session = session} {how = how} {n = n} e c x there goes on own is none room) =
      of_queues x (SettleLater from c.number token session how) (found_by_key txn_number (is_transaction n) 0 s.last_txn x s.transactions h.transactions on) (at_most (sum_by weight x.operations + 1) max_operations room)
      (none_pending token.lock s none, alone.0, alone.1, alone.2) where
        lease : (find (λ d. is_living t (leaf_of from.part e).sessions token.lock d.standing && is_named which d) (leaf_of from.part e).copies ≡ Some c) × (is_living t (leaf_of from.part e).sessions token.lock c.standing ≡ true)
        lease = leased_held s t h.ordered token which (leaf_of from.part e) c is

        has : (standing : Standing) → is_living t (leaf_of from.part e).sessions token.lock standing ≡ true → has_lock token.lock standing ≡ true
        has (Held lock hold deferred) lives = (two (lock == token.lock) (lasts t (leaf_of from.part e).sessions hold) lives).0
        has Ready lives = absurd cc
        has Deferred lives = absurd cc
        has (Scheduled moment) lives = absurd cc

        alone : (times_holding token.lock s ≡ 0) × (0 < token.lock) × (token.lock ≤ s.last_lock)
        alone = leased_alone s token.lock from.part (λ y. is_same_entity y.about.path from) e (λ d. is_living t (leaf_of from.part e).sessions token.lock d.standing && is_named which d) c h.locked there lease.0 (has c.standing lease.1)
  shape _ _ _ fits (renews {from = from} e c there free is other) = of_renews (key_of from.part e) c.number (lock_end e t) (end_at from e there)
  shape _ _ _ fits (opens from id e there has free named) = of_opens (key_of from.part e) id (lock_end e t) (end_at from e there)
  shape _ _ _ fits (prolongs {from = from} {token = token} e x there has held other) = of_prolongs (key_of from.part e) token.lock (lock_end e t) (end_at from e there)
  shape _ _ _ fits (closes {from = from} {token = token} e x there has held) = of_acts (closed_acts plain_travels arrives_sending t s h.carries (λ y. is_same_entity y.about.path from) e from.part token.lock there)
  shape _ _ _ fits (writes {from = from} {token = token} {bytes = bytes} e x there has held small other) = of_writes (key_of from.part e) token.lock bytes (at_most (size_of bytes) max_state small)
  shape _ _ _ fits (begins {path = path} e there few) = of_begins e.about.number e (by_number s t h.ordered path e there) (below (length s.transactions) max_transactions few)
  shape _ _ _ fits (commits {n = n} x e there on none) =
      of_acts (commit_acts plain_travels arrives_sending t e x s (each_found (λ x. Each (OperationSent Lasts) x.operations) (is_transaction n) x s.transactions h.queued there) (each_found (λ e. IsPlain e.about) (is_entity x.entity) e s.entities h.carries.abouts on) h.carries)
  shape _ _ _ fits (aborts x o there) = of_acts (act_drops x.number, tt)
  shape _ _ _ fits (rolls_back {n = n} x there) = of_acts (act_drops n, tt)
