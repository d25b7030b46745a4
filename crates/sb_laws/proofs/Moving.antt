-- Where an accepted act leaves the namespace, it has no changes.
use Rattle.std.proofs.Common.{List, Some, [], ap, arith, false, length, map, not, refl, subst, sym, true, ℕ, ◌&&◌, ◌++◌, ◌+◌, ◌==◌, ◌∙◌, ◌∷◌, ◌≡◌, ◌≤◌}
use Rattle.std.proofs.lemmas.List.{length-append}
use Rattle.std.specs.Prelude.{bytes_eq, find}
use Rattle.sb_laws.proofs.AfterTick.{txn_number}
use Rattle.sb_laws.proofs.Entities.{IsOrdered}
use Rattle.sb_laws.proofs.Mild.{main_part}
use Rattle.sb_laws.proofs.Moves.{by_number, copy_by_number, ends_differ, expired_differs, found_by_key, leased_held, living_held, one_same, renewed_same, settled_differs}
use Rattle.sb_laws.proofs.MovesAll.{OpensNone, closes_differ, fewer_open, holder_found, in_turn_open, one_gone, one_in, one_out, operation_open, prolongs_differ, sends_differ, shorter_filter, writes_differ}
use Rattle.sb_laws.proofs.NothingDue.{ordered}
use Rattle.sb_laws.proofs.Outcomes.{Comes, comes, comes_acted}
use Rattle.sb_laws.proofs.Rows.{found}
use Rattle.sb_laws.proofs.Running.{all_later}
use Rattle.sb_laws.proofs.Sameness.{numbers_equal}
use Rattle.sb_laws.proofs.Uniting.{Does, Unites, does_many, does_one}
use Rattle.sb_laws.proofs.Ways.{Way, aborts, adds_rule, begins, cancels, closes, commits, drops_rule, expires, hands_out, makes_queue, makes_subscription, makes_topic, opens, prolongs, queues_send, removes, renews, rolls_back, sends, settles_later, settles_now, takes_out, tells, writes}
use Rattle.sb_laws.specs.Sweepable.{IsSweepable}
use Rattle.sb_machine.specs.Administration.{going_with, rule_in}
use Rattle.sb_machine.specs.Changes.{after, after_all, in_turn, is_transaction, on_entity, rule_added, rule_dropped, with_operation, with_rules}
use Rattle.sb_machine.specs.Delivery.{in_part}
use Rattle.sb_machine.specs.Each.{Each}
use Rattle.sb_machine.specs.Leases.{is_living, is_named, is_scheduled, lives}
use Rattle.sb_machine.specs.Leaves.{copy_in, prolonged_standing}
use Rattle.sb_machine.specs.Names.{is_before, is_same_entity}
use Rattle.sb_machine.specs.Namespace.{entity_of, is_entity, key_of, leaf_of, subscription_path}
use Rattle.sb_machine.specs.Queueing.{deadline_with, transaction_of, txn_life}
use Rattle.sb_machine.specs.Receiving.{lock_end}
use Rattle.sb_machine.specs.Repeats.{acted, outcome_of}
use Rattle.sb_machine.specs.SendRow.{queued_send}
use Rattle.sb_machine.specs.Settlement.{is_until}
use Rattle.sb_machine.specs.Transactions.{operation_changes}
use Rattle.sb_machine.specs.declared.call.Act.{Act}
use Rattle.sb_machine.specs.declared.call.Call.{Call}
use Rattle.sb_machine.specs.declared.call.Part.{Part}
use Rattle.sb_machine.specs.declared.call.Path.{Path}
use Rattle.sb_machine.specs.declared.call.Step.{Step}
use Rattle.sb_machine.specs.declared.change.Cause.TheVariants.{Cancelled, Received}
use Rattle.sb_machine.specs.declared.change.Change.{Change}
use Rattle.sb_machine.specs.declared.change.Change.TheVariants.{AddsRule, Begins, Drops, DropsRule, Queues, Removes}
use Rattle.sb_machine.specs.declared.change.LeafChange.TheVariants.{Renews}
use Rattle.sb_model.specs.declared.message.Message.{Message}
use Rattle.sb_machine.specs.declared.reply.Reply.{Reply}
use Rattle.sb_machine.specs.declared.rule.Rule.{Rule}
use Rattle.sb_machine.specs.declared.state.Entity.{Entity}
use Rattle.sb_machine.specs.declared.state.Operation.{Operation}
use Rattle.sb_machine.specs.declared.state.Session.{Session}
use Rattle.sb_machine.specs.declared.state.Space.{Space}
use Rattle.sb_machine.specs.declared.state.Standing.{Standing}
use Rattle.sb_machine.specs.declared.state.Standing.TheVariants.{Deferred, Held, Ready, Scheduled}
use Rattle.sb_machine.specs.declared.state.State.{State}
use Rattle.sb_machine.specs.declared.state.StoredCopy.{StoredCopy}
use Rattle.sb_machine.specs.declared.state.Transaction.{Transaction}
use Rattle.sb_machine.specs.declared.state.Operation.TheVariants.{Send as SendLater, Settle as SettleLater}

module _ (s : Space) (t : ℕ) (may : IsSweepable s) where
  o : IsOrdered s
  o = ordered s may

  longer : {X : Type 0} (xs : List X) (x : X) → xs ++ x ∷ [] ≡ xs → ⊥
  longer xs x same = absurd (omega (arith, length-append xs (x ∷ []), ap length same))

  counts_on : (a : ℕ) → a + 1 ≡ a → ⊥
  counts_on a same = absurd (omega (arith, same))

  txn_there : (n : ℕ) (x : Transaction) → transaction_of n s ≡ Some x → find (is_transaction x.number) s.transactions ≡ Some x
  txn_there n x there = found_by_key txn_number (is_transaction n) 0 s.last_txn x s.transactions may.transactions there

  queues_differ : (n deadline : ℕ) (operation : Operation) (x : Transaction) → transaction_of n s ≡ Some x → after t (Queues x.number deadline operation) s ≡ s → ⊥
  queues_differ n deadline operation x there same =
      longer x.operations operation (ap (λ (y : Transaction). y.operations) (one_same (is_transaction x.number) (with_operation deadline operation) x s.transactions (txn_there n x there) (ap (λ (y : Space). y.transactions) same)))

  drops_differ : (n : ℕ) (cs : List Change) (x : Transaction) → find (is_transaction n) s.transactions ≡ Some x → Each OpensNone cs → after_all t (Drops n ∷ cs) s ≡ s → ⊥
  drops_differ n cs x there none_open same = absurd (omega (arith, one_gone (is_transaction n) x s.transactions there, fewer_open t cs (after t (Drops n) s) none_open, ap (λ (y : Space). length y.transactions) same))

  fewer_entities : (xs : List Entity) (now : Space) → length (after_all t (map (λ x. Removes x.about.number) xs) now).entities ≤ length now.entities
  fewer_entities [] now = omega arith
  fewer_entities (x ∷ xs) now = omega (arith, fewer_entities xs (after t (Removes x.about.number) now), shorter_filter (λ e. not (is_entity x.about.number e)) now.entities)

  removes_differ : (e : Entity) (xs : List Entity) → entity_of e.about.number s ≡ Some e → after_all t (Removes e.about.number ∷ map (λ x. Removes x.about.number) xs) s ≡ s → ⊥
  removes_differ e xs there same = absurd (omega (arith, one_out (is_entity e.about.number) e s.entities there, fewer_entities xs (after t (Removes e.about.number) s), ap (λ (y : Space). length y.entities) same))

  entity_same : (e : Entity) (f : Entity → Entity) → entity_of e.about.number s ≡ Some e → on_entity e.about.number f s ≡ s.entities → f e ≡ e
  entity_same e f there same = one_same (is_entity e.about.number) f e s.entities there same

  adds_differ : (e : Entity) (rule : Rule) → entity_of e.about.number s ≡ Some e → after t (AddsRule e.about.number rule) s ≡ s → ⊥
  adds_differ e rule there same =
      let rules_same = ap (λ (x : Entity). x.about.rules) (entity_same e (with_rules (rule_added rule)) there (ap (λ (y : Space). y.entities) same)) in
      absurd (omega (arith, one_in (λ x. is_before x.name rule.name) rule e.about.rules, ap length rules_same))

  drops_rule_differ : (e : Entity) (name : List ℕ) (r : Rule) → entity_of e.about.number s ≡ Some e → rule_in name e ≡ Some r → after t (DropsRule e.about.number name) s ≡ s → ⊥
  drops_rule_differ e name r there is same =
      let rules_same = ap (λ (x : Entity). x.about.rules) (entity_same e (with_rules (rule_dropped name)) there (ap (λ (y : Space). y.entities) same)) in
      absurd (omega (arith, one_out (λ x. bytes_eq x.name name) r e.about.rules is, ap length rules_same))

  renews_differ : (e : Entity) (part : Part) (end l : ℕ) (sessions : List Session) (c : StoredCopy) → entity_of e.about.number s ≡ Some e → copy_in c.number (leaf_of part e) ≡ Some c → is_living t sessions l c.standing ≡ true → is_until end c.standing ≡ false
      → after t (in_part part e (Renews c.number end)) s ≡ s → ⊥
  renews_differ e part end l sessions c there found lives other same = at c.standing lives other (renewed_same t (key_of part e) c.number end s e c there found same) where
    at : (standing : Standing) → is_living t sessions l standing ≡ true → is_until end standing ≡ false → prolonged_standing end standing ≡ standing → ⊥
    at Ready lives other is = absurd cc
    at Deferred lives other is = absurd cc
    at (Scheduled moment) lives other is = absurd cc
    at (Held lock hold deferred) lives other is = let off : (end == end) ≡ false = ap (is_until end) is ∙ other in let on = numbers_equal end in absurd cc

  moves_way : (act : Act) (reply : Reply) (cs : List Change) → Way s t act reply cs → after_all t cs s ≡ s → cs ≡ []
  moves_way _ _ _ (tells told) same = refl
  moves_way _ _ _ (makes_queue named new good) same = absurd (counts_on s.last_entity (ap (λ (y : Space). y.last_entity) same))
  moves_way _ _ _ (makes_topic named new good) same = absurd (counts_on s.last_entity (ap (λ (y : Space). y.last_entity) same))
  moves_way _ _ _ (makes_subscription e named short there topic new good) same = absurd (counts_on s.last_entity (ap (λ (y : Space). y.last_entity) same))
  moves_way _ _ _ (adds_rule {topic = topic} {subscription = subscription} {name = name} e f a named there new f_is a_is small) same =
      absurd (adds_differ e (record { name = name; filter = f; action = a }) (by_number s t o (subscription_path topic subscription) e there) same)
  moves_way _ _ _ (removes {path = path} e there) same = absurd (removes_differ e (going_with s e) (by_number s t o path e there) same)
  moves_way _ _ _ (drops_rule {topic = topic} {subscription = subscription} {name = name} e r there is) same = absurd (drops_rule_differ e name r (by_number s t o (subscription_path topic subscription) e there) is same)
  moves_way _ _ _ (sends {to = to} {messages = messages} e goes there sessions small) same = sends_differ t e messages s e (by_number s t o to e there) same
  moves_way _ _ _ (queues_send {to = to} {messages = messages} {n = n} x named goes there room small) same = at messages same where
    at : (ms : List Message) → after_all t (queued_send t to ms x) s ≡ s → queued_send t to ms x ≡ []
    at [] same = refl
    at (m ∷ ms) same = absurd (queues_differ n (deadline_with t x) (SendLater to (m ∷ ms)) x there same)
  moves_way _ _ _ (cancels {from = from} {n = n} e c there is) same =
      absurd (ends_differ t (key_of from.part e) c.number false Cancelled [] s e c (by_number s t o from e there) (copy_by_number s t o from.part e (λ x. is_same_entity x.about.path from) c (λ d. is_scheduled d.standing && (d.number == n)) there is) same)
  moves_way _ _ _ (hands_out from e c p there own is of stands) same = absurd (counts_on s.last_lock (ap (λ (y : Space). y.last_lock) same))
  moves_way _ _ _ (takes_out from e c p there is stands) same = absurd (ends_differ t (key_of from.part e) c.number false Received [] s e c (by_number s t o from e there) (copy_by_number s t o from.part e (λ x. is_same_entity x.about.path from) c p there is) same)
  moves_way _ _ _ (expires from e c p there main is stands) same =
      absurd (expired_differs s t o e c false (by_number s t o from e there) (subst (λ (part : Part). copy_in c.number (leaf_of part e) ≡ Some c) (main_part from.part main) (copy_by_number s t o from.part e (λ x. is_same_entity x.about.path from) c p there is)) same)
  moves_way _ _ _ (settles_now {from = from} {which = which} {token = token} {how = how} e c there goes is none) same =
      let lease = leased_held s t o token which (leaf_of from.part e) c is in
      absurd (settled_differs s t o e from.part c how (by_number s t o from e there) (copy_by_number s t o from.part e (λ x. is_same_entity x.about.path from) c (λ d. is_living t (leaf_of from.part e).sessions token.lock d.standing && is_named which d) there lease.0)
      (living_held s t o (leaf_of from.part e).sessions token.lock c.standing lease.1) goes same)
  moves_way _ _ _ (settles_later {from = from} {token = token} {session = session} {how = how} {n = n} e c x there goes on own is none room) same = absurd (queues_differ n (deadline_with t x) (SettleLater from c.number token session how) x on same)
  moves_way _ _ _ (renews {from = from} {which = which} {token = token} e c there free is other) same =
      let lease = leased_held s t o token which (leaf_of from.part e) c is in
      absurd (renews_differ e from.part (lock_end e t) token.lock (leaf_of from.part e).sessions c (by_number s t o from e there)
      (copy_by_number s t o from.part e (λ x. is_same_entity x.about.path from) c (λ d. is_living t (leaf_of from.part e).sessions token.lock d.standing && is_named which d) there lease.0) lease.1 other same)
  moves_way _ _ _ (opens from id e there has free named) same = absurd (counts_on s.last_lock (ap (λ (y : Space). y.last_lock) same))
  moves_way _ _ _ (prolongs {from = from} {token = token} e x there has held other) same =
      let holds = holder_found s t may from.part (λ y. is_same_entity y.about.path from) e token x there held in
      absurd (prolongs_differ s t may from.part e token.lock (lock_end e t) x (by_number s t o from e there) holds.0 holds.1 other same)
  moves_way _ _ _ (closes {from = from} {token = token} e x there has held) same =
      let holds = holder_found s t may from.part (λ y. is_same_entity y.about.path from) e token x there held in
      absurd (closes_differ s t may from.part e token.lock x (by_number s t o from e there) holds.0 holds.1 same)
  moves_way _ _ _ (writes {from = from} {token = token} {bytes = bytes} e x there has held small other) same =
      let holds = holder_found s t may from.part (λ y. is_same_entity y.about.path from) e token x there held in
      absurd (writes_differ s t may from.part e token.lock bytes x (by_number s t o from e there) holds.0 holds.1 other same)
  moves_way _ _ _ (begins e there few) same = absurd (counts_on s.last_txn (ap (λ (y : Space). y.last_txn) same))
  moves_way _ _ _ (commits {n = n} x e there on none) same =
      absurd (drops_differ x.number (in_turn (operation_changes t e) t x.operations (after t (Drops x.number) s)) x (txn_there n x there) (in_turn_open (operation_changes t e) t x.operations (after t (Drops x.number) s) (λ p now. operation_open t e p now)) same)
  moves_way _ _ _ (aborts {n = n} x p there) same = absurd (drops_differ x.number [] x (txn_there n x there) tt same)
  moves_way _ _ _ (rolls_back {n = n} x there) same = absurd (drops_differ n [] x there tt same)

-- operations that act together begin a transaction, and no number is given back
united_moves : (s : Space) (t : ℕ) (path : Path) (steps : List Step) (reply : Reply) (cs : List Change) → Unites s t path steps reply cs → after_all t cs s ≡ s → ⊥
united_moves s t path steps reply cs u same =
    let first = Begins u.entity.about.number (t + txn_life) in
    let rises = (all_later t u.behind_it (after t first s)).txn in
    let last_is : (after_all t u.behind_it (after t first s)).last_txn ≡ s.last_txn = ap (λ (p : Space). p.last_txn) (sym (ap (λ (l : List Change). after_all t l s) u.changes) ∙ same) in
    absurd (omega (arith, rises, last_is))

pub moves_change : (s : State) (t : ℕ) (call : Call) (reply : Reply) (cs : List Change) → IsSweepable s.space → outcome_of s t call ≡ acted reply cs → after_all t cs s.space ≡ s.space → cs ≡ []
moves_change s t call reply cs may is same = by (subst (Comes s t call) is (comes s t call)) where
  by : Comes s t call (acted reply cs) → cs ≡ []
  by (comes_acted newer fits) = on call.act fits.does where
    on : (act : Act) → Does s.space t act reply cs → cs ≡ []
    on act (does_one way) = moves_way s.space t may act reply cs way same
    on _ (does_many {path = path} {steps = steps} u) = absurd (united_moves s.space t path steps reply cs u same)
