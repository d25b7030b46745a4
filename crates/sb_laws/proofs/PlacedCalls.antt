-- Calls and ticks keep what is queued in transactions as it was queued.
use Rattle.std.proofs.Common.{Bool, List, None, Option, Some, [], ap, arith, false, length, nat_le, refl, subst, sym, true, ℕ, ◌&&◌, ◌+◌, ◌<◌, ◌==◌, ◌∙◌, ◌∷◌, ◌≡◌, ◌≤◌}
use Rattle.std.specs.Prelude.{codes, find, is_none, nat_lt, not, ◌||◌}
use Rattle.std.proofs.lemmas.Bool.Decides.{nat_tests}
use Rattle.sb_laws.proofs.Carried.{IsOfAct, closed_acts, commit_acts, copy_at, expired_acts, sends_acts, settled_acts}
use Rattle.sb_laws.proofs.Consistency.{first_none, passed, then_none}
use Rattle.sb_laws.proofs.Eachs.{each_found, is_equal}
use Rattle.sb_laws.proofs.Entities.{EachLeaf, LeafRises, copy_number, leaf_each}
use Rattle.sb_laws.proofs.Listing.{entity_turned}
use Rattle.sb_laws.proofs.Lists.{found_passes}
use Rattle.sb_laws.proofs.Locking.{FreesLocks, copy_once, held_in, held_in_leaf, one, times_held}
use Rattle.sb_laws.proofs.Messages.{both}
use Rattle.sb_laws.proofs.Mild.{IsCarried}
use Rattle.sb_laws.proofs.Moves.{by_number, leased_held}
use Rattle.sb_laws.proofs.OwnLocks.{HoldsThat, found_sum, key_at, lock_is_own}
use Rattle.sb_laws.proofs.Shapes.{Arrives, PlainCore, arrives_sending, plain_travels}
use Rattle.sb_laws.proofs.Ways.{Way, aborts, adds_rule, begins, cancels, closes, commits, drops_rule, expires, hands_out, makes_queue, makes_subscription, makes_topic, opens, prolongs, queues_send, removes, renews, rolls_back, sends, settles_later, settles_now, takes_out, tells, writes}
use Rattle.sb_machine.specs.Acts.{is_via_in}
use Rattle.sb_machine.specs.Administration.{default_rule, going_with}
use Rattle.sb_machine.specs.Changes.{after_all, is_transaction, max_number}
use Rattle.sb_machine.specs.Delivery.{expired, in_part}
use Rattle.sb_machine.specs.Each.{Each, has_lock}
use Rattle.sb_machine.specs.Fields.{bad_in_act, bad_in_message, bad_in_messages, first_some, is_between, is_between_or_none, is_number, max_messages, unless}
use Rattle.sb_machine.specs.Leases.{is_living, is_named}
use Rattle.sb_machine.specs.Names.{is_address, is_main, is_same_entity}
use Rattle.sb_machine.specs.Namespace.{made_in, entity_at, entity_of, entity_path, is_entity, leaf_of, listed, made, subscription_path}
use Rattle.sb_machine.specs.Queueing.{deadline_with, txn_life}
use Rattle.sb_machine.specs.Receiving.{lock_end}
use Rattle.sb_machine.specs.SendRow.{is_destination, is_other, is_via, queued_send}
use Rattle.sb_machine.specs.Sending.{send_changes}
use Rattle.sb_machine.specs.Sessions.{closed}
use Rattle.sb_machine.specs.Settlement.{goes_with, settled}
use Rattle.sb_machine.specs.SettleRow.{is_on}
use Rattle.sb_machine.specs.Transactions.{commit_changes}
use Rattle.sb_machine.specs.declared.call.Act.{Act}
use Rattle.sb_machine.specs.declared.call.Act.TheVariants.{Send}
use Rattle.sb_machine.specs.declared.call.Path.{Path}
use Rattle.sb_machine.specs.declared.change.Cause.TheVariants.{Cancelled, Received}
use Rattle.sb_machine.specs.declared.change.Change.{Change}
use Rattle.sb_machine.specs.declared.change.Change.TheVariants.{AddsRule, Begins, Drops, DropsRule, Makes, Queues}
use Rattle.sb_machine.specs.declared.change.LeafChange.TheVariants.{Ends, Holds, Opens, Prolongs, Renews, Writes}
use Rattle.sb_machine.specs.declared.reply.Reply.{Reply}
use Rattle.sb_machine.specs.declared.state.Entity.{Entity}
use Rattle.sb_machine.specs.declared.state.EntityKind.TheVariants.{Queue, Subscription, Topic}
use Rattle.sb_machine.specs.declared.state.Leaf.{Leaf}
use Rattle.sb_machine.specs.declared.state.Operation.TheVariants.{Send as SendLater, Settle as SettleLater}
use Rattle.sb_machine.specs.declared.state.Space.{Space}
use Rattle.sb_machine.specs.declared.state.Standing.{Standing}
use Rattle.sb_machine.specs.declared.state.Standing.TheVariants.{Deferred, Held, Ready, Scheduled}
use Rattle.sb_machine.specs.declared.state.StoredCopy.{StoredCopy}
use Rattle.sb_machine.specs.declared.state.Transaction.{Transaction}
use Rattle.sb_model.specs.declared.message.Message.{Message}
use Rattle.sb_laws.proofs.Carried.{OperationSent, about_at}
use Rattle.sb_laws.proofs.Core.{Fields}
use Rattle.sb_laws.proofs.Eachs.{rising_above}
use Rattle.sb_laws.proofs.NothingDue.{Lasts}
use Rattle.sb_laws.proofs.Placing.{ArePlaced, IsSettled, QueuesPlaced, acts_placed, placed_step, removed_placed}
use Rattle.sb_laws.specs.Plain.{IsPlain}
use Rattle.sb_machine.specs.Queueing.{transaction_of}
use Rattle.sb_machine.specs.declared.call.How.{How}
use Rattle.sb_machine.specs.declared.call.Part.{Part}
use Rattle.sb_machine.specs.declared.call.Part.TheVariants.{Dead, Main, Transfer}
use Rattle.sb_machine.specs.declared.call.Token.{Token}
use Rattle.sb_machine.specs.declared.call.Which.{Which}

-- ---- what a call's fields say of a send that is queued

few_messages : (is_via : Bool) (to : Path) (ms : List Message) (txn : Option ℕ) → bad_in_act is_via (Send to ms txn) ≡ None → (length ms ≤ max_messages) × (bad_in_messages is_via ms ≡ None)
few_messages is_via to ms txn good =
    let first = then_none (nat_le (length ms) max_messages) (codes "messages") (first_some (bad_in_messages is_via ms) (unless (is_between_or_none 1 max_number txn) (codes "txn"))) good in
    (at_most (length ms) max_messages first.0, (first_none (bad_in_messages is_via ms) (unless (is_between_or_none 1 max_number txn) (codes "txn")) first.1).0)
  where
    at_most : (m n : ℕ) → nat_le m n ≡ true → m ≤ n
    at_most m n e = grind (arith, nat_tests)

-- none of the messages to another entity has a schedule
none_scheduled : (ms : List Message) → bad_in_messages true ms ≡ None → Each (λ m. m.schedule ≡ None) ms
none_scheduled [] good = tt
none_scheduled (m ∷ ms) good =
    let parts = first_none (bad_in_message true m) (bad_in_messages true ms) good in
    (no_schedule m.schedule (passed (not true || is_none m.schedule) (codes "schedule") (then_none _ _ _ (first_none _ _ parts.0).1).1), none_scheduled ms parts.1)
  where
    no_schedule : (o : Option ℕ) → is_none o ≡ true → o ≡ None
    no_schedule None e = refl
    no_schedule (Some n) e = absurd cc

between_so : (n : ℕ) → n ≤ max_messages → 1 ≤ n → is_between 1 max_messages n ≡ true
between_so n few some = grind (arith, nat_tests)

in_range : (n last : ℕ) → 0 < n → n ≤ last → last ≤ max_number → is_number n ≡ true
in_range n last above_none up most = grind (arith, nat_tests)

living_has : (t l : ℕ) (leaf : Leaf) (standing : Standing) → is_living t leaf.sessions l standing ≡ true → has_lock l standing ≡ true
living_has t l leaf Ready e = absurd cc
living_has t l leaf Deferred e = absurd cc
living_has t l leaf (Scheduled moment) e = absurd cc
living_has t l leaf (Held lock hold deferred) e = (both (lock == l) _ e).0

some_is : {X : Type 0} (a b : X) → ◌≡◌ {A = Option X} (Some a) (Some b) → a ≡ b
some_is a b e = cc

-- ---- each accepted act

module _ (t : ℕ) (s : Space) (core : PlainCore s) (h : IsSettled s) (most : made s ≤ max_number) where
  single : (c : Change) → ((k : ℕ) → FreesLocks k c) → QueuesPlaced c s → ArePlaced (after_all t (c ∷ []) s)
  single c frees queues = placed_step t c s frees queues h.0 h.1

  acts : (cs : List Change) → Each (IsOfAct Arrives t) cs → ArePlaced (after_all t cs s)
  acts cs of_acts = (acts_placed t cs s of_acts h).1

  about_of : (path : Path) (e : Entity) → entity_at path s ≡ Some e → IsPlain e.about
  about_of path e there = about_at plain_travels arrives_sending t s core.carries (λ x. is_same_entity x.about.path path) e there

  copy_of : (from : Path) (e : Entity) (q : StoredCopy → Bool) (c : StoredCopy) → entity_at from s ≡ Some e → find q (leaf_of from.part e).copies ≡ Some c → IsCarried Arrives c
  copy_of from e q c there found = copy_at plain_travels arrives_sending t s core.carries (λ x. is_same_entity x.about.path from) e from.part q c there found

  -- the transaction that is open under a number is the one that is found by its own
  same_txn : (n : ℕ) (x y : Transaction) → transaction_of n s ≡ Some x → find (is_transaction x.number) s.transactions ≡ Some y → y ≡ x
  same_txn n x y there found =
      let number_is : x.number ≡ n = is_equal x.number n (found_passes (is_transaction n) x s.transactions there) in
      some_is y x (sym (subst (λ (m : ℕ). find (is_transaction m) s.transactions ≡ Some y) number_is found) ∙ there)

  send_queued : (to : Path) (m : Message) (ms : List Message) (n deadline : ℕ) (x : Transaction) → bad_in_act (is_via_in s (Send to (m ∷ ms) (Some n))) (Send to (m ∷ ms) (Some n)) ≡ None → is_address to ≡ true → is_destination to ≡ true → transaction_of n s ≡ Some x
      → QueuesPlaced (Queues x.number deadline (SendLater to (m ∷ ms))) s
  send_queued to m ms n deadline x good named goes there y found = (tt, λ e at_e. (named, is_main_so, bare_so, between_so (length (m ∷ ms)) few.0 (omega arith), λ other. none_scheduled (m ∷ ms) (subst (λ (b : Bool). bad_in_messages b (m ∷ ms) ≡ None) (via e at_e other) few.1))) where
    few : (length (m ∷ ms) ≤ max_messages) × (bad_in_messages (is_via_in s (Send to (m ∷ ms) (Some n))) (m ∷ ms) ≡ None)
    few = few_messages (is_via_in s (Send to (m ∷ ms) (Some n))) to (m ∷ ms) (Some n) good

    is_main_so : is_main to.part ≡ true
    is_main_so = (both (is_none to.subscription) (is_main to.part) goes).1

    bare_so : is_none to.subscription ≡ true
    bare_so = (both (is_none to.subscription) (is_main to.part) goes).0

    turned : (b : Bool) → b ≡ false → not b ≡ true
    turned true e = absurd cc
    turned false e = refl

    via : (e : Entity) → entity_of y.entity s ≡ Some e → is_same_entity to e.about.path ≡ false → is_via_in s (Send to (m ∷ ms) (Some n)) ≡ true
    via e at_e other =
        let same : y ≡ x = same_txn n x y there found in
        let on_x : entity_of x.entity s ≡ Some e = subst (λ (z : Transaction). entity_of z.entity s ≡ Some e) same at_e in
        ap (λ (o : Option Transaction). is_via s to o) there ∙ ap (is_other to) on_x ∙ turned (is_same_entity to e.about.path) other

  settle_queued : (from : Path) (which : Which) (token : Token) (session : Option Token) (how : How) (n deadline : ℕ) (e : Entity) (c : StoredCopy) (x : Transaction) → entity_at from s ≡ Some e → goes_with how from.part ≡ true → transaction_of n s ≡ Some x → is_on e (Some x) ≡ true
      → find (λ d. is_living t (leaf_of from.part e).sessions token.lock d.standing && is_named which d) (leaf_of from.part e).copies ≡ Some c → has_lock token.lock c.standing ≡ true → QueuesPlaced (Queues x.number deadline (SettleLater from c.number token session how)) s
  settle_queued from which token session how n deadline e c x there goes open_so on own held y found = ((lock_given, subst (λ (k : ℕ). HoldsThat token.lock (key_at k from.part) c.number s) number_is (lock_is_own s token.lock (λ z. is_same_entity z.about.path from) _ e from.part c core.locked there own held)), λ d at_d. (path_so d at_d, number_so, goes)) where
    same : y ≡ x
    same = same_txn n x y open_so found

    number_is : e.about.number ≡ y.entity
    number_is = sym (is_equal x.entity e.about.number on) ∙ ap (λ (z : Transaction). z.entity) (sym same)

    held_once : 1 ≤ times_held token.lock s
    held_once =
        let one_copy : copy_once token.lock c ≡ 1 = ap one held in
        let in_leaf = found_sum (copy_once token.lock) _ c (leaf_of from.part e).copies own in
        let in_all = found_sum (held_in token.lock) (λ z. is_same_entity z.about.path from) e s.entities there in
        omega (arith, in_all, in_part_of from.part, in_leaf, one_copy)
      where
        in_part_of : (part : Part) → held_in_leaf token.lock (leaf_of part e) ≤ held_in token.lock e
        in_part_of Main = omega arith
        in_part_of Dead = omega arith
        in_part_of Transfer = omega arith

    lock_given : token.lock ≤ s.last_lock
    lock_given = at (nat_lt s.last_lock token.lock) refl where
      given : nat_lt s.last_lock token.lock ≡ false → token.lock ≤ s.last_lock
      given is = grind (arith, nat_tests)

      over : nat_lt s.last_lock token.lock ≡ true → s.last_lock < token.lock
      over is = grind (arith, nat_tests)

      at : (b : Bool) → nat_lt s.last_lock token.lock ≡ b → token.lock ≤ s.last_lock
      at true is = let none = core.locked.fresh token.lock (over is) in absurd (omega (arith, none, held_once))
      at false is = given is

    path_so : (d : Entity) → entity_of y.entity s ≡ Some d → is_same_entity from d.about.path ≡ true
    path_so d at_d =
        let by : entity_of e.about.number s ≡ Some e = by_number s t core.ordered from e there in
        let same_one : d ≡ e = some_is d e (sym (subst (λ (k : ℕ). entity_of k s ≡ Some d) (sym number_is) at_d) ∙ by) in
        entity_turned from d.about.path ∙ subst (λ (z : Entity). is_same_entity z.about.path from ≡ true) (sym same_one) (found_passes (λ z. is_same_entity z.about.path from) e s.entities there)

    number_so : is_number c.number ≡ true
    number_so =
        let rises = leaf_each LeafRises from.part e (each_found (EachLeaf LeafRises) (λ z. is_same_entity z.about.path from) e s.entities core.ordered.copies there) in
        let range = each_found (λ d. (0 < copy_number d) × (copy_number d ≤ (leaf_of from.part e).last)) _ c (leaf_of from.part e).copies (rising_above copy_number 0 (leaf_of from.part e).last (leaf_of from.part e).copies rises) own in
        in_range c.number (leaf_of from.part e).last range.0 range.1 (omega (arith, most, last_made from.part))
      where
        last_made : (part : Part) → (leaf_of part e).last ≤ made s
        last_made part = let in_all = found_sum made_in (λ z. is_same_entity z.about.path from) e s.entities there in omega (arith, in_all, within part) where
          within : (part : Part) → (leaf_of part e).last ≤ made_in e
          within Main = omega arith
          within Dead = omega arith
          within Transfer = omega arith

  pub placed_way : (act : Act) (reply : Reply) (cs : List Change) → bad_in_act (is_via_in s act) act ≡ None → Fields Arrives IsPlain Lasts s act → Way s t act reply cs → ArePlaced (after_all t cs s)
  placed_way _ _ _ good fits (tells told) = h.1
  placed_way _ _ _ good fits (makes_queue {name = name} {d = d} named new fine) = single (Makes Queue (entity_path name) d []) (λ k. tt) tt
  placed_way _ _ _ good fits (makes_topic {name = name} {d = d} named new fine) = single (Makes Topic (entity_path name) d []) (λ k. tt) tt
  placed_way _ _ _ good fits (makes_subscription {topic = topic} {name = name} {d = d} e named short there is new fine) = single (Makes Subscription (subscription_path topic name) d (default_rule ∷ [])) (λ k. tt) tt
  placed_way _ _ _ good fits (adds_rule {name = name} e f a named there new f_is a_is small) = single (AddsRule e.about.number (record { name = name; filter = f; action = a })) (λ k. tt) tt
  placed_way _ _ _ good fits (removes e there) = (removed_placed t (e ∷ going_with s e) s h).1
  placed_way _ _ _ good fits (drops_rule {name = name} e r there is) = single (DropsRule e.about.number name) (λ k. tt) tt
  placed_way _ _ _ good fits (sends {to = to} {messages = messages} e goes there sessions small) = acts (send_changes t e messages s) (sends_acts plain_travels arrives_sending t e messages s (fits.messages to messages None refl small) (about_of to e there) core.carries)
  placed_way _ _ _ good fits (queues_send {to = to} {messages = messages} {n = n} x named goes there room small) = at messages good where
    at : (ms : List Message) → bad_in_act (is_via_in s (Send to ms (Some n))) (Send to ms (Some n)) ≡ None → ArePlaced (after_all t (queued_send t to ms x) s)
    at [] good = h.1
    at (m ∷ ms) good = single (Queues x.number (deadline_with t x) (SendLater to (m ∷ ms))) (λ k. tt) (send_queued to m ms n (deadline_with t x) x good named goes there)
  placed_way _ _ _ good fits (cancels {from = from} e c there is) = single (in_part from.part e (Ends c.number false Cancelled)) (λ k. tt) tt
  placed_way _ _ _ good fits (hands_out from e c p there own is of stands) = single (in_part from.part e (Holds c.number _)) (λ k. tt) tt
  placed_way _ _ _ good fits (takes_out from e c p there is stands) = single (in_part from.part e (Ends c.number false Received)) (λ k. tt) tt
  placed_way _ _ _ good fits (expires from e c p there main is stands) = acts (expired (listed s) e c false) (expired_acts plain_travels arrives_sending t s core.carries e c (about_of from e there) (copy_of from e p c there is))
  placed_way _ _ _ good fits (settles_now {from = from} {which = which} {token = token} {session = session} {how = how} e c there goes is none) =
      acts (settled (listed s) t e from.part c how) (settled_acts plain_travels arrives_sending t s core.carries e from.part c how (about_of from e there)
      (copy_of from e (λ d. is_living t (leaf_of from.part e).sessions token.lock d.standing && is_named which d) c there (leased_held s t core.ordered token which (leaf_of from.part e) c is).0) (fits.how from which token session how None refl))
  placed_way _ _ _ good fits (settles_later {from = from} {which = which} {token = token} {session = session} {how = how} {n = n} e c x there goes on own is none room) =
      let held = leased_held s t core.ordered token which (leaf_of from.part e) c is in
      single (Queues x.number (deadline_with t x) (SettleLater from c.number token session how)) (λ k. tt) (settle_queued from which token session how n (deadline_with t x) e c x there goes on own held.0 (living_has t token.lock (leaf_of from.part e) c.standing held.1))
  placed_way _ _ _ good fits (renews {from = from} e c there free is other) = single (in_part from.part e (Renews c.number (lock_end e t))) (λ k. tt) tt
  placed_way _ _ _ good fits (opens from id e there has free named) = single (in_part from.part e (Opens id (lock_end e t))) (λ k. tt) tt
  placed_way _ _ _ good fits (prolongs {from = from} {token = token} e x there has held other) = single (in_part from.part e (Prolongs token.lock (lock_end e t))) (λ k. tt) tt
  placed_way _ _ _ good fits (closes {from = from} {token = token} e x there has held) = acts (closed s t e from.part token.lock) (closed_acts plain_travels arrives_sending t s core.carries (λ y. is_same_entity y.about.path from) e from.part token.lock there)
  placed_way _ _ _ good fits (writes {from = from} {token = token} {bytes = bytes} e x there has held small other) = single (in_part from.part e (Writes token.lock bytes)) (λ k. tt) tt
  placed_way _ _ _ good fits (begins e there few) = single (Begins e.about.number (t + txn_life)) (λ k. tt) tt
  placed_way _ _ _ good fits (commits {n = n} x e there on none) =
      acts (commit_changes t e x s) (commit_acts plain_travels arrives_sending t e x s (each_found (λ x. Each (OperationSent Lasts) x.operations) (is_transaction n) x s.transactions core.queued there) (each_found (λ e. IsPlain e.about) (is_entity x.entity) e s.entities core.carries.abouts on) core.carries)
  placed_way _ _ _ good fits (aborts x o there) = single (Drops x.number) (λ k. tt) tt
  placed_way _ _ _ good fits (rolls_back {n = n} x there) = single (Drops n) (λ k. tt) tt
