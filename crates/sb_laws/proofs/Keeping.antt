-- A namespace that can be swept stays so, through ticks and calls.
use Rattle.std.proofs.Common.{Bool, List, None, Option, Some, [], ap, arith, false, length, nat_le, refl, subst, sym, true, ℕ, ◌++◌, ◌<◌, ◌==◌, ◌∙◌, ◌∷◌, ◌≡◌, ◌≢◌, ◌≤◌}
use Rattle.std.proofs.lemmas.Bool.Decides.{nat_tests}
use Rattle.std.proofs.lemmas.List.Sums.{sum_by-append, sum_by-cons}
use Rattle.std.specs.List.{flat_map}
use Rattle.std.specs.Prelude.{codes, if◌then◌else◌, sum_by}
use Rattle.sb_laws.proofs.Carried.{OperationSent, Sends}
use Rattle.sb_laws.proofs.Consistency.{described_ttl, first_none, lasting, then_none}
use Rattle.sb_laws.proofs.Core.{Fields, IsCore, Lists, core_way}
use Rattle.sb_laws.proofs.Eachs.{differs, each_implied, is_equal}
use Rattle.sb_laws.proofs.Entities.{EachLeaf, LeafRises, copy_number, leaf_each}
use Rattle.sb_laws.proofs.Lists.{sum_single}
use Rattle.sb_laws.proofs.Locking.{IsLocked, copy_once, held_in, held_in_leaf, one, session_once, times_held}
use Rattle.sb_laws.proofs.Mild.{IsCarried}
use Rattle.sb_laws.proofs.NothingDue.{Lasts, LastsIn, lasts_travels}
use Rattle.sb_laws.proofs.Outcomes.{Comes, comes, comes_acted}
use Rattle.sb_laws.proofs.Running.{act_keeps}
use Rattle.sb_laws.specs.Sweepable.{IsLasting, IsSweepable, IsSweepableCopy, IsSweepableEntity, IsSweepableLeaf}
use Rattle.sb_machine.specs.Acts.{is_via_in}
use Rattle.sb_machine.specs.Answers.{is_change, keeping, state_in, state_of}
use Rattle.sb_machine.specs.Changes.{after_all, max_number}
use Rattle.sb_machine.specs.Consistent.{IsOperation, IsTransaction, holder_lock, locks_in, locks_of}
use Rattle.sb_machine.specs.Delivery.{carried}
use Rattle.sb_machine.specs.Each.{Each, Pairs, has_lock}
use Rattle.sb_machine.specs.Ends.{lock_in}
use Rattle.sb_machine.specs.Fields.{bad_in_act, bad_in_conditions, bad_in_how, bad_in_message, bad_in_messages, bad_in_which, first_some, is_between_or_none, max_messages, unless}
use Rattle.sb_machine.specs.Fit.{IsMessage}
use Rattle.sb_machine.specs.Keyed.{AreRising}
use Rattle.sb_machine.specs.Leases.{lasts}
use Rattle.sb_machine.specs.Reasons.{with_reason}
use Rattle.sb_machine.specs.Repeats.{Outcome, acted, client_of, forgot, outcome_of, refused, repeated}
use Rattle.sb_machine.specs.SendRow.{is_via}
use Rattle.sb_machine.specs.declared.call.Act.{Act}
use Rattle.sb_machine.specs.declared.call.Act.TheVariants.{Send, Settle}
use Rattle.sb_machine.specs.declared.call.Call.{Call}
use Rattle.sb_machine.specs.declared.call.How.{How}
use Rattle.sb_machine.specs.declared.call.Part.TheVariants.{Dead, Main, Transfer}
use Rattle.sb_machine.specs.declared.call.Path.{Path}
use Rattle.sb_machine.specs.declared.call.Token.{Token}
use Rattle.sb_machine.specs.declared.call.Which.{Which}
use Rattle.sb_model.specs.declared.message.Message.{Message}
use Rattle.sb_machine.specs.declared.state.Entity.{Entity}
use Rattle.sb_machine.specs.declared.state.EntityKind.TheVariants.{Subscription}
use Rattle.sb_machine.specs.declared.state.Holder.{Holder}
use Rattle.sb_machine.specs.declared.state.Leaf.{Leaf}
use Rattle.sb_machine.specs.declared.state.Operation.{Operation}
use Rattle.sb_machine.specs.declared.state.Session.{Session}
use Rattle.sb_machine.specs.declared.state.Space.{Space}
use Rattle.sb_machine.specs.declared.state.Standing.{Standing}
use Rattle.sb_machine.specs.declared.state.Standing.TheVariants.{Deferred, Held, Ready, Scheduled}
use Rattle.sb_machine.specs.declared.state.State.{State}
use Rattle.sb_machine.specs.declared.state.StoredCopy.{StoredCopy}
use Rattle.sb_machine.specs.declared.state.Transaction.{Transaction}
use Rattle.sb_machine.specs.declared.state.Operation.TheVariants.{Send as SendLater, Settle as SettleLater}

-- ---- sums and pairs

pub flat_sum : {X : Type 0} (f : ℕ → ℕ) (g : X → List ℕ) (xs : List X) → sum_by f (flat_map g xs) ≡ sum_by (λ x. sum_by f (g x)) xs
flat_sum f g [] = refl
flat_sum f g (x ∷ xs) = omega (arith, sum_by-append f (g x) (flat_map g xs), sum_by-cons (λ y. sum_by f (g y)) x xs, flat_sum f g xs)

abbrev pub times_in : ℕ → List ℕ → ℕ
times_in k ls = sum_by (λ l. one (l == k)) ls

none_more : (l : ℕ) (ms : List ℕ) → times_in l ms ≡ 0 → Each (λ m. l ≢ m) ms
none_more l [] none = tt
none_more l (m ∷ ms) none = ((λ same. clash l m same (omega (arith, none, sum_by-cons (λ k. one (k == l)) m ms))), none_more l ms (omega (arith, none, sum_by-cons (λ k. one (k == l)) m ms))) where
  clash : (l m : ℕ) → l ≡ m → one (m == l) ≡ 0 → ⊥
  clash l m same zero_so = absurd (grind (arith, nat_tests))

pub pairs_of_counts : (ls : List ℕ) → ((k : ℕ) → times_in k ls ≤ 1) → Pairs (λ l m. l ≢ m) ls
pairs_of_counts [] few = tt
pairs_of_counts (l ∷ ls) few = (none_more l ls (omega (arith, few l, sum_by-cons (λ k. one (k == l)) l ls, self l)), pairs_of_counts ls (λ k. omega (arith, few k, sum_by-cons (λ m. one (m == k)) l ls))) where
  self : (l : ℕ) → one (l == l) ≡ 1
  self l = grind (arith, nat_tests)

pub no_more : (l : ℕ) (ms : List ℕ) → Each (λ m. l ≢ m) ms → times_in l ms ≡ 0
no_more l [] h = refl
no_more l (m ∷ ms) h = omega (arith, sum_by-cons (λ k. one (k == l)) m ms, other l m h.0, no_more l ms h.1) where
  at : (b : Bool) (l m : ℕ) → (m == l) ≡ b → (l ≡ m → ⊥) → one b ≡ 0
  at true l m is differs = absurd (differs (sym (is_equal m l is)))
  at false l m is differs = refl

  other : (l m : ℕ) → (l ≡ m → ⊥) → one (m == l) ≡ 0
  other l m differs = at (m == l) l m refl differs

pub counts_of_pairs : (k : ℕ) (ls : List ℕ) → Pairs (λ l m. l ≢ m) ls → times_in k ls ≤ 1
counts_of_pairs k [] h = omega arith
counts_of_pairs k (l ∷ ls) h = at (l == k) refl (counts_of_pairs k ls h.1) where
  at : (b : Bool) → (l == k) ≡ b → times_in k ls ≤ 1 → times_in k (l ∷ ls) ≤ 1
  at true is rest = let none : times_in k ls ≡ 0 = subst (λ (n : ℕ). times_in n ls ≡ 0) (is_equal l k is) (no_more l ls h.0) in omega (arith, none, ap one is, sum_by-cons (λ m. one (m == k)) l ls)
  at false is rest = omega (arith, rest, ap one is, sum_by-cons (λ m. one (m == k)) l ls)

pub each_counted : (ls : List ℕ) → Each (λ l. 1 ≤ times_in l ls) ls
each_counted [] = tt
each_counted (l ∷ ls) = (omega (arith, sum_by-cons (λ m. one (m == l)) l ls, self l), each_implied (λ k. 1 ≤ times_in k ls) (λ k. 1 ≤ times_in k (l ∷ ls)) (λ k le. omega (arith, le, sum_by-cons (λ m. one (m == k)) l ls)) ls (each_counted ls)) where
  self : (l : ℕ) → one (l == l) ≡ 1
  self l = grind (arith, nat_tests)

-- ---- locks of a part, of an entity, of all

pub same_sums : {X : Type 0} (f g : X → ℕ) (xs : List X) → ((x : X) → f x ≡ g x) → sum_by f xs ≡ sum_by g xs
same_sums f g [] same = refl
same_sums f g (x ∷ xs) same = omega (arith, sum_by-cons f x xs, sum_by-cons g x xs, same x, same_sums f g xs same)

pub copy_times : (k : ℕ) (c : StoredCopy) → times_in k (lock_in c.standing) ≡ copy_once k c
copy_times k c = at c.standing where
  at : (standing : Standing) → times_in k (lock_in standing) ≡ one (has_lock k standing)
  at Ready = refl
  at Deferred = refl
  at (Scheduled moment) = refl
  at (Held lock hold deferred) = sum_single (λ l. one (l == k)) lock

session_times : (k : ℕ) (x : Session) → times_in k (holder_lock x) ≡ session_once k x
session_times k x = at x.holder where
  at : (o : Option Holder) → times_in k (elim o [ Some h ↦ h.lock ∷ [] | None ↦ [] ]) ≡ one (elim o as (λ _. Bool) [ Some h ↦ h.lock == k | None ↦ false ])
  at None = refl
  at (Some h) = sum_single (λ l. one (l == k)) h.lock

pub sessions_times : (k : ℕ) (xs : List Session) → times_in k (flat_map holder_lock xs) ≡ sum_by (session_once k) xs
sessions_times k xs = flat_sum (λ l. one (l == k)) holder_lock xs ∙ same_sums (λ x. times_in k (holder_lock x)) (session_once k) xs (session_times k)

leaf_times : (k : ℕ) (leaf : Leaf) → times_in k (locks_in leaf) ≡ held_in_leaf k leaf
leaf_times k leaf =
    let copies = flat_sum (λ l. one (l == k)) (λ c. lock_in c.standing) leaf.copies ∙ same_sums (λ c. times_in k (lock_in c.standing)) (copy_once k) leaf.copies (copy_times k) in
    omega (arith, sum_by-append (λ l. one (l == k)) (flat_map (λ c. lock_in c.standing) leaf.copies) (flat_map holder_lock leaf.sessions), copies, sessions_times k leaf.sessions)

entity_times : (k : ℕ) (e : Entity) → times_in k (locks_in e.main ++ locks_in e.dead ++ locks_in e.transfer) ≡ held_in k e
entity_times k e = omega (arith, sum_by-append (λ l. one (l == k)) (locks_in e.main ++ locks_in e.dead) (locks_in e.transfer), sum_by-append (λ l. one (l == k)) (locks_in e.main) (locks_in e.dead), leaf_times k e.main, leaf_times k e.dead, leaf_times k e.transfer)

pub all_times : (k : ℕ) (s : Space) → times_in k (locks_of s) ≡ times_held k s
all_times k s = flat_sum (λ l. one (l == k)) (λ e. locks_in e.main ++ locks_in e.dead ++ locks_in e.transfer) s.entities ∙ same_sums (λ e. times_in k (locks_in e.main ++ locks_in e.dead ++ locks_in e.transfer)) (held_in k) s.entities (entity_times k)

-- what a sum bounds each term is bounded by
each_few : {X : Type 0} (f : ℕ → X → ℕ) (xs : List X) → ((k : ℕ) → sum_by (f k) xs ≤ 1) → Each (λ x. (k : ℕ) → f k x ≤ 1) xs
each_few f [] few = tt
each_few f (x ∷ xs) few = ((λ k. omega (arith, few k, sum_by-cons (f k) x xs)), each_few f xs (λ k. omega (arith, few k, sum_by-cons (f k) x xs)))

-- ---- from the core, and to it

pub reason_ttl : (reason description : Option (List ℕ)) (m : Message) → (with_reason reason description m).ttl ≡ m.ttl
reason_ttl None None m = refl
reason_ttl None (Some d) m = refl
reason_ttl (Some r) None m = refl
reason_ttl (Some r) (Some d) m = refl

pub lasts_sending : Sends Lasts Lasts
lasts_sending = record { enters = λ m p. p; reasons = λ reason description good m p. subst IsLasting (sym (reason_ttl reason description m)) p }

pub lasts_lists : Lists LastsIn
lasts_lists = record { made_entity = λ kind name d number bare named good. described_ttl kind d good; made_subscription = λ topic name d number named short good. described_ttl Subscription d good }

abbrev pub LastsCore : Space → Type 0
LastsCore s = IsCore lasts_travels lasts_sending lasts_lists s

pub core_sweepable : (s : Space) → LastsCore s → IsSweepable s
core_sweepable s h = record { numbers = h.ordered.entities; transactions = h.transactions; entities = entities s.entities (each_few held_in s.entities h.locked.most) h.ordered.copies h.carries.abouts h.carries.copies } where
  leaf_fits : (leaf : Leaf) → ((k : ℕ) → held_in_leaf k leaf ≤ 1) → AreRising copy_number 0 leaf.last leaf.copies → Each (IsCarried Lasts) leaf.copies → IsSweepableLeaf leaf
  leaf_fits leaf few rises carried = record {
    numbers = rises;
    copies = each_implied (IsCarried Lasts) IsSweepableCopy (λ c may. record { hops = may.hops; count = may.count; ttl = may.message }) leaf.copies carried;
    holders = pairs_of_counts (flat_map holder_lock leaf.sessions) (λ k. omega (arith, few k, sessions_times k leaf.sessions));
  }

  entity_fits : (e : Entity) → ((k : ℕ) → held_in k e ≤ 1) → EachLeaf LeafRises e → LastsIn e.about → EachLeaf (λ part leaf. Each (IsCarried Lasts) leaf.copies) e → IsSweepableEntity e
  entity_fits e few rises lasts carried = record {
    ttl = lasts;
    main = leaf_fits e.main (λ k. omega (arith, few k)) (leaf_each LeafRises Main e rises) (leaf_each (λ part leaf. Each (IsCarried Lasts) leaf.copies) Main e carried);
    dead = leaf_fits e.dead (λ k. omega (arith, few k)) (leaf_each LeafRises Dead e rises) (leaf_each (λ part leaf. Each (IsCarried Lasts) leaf.copies) Dead e carried);
    transfer = leaf_fits e.transfer (λ k. omega (arith, few k)) (leaf_each LeafRises Transfer e rises) (leaf_each (λ part leaf. Each (IsCarried Lasts) leaf.copies) Transfer e carried);
  }

  entities : (es : List Entity) → Each (λ e. (k : ℕ) → held_in k e ≤ 1) es → Each (EachLeaf LeafRises) es → Each (λ e. LastsIn e.about) es → Each (EachLeaf (λ part leaf. Each (IsCarried Lasts) leaf.copies)) es → Each IsSweepableEntity es
  entities [] a b c d = tt
  entities (e ∷ es) a b c d = (entity_fits e a.0 b.0 c.0 d.0, entities es a.1 b.1 c.1 d.1)

pub locked_of : (s : Space) → Pairs (λ l m. l ≢ m) (locks_of s) → Each (λ l. (0 < l) × (l ≤ s.last_lock)) (locks_of s) → IsLocked s
locked_of s apart few = record {
  most = λ k. omega (arith, counts_of_pairs k (locks_of s) apart, all_times k s);
  fresh = λ k over. omega (arith, all_times k s, no_more k (locks_of s) (each_implied (λ l. (0 < l) × (l ≤ s.last_lock)) (λ m. k ≢ m) (λ m up same. absurd (omega (arith, up.1, same, over))) (locks_of s) few));
  none = omega (arith, all_times 0 s, no_more 0 (locks_of s) (each_implied (λ l. (0 < l) × (l ≤ s.last_lock)) (λ m. 0 ≢ m) (λ m up same. absurd (omega (arith, up.0, same))) (locks_of s) few));
}

pub queued_of : (now : ℕ) (s : Space) (xs : List Transaction) → Each (IsTransaction now s) xs → Each (λ x. Each (OperationSent Lasts) x.operations) xs
queued_of now s [] h = tt
queued_of now s (x ∷ xs) h = (operations h.0.entity x.operations h.0.operations, queued_of now s xs h.1) where
  operation : (e : Entity) (o : Operation) → IsOperation s e o → OperationSent Lasts o
  operation e (SendLater to messages) is = each_implied IsMessage Lasts (λ m may. lasting m.ttl may.ttl) messages is.4
  operation e (SettleLater from number token session how) is = is.2

  operations : (e : Entity) (os : List Operation) → Each (IsOperation s e) os → Each (OperationSent Lasts) os
  operations e [] h = tt
  operations e (o ∷ os) h = (operation e o h.0, operations e os h.1)

-- ---- what an act's fields say of times to live

messages_last : (is_via : Bool) (ms : List Message) → bad_in_messages is_via ms ≡ None → Each Lasts ms
messages_last is_via [] e = tt
messages_last is_via (m ∷ ms) e =
    let parts = first_none (bad_in_message is_via m) (bad_in_messages is_via ms) e in
    let rest = first_none (bad_in_conditions m.sys m.props) _ parts.0 in
    (lasting m.ttl (then_none _ _ _ rest.1).0, messages_last is_via ms parts.1)

pub lasts_fields : (s : Space) (is_via : Bool) (act : Act) → bad_in_act is_via act ≡ None → Fields Lasts LastsIn Lasts s act
lasts_fields s is_via act good = record {
  messages = λ to ms txn is small. messages_last is_via ms (of_send to ms txn (subst (λ (a : Act). bad_in_act is_via a ≡ None) is good));
  how = λ from which token session how txn is. of_settle from which token session how txn (subst (λ (a : Act). bad_in_act is_via a ≡ None) is good);
  rule = λ topic subscription name asked_for action is e f a named there new f_is a_is small g. g;
  no_rule = λ e name g. g;
} where
  of_send : (to : Path) (ms : List Message) (txn : Option ℕ) → bad_in_act is_via (Send to ms txn) ≡ None → bad_in_messages is_via ms ≡ None
  of_send to ms txn good =
      let rest : first_some (bad_in_messages is_via ms) (unless (is_between_or_none 1 max_number txn) (codes "txn")) ≡ None = (then_none (nat_le (length ms) max_messages) (codes "messages") (first_some (bad_in_messages is_via ms) (unless (is_between_or_none 1 max_number txn) (codes "txn"))) good).1 in
      (first_none (bad_in_messages is_via ms) (unless (is_between_or_none 1 max_number txn) (codes "txn")) rest).0

  of_settle : (from : Path) (which : Which) (token : Token) (session : Option Token) (how : How) (txn : Option ℕ) → bad_in_act is_via (Settle from which token session how txn) ≡ None → bad_in_how how ≡ None
  of_settle from which token session how txn good =
      let rest : first_some (unless (is_between_or_none 1 max_number txn) (codes "txn")) (bad_in_how how) ≡ None = (first_none (bad_in_which which) (first_some (unless (is_between_or_none 1 max_number txn) (codes "txn")) (bad_in_how how)) good).1 in
      (then_none (is_between_or_none 1 max_number txn) (codes "txn") (bad_in_how how) rest).1

pub core_call : (s : State) (t : ℕ) (call : Call) → LastsCore s.space → LastsCore (state_of s t call).space
core_call s t call h = by (outcome_of s t call) (comes s t call) where
  by : (o : Outcome) → Comes s t call o → LastsCore (state_in s t call o).space
  by (refused r) is = h
  by (repeated reply) is = h
  by (forgot name) is = h
  by (acted reply cs) (comes_acted newer fits) = go (is_change (client_of call) (acted reply cs)) where
    changed_so : LastsCore (after_all t cs s.space)
    changed_so = act_keeps s.space t call.by call.act reply cs fits LastsCore (λ now a r ds good numbers way core. core_way lasts_travels lasts_sending lasts_lists t now core a r ds (lasts_fields now (is_via_in now a) a good) way) h

    go : (b : Bool) → LastsCore (if b then record { now = t; clients = keeping (client_of call) call.act reply s.clients; space = after_all t cs s.space } else s).space
    go true = changed_so
    go false = h
