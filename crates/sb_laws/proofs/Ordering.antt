-- An orderly state stays so, through calls and ticks.
use Rattle.std.proofs.Common.{Bool, List, None, Option, [], arith, false, not, refl, subst, sym, true, ℕ, ◌<◌, ◌∙◌, ◌∷◌, ◌≡◌, ◌≤◌}
use Rattle.std.proofs.lemmas.List.Sums.{sum_by-cons}
use Rattle.std.specs.Prelude.{if◌then◌else◌, sum_by}
use Rattle.sb_laws.proofs.Carried.{IsOfAct, OperationSent, tick_act}
use Rattle.sb_laws.proofs.Claiming.{claimed_apart, claimed_few, claimed_of, claimed_steps}
use Rattle.sb_laws.proofs.Clients.{AreClients, clients_without, keeps_clients, newer_without}
use Rattle.sb_laws.proofs.Core.{core_acts, core_tick, core_way}
use Rattle.sb_laws.proofs.Eachs.{each_append, each_back, each_both, each_front, each_implied}
use Rattle.sb_laws.proofs.Entities.{EachLeaf, LeafRises, each_leaf, leaf_each}
use Rattle.sb_laws.proofs.Keeping.{all_times, each_counted, locked_of, pairs_of_counts, times_in}
use Rattle.sb_laws.proofs.Listing.{AreNoted, AreOpen, IsNoted, IsOpen, PathsDiffer, noted_later, noted_steps, open_later, open_steps, path_steps}
use Rattle.sb_laws.proofs.Locking.{IsLocked}
use Rattle.sb_laws.proofs.Measures.{all_grow}
use Rattle.sb_laws.proofs.Mild.{IsCarried}
use Rattle.sb_laws.proofs.NothingDue.{Lasts}
use Rattle.sb_laws.proofs.Outcomes.{Comes, Fits, comes, comes_acted, comes_forgot, comes_refused, comes_repeated, forgets_another}
use Rattle.sb_laws.proofs.Running.{act_keeps, within}
use Rattle.sb_laws.proofs.Ways.{Way}
use Rattle.sb_laws.proofs.Owning.{AreOwned, owned_steps}
use Rattle.sb_laws.proofs.Points.{AreTimed, IsTimed, TimedIn, shape_keeps, timed_later, timed_steps}
use Rattle.sb_laws.proofs.Queuing.{IsClaimed, at_or_above}
use Rattle.sb_laws.proofs.Ruling.{AreRuled, ruled_steps}
use Rattle.sb_laws.proofs.Shapes.{Arrives, PlainCore, Shape, arrives_sending, of_acts, plain_fields, plain_lists, plain_travels, shape}
use Rattle.sb_laws.proofs.Tick.{IsOfTick, expired_of_tick, first_of_any, locks_of_tick, scheduled_of_tick, transactions_of_tick}
use Rattle.sb_laws.proofs.Topics.{AreTopiced, shape_topics}
use Rattle.sb_laws.specs.Orderly.{IsOrderly, IsOrderlyCopy, IsOrderlyEntity, IsOrderlyLeaf, IsOrderlyOperation, IsOrderlyTransaction}
use Rattle.sb_laws.specs.Plain.{IsPlain, IsRuled}
use Rattle.sb_machine.specs.Acts.{is_via_in}
use Rattle.sb_machine.specs.Answers.{is_change, keeping, max_moment, state_in, state_of, without_client}
use Rattle.sb_machine.specs.Changes.{after_all, is_numbered, max_number}
use Rattle.sb_machine.specs.Consistent.{locks_of, queued_locks}
use Rattle.sb_machine.specs.Delivery.{carried}
use Rattle.sb_machine.specs.Due.{due_transactions, sweep_expired, sweep_locks, sweep_scheduled, then_also, tick_changes}
use Rattle.sb_machine.specs.Each.{Each}
use Rattle.sb_machine.specs.Fields.{bad_in_act}
use Rattle.sb_machine.specs.History.{advanced, is_spent}
use Rattle.sb_machine.specs.Namespace.{leaf_of, made_in}
use Rattle.sb_machine.specs.Repeats.{Outcome, acted, client_of, forgot, outcome_of}
use Rattle.sb_machine.specs.declared.call.Act.{Act}
use Rattle.sb_machine.specs.declared.call.By.{By}
use Rattle.sb_machine.specs.declared.call.Call.{Call}
use Rattle.sb_machine.specs.declared.call.Part.{Part}
use Rattle.sb_machine.specs.declared.call.Part.TheVariants.{Dead, Main, Transfer}
use Rattle.sb_machine.specs.declared.change.Change.{Change}
use Rattle.sb_machine.specs.declared.reply.Reply.{Reply}
use Rattle.sb_machine.specs.declared.reply.Reply.TheVariants.{Done}
use Rattle.sb_machine.specs.declared.state.Entity.{Entity}
use Rattle.sb_machine.specs.declared.state.Leaf.{Leaf}
use Rattle.sb_machine.specs.declared.state.Operation.{Operation}
use Rattle.sb_machine.specs.declared.state.Space.{Space}
use Rattle.sb_machine.specs.declared.state.State.{State}
use Rattle.sb_machine.specs.declared.state.StoredCopy.{StoredCopy}
use Rattle.sb_machine.specs.declared.state.Transaction.{Transaction}
use Rattle.sb_machine.specs.Namespace.{made}
use Rattle.sb_machine.specs.declared.state.Operation.TheVariants.{Send as SendLater, Settle as SettleLater}

-- ---- what an orderly state gives

module _ (s : State) (h : IsOrderly s) where
  copies_arrive : (cs : List StoredCopy) → Each (IsOrderlyCopy s.now) cs → Each (IsCarried Arrives) cs
  copies_arrive cs is = each_implied (IsOrderlyCopy s.now) (IsCarried Arrives) (λ c may. record { hops = may.hops; count = may.count; message = (may.ttl, may.no_schedule) }) cs is

  pub orderly_core : PlainCore s.space
  orderly_core = record {
    ordered = record { entities = h.numbers; copies = each_implied (IsOrderlyEntity s.now) (EachLeaf LeafRises) (λ e is. each_leaf is.main.numbers is.dead.numbers is.transfer.numbers) s.space.entities h.entities };
    transactions = h.transactions;
    locked = locked_of s.space h.locks (each_front (λ l. (0 < l) × (l ≤ s.space.last_lock)) (locks_of s.space) (queued_locks s.space) h.few_locks);
    carries = record {
      abouts = each_implied (IsOrderlyEntity s.now) (λ e. IsPlain e.about) (λ e is. is.about) s.space.entities h.entities;
      copies = each_implied (IsOrderlyEntity s.now) (EachLeaf (λ part leaf. Each (IsCarried Arrives) leaf.copies)) (λ e is. each_leaf (copies_arrive e.main.copies is.main.copies) (copies_arrive e.dead.copies is.dead.copies) (copies_arrive e.transfer.copies is.transfer.copies)) s.space.entities h.entities;
    };
    queued = each_implied (IsOrderlyTransaction s.now) (λ x. Each (OperationSent Lasts) x.operations) (λ x is. operations x.operations is.operations) s.space.transactions h.opened;
  } where
    operation : (o : Operation) → IsOrderlyOperation o → OperationSent Lasts o
    operation (SendLater to messages) is = is
    operation (SettleLater from number token session how) is = is

    operations : (os : List Operation) → Each IsOrderlyOperation os → Each (OperationSent Lasts) os
    operations os is = each_implied IsOrderlyOperation (OperationSent Lasts) operation os is

  leaf_is_timed : (leaf : Leaf) → IsOrderlyLeaf s.now leaf → IsTimed s.now leaf
  leaf_is_timed leaf is = record { copies = each_implied (IsOrderlyCopy s.now) (λ c. c.enqueued ≤ s.now) (λ c may. may.enqueued) leaf.copies is.copies; order = is.order; sessions = is.sessions }

  orderly_timed : AreTimed s.now s.space
  orderly_timed = each_implied (IsOrderlyEntity s.now) (EachLeaf (TimedIn s.now)) (λ e is. each_leaf (leaf_is_timed e.main is.main) (leaf_is_timed e.dead is.dead) (leaf_is_timed e.transfer is.transfer)) s.space.entities h.entities

  orderly_noted : AreNoted s.now s.space
  orderly_noted = each_implied (IsOrderlyEntity s.now) (IsNoted s.now) (λ e is. record { about = is.about; ids = is.ids }) s.space.entities h.entities

  orderly_open : AreOpen s.now s.space
  orderly_open = record { each = each_implied (IsOrderlyTransaction s.now) (IsOpen s.now) (λ x is. record { deadline = is.deadline; few = is.few }) s.space.transactions h.opened; few = h.few_open }

-- ---- and what gives one

-- the points of a namespace at a moment, each by itself
pub record HasPoints (t : ℕ) (s : Space) : Type 0 where
  pub made : made s ≤ max_number
  pub last_entity : s.last_entity ≤ max_number
  pub last_lock : s.last_lock ≤ max_number
  pub last_txn : s.last_txn ≤ max_number
  pub core : PlainCore s
  pub timed : AreTimed t s
  pub noted : AreNoted t s
  pub paths : PathsDiffer s
  pub topics : AreTopiced s
  pub owned : AreOwned s
  pub ruled : AreRuled s
  pub claimed : IsClaimed s
  pub open_so : AreOpen t s

few_of : (s : Space) → IsLocked s → Each (λ l. (0 < l) × (l ≤ s.last_lock)) (locks_of s)
few_of s h = each_implied (λ l. 1 ≤ times_in l (locks_of s)) (λ l. (0 < l) × (l ≤ s.last_lock)) (λ l le. at_or_above l s.last_lock (times_in l (locks_of s)) le (λ over. all_times l s ∙ h.fresh l over) (λ is. subst (λ (k : ℕ). times_in k (locks_of s) ≡ 0) (sym is) (all_times 0 s ∙ h.none))) (locks_of s) (each_counted (locks_of s))

-- no part's last number passes the sum of all
last_within : (part : Part) (e : Entity) → (leaf_of part e).last ≤ made_in e
last_within Main e = omega arith
last_within Dead e = omega arith
last_within Transfer e = omega arith

each_within : (most : ℕ) (es : List Entity) → sum_by made_in es ≤ most → Each (λ e. made_in e ≤ most) es
each_within most [] le = tt
each_within most (e ∷ es) le = (omega (arith, le, sum_by-cons made_in e es), each_within most es (omega (arith, le, sum_by-cons made_in e es)))

points_orderly : (st : State) → st.now ≤ max_moment → AreClients st.clients → HasPoints st.now st.space → IsOrderly st
points_orderly st early of_clients p = record {
  now = early;
  made = p.made;
  last_entity = p.last_entity;
  last_lock = p.last_lock;
  last_txn = p.last_txn;
  numbers = p.core.ordered.entities;
  entities = entities st.space.entities (each_within max_number st.space.entities (omega (arith, p.made))) p.core.ordered.copies p.core.carries.copies p.timed p.noted p.ruled;
  paths = p.paths;
  topics = p.topics;
  owned = p.owned;
  locks = pairs_of_counts (locks_of st.space) (λ k. omega (arith, all_times k st.space, p.core.locked.most k));
  few_locks = each_append (λ l. (0 < l) × (l ≤ st.space.last_lock)) (locks_of st.space) (queued_locks st.space) (few_of st.space p.core.locked) (claimed_few st.space p.claimed);
  queued = claimed_apart st.space p.claimed;
  transactions = p.core.transactions;
  opened = transactions st.space.transactions p.open_so.each p.core.queued;
  few_open = p.open_so.few;
  clients = of_clients.order;
  few_clients = of_clients.few;
} where
  leaf_orderly : (part : Part) (e : Entity) → made_in e ≤ max_number → EachLeaf LeafRises e → EachLeaf (λ part leaf. Each (IsCarried Arrives) leaf.copies) e → EachLeaf (TimedIn st.now) e → IsOrderlyLeaf st.now (leaf_of part e)
  leaf_orderly part e within rises carried timed =
      let is = leaf_each (TimedIn st.now) part e timed in
      record {
        last = omega (arith, within, last_within part e);
        numbers = leaf_each LeafRises part e rises;
        copies = each_implied (λ c. IsCarried Arrives c × (c.enqueued ≤ st.now)) (IsOrderlyCopy st.now) (λ c may. record { enqueued = may.1; count = may.0.count; hops = may.0.hops; ttl = may.0.message.0; no_schedule = may.0.message.1 }) (leaf_of part e).copies
            (each_both (IsCarried Arrives) (λ c. c.enqueued ≤ st.now) (leaf_of part e).copies (leaf_each (λ part leaf. Each (IsCarried Arrives) leaf.copies) part e carried) is.copies);
        order = is.order;
        sessions = is.sessions;
      }

  entities : (es : List Entity) → Each (λ e. made_in e ≤ max_number) es → Each (EachLeaf LeafRises) es → Each (EachLeaf (λ part leaf. Each (IsCarried Arrives) leaf.copies)) es → Each (EachLeaf (TimedIn st.now)) es → Each (IsNoted st.now) es → Each (λ e. IsRuled e.about) es → Each (IsOrderlyEntity st.now) es
  entities [] a b c d n r = tt
  entities (e ∷ es) a b c d n r = (
    record {
      about = n.0.about;
      rules = r.0;
      ids = n.0.ids;
      main = leaf_orderly Main e a.0 b.0 c.0 d.0;
      dead = leaf_orderly Dead e a.0 b.0 c.0 d.0;
      transfer = leaf_orderly Transfer e a.0 b.0 c.0 d.0;
    },
    entities es a.1 b.1 c.1 d.1 n.1 r.1,
  )

  operation : (o : Operation) → OperationSent Lasts o → IsOrderlyOperation o
  operation (SendLater to messages) is = is
  operation (SettleLater from number token session how) is = is

  transactions : (xs : List Transaction) → Each (IsOpen st.now) xs → Each (λ x. Each (OperationSent Lasts) x.operations) xs → Each (IsOrderlyTransaction st.now) xs
  transactions [] a b = tt
  transactions (x ∷ xs) a b = (record { deadline = a.0.deadline; few = a.0.few; operations = each_implied (OperationSent Lasts) IsOrderlyOperation operation x.operations b.0 }, transactions xs a.1 b.1)

pub orderly_points : (s : State) (t : ℕ) → s.now ≤ t → IsOrderly s → HasPoints t s.space
orderly_points s t le h = record {
  made = h.made;
  last_entity = h.last_entity;
  last_lock = h.last_lock;
  last_txn = h.last_txn;
  core = orderly_core s h;
  timed = timed_later t s.now s.space le (orderly_timed s h);
  noted = noted_later t s.now s.space le (orderly_noted s h);
  paths = h.paths;
  topics = h.topics;
  owned = h.owned;
  claimed = claimed_of s.space h.queued (each_back (λ l. (0 < l) × (l ≤ s.space.last_lock)) (locks_of s.space) (queued_locks s.space) h.few_locks);
  ruled = each_implied (IsOrderlyEntity s.now) (λ e. IsRuled e.about) (λ e is. is.rules) s.space.entities h.entities;
  open_so = open_later t s.now s.space le (orderly_open s h);
}

-- ---- numbers that are given stay within the greatest

points_kept : (t : ℕ) (cs : List Change) (s : Space) → is_numbered t cs s ≡ true → PlainCore (after_all t cs s) → Shape s t cs → HasPoints t s → HasPoints t (after_all t cs s)
points_kept t cs s numbered_so core_so is p =
    let w = within t cs s numbered_so in
    record {
      made = omega (arith, w.given, (all_grow t cs s).made_most);
      last_entity = w.entity;
      last_lock = w.lock;
      last_txn = w.txn;
      core = core_so;
      timed = shape_keeps (AreTimed t) t s cs (timed_steps t s) is p.timed;
      noted = shape_keeps (AreNoted t) t s cs (noted_steps t s) is p.noted;
      paths = shape_keeps PathsDiffer t s cs (path_steps t s) is p.paths;
      topics = shape_topics t s cs p.core.ordered is p.topics;
      owned = shape_keeps AreOwned t s cs (owned_steps t s) is p.owned;
      ruled = shape_keeps AreRuled t s cs (ruled_steps t s) is p.ruled;
      claimed = shape_keeps IsClaimed t s cs (claimed_steps t s p.core.locked) is p.claimed;
      open_so = shape_keeps (AreOpen t) t s cs (open_steps t s) is p.open_so;
    }

ticks_act : (t : ℕ) (first_one : Bool) (cs : List Change) → Each (IsOfTick Arrives first_one) cs → Each (IsOfAct Arrives t) cs
ticks_act t first_one cs h = each_implied (IsOfTick Arrives first_one) (IsOfAct Arrives t) (tick_act Arrives t first_one) cs h

-- all changes of a tick
pub tick_changes_so : (t : ℕ) (s : Space) → PlainCore s → Each (IsOfTick Arrives true) (tick_changes t s)
tick_changes_so t s core =
    let s1 : Space = after_all t (sweep_locks t s) s in
    let a0 = locks_of_tick plain_travels t s core.carries in
    let c1 : PlainCore s1 = core_acts plain_travels arrives_sending plain_lists t (sweep_locks t s) s (ticks_act t true (sweep_locks t s) a0) core in
    let s2 : Space = after_all t (sweep_expired t s1) s1 in
    let a1 = expired_of_tick plain_travels t s1 c1.carries in
    let c2 : PlainCore s2 = core_acts plain_travels arrives_sending plain_lists t (sweep_expired t s1) s1 (ticks_act t false (sweep_expired t s1) a1) c1 in
    let s3 : Space = after_all t (sweep_scheduled t s2) s2 in
    let a2 = scheduled_of_tick plain_travels t s2 c2.carries in
    each_append (IsOfTick Arrives true) (sweep_locks t s) (then_also t (sweep_expired t) (then_also t (sweep_scheduled t) (due_transactions t)) s1) a0
    (each_append (IsOfTick Arrives true) (sweep_expired t s1) (then_also t (sweep_scheduled t) (due_transactions t) s2) (later (sweep_expired t s1) a1)
    (each_append (IsOfTick Arrives true) (sweep_scheduled t s2) (due_transactions t s3) (later (sweep_scheduled t s2) a2) (later (due_transactions t s3) (transactions_of_tick plain_travels t s3)))) where
      later : (cs : List Change) → Each (IsOfTick Arrives false) cs → Each (IsOfTick Arrives true) cs
      later cs h = each_implied (IsOfTick Arrives false) (IsOfTick Arrives true) (first_of_any Arrives) cs h

pub tick_acts : (t : ℕ) (s : Space) → PlainCore s → Each (IsOfAct Arrives t) (tick_changes t s)
tick_acts t s core = ticks_act t true (tick_changes t s) (tick_changes_so t s core)

-- ---- calls and ticks

-- an accepted act by itself keeps them
pub way_points : (t : ℕ) (s : Space) (act : Act) (reply : Reply) (cs : List Change) → bad_in_act (is_via_in s act) act ≡ None → is_numbered t cs s ≡ true → Way s t act reply cs → HasPoints t s → HasPoints t (after_all t cs s)
way_points t s act reply cs good numbers way p =
    let fields = plain_fields s (is_via_in s act) act good in
    points_kept t cs s numbers (core_way plain_travels arrives_sending plain_lists t s p.core act reply cs fields way) (shape s t p.core act reply cs fields way) p

acted_points : (s : State) (t : ℕ) (by : Option By) (act : Act) (reply : Reply) (cs : List Change) → IsOrderly s → s.now ≤ t → Fits s.space t by act reply cs → HasPoints t (after_all t cs s.space)
acted_points s t by act reply cs h le fits = act_keeps s.space t by act reply cs fits (HasPoints t) (λ now a r ds good numbers way p. way_points t now a r ds good numbers way p) (orderly_points s t le h)

-- the state that an accepted call leaves
acted_orderly : (s : State) (t : ℕ) (call : Call) (reply : Reply) (cs : List Change) (changes : Bool) → t ≤ max_moment → IsOrderly s → AreClients (keeping (client_of call) call.act reply s.clients) → HasPoints t (after_all t cs s.space) → IsOrderly (if changes then record { now = t; clients = keeping (client_of call) call.act reply s.clients; space = after_all t cs s.space } else s)
acted_orderly s t call reply cs true most h of_clients kept = points_orderly (record { now = t; clients = keeping (client_of call) call.act reply s.clients; space = after_all t cs s.space }) most of_clients kept
acted_orderly s t call reply cs false most h of_clients kept = h

called_orderly : (s : State) (t : ℕ) (call : Call) (o : Outcome) → IsOrderly s → s.now ≤ t → t ≤ max_moment → Comes s t call o → IsOrderly (state_in s t call o)
called_orderly s t call _ h le most (comes_refused none) = h
called_orderly s t call _ h le most comes_repeated = h
called_orderly s t call (acted reply cs) h le most (comes_acted newer fits) = acted_orderly s t call reply cs (is_change (client_of call) (acted reply cs)) most h
    (keeps_clients (client_of call) call.act reply s.clients newer (record { order = h.clients; few = h.few_clients })) (acted_points s t call.by call.act reply cs h le fits)
called_orderly s t call (forgot name) h le most (comes_forgot is newer fits) = points_orderly (record { now = t; clients = keeping (client_of call) call.act Done (without_client name s.clients); space = s.space }) most
    (keeps_clients (client_of call) call.act Done (without_client name s.clients) (newer_without name s.clients (client_of call) (forgets_another s.space t call name Done [] is fits) newer) (clients_without name s.clients (record { order = h.clients; few = h.few_clients }))) (orderly_points s t le h)

pub stays_orderly : (s : State) (t : ℕ) (call : Call) → IsOrderly s → s.now ≤ t → t ≤ max_moment → IsOrderly (state_of s t call)
stays_orderly s t call h le most = called_orderly s t call (outcome_of s t call) h le most (comes s t call)

pub not_spent : (b : Bool) → not b ≡ false → b ≡ true
not_spent true e = refl
not_spent false e = absurd cc

tick_points : (t : ℕ) (s : Space) → is_numbered t (tick_changes t s) s ≡ true → HasPoints t s → HasPoints t (after_all t (tick_changes t s) s)
tick_points t s numbered_so p = points_kept t (tick_changes t s) s numbered_so (core_tick plain_travels arrives_sending plain_lists t s p.core) (of_acts (tick_acts t s p.core)) p

-- the state that a tick leaves
advanced_orderly : (s : State) (t : ℕ) (space : Space) → t ≤ max_moment → AreClients s.clients → HasPoints t space → IsOrderly (record s { now = t; space = space })
advanced_orderly s t space most of_clients p = points_orderly (record { now = t; clients = s.clients; space = space }) most of_clients p

pub ticks_orderly : (s : State) (t : ℕ) → IsOrderly s → s.now ≤ t → t ≤ max_moment → is_spent s t ≡ false → IsOrderly (advanced s t)
ticks_orderly s t h le most room = advanced_orderly s t (after_all t (tick_changes t s.space) s.space) most (record { order = h.clients; few = h.few_clients }) (tick_points t s.space (not_spent (is_numbered t (tick_changes t s.space) s.space) room) (orderly_points s t le h))
