-- A consistent state is one in which each point of consistency holds by itself, and back.
use Rattle.std.proofs.Common.{List, None, Option, Some, [], arith, false, inl, inr, refl, subst, sym, true, ℕ, ◌∙◌, ◌<◌, ◌∷◌, ◌≡◌, ◌≤◌}
use Rattle.std.specs.Prelude.{is_some}
use Rattle.std.specs.List.{flat_map}
use Rattle.std.proofs.lemmas.Bool.Decides.{nat_tests}
use Rattle.sb_laws.proofs.Carried.{OperationSent}
use Rattle.sb_laws.proofs.Carrying.{flat_each}
use Rattle.sb_laws.proofs.Contents.{ContentsCore, IsStill}
use Rattle.sb_laws.proofs.Eachs.{each_back, each_both, each_implied, is_equal}
use Rattle.sb_laws.proofs.Entities.{EachLeaf, each_leaf, leaf_each}
use Rattle.sb_laws.proofs.Freed.{AreNamed, none_exempt}
use Rattle.sb_laws.proofs.Ids.{AcceptedShort, AreShort, SessionIsShort, SessionsShort}
use Rattle.sb_laws.proofs.Lists.{found_passes}
use Rattle.sb_laws.proofs.Loose.{IsHeldOr, LooseIn, under_exempt}
use Rattle.sb_laws.proofs.Mild.{IsCarried}
use Rattle.sb_laws.proofs.Named.{starts_well}
use Rattle.sb_laws.proofs.Ordering.{orderly_core}
use Rattle.sb_laws.proofs.Orders.{consistent_is_orderly}
use Rattle.sb_laws.proofs.OwnLocks.{HoldsThat, key_at, of_own, own_of}
use Rattle.sb_laws.proofs.Owning.{IsOwned}
use Rattle.sb_laws.proofs.Placing.{ArePlaced, IsPlaced, IsQueuedIn, OwnsLock}
use Rattle.sb_laws.proofs.Sequences.{AreSeqs, HasSeq, SeqsIn}
use Rattle.sb_laws.specs.Orderly.{IsOrderly, IsOrderlyCopy, IsOrderlyEntity, IsOrderlyLeaf, IsOrderlyTransaction}
use Rattle.sb_machine.specs.Changes.{max_number}
use Rattle.sb_machine.specs.Consistent.{IsConsistent, IsKept, IsOperation, IsTransaction, locks_of, queued_lock, queued_locks}
use Rattle.sb_machine.specs.Each.{Each}
use Rattle.sb_machine.specs.Fields.{is_number}
use Rattle.sb_machine.specs.Fit.{IsCopy, IsEntity, IsHold, IsLeaf, IsListed, IsMessage}
use Rattle.sb_machine.specs.Namespace.{entity_of, is_entity, key_of, leaf_of}
use Rattle.sb_machine.specs.declared.call.Part.{Part}
use Rattle.sb_machine.specs.declared.call.Part.TheVariants.{Dead, Main, Transfer}
use Rattle.sb_machine.specs.declared.change.LeafKey.{LeafKey}
use Rattle.sb_machine.specs.declared.state.Entity.{Entity}
use Rattle.sb_machine.specs.declared.state.Hold.TheVariants.{Until, Session as UnderSession}
use Rattle.sb_machine.specs.declared.state.Leaf.{Leaf}
use Rattle.sb_machine.specs.declared.state.Operation.{Operation}
use Rattle.sb_machine.specs.declared.state.Operation.TheVariants.{Send as SendLater, Settle as SettleLater}
use Rattle.sb_machine.specs.declared.state.Session.{Session}
use Rattle.sb_machine.specs.declared.state.Space.{Space}
use Rattle.sb_machine.specs.declared.state.Standing.{Standing}
use Rattle.sb_machine.specs.declared.state.Standing.TheVariants.{Deferred, Held, Ready, Scheduled}
use Rattle.sb_machine.specs.declared.state.State.{State}
use Rattle.sb_machine.specs.declared.state.StoredCopy.{StoredCopy}
use Rattle.sb_machine.specs.declared.state.Transaction.{Transaction}

pub record IsWhole (st : State) : Type 0 where
  pub orderly : IsOrderly st
  pub contents : ContentsCore st.space
  pub placed : ArePlaced st.space
  pub seqs : AreSeqs max_number st.space
  pub named : AreNamed st.now st.space
  pub ids : AreShort st.space
  pub kept : Each IsKept st.clients

-- ---- what a consistent state gives

number_range : (n : ℕ) → is_number n ≡ true → (1 ≤ n) × (n ≤ max_number)
number_range n e = (grind (arith, nat_tests), grind (arith, nat_tests))

some_is : (d e : Entity) → ◌≡◌ {A = Option Entity} (Some d) (Some e) → d ≡ e
some_is d e same = cc

module _ (st : State) (h : IsConsistent st) where
  abbrev s : Space
  s = st.space

  leaf_still : (leaf : Leaf) → IsLeaf st.now leaf → Each (IsCarried IsStill) leaf.copies
  leaf_still leaf is = each_implied (IsCopy st.now leaf.sessions) (IsCarried IsStill) (λ c may. record { hops = may.hops; count = may.count; message = (may.message, may.no_schedule) }) leaf.copies is.copies

  operation_sent : (e : Entity) (o : Operation) → IsOperation s e o → OperationSent IsMessage o
  operation_sent e (SendLater to messages) is = is.4
  operation_sent e (SettleLater from number token session how) is = is.2

  whole_contents : ContentsCore s
  whole_contents = let core = orderly_core st (consistent_is_orderly st h) in record {
    ordered = core.ordered;
    transactions = core.transactions;
    locked = core.locked;
    carries = record {
      abouts = each_implied (IsEntity st.now) (λ e. IsListed e.about) (λ e is. is.about) s.entities h.entities;
      copies = each_implied (IsEntity st.now) (EachLeaf (λ part leaf. Each (IsCarried IsStill) leaf.copies)) (λ e is. each_leaf (leaf_still e.main is.main) (leaf_still e.dead is.dead) (leaf_still e.transfer is.transfer)) s.entities h.entities;
    };
    queued = each_implied (IsTransaction st.now s) (λ x. Each (OperationSent IsMessage) x.operations) (λ x is. each_implied (IsOperation s is.entity) (OperationSent IsMessage) (operation_sent is.entity) x.operations is.operations) s.transactions h.opened;
  }

  abbrev IsGiven : ℕ → Type 0
  IsGiven l = (0 < l) × (l ≤ s.last_lock)

  operation_placed : (e : Entity) (o : Operation) → IsOperation s e o → IsPlaced e.about.path o
  operation_placed e (SendLater to messages) is = (is.0, is.1, is.2, is.3, is.5)
  operation_placed e (SettleLater from number token session how) is = (is.0, is.1, is.4)

  owns_lock : (n : ℕ) (e : Entity) → e.about.number ≡ n → (o : Operation) → IsOperation s e o × Each IsGiven (queued_lock o) → OwnsLock s n o
  owns_lock n e same (SendLater to messages) is = tt
  owns_lock n e same (SettleLater from number token session how) is =
      (is.1.0.1, subst (λ (k : ℕ). HoldsThat token.lock (key_at k from.part) number s) same (of_own token.lock (key_of from.part e) number s is.0.3))

  queued_so : (x : Transaction) → IsTransaction st.now s x × Each IsGiven (flat_map queued_lock x.operations) → IsQueuedIn s x
  queued_so x (is, given) = record {
    placed = λ d there. subst (λ (e : Entity). Each (IsPlaced e.about.path) x.operations) (some_is is.entity d (sym is.there ∙ there)) (each_implied (IsOperation s is.entity) (IsPlaced is.entity.about.path) (operation_placed is.entity) x.operations is.operations);
    owns = each_implied (λ o. IsOperation s is.entity o × Each IsGiven (queued_lock o)) (OwnsLock s x.entity) (owns_lock x.entity is.entity (is_equal is.entity.about.number x.entity (found_passes (is_entity x.entity) is.entity s.entities is.there))) x.operations
        (each_both (IsOperation s is.entity) (λ o. Each IsGiven (queued_lock o)) x.operations is.operations (flat_each IsGiven queued_lock x.operations given));
  }

  whole_placed : ArePlaced s
  whole_placed = each_implied (λ x. IsTransaction st.now s x × Each IsGiven (flat_map queued_lock x.operations)) (IsQueuedIn s) queued_so s.transactions
      (each_both (IsTransaction st.now s) (λ x. Each IsGiven (flat_map queued_lock x.operations)) s.transactions h.opened (flat_each IsGiven (λ x. flat_map queued_lock x.operations) s.transactions (each_back IsGiven (locks_of s) (queued_locks s) h.few_locks)))

  leaf_seqs : (leaf : Leaf) → IsLeaf st.now leaf → Each (HasSeq max_number) leaf.copies
  leaf_seqs leaf is = each_implied (IsCopy st.now leaf.sessions) (HasSeq max_number) (λ c may. number_range c.enqueued_seq may.seq) leaf.copies is.copies

  whole_seqs : AreSeqs max_number s
  whole_seqs = each_implied (IsEntity st.now) (EachLeaf (SeqsIn max_number)) (λ e is. each_leaf (leaf_seqs e.main is.main) (leaf_seqs e.dead is.dead) (leaf_seqs e.transfer is.transfer)) s.entities h.entities

  whole_ids : AreShort s
  whole_ids = record {
    sessions = each_implied (IsEntity st.now) (EachLeaf SessionsShort) (λ e is. each_leaf is.main.short_ids is.dead.short_ids is.transfer.short_ids) s.entities h.entities;
    accepted = each_implied (IsEntity st.now) AcceptedShort (λ e is. is.short_ids) s.entities h.entities;
  }

  pub whole_of : IsWhole st
  whole_of = let well = starts_well st h in record { orderly = well.orderly; contents = whole_contents; placed = whole_placed; seqs = whole_seqs; named = well.named; ids = whole_ids; kept = h.kept }

-- ---- and what gives one

is_number_so : (n : ℕ) → 1 ≤ n → n ≤ max_number → is_number n ≡ true
is_number_so n some few = grind (arith, nat_tests)

exempts_none : (key : LeafKey) (standing : Standing) → under_exempt none_exempt key standing ≡ false
exempts_none key Ready = refl
exempts_none key Deferred = refl
exempts_none key (Held lock (Until u) deferred) = refl
exempts_none key (Held lock (UnderSession l) deferred) = refl
exempts_none key (Scheduled moment) = refl

module _ (st : State) (w : IsWhole st) where
  abbrev now_in : Space
  now_in = st.space

  held_so : (key : LeafKey) (sessions : List Session) (c : StoredCopy) → IsHeldOr none_exempt st.now key sessions c → IsHold st.now sessions c c.standing
  held_so key sessions c (inl held) = held
  held_so key sessions c (inr exempt) = let bad : true ≡ false = sym exempt ∙ exempts_none key c.standing in absurd cc

  copies_fit : (key : LeafKey) (sessions : List Session) (cs : List StoredCopy) → Each (IsOrderlyCopy st.now) cs → Each (IsCarried IsStill) cs → Each (HasSeq max_number) cs → Each (IsHeldOr none_exempt st.now key sessions) cs → Each (IsCopy st.now sessions) cs
  copies_fit key sessions [] o m q n = tt
  copies_fit key sessions (c ∷ cs) o m q n = (
    record {
      enqueued = o.0.enqueued;
      seq = is_number_so c.enqueued_seq q.0.0 q.0.1;
      count = o.0.count;
      hops = o.0.hops;
      held = held_so key sessions c n.0;
      message = m.0.message.0;
      no_schedule = o.0.no_schedule;
    },
    copies_fit key sessions cs o.1 m.1 q.1 n.1,
  )

  leaf_fits : (key : LeafKey) (leaf : Leaf) → IsOrderlyLeaf st.now leaf → Each (IsCarried IsStill) leaf.copies → Each (HasSeq max_number) leaf.copies → LooseIn none_exempt st.now key leaf → Each SessionIsShort leaf.sessions → IsLeaf st.now leaf
  leaf_fits key leaf o m q n short = record { last = o.last; numbers = o.numbers; copies = copies_fit key leaf.sessions leaf.copies o.copies m q n; order = o.order; short_ids = short; sessions = o.sessions }

  entities_fit : (es : List Entity) → Each (IsOrderlyEntity st.now) es → Each (λ e. IsListed e.about) es → Each (EachLeaf (λ part leaf. Each (IsCarried IsStill) leaf.copies)) es → Each (EachLeaf (SeqsIn max_number)) es
      → Each (λ e. (part : Part) → LooseIn none_exempt st.now (key_of part e) (leaf_of part e)) es → Each (EachLeaf SessionsShort) es → Each AcceptedShort es → Each (IsEntity st.now) es
  entities_fit [] o g m q n i a = tt
  entities_fit (e ∷ es) o g m q n i a = (
    record {
      about = g.0;
      ids = o.0.ids;
      short_ids = a.0;
      main = leaf_fits (key_of Main e) e.main o.0.main (leaf_each (λ part leaf. Each (IsCarried IsStill) leaf.copies) Main e m.0) (leaf_each (SeqsIn max_number) Main e q.0) (n.0 Main) (leaf_each SessionsShort Main e i.0);
      dead = leaf_fits (key_of Dead e) e.dead o.0.dead (leaf_each (λ part leaf. Each (IsCarried IsStill) leaf.copies) Dead e m.0) (leaf_each (SeqsIn max_number) Dead e q.0) (n.0 Dead) (leaf_each SessionsShort Dead e i.0);
      transfer = leaf_fits (key_of Transfer e) e.transfer o.0.transfer (leaf_each (λ part leaf. Each (IsCarried IsStill) leaf.copies) Transfer e m.0) (leaf_each (SeqsIn max_number) Transfer e q.0) (n.0 Transfer) (leaf_each SessionsShort Transfer e i.0);
    },
    entities_fit es o.1 g.1 m.1 q.1 n.1 i.1 a.1,
  )

  operation_fits : (n : ℕ) (e : Entity) → e.about.number ≡ n → (o : Operation) → OperationSent IsMessage o → IsPlaced e.about.path o → OwnsLock now_in n o → IsOperation now_in e o
  operation_fits n e same (SendLater to messages) sent placed owns = (placed.0, placed.1, placed.2, placed.3, sent, placed.4)
  operation_fits n e same (SettleLater from number token session how) sent placed owns =
      (placed.0, placed.1, sent, own_of token.lock (key_of from.part e) number now_in (subst (λ (k : ℕ). HoldsThat token.lock (key_at k from.part) number now_in) (sym same) owns.1), placed.2)

  operations_fit : (n : ℕ) (e : Entity) → e.about.number ≡ n → (os : List Operation) → Each (OperationSent IsMessage) os → Each (IsPlaced e.about.path) os → Each (OwnsLock now_in n) os → Each (IsOperation now_in e) os
  operations_fit n e same [] sent placed owns = tt
  operations_fit n e same (o ∷ os) sent placed owns = (operation_fits n e same o sent.0 placed.0 owns.0, operations_fit n e same os sent.1 placed.1 owns.1)

  transaction_fits : (x : Transaction) → IsOrderlyTransaction st.now x → Each (OperationSent IsMessage) x.operations → IsQueuedIn now_in x → (o : Option Entity) → entity_of x.entity now_in ≡ o → is_some o ≡ true → IsTransaction st.now now_in x
  transaction_fits x may sent queued None is some = absurd cc
  transaction_fits x may sent queued (Some e) is some = record {
    entity = e;
    there = is;
    deadline = may.deadline;
    few = may.few;
    operations = operations_fit x.entity e (is_equal e.about.number x.entity (found_passes (is_entity x.entity) e now_in.entities is)) x.operations sent (queued.placed e is) queued.owns;
  }

  transactions_fit : (xs : List Transaction) → Each (IsOrderlyTransaction st.now) xs → Each (λ x. Each (OperationSent IsMessage) x.operations) xs → Each (IsQueuedIn now_in) xs → Each (IsOwned now_in) xs → Each (IsTransaction st.now now_in) xs
  transactions_fit [] may sent queued owned = tt
  transactions_fit (x ∷ xs) may sent queued owned = (transaction_fits x may.0 sent.0 queued.0 (entity_of x.entity now_in) refl owned.0, transactions_fit xs may.1 sent.1 queued.1 owned.1)

  pub consistent_of : IsConsistent st
  consistent_of = let o = w.orderly in record {
    now = o.now;
    made = o.made;
    last_entity = o.last_entity;
    last_lock = o.last_lock;
    last_txn = o.last_txn;
    numbers = o.numbers;
    entities = entities_fit now_in.entities o.entities w.contents.carries.abouts w.contents.carries.copies w.seqs w.named w.ids.sessions w.ids.accepted;
    paths = o.paths;
    topics = o.topics;
    locks = o.locks;
    few_locks = o.few_locks;
    transactions = o.transactions;
    opened = transactions_fit now_in.transactions o.opened w.contents.queued w.placed o.owned;
    few_open = o.few_open;
    queued = o.queued;
    clients = o.clients;
    few_clients = o.few_clients;
    kept = w.kept;
  }
