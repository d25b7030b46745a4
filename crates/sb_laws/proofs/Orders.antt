-- A consistent state is an orderly one, and an orderly one answers legally.
use Rattle.std.proofs.Common.{List, [], ap, true, ℕ, ◌∷◌, ◌≡◌}
use Rattle.std.specs.Prelude.{is_some}
use Rattle.sb_laws.proofs.Carried.{OperationSent}
use Rattle.sb_laws.proofs.Consistency.{described_ttl, lasting}
use Rattle.sb_laws.proofs.Eachs.{each_implied}
use Rattle.sb_laws.proofs.Entities.{EachLeaf, each_leaf, leaf_each}
use Rattle.sb_laws.proofs.Keeping.{LastsCore, core_sweepable, queued_of}
use Rattle.sb_laws.proofs.Legal.{core_answers}
use Rattle.sb_laws.proofs.Mild.{IsCarried}
use Rattle.sb_laws.proofs.NothingDue.{Lasts, LastsIn}
use Rattle.sb_laws.proofs.Ordering.{orderly_core}
use Rattle.sb_laws.proofs.Owning.{IsOwned}
use Rattle.sb_laws.proofs.Shapes.{Arrives}
use Rattle.sb_laws.specs.Orderly.{IsOrderly, IsOrderlyCopy, IsOrderlyEntity, IsOrderlyLeaf, IsOrderlyOperation, IsOrderlyTransaction}
use Rattle.sb_laws.specs.Plain.{IsPlain}
use Rattle.sb_laws.specs.Sweepable.{IsSweepable}
use Rattle.sb_machine.specs.Consistent.{IsConsistent, IsTransaction}
use Rattle.sb_machine.specs.Each.{Each}
use Rattle.sb_machine.specs.Fit.{IsCopy, IsEntity, IsLeaf, IsRule}
use Rattle.sb_machine.specs.History.{IsFaultless, IsLegal, entries_of}
use Rattle.sb_machine.specs.Names.{is_rule_name}
use Rattle.sb_machine.specs.SendRow.{sent}
use Rattle.sb_machine.specs.declared.call.Part.TheVariants.{Dead, Main, Transfer}
use Rattle.sb_machine.specs.declared.call.TimedCall.{TimedCall}
use Rattle.sb_machine.specs.declared.state.Leaf.{Leaf}
use Rattle.sb_machine.specs.declared.state.Operation.{Operation}
use Rattle.sb_machine.specs.declared.state.Space.{Space}
use Rattle.sb_machine.specs.declared.state.State.{State}
use Rattle.sb_machine.specs.declared.state.Transaction.{Transaction}
use Rattle.sb_machine.specs.declared.state.Operation.TheVariants.{Send as SendLater, Settle as SettleLater}

leaf_orders : (now : ℕ) (leaf : Leaf) → IsLeaf now leaf → IsOrderlyLeaf now leaf
leaf_orders now leaf h = record {
  last = h.last;
  numbers = h.numbers;
  copies = each_implied (IsCopy now leaf.sessions) (IsOrderlyCopy now) (λ c is. record { enqueued = is.enqueued; count = is.count; hops = is.hops; ttl = lasting c.message.ttl is.message.ttl; no_schedule = is.no_schedule }) leaf.copies h.copies;
  order = h.order;
  sessions = h.sessions;
}

transactions_order : (now : ℕ) (s : Space) (xs : List Transaction) → Each (IsTransaction now s) xs → Each (λ x. Each (OperationSent Lasts) x.operations) xs → Each (IsOrderlyTransaction now) xs
transactions_order now s [] h sent = tt
transactions_order now s (x ∷ xs) h sent = (record { deadline = h.0.deadline; few = h.0.few; operations = each_implied (OperationSent Lasts) IsOrderlyOperation operation x.operations sent.0 }, transactions_order now s xs h.1 sent.1) where
  operation : (o : Operation) → OperationSent Lasts o → IsOrderlyOperation o
  operation (SendLater to messages) is = is
  operation (SettleLater from number token session how) is = is

pub consistent_is_orderly : (s : State) → IsConsistent s → IsOrderly s
consistent_is_orderly s h = record {
  now = h.now;
  made = h.made;
  last_entity = h.last_entity;
  last_lock = h.last_lock;
  last_txn = h.last_txn;
  numbers = h.numbers;
  entities = each_implied (IsEntity s.now) (IsOrderlyEntity s.now) (λ e is. record {
    about = record { address = is.about.address; whole = is.about.whole; kind = is.about.kind; described = is.about.described };
    rules = record { order = is.about.order; names = each_implied IsRule (λ r. is_rule_name r.name ≡ true) (λ r rule. rule.name) e.about.rules is.about.rules; none = is.about.none };
    ids = is.ids;
    main = leaf_orders s.now e.main is.main;
    dead = leaf_orders s.now e.dead is.dead;
    transfer = leaf_orders s.now e.transfer is.transfer;
  }) s.space.entities h.entities;
  paths = h.paths;
  topics = h.topics;
  owned = each_implied (IsTransaction s.now s.space) (IsOwned s.space) (λ x is. ap is_some is.there) s.space.transactions h.opened;
  locks = h.locks;
  few_locks = h.few_locks;
  queued = h.queued;
  transactions = h.transactions;
  opened = transactions_order s.now s.space s.space.transactions h.opened (queued_of s.now s.space s.space.transactions h.opened);
  few_open = h.few_open;
  clients = h.clients;
  few_clients = h.few_clients;
}

-- the core of an orderly state, as histories need it
pub orderly_lasts : (s : State) → IsOrderly s → LastsCore s.space
orderly_lasts s h = let core = orderly_core s h in record {
  ordered = core.ordered;
  transactions = core.transactions;
  locked = core.locked;
  carries = record {
    abouts = each_implied (λ e. IsPlain e.about) (λ e. LastsIn e.about) (λ e g. described_ttl e.about.kind e.about.description g.described) s.space.entities core.carries.abouts;
    copies = each_implied (EachLeaf (λ part leaf. Each (IsCarried Arrives) leaf.copies)) (EachLeaf (λ part leaf. Each (IsCarried Lasts) leaf.copies))
        (λ e h. each_leaf (copies e.main (leaf_each (λ part leaf. Each (IsCarried Arrives) leaf.copies) Main e h)) (copies e.dead (leaf_each (λ part leaf. Each (IsCarried Arrives) leaf.copies) Dead e h)) (copies e.transfer (leaf_each (λ part leaf. Each (IsCarried Arrives) leaf.copies) Transfer e h))) s.space.entities core.carries.copies;
  };
  queued = core.queued;
} where
  copies : (leaf : Leaf) → Each (IsCarried Arrives) leaf.copies → Each (IsCarried Lasts) leaf.copies
  copies leaf h = each_implied (IsCarried Arrives) (IsCarried Lasts) (λ c is. record { hops = is.hops; count = is.count; message = is.message.0 }) leaf.copies h

pub orderly_is_sweepable : (s : State) → IsOrderly s → IsSweepable s.space
orderly_is_sweepable s h = core_sweepable s.space (orderly_lasts s h)

pub answers_legally : (seat : ℕ) (s : State) (calls : List TimedCall) → IsOrderly s → IsLegal s (entries_of seat s calls) × IsFaultless (entries_of seat s calls)
answers_legally seat s calls h = core_answers seat s calls (orderly_lasts s h) h.now
