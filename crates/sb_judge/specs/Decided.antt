-- Whether a state is consistent.
use Rattle.std.specs.Prelude.{◌≡◌, ◌≢◌, ℕ, ◌≤◌, ◌<◌, ◌++◌, ◌&&◌, length, Bool, false, List}
use Rattle.sb_machine.specs.Answers.{max_moment}
use Rattle.sb_machine.specs.Changes.{max_number}
use Rattle.sb_machine.specs.Consistent.{IsConsistent, IsKept, IsTransaction, locks_of, queued_locks, holder_locks}
use Rattle.sb_machine.specs.Each.{Each, Pairs, IsSorted}
use Rattle.sb_machine.specs.Fit.{IsEntity, HasTopic}
use Rattle.sb_machine.specs.Keyed.{AreRising}
use Rattle.sb_machine.specs.Names.{is_before, is_same_entity}
use Rattle.sb_machine.specs.Namespace.{made}
use Rattle.sb_machine.specs.Repeats.{max_clients}
use Rattle.sb_machine.specs.Transactions.{max_transactions}
use Rattle.sb_machine.specs.declared.state.Entity.{Entity}
use Rattle.sb_machine.specs.declared.state.Kept.{Kept}
use Rattle.sb_machine.specs.declared.state.Space.{Space}
use Rattle.sb_machine.specs.declared.state.State.{State}
use Rattle.sb_judge.specs.Clients.{kept_verdict}
use Rattle.sb_judge.specs.Entities.{entity_verdict, topic_verdict}
use Rattle.sb_judge.specs.Transactions.{transaction_verdict}
use Rattle.sb_judge.specs.Verdicts.{Verdict, passes, fails, at_most, below, differ, said_as, ◌&◌, each, pairs, rising}

-- ---- numbers

-- what holds of the moment, of the numbers given, and of entities' numbers
abbrev pub AreNumbers : ℕ → Space → Type 0
AreNumbers now s =
    (now ≤ max_moment)
    × ((made s ≤ max_number)
    × ((s.last_entity ≤ max_number)
    × ((s.last_lock ≤ max_number)
    × ((s.last_txn ≤ max_number)
    × AreRising (λ e. e.about.number) 0 s.last_entity s.entities))))

-- the test of these
abbrev pub of_numbers : (now : ℕ) → (s : Space) → Verdict (AreNumbers now s)
of_numbers now s =
    at_most now max_moment
    & at_most (made s) max_number
    & at_most s.last_entity max_number
    & at_most s.last_lock max_number
    & at_most s.last_txn max_number
    & rising (λ e. e.about.number) 0 s.last_entity s.entities

-- ---- entities

-- the test that no two entities have one address
abbrev pub paths_verdict : (es : List Entity) → Verdict (Pairs (λ e x. is_same_entity x.about.path e.about.path ≡ false) es)
paths_verdict es = pairs es (λ e x. fails (is_same_entity x.about.path e.about.path))

-- what holds of the entities
abbrev pub AreEntities : ℕ → Space → Type 0
AreEntities now s = Each (IsEntity now) s.entities × (Pairs (λ e x. is_same_entity x.about.path e.about.path ≡ false) s.entities × Each (HasTopic s) s.entities)

-- the test of these
abbrev pub of_entities : (now : ℕ) → (s : Space) → Verdict (AreEntities now s)
of_entities now s = each s.entities (entity_verdict now) & paths_verdict s.entities & each s.entities (topic_verdict s)

-- ---- locks

-- what holds of locks: each was given, and no two are the same
abbrev pub AreLocks : Space → Type 0
AreLocks s = Each (λ l. (0 < l) × (l ≤ s.last_lock)) (locks_of s ++ queued_locks s) × (Pairs (λ l m. l ≢ m) (locks_of s) × Pairs (λ l m. l ≢ m) (queued_locks s ++ holder_locks s))

-- the test of these
abbrev pub of_locks : (s : Space) → Verdict (AreLocks s)
of_locks s = each (locks_of s ++ queued_locks s) (λ l. below 0 l & at_most l s.last_lock) & pairs (locks_of s) differ & pairs (queued_locks s ++ holder_locks s) differ

-- ---- transactions

-- what holds of the open transactions
abbrev pub AreOpen : ℕ → Space → Type 0
AreOpen now s = AreRising (λ x. x.number) 0 s.last_txn s.transactions × ((length s.transactions ≤ max_transactions) × Each (IsTransaction now s) s.transactions)

-- the test of these
abbrev pub of_open : (now : ℕ) → (s : Space) → Verdict (AreOpen now s)
of_open now s = rising (λ x. x.number) 0 s.last_txn s.transactions & at_most (length s.transactions) max_transactions & each s.transactions (transaction_verdict now s)

-- ---- clients

-- what holds of what is remembered for clients
abbrev pub AreClients : List Kept → Type 0
AreClients clients = IsSorted (λ a b. is_before a.client b.client) clients × ((length clients ≤ max_clients) × Each IsKept clients)

-- the test of these
abbrev pub of_clients : (clients : List Kept) → Verdict (AreClients clients)
of_clients clients = pairs clients (λ a b. passes (is_before a.client b.client)) & at_most (length clients) max_clients & each clients kept_verdict

-- ---- the whole

-- whether a state is consistent, and that it is so exactly where this says so
abbrev pub decided : (st : State) → Verdict (IsConsistent st)
decided st = said_as
    (of_numbers st.now st.space & of_entities st.now st.space & of_locks st.space & of_open st.now st.space & of_clients st.clients)
    (λ p. record {
      now = p.0.0;
      made = p.0.1.0;
      last_entity = p.0.1.1.0;
      last_lock = p.0.1.1.1.0;
      last_txn = p.0.1.1.1.1.0;
      numbers = p.0.1.1.1.1.1;
      entities = p.1.0.0;
      paths = p.1.0.1.0;
      topics = p.1.0.1.1;
      locks = p.1.1.0.1.0;
      few_locks = p.1.1.0.0;
      transactions = p.1.1.1.0.0;
      opened = p.1.1.1.0.1.1;
      few_open = p.1.1.1.0.1.0;
      queued = p.1.1.0.1.1;
      clients = p.1.1.1.1.0;
      few_clients = p.1.1.1.1.1.0;
      kept = p.1.1.1.1.1.1;
    })
    (λ r. (
      (r.now, (r.made, (r.last_entity, (r.last_lock, (r.last_txn, r.numbers))))),
      ((r.entities, (r.paths, r.topics)), ((r.few_locks, (r.locks, r.queued)), ((r.transactions, (r.few_open, r.opened)), (r.clients, (r.few_clients, r.kept))))),
    ))

-- whether a state is consistent
abbrev pub is_consistent : State → Bool
is_consistent st = (decided st).0

-- ---- part by part, as the code goes: what stands above, opened only where it is named

-- the test of the moment and of numbers
unfoldable pub numbers_verdict : (now : ℕ) → (s : Space) → Verdict (AreNumbers now s)
numbers_verdict now s = of_numbers now s

-- the test of entities
unfoldable pub entities_verdict : (now : ℕ) → (s : Space) → Verdict (AreEntities now s)
entities_verdict now s = of_entities now s

-- the test of locks
unfoldable pub locks_verdict : (s : Space) → Verdict (AreLocks s)
locks_verdict s = of_locks s

-- the test of transactions
unfoldable pub open_verdict : (now : ℕ) → (s : Space) → Verdict (AreOpen now s)
open_verdict now s = of_open now s

-- the test of clients
unfoldable pub clients_verdict : (clients : List Kept) → Verdict (AreClients clients)
clients_verdict clients = of_clients clients

-- the test of a state by its parts
abbrev pub is_whole : ℕ → Space → List Kept → Bool
is_whole now s clients = (numbers_verdict now s).0 && ((entities_verdict now s).0 && ((locks_verdict s).0 && ((open_verdict now s).0 && (clients_verdict clients).0)))
