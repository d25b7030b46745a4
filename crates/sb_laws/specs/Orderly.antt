-- The points of consistency that every call keeps, whatever the order of its lists. The others are what messages and filters hold inside,
-- that a copy under a session's lock names its holder, that first numbers are in range, which copy and address a queued operation names and
-- where it goes, that ids are short, and what is remembered for a client.
use Rattle.std.specs.Prelude.{◌≡◌, ◌≢◌, ℕ, ◌+◌, ◌++◌, ◌≤◌, ◌<◌, length, sum_by, is_some, true, false, None}
use Rattle.sb_machine.specs.Answers.{max_moment}
use Rattle.sb_machine.specs.Changes.{max_number}
use Rattle.sb_machine.specs.Consistent.{locks_of, queued_locks, holder_locks}
use Rattle.sb_machine.specs.Delivery.{max_count}
use Rattle.sb_machine.specs.Each.{Each, Pairs, IsSorted}
use Rattle.sb_machine.specs.Fields.{bad_in_how}
use Rattle.sb_machine.specs.Fit.{IsSession, AreIds, HasTopic}
use Rattle.sb_machine.specs.Keyed.{AreRising}
use Rattle.sb_machine.specs.Names.{is_before, is_same_entity}
use Rattle.sb_machine.specs.Namespace.{made, entity_of}
use Rattle.sb_machine.specs.Queueing.{weight, max_operations}
use Rattle.sb_machine.specs.Repeats.{max_clients}
use Rattle.sb_machine.specs.Transactions.{max_transactions}
use Rattle.sb_machine.specs.Visits.{max_hops}
use Rattle.sb_machine.specs.declared.state.Entity.{Entity}
use Rattle.sb_machine.specs.declared.state.Leaf.{Leaf}
use Rattle.sb_machine.specs.declared.state.Operation.{Operation}
use Rattle.sb_machine.specs.declared.state.Operation.TheVariants.{Send, Settle}
use Rattle.sb_machine.specs.declared.state.State.{State}
use Rattle.sb_machine.specs.declared.state.StoredCopy.{StoredCopy}
use Rattle.sb_machine.specs.declared.state.Transaction.{Transaction}
use Rattle.sb_laws.specs.Plain.{IsPlain, IsRuled}
use Rattle.sb_laws.specs.Sweepable.{IsLasting}

-- what every call keeps of a message that stands in a part
pub record IsOrderlyCopy (now : ℕ) (c : StoredCopy) : Type 0 where
  pub enqueued : c.enqueued ≤ now
  pub count : c.count ≤ max_count
  pub hops : c.hops ≤ max_hops
  pub ttl : IsLasting c.message.ttl
  pub no_schedule : c.message.schedule ≡ None

-- what every call keeps of a part
pub record IsOrderlyLeaf (now : ℕ) (leaf : Leaf) : Type 0 where
  pub last : leaf.last ≤ max_number
  pub numbers : AreRising (λ c. c.number) 0 leaf.last leaf.copies
  pub copies : Each (IsOrderlyCopy now) leaf.copies
  pub order : IsSorted (λ a b. is_before a.id b.id) leaf.sessions
  pub sessions : Each (IsSession now) leaf.sessions

-- what every call keeps of an entity
pub record IsOrderlyEntity (now : ℕ) (e : Entity) : Type 0 where
  pub about : IsPlain e.about
  pub rules : IsRuled e.about
  pub ids : AreIds now e.about.description.window e.ids
  pub main : IsOrderlyLeaf now e.main
  pub dead : IsOrderlyLeaf now e.dead
  pub transfer : IsOrderlyLeaf now e.transfer

-- what is queued may be sent, or settles within the ranges
abbrev pub IsOrderlyOperation : Operation → Type 0
IsOrderlyOperation (Send to messages) = Each (λ m. IsLasting m.ttl) messages
IsOrderlyOperation (Settle from number token session how) = bad_in_how how ≡ None

-- what every call keeps of an open transaction
pub record IsOrderlyTransaction (now : ℕ) (x : Transaction) : Type 0 where
  pub deadline : x.deadline ≤ now + 300000
  pub few : sum_by weight x.operations ≤ max_operations
  pub operations : Each IsOrderlyOperation x.operations

-- what every call keeps of a state
pub record IsOrderly (st : State) : Type 0 where
  pub now : st.now ≤ max_moment
  pub made : made st.space ≤ max_number
  pub last_entity : st.space.last_entity ≤ max_number
  pub last_lock : st.space.last_lock ≤ max_number
  pub last_txn : st.space.last_txn ≤ max_number
  pub numbers : AreRising (λ e. e.about.number) 0 st.space.last_entity st.space.entities
  pub entities : Each (IsOrderlyEntity st.now) st.space.entities
  pub paths : Pairs (λ e x. is_same_entity x.about.path e.about.path ≡ false) st.space.entities
  pub topics : Each (HasTopic st.space) st.space.entities
  pub locks : Pairs (λ l m. l ≢ m) (locks_of st.space)
  pub few_locks : Each (λ l. (0 < l) × (l ≤ st.space.last_lock)) (locks_of st.space ++ queued_locks st.space)
  pub queued : Pairs (λ l m. l ≢ m) (queued_locks st.space ++ holder_locks st.space)
  pub transactions : AreRising (λ x. x.number) 0 st.space.last_txn st.space.transactions
  pub opened : Each (IsOrderlyTransaction st.now) st.space.transactions
  pub owned : Each (λ x. is_some (entity_of x.entity st.space) ≡ true) st.space.transactions
  pub few_open : length st.space.transactions ≤ max_transactions
  pub clients : IsSorted (λ a b. is_before a.client b.client) st.clients
  pub few_clients : length st.clients ≤ max_clients
