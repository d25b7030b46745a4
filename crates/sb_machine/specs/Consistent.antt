-- What holds of a state between two entries of its history, point by point.
use Rattle.std.specs.Prelude.{◌≡◌, ◌≢◌, ℕ, ◌+◌, ◌++◌, ◌≤◌, ◌<◌, List, [], ◌∷◌, length, map, filter, true, false, is_none, sum_by, Some, None}
use Rattle.std.specs.List.{flat_map}
use Rattle.sb_machine.specs.Answers.{max_moment}
use Rattle.sb_machine.specs.Changes.{max_number}
use Rattle.sb_machine.specs.Delivery.{max_count}
use Rattle.sb_machine.specs.Fields.{max_messages, max_steps, bad_in_how, is_between, is_id, is_number}
use Rattle.sb_machine.specs.Judged.{IsJudged}
use Rattle.sb_machine.specs.Keyed.{AreRising}
use Rattle.sb_machine.specs.Names.{is_address, is_main, is_before, is_same_entity}
use Rattle.sb_machine.specs.Namespace.{made, entity_of, leaf_of, key_of}
use Rattle.sb_machine.specs.Settlement.{goes_with}
use Rattle.sb_machine.specs.Transactions.{max_transactions}
use Rattle.sb_machine.specs.declared.call.Call.{Call}
use Rattle.sb_machine.specs.declared.call.Part.{Part}
use Rattle.sb_machine.specs.declared.call.Part.TheVariants.{Main, Dead, Transfer}
use Rattle.sb_machine.specs.declared.change.LeafKey.{LeafKey}
use Rattle.sb_machine.specs.declared.reply.CopyShown.{CopyShown}
use Rattle.sb_machine.specs.declared.reply.Reply.{Reply}
use Rattle.sb_machine.specs.declared.reply.Reply.TheVariants.{Sent, Copies, State as Remembers, Counts, Seen, Message as Given, Session as Accepted, Together as Told}
use Rattle.sb_machine.specs.declared.reply.Showing.{Showing}
use Rattle.sb_machine.specs.declared.reply.StepReply.{StepReply}
use Rattle.sb_machine.specs.declared.reply.StepReply.TheVariants.{Done as StepDone, Sent as StepSent}
use Rattle.sb_machine.specs.declared.reply.Showing.TheVariants.{Removed, Locked, Browsed}
use Rattle.sb_machine.specs.declared.state.Entity.{Entity}
use Rattle.sb_machine.specs.declared.state.Kept.{Kept}
use Rattle.sb_machine.specs.declared.state.Leaf.{Leaf}
use Rattle.sb_machine.specs.declared.state.Operation.{Operation}
use Rattle.sb_machine.specs.declared.state.Operation.TheVariants.{Send, Settle}
use Rattle.sb_machine.specs.declared.state.Session.{Session}
use Rattle.sb_machine.specs.declared.state.Space.{Space}
use Rattle.sb_machine.specs.declared.state.State.{State}
use Rattle.sb_machine.specs.declared.state.Transaction.{Transaction}
use Rattle.sb_machine.specs.Each.{Each, Pairs, IsSorted, has_lock}
use Rattle.sb_machine.specs.Fit.{IsMessage, IsEntity, HasTopic}
use Rattle.sb_machine.specs.Ends.{lock_in}
use Rattle.sb_machine.specs.Queueing.{weight, max_operations}
use Rattle.sb_machine.specs.Repeats.{max_clients}

-- ---- locks

-- the lock of a session's holder, if it has one
abbrev pub holder_lock : Session → List ℕ
holder_lock x = elim x.holder [ Some h ↦ h.lock ∷ [] | None ↦ [] ]

-- the locks of one part: on its messages, and of its sessions' holders
abbrev pub locks_in : Leaf → List ℕ
locks_in leaf = flat_map (λ c. lock_in c.standing) leaf.copies ++ flat_map holder_lock leaf.sessions

-- the lock numbers of copies and of session holders
abbrev pub locks_of : Space → List ℕ
locks_of s = flat_map (λ e. locks_in e.main ++ locks_in e.dead ++ locks_in e.transfer) s.entities

-- the locks of all sessions' holders in the namespace
abbrev pub holder_locks : Space → List ℕ
holder_locks s = flat_map (λ e. flat_map holder_lock e.main.sessions ++ flat_map holder_lock e.dead.sessions ++ flat_map holder_lock e.transfer.sessions) s.entities

-- ---- transactions

-- the lock under which a queued operation settles, if it settles
abbrev pub queued_lock : Operation → List ℕ
queued_lock (Send to messages) = []
queued_lock (Settle from number token session how) = token.lock ∷ []

-- the locks under which the open transactions settle
abbrev pub queued_locks : Space → List ℕ
queued_locks s = flat_map (λ x. flat_map queued_lock x.operations) s.transactions

-- the copies that are held under a lock, each by its part and number
abbrev pub locked_in : ℕ → Entity → Part → List (LeafKey × ℕ)
locked_in lock e part = map (λ c. (key_of part e, c.number)) (filter (λ c. has_lock lock c.standing) (leaf_of part e).copies)

-- where a lock stands in the namespace: the key of the part, and the message's number
abbrev pub locked_at : ℕ → Space → List (LeafKey × ℕ)
locked_at lock s = flat_map (λ e. locked_in lock e Main ++ locked_in lock e Dead ++ locked_in lock e Transfer) s.entities

-- a copy that is held under a queued settlement's lock is the one that it names
abbrev pub IsOwn : Space → LeafKey → ℕ → ℕ → Type 0
IsOwn s key number lock = Each (λ x. x ≡ (key, number)) (locked_at lock s)

-- what holds of an operation that is queued in a transaction of the entity e
abbrev pub IsOperation : Space → Entity → Operation → Type 0
IsOperation s e (Send to messages) =
    (is_address to ≡ true) × (is_main to.part ≡ true) × (is_none to.subscription ≡ true) × (is_between 1 max_messages (length messages) ≡ true)
    × Each IsMessage messages × (is_same_entity to e.about.path ≡ false → Each (λ m. m.schedule ≡ None) messages)
IsOperation s e (Settle from number token session how) =
    (is_same_entity from e.about.path ≡ true) × (is_number number ≡ true) × (bad_in_how how ≡ None) × IsOwn s (key_of from.part e) number token.lock × (goes_with how from.part ≡ true)

-- what holds of an open transaction
pub record IsTransaction (now : ℕ) (s : Space) (x : Transaction) : Type 0 where
  pub entity : Entity
  pub there : entity_of x.entity s ≡ Some entity
  pub deadline : x.deadline ≤ now + 300000
  pub few : sum_by weight x.operations ≤ max_operations
  pub operations : Each (IsOperation s entity) x.operations

-- ---- clients

-- it wasn't only looked at
abbrev pub IsHandedOut : Showing → Type 0
IsHandedOut Removed = Unit {0}
IsHandedOut (Locked token until) = Unit {0}
IsHandedOut (Browsed state) = ⊥

-- what holds of a message as it was handed out: a part may hold it, and its delivery count is one above that of a copy
pub record IsGiven (c : CopyShown) : Type 0 where
  pub message : IsMessage c.message
  pub no_schedule : c.message.schedule ≡ None
  pub showing : IsHandedOut c.showing
  pub once : 1 ≤ c.delivery
  pub count : c.delivery ≤ max_count + 1

-- what holds of the reply to one of the operations that acted together
abbrev pub IsStepReply : StepReply → Type 0
IsStepReply (StepSent receipts) = length receipts ≤ max_messages
IsStepReply StepDone = Unit {0}

-- what holds of a reply that is remembered for a client: it is never one of a call that only looks
abbrev pub IsReply : Reply → Type 0
IsReply (Sent receipts) = length receipts ≤ max_messages
IsReply (Told replies) = (length replies ≤ max_steps) × Each IsStepReply replies
IsReply (Given shown) = IsGiven shown
IsReply (Accepted id token until) = is_id id ≡ true
IsReply (Copies copies) = ⊥
IsReply (Remembers state) = ⊥
IsReply (Counts main dead transfer) = ⊥
IsReply (Seen view) = ⊥
IsReply _ = Unit {0}

-- the call that is remembered
abbrev pub kept_call : Kept → Call
kept_call k = record { by = Some (record { client = k.client; number = k.number }); act = k.act }

-- what holds of what is remembered for a client: its call passed the tests, a send those of one that goes by way of no other entity
pub record IsKept (k : Kept) : Type 0 where
  pub judged : IsJudged false (kept_call k)
  pub reply : IsReply k.reply

-- ---- the whole

-- what holds of a state between entries: limits, the order of its lists, and that numbers, paths and locks differ
pub record IsConsistent (st : State) : Type 0 where
  pub now : st.now ≤ max_moment
  pub made : made st.space ≤ max_number
  pub last_entity : st.space.last_entity ≤ max_number
  pub last_lock : st.space.last_lock ≤ max_number
  pub last_txn : st.space.last_txn ≤ max_number
  pub numbers : AreRising (λ e. e.about.number) 0 st.space.last_entity st.space.entities
  pub entities : Each (IsEntity st.now) st.space.entities
  pub paths : Pairs (λ e x. is_same_entity x.about.path e.about.path ≡ false) st.space.entities
  pub topics : Each (HasTopic st.space) st.space.entities
  pub locks : Pairs (λ l m. l ≢ m) (locks_of st.space)
  pub few_locks : Each (λ l. (0 < l) × (l ≤ st.space.last_lock)) (locks_of st.space ++ queued_locks st.space)
  pub transactions : AreRising (λ x. x.number) 0 st.space.last_txn st.space.transactions
  pub opened : Each (IsTransaction st.now st.space) st.space.transactions
  pub few_open : length st.space.transactions ≤ max_transactions
  pub queued : Pairs (λ l m. l ≢ m) (queued_locks st.space ++ holder_locks st.space)
  pub clients : IsSorted (λ a b. is_before a.client b.client) st.clients
  pub few_clients : length st.clients ≤ max_clients
  pub kept : Each IsKept st.clients
