-- Operations that act together, judged in the namespace as it is read: the transaction that gathers them is never opened there.
use Rattle.std.specs.Prelude.{◌≡◌, ℕ, ◌+◌, ◌==◌, ◌||◌, nat_lt, not, true, length, List, [], ◌∷◌, ◌++◌, if◌then◌else◌, Option, Some, None, is_some}
use Rattle.std.specs.List.{list_any}
use Rattle.std.specs.Option.{option_map}
use Rattle.sb_machine.specs.Changes.{after_all, in_turn}
use Rattle.sb_machine.specs.Claims.{asks_holder, asks_session}
use Rattle.sb_machine.specs.Fields.{are_set_once, bad_in_messages}
use Rattle.sb_machine.specs.Keyed.{AreRising}
use Rattle.sb_machine.specs.Leases.{leased}
use Rattle.sb_machine.specs.Names.{is_address, is_same_entity}
use Rattle.sb_machine.specs.Namespace.{entity_at, leaf_of}
use Rattle.sb_machine.specs.Parts.{at_part}
use Rattle.sb_machine.specs.Queueing.{has_room, queueing, txn_life}
use Rattle.sb_machine.specs.Rows.{Row, refuses, answers, asks, refused_by, at_entity, at_receivable, within_quota}
use Rattle.sb_machine.specs.SendRow.{have_sessions_at, is_destination, queued_send}
use Rattle.sb_machine.specs.Sending.{too_large}
use Rattle.sb_machine.specs.Sessions.{session_set_row}
use Rattle.sb_machine.specs.SettleRow.{pending, pending_in, settles}
use Rattle.sb_machine.specs.Settlement.{goes_with}
use Rattle.sb_machine.specs.Together.{all_receipts, fitting, step_replies, together_row, unqueued}
use Rattle.sb_machine.specs.Transactions.{max_transactions, operation_changes}
use Rattle.sb_machine.specs.declared.call.How.{How}
use Rattle.sb_machine.specs.declared.call.Path.{Path}
use Rattle.sb_machine.specs.declared.call.Step.{Step}
use Rattle.sb_machine.specs.declared.call.Step.TheVariants.{Send, Settle, SessionSet}
use Rattle.sb_machine.specs.declared.call.Token.{Token}
use Rattle.sb_machine.specs.declared.call.Which.{Which}
use Rattle.sb_machine.specs.declared.change.Change.{Change}
use Rattle.sb_machine.specs.declared.change.Change.TheVariants.{Begins, Drops, Queues}
use Rattle.sb_machine.specs.declared.reply.Refusal.TheVariants.{BadCall, BadName, EntityNotFound, LockLost, SessionRequired, TxnFull, TxnScope, TxnsFull, WrongKind}
use Rattle.sb_machine.specs.declared.reply.Reply.TheVariants.{Queued, Together}
use Rattle.sb_machine.specs.declared.state.Entity.{Entity}
use Rattle.sb_machine.specs.declared.state.Operation.{Operation}
use Rattle.sb_machine.specs.declared.state.Operation.TheVariants as queued
use Rattle.sb_machine.specs.declared.state.Space.{Space}
use Rattle.sb_machine.specs.declared.state.StoredCopy.{StoredCopy}
use Rattle.sb_machine.specs.declared.state.Transaction.{Transaction}
use Rattle.sb_model.specs.declared.message.Message.{Message}

-- ---- the transaction that gathers them

-- its number, as it would be opened in this namespace
abbrev pub gathering_number : Space → ℕ
gathering_number s = s.last_txn + 1

-- on an entity, with these operations
abbrev pub gathering : Space → ℕ → Entity → List Operation → Transaction
gathering s t e os = record { number = gathering_number s; entity = e.about.number; deadline = t + txn_life; operations = os }

-- ---- one operation, behind those that were gathered

-- a send
abbrev pub read_send : Space → ℕ → Entity → Transaction → Path → List Message → Row
read_send s t e x to messages =
    let via = not (is_same_entity to e.about.path) in
    let target = if via then None else entity_at to s in
    refused_by (option_map (λ key. BadCall key) (bad_in_messages via messages))
    (asks (is_address to) BadName (asks (via || is_some target) EntityNotFound (asks (is_destination to) WrongKind
    (asks (have_sessions_at target messages) SessionRequired (asks (has_room x (length messages)) TxnFull
    (refused_by (too_large messages) (answers Queued (queued_send t to messages x))))))))

-- the transaction in which a settlement of this lock is queued: an open one, or the one that gathers
abbrev pub pending_with : ℕ → Space → Transaction → Option Transaction
pending_with lock s x = elim (pending_in lock s) [ Some y ↦ Some y | None ↦ (if list_any (settles lock) x.operations then Some x else None) ]

-- a settlement, of the message that the lock holds
abbrev pub read_found : Space → ℕ → Transaction → Path → Token → Option Token → How → Option StoredCopy → Row
read_found s t x from token session how None = refuses LockLost
read_found s t x from token session how (Some c) =
    refused_by (pending (pending_with token.lock s x)) (asks (has_room x 1) TxnFull (answers Queued (queueing t x (queued.Settle from c.number token session how))))

-- a settlement
abbrev pub read_settle : Space → ℕ → Transaction → Path → Which → Token → Option Token → How → Row
read_settle s t x from which token session how =
    at_receivable s from (λ e. asks (goes_with how from.part) WrongKind (asks_session e from.part session (asks (x.entity == e.about.number) TxnScope
    (asks_holder s t (leaf_of from.part e) session (λ claim. read_found s t x from token session how (leased s t token which (leaf_of from.part e)))))))

-- an operation, all of it judged in the namespace as it is read
abbrev pub read_step : Space → ℕ → Path → Entity → List Operation → Step → Row
read_step s t path e os (Send to messages) = read_send s t e (gathering s t e os) to messages
read_step s t path e os (Settle from which token session how) = read_settle s t (gathering s t e os) from which token session how
read_step s t path e os (SessionSet from session state) = asks (is_same_entity from path) TxnScope (session_set_row s t from session state)

-- ---- all of them

-- the operations that changes queue
abbrev pub operations_in : List Change → List Operation
operations_in [] = []
operations_in (Queues txn deadline operation ∷ cs) = operation ∷ operations_in cs
operations_in (c ∷ cs) = operations_in cs

-- each from this place on behind those before it, and then what is done with the operations that are queued and with the other changes
abbrev pub read_steps : ℕ → Space → ℕ → Path → Entity → List Operation → List Change → List Step → (List Operation → List Change → Row) → Row
read_steps i s t path e os cs [] last = last os cs
read_steps i s t path e os cs (x ∷ xs) last = elim (read_step s t path e os x) [ refuses r ↦ refuses (at_part i r) | answers reply ds ↦ read_steps (i + 1) s t path e (os ++ operations_in ds) (cs ++ unqueued ds) xs last ]

-- the changes before the operations act: those so far, and the transaction goes
abbrev pub read_front : Space → List Change → List Change
read_front s cs = cs ++ Drops (gathering_number s) ∷ []

-- all changes: the operations act in order
abbrev pub read_changes : Space → ℕ → Entity → List Operation → List Change → List Change
read_changes s t e os cs = read_front s cs ++ in_turn (operation_changes t e) t os (after_all t (read_front s cs) s)

-- the commit of the operations that are queued, behind other changes
abbrev pub read_commit : Space → ℕ → Entity → List Step → List Operation → List Change → Row
read_commit s t e steps os cs =
    within_quota t s (read_changes s t e os cs) (answers (Together (step_replies steps (all_receipts t e os (after_all t (read_front s cs) s)))) (read_changes s t e os cs))

-- operations that act together, all of it judged in the namespace as it is read
abbrev pub gathered_row : Space → ℕ → Path → List Step → Row
gathered_row s t path steps =
    at_entity s path (λ e. asks (nat_lt (length s.transactions) max_transactions) TxnsFull
    (fitting steps (read_steps 0 s t path e [] (Begins e.about.number (t + txn_life) ∷ []) steps (read_commit s t e steps))))

-- what acts together may be judged in the namespace as it is read, where entities and transactions stand in order of their numbers and no session is
-- set twice
abbrev pub GathersAsRead : Type 0
GathersAsRead = (s : Space) (t : ℕ) (path : Path) (steps : List Step) → AreRising (λ e. e.about.number) 0 s.last_entity s.entities → AreRising (λ x. x.number) 0 s.last_txn s.transactions
    → are_set_once steps ≡ true → together_row s t path steps ≡ gathered_row s t path steps
